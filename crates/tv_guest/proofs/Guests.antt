-- A guest's burst, from the events of its hart.
use Rattle.std.proofs.Common.{◌≡◌, ◌≢◌, ◌⊎◌, ℕ, zero, suc, ◌+◌, ◌-◌, ◌<◌, ◌≤◌, min, List, None, Bool, false, true, eqb, refl, ap, sym, ◌∙◌, subst, arith, length, get_or, set, inl, inr}
use Rattle.std.proofs.lemmas.Bool.{false≢true}
use Rattle.std.proofs.lemmas.Bool.Decides.{eqb_tells}
use Rattle.std.proofs.lemmas.List.{get_or_default, set-get_or}
use Rattle.tv_base.specs.declared.Why.{Why}
use Rattle.tv_base.specs.declared.Why.TheVariants as why
use Rattle.tv_hart.specs.declared.Did.TheVariants as did
use Rattle.tv_hart.specs.Hart.{stepped, first_hart}
use Rattle.tv_hart.specs.HartState.{HartState}
use Rattle.tv_spec.specs.declared.Closed.{Closed}
use Rattle.tv_spec.specs.declared.Mode.{Mode}
use Rattle.tv_spec.specs.declared.Mode.TheVariants as mode
use Rattle.tv_spec.specs.declared.Shown.{Shown}
use Rattle.tv_spec.specs.declared.Shown.TheVariants as shown
use Rattle.tv_spec.specs.Legal.{after}
use Rattle.tv_spec.specs.Local.{local_meaning}
use Rattle.tv_spec.specs.LocalState.{LocalState, lines_of}
use Rattle.tv_spec.specs.Reach.{Reach}
use Rattle.tv_spec.specs.Setup.{Setup}
use Rattle.tv_spec.specs.State.{State}
use Rattle.tv_spec.specs.Step.{end_at, end_shown, event_where, mode_by}
use Rattle.tv_spec.proofs.Updates.{update_here, update_same}
use Rattle.tv_guest.specs.Burst.{Hosts, IsBurst, IsBurstOf, Stands, Stops, after_events, events_of, mode_then}
use Rattle.tv_guest.specs.GuestState.{GuestState}
use Rattle.tv_guest.proofs.Bursts.{same_state}

-- a guest as contracts see it
abbrev pub guest_of : List HartState → LocalState → Mode → ℕ → ℕ → GuestState
guest_of harts local now events steps = record { steps = steps; harts = harts; local = local; mode = now; events = events }

abbrev pub runs : Mode → Bool
runs (mode.Ending cause) = false
runs _ = true

pub ending_is_not_running : (cause : Why) → mode.Ending cause ≡ mode.Running → ⊥
ending_is_not_running cause is = false≢true (ap runs is)

lt_or_le : (a b : ℕ) → (a < b) ⊎ (b ≤ a)
lt_or_le a zero = inr (omega arith)
lt_or_le zero (suc b) = inl (omega arith)
lt_or_le (suc a) (suc b) = elim (lt_or_le a b) [ inl x ↦ inl (omega arith) | inr x ↦ inr (omega arith) ]

-- no event
none_made : (guest : GuestState) (hart most : ℕ) (closed : Closed)
    → ((setup : Setup) (s : State) → Hosts setup s hart guest → 0 < most → Stops closed s hart shown.Nothing)
    → IsBurstOf guest guest hart most closed 0 shown.Nothing
none_made guest hart most closed stops = record {
  later = get_or guest.harts hart (first_hart hart);
  harts = sym (set-get_or guest.harts hart (first_hart hart));
  steps = refl;
  burst = λ setup s at. record {
    legal = tt;
    state = same_state _ _ (update_here s.harts hart (get_or guest.harts hart (first_hart hart)) at.hart_is) refl refl at.local_is refl at.mode_is (omega arith) refl;
    bytes = refl;
    last = λ n is. absurd (omega (arith, is));
    carried = λ n less. absurd (omega (arith, less));
  };
  events = omega arith;
  few = omega arith;
  stops = stops;
  same = λ none. (refl, refl);
}

-- there is no such hart, the run doesn't go on, or the hart waits
pub none_there : (guest : GuestState) (hart most : ℕ) (closed : Closed) → length guest.harts ≤ hart → IsBurstOf guest guest hart most closed 0 shown.Nothing
none_there guest hart most closed out =
    none_made guest hart most closed (λ setup s at some. absurd (let a = at.exists in let b = at.count in omega (arith, a, b, out)))

pub none_running : (guest : GuestState) (hart most : ℕ) (closed : Closed) → guest.mode ≢ mode.Running → IsBurstOf guest guest hart most closed 0 shown.Nothing
none_running guest hart most closed ended =
    none_made guest hart most closed (λ setup s at some. inr (inl (λ is. ended (sym at.mode_is ∙ is))))

pub none_ready : (guest : GuestState) (hart most : ℕ) (closed : Closed) → (get_or guest.harts hart (first_hart hart)).waits ≢ None → IsBurstOf guest guest hart most closed 0 shown.Nothing
none_ready guest hart most closed waits =
    none_made guest hart most closed (λ setup s at some. absurd (waits (sym (ap (λ (h : HartState). h.waits) at.hart_is) ∙ at.ready)))

-- the first event needs what is closed
pub none_open : (guest : GuestState) (hart most limit : ℕ) (closed : Closed) → (0 < most → 0 < limit)
    → (0 < limit → (stepped local_meaning (get_or guest.harts hart (first_hart hart)) (record { local = guest.local; closed = closed; shown = shown.Nothing }) (lines_of guest.local hart)).0 ≡ did.Full)
    → IsBurstOf guest guest hart most closed 0 shown.Nothing
none_open guest hart most limit closed more full =
    none_made guest hart most closed (λ setup s at some. inr (inr (
    ap (λ (h : HartState). (stepped local_meaning h (record { local = s.local; closed = closed; shown = shown.Nothing }) (lines_of s.local hart)).0) at.hart_is
    ∙ ap (λ (l : LocalState). (stepped local_meaning (get_or guest.harts hart (first_hart hart)) (record { local = l; closed = closed; shown = shown.Nothing }) (lines_of l hart)).0) at.local_is
    ∙ full (more some))))

-- some events
pub some_made : (harts : List HartState) (local next_local : LocalState) (now next : Mode) (events steps hart most limit count : ℕ) (closed : Closed) (here later : HartState) (seen : Shown)
    → now ≡ mode.Running → events < steps → hart < length harts → here ≡ get_or harts hart (first_hart hart) → limit ≡ min most (steps - events)
    → ((setup : Setup) (s : State) → Stands setup s hart here local limit → IsBurst setup s hart count later next_local (mode_then setup s count seen) closed seen)
    → count ≤ limit
    → (count < limit → seen ≡ shown.Nothing → (stepped local_meaning later (record { local = next_local; closed = closed; shown = shown.Nothing }) (lines_of next_local hart)).0 ≡ did.Full)
    → count ≢ 0 → next ≡ mode_by (end_at (eqb (events + count) steps) (end_shown seen))
    → IsBurstOf (guest_of harts local now events steps) (guest_of (set harts hart later) next_local next (events + count) steps) hart most closed count seen
some_made harts local next_local now next events steps hart most limit count closed here later seen running below within here_is limit_is burst few stops some next_is =
    let old : GuestState = guest_of harts local now events steps in
    let new : GuestState = guest_of (set harts hart later) next_local next (events + count) steps in
    let stands : (setup : Setup) (s : State) → Hosts setup s hart old → Stands setup s hart here local limit = λ setup s at. record {
      exists = at.exists;
      running = at.mode_is ∙ running;
      free = at.free;
      hart_is = at.hart_is ∙ sym here_is;
      local_is = at.local_is;
      limit = let a = at.steps in let b = at.events_are in omega (arith, below, a, b);
      within = let a = at.steps in let b = at.events_are in omega (arith, below, limit_is, a, b);
    } in
    let mode_is : (setup : Setup) (s : State) → Hosts setup s hart old → mode_then setup s count seen ≡ next = λ setup s at.
    ap (λ (n : ℕ). mode_by (end_at (eqb (n + count) setup.steps) (end_shown seen))) at.events_are
    ∙ ap (λ (n : ℕ). mode_by (end_at (eqb (events + count) n) (end_shown seen))) (sym at.steps) ∙ sym next_is in
    let made : (setup : Setup) (s : State) → Hosts setup s hart old → IsBurst setup s hart count later next_local next closed seen = λ setup s at.
    subst (λ (m : Mode). IsBurst setup s hart count later next_local m closed seen) (mode_is setup s at) (burst setup s (stands setup s at)) in
    record {
      later = later;
      harts = refl;
      steps = refl;
      burst = made;
      events = refl;
      few = omega (arith, few, limit_is);
      stops = λ setup s at short. by_shown setup s at short (made setup s at) seen refl;
      same = λ none. absurd (some none);
    }
  where
    at_limit : count < most → limit ≤ count → seen ≡ shown.Nothing → next ≢ mode.Running
    at_limit short all nothing is =
        let full : events + count ≡ steps = omega (arith, below, limit_is, few, short, all) in
        let tells : eqb (events + count) steps ≡ true = elim (eqb_tells (events + count) steps) [ inl e ↦ e.0 | inr e ↦ absurd (e.1 full) ] in
        let ended : next ≡ mode.Ending why.Steps = next_is ∙ ap (λ (x : Shown). mode_by (end_at (eqb (events + count) steps) (end_shown x))) nothing ∙ rw tells refl in
        ending_is_not_running why.Steps (sym ended ∙ is)

    by_shown : (setup : Setup) (s : State) → Hosts setup s hart (guest_of harts local now events steps) → count < most → IsBurst setup s hart count later next_local next closed seen
        → (x : Shown) → seen ≡ x → Stops closed (after setup s (events_of hart count)) hart seen
    by_shown setup s at short b (shown.Byte byte) e = inl (λ q. let r : shown.Byte byte ≡ shown.Nothing = sym e ∙ q in cc)
    by_shown setup s at short b (shown.Finish finish) e = inl (λ q. let r : shown.Finish finish ≡ shown.Nothing = sym e ∙ q in cc)
    by_shown setup s at short b (shown.Access d how) e = inl (λ q. let r : shown.Access d how ≡ shown.Nothing = sym e ∙ q in cc)
    by_shown setup s at short b shown.Nothing e = elim (lt_or_le count limit) [
      | inl less ↦
          let state_is : after setup s (events_of hart count) ≡ after_events s hart count later next_local next shown.Nothing =
          b.state ∙ ap (λ (x : Shown). after_events s hart count later next_local next x) e in
          inr (inr (
          ap (λ (t : State). (event_where closed t hart).0) state_is
          ∙ ap (λ (h : HartState). (stepped local_meaning h (record { local = next_local; closed = closed; shown = shown.Nothing }) (lines_of next_local hart)).0) (update_same s.harts hart later)
          ∙ stops less e))
      | inr all ↦ inr (inl (λ is.
          let state_is : (after setup s (events_of hart count)).mode ≡ next =
          ap (λ (t : State). t.mode) (b.state ∙ ap (λ (x : Shown). after_events s hart count later next_local next x) e) in
          at_limit short all e (sym state_is ∙ is)))
    ]

-- the same, as the code comes to it: `near` is the place where this was closed, and `last` the place after the events
pub burst_some : (harts : List HartState) (place near last : Reach) (now next : Mode) (events steps hart number most limit count : ℕ) (closed : Closed) (here later : HartState) (seen : Shown)
    → number ≡ hart → near ≡ record place { closed = closed } → last.shown ≡ shown.Nothing → last.closed ≡ near.closed
    → now ≡ mode.Running → events < steps → number < length harts → here ≡ get_or harts number here → limit ≡ min most (steps - events)
    → ((setup : Setup) (s : State) → Stands setup s hart here near.local limit → IsBurst setup s hart count later last.local (mode_then setup s count seen) near.closed seen)
    → count ≤ limit → (count < limit → seen ≡ shown.Nothing → (stepped local_meaning later last (lines_of last.local hart)).0 ≡ did.Full)
    → count ≢ 0 → next ≡ mode_by (end_at (eqb (events + count) steps) (end_shown seen))
    → IsBurstOf (guest_of harts place.local now events steps) (guest_of (set harts number later) last.local next (events + count) steps) hart most closed count seen
burst_some harts place near last now next events steps hart number most limit count closed here later seen number_is near_is quiet gate running below within here_is limit_is burst few stops some next_is =
    let near_local : near.local ≡ place.local = ap (λ (p : Reach). p.local) near_is in
    let near_closed : near.closed ≡ closed = ap (λ (p : Reach). p.closed) near_is in
    let last_is : last ≡ record { local = last.local; closed = closed; shown = shown.Nothing } = λ i. record { local = last.local; closed = (gate ∙ near_closed) i; shown = quiet i } in
    let within_hart : hart < length harts = omega (arith, number_is, within) in
    let at_hart : here ≡ get_or harts hart here = here_is ∙ ap (λ (k : ℕ). get_or harts k here) number_is in
    let first_is : here ≡ get_or harts hart (first_hart hart) = at_hart ∙ sym (get_or_default harts hart (first_hart hart) here within_hart) in
    rw number_is
    (some_made harts place.local last.local now next events steps hart most limit count closed here later seen running below within_hart first_is limit_is
    (λ setup s at. rw near_closed at (burst setup s (rw near_local at)))
    few
    (λ less nothing. ap (λ (p : Reach). (stepped local_meaning later p (lines_of last.local hart)).0) (sym last_is) ∙ stops less nothing)
    some next_is)

pub burst_none_left : (harts : List HartState) (place near last : Reach) (now : Mode) (events steps hart number most limit count : ℕ) (closed : Closed) (here later : HartState) (seen : Shown)
    → number ≡ hart → near ≡ record place { closed = closed } → place.shown ≡ shown.Nothing
    → events < steps → number < length harts → here ≡ get_or harts number here → limit ≡ min most (steps - events)
    → (count < limit → seen ≡ shown.Nothing → (stepped local_meaning later last (lines_of last.local hart)).0 ≡ did.Full)
    → (count ≡ 0 → (later ≡ here) × (last ≡ near) × (seen ≡ shown.Nothing)) → count ≡ 0
    → IsBurstOf (guest_of harts place.local now events steps) (guest_of (set harts number later) last.local now events steps) hart most closed count seen
burst_none_left harts place near last now events steps hart number most limit count closed here later seen number_is near_is quiet below within here_is limit_is stops same none =
    let is = same none in
    let last_local : last.local ≡ place.local = ap (λ (p : Reach). p.local) (is.1 ∙ near_is) in
    let last_is : last ≡ record { local = place.local; closed = closed; shown = shown.Nothing } = is.1 ∙ near_is ∙ (λ i. record { local = place.local; closed = closed; shown = quiet i }) in
    let within_hart : hart < length harts = omega (arith, number_is, within) in
    let at_hart : here ≡ get_or harts hart here = here_is ∙ ap (λ (k : ℕ). get_or harts k here) number_is in
    let first_is : here ≡ get_or harts hart (first_hart hart) = at_hart ∙ sym (get_or_default harts hart (first_hart hart) here within_hart) in
    let harts_are : set harts number later ≡ harts = ap (set harts number) (is.0 ∙ here_is) ∙ set-get_or harts number here in
    let full : 0 < limit → (stepped local_meaning (get_or harts hart (first_hart hart)) (record { local = place.local; closed = closed; shown = shown.Nothing }) (lines_of place.local hart)).0 ≡ did.Full = λ some.
    ap (λ (h : HartState). (stepped local_meaning h (record { local = place.local; closed = closed; shown = shown.Nothing }) (lines_of place.local hart)).0) (sym first_is ∙ sym is.0)
    ∙ ap (λ (p : Reach). (stepped local_meaning later p (lines_of place.local hart)).0) (sym last_is)
    ∙ ap (λ (l : LocalState). (stepped local_meaning later last (lines_of l hart)).0) (sym last_local)
    ∙ stops (omega (arith, none, some)) is.2 in
    rw (harts_are, last_local, none, is.2)
    (none_open (guest_of harts place.local now events steps) hart most limit closed (λ some. omega (arith, below, limit_is, some)) full)
