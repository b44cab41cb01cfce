-- What each call of a core brings to the worker of a device.
use Rattle.std.proofs.Common.{◌≡◌, ℕ, zero, suc, ◌<◌, ◌≤◌, ◌⊎◌, inl, inr, Bool, true, false, List, [], ◌∷◌, ◌++◌, length, map, take, drop, replicate, Option, Some, None, refl, ap, sym, ◌∙◌, subst, append_assoc, append-nil}
use Rattle.std.specs.List.{slice_get}
use Rattle.std.specs.Prelude.{IfSome}
use Rattle.std.proofs.Math.Nat.{min-le_left}
use Rattle.std.proofs.lemmas.Bool.Decides.{eqb_tells}
use Rattle.std.proofs.lemmas.List.{map-append}
use Rattle.tv_base.specs.declared.Why.{Why}
use Rattle.tv_base.specs.declared.Why.TheVariants as why
use Rattle.tv_items.specs.declared.action.Heard.{Heard}
use Rattle.tv_items.specs.declared.action.Way.{Way}
use Rattle.tv_items.specs.declared.action.Way.TheVariants.{Memory, Interrupt}
use Rattle.tv_items.specs.declared.item.Item.{Item}
use Rattle.tv_journal.specs.declared.Entry.{Entry}
use Rattle.tv_journal.specs.declared.Entry.TheVariants as entry
use Rattle.tv_plan.specs.Devices.{next}
use Rattle.tv_script.specs.Answers.{FitsNext}
use Rattle.tv_spec.specs.declared.Made.{Made}
use Rattle.tv_spec.specs.declared.Mode.{Mode}
use Rattle.tv_spec.specs.declared.Mode.TheVariants as mode
use Rattle.tv_spec.specs.Held.{Brought, Took, Began, Learned, Replied, brought_by, held_from, held_of, if_own, item_brought, own, reply_brought}
use Rattle.tv_spec.specs.Legal.{after, IsLegal, IsLegalRun, with_outer}
use Rattle.tv_spec.specs.Setup.{Setup}
use Rattle.tv_spec.specs.Shows.{cause_in, end_of, or_else}
use Rattle.tv_spec.specs.State.{State, DeviceRun}
use Rattle.tv_spec.specs.Step.{IsOpen, Move, made, ended, done}
use Rattle.tv_spec.proofs.HeldFold.{held_append}
use Rattle.tv_spec.proofs.Moves.{after-append, legal-parts}
use Rattle.tv_spec.proofs.SoFar.{cause-more}
use Rattle.tv_core.specs.declared.proxied.Turn.{Turn}
use Rattle.tv_core.specs.declared.proxied.Turn.TheVariants as turn
use Rattle.tv_core.specs.Calls.{BeganSo, DeliveredSo, EndedIn, EndedSo, EndsNow, EndsTurn, GotSo, HandedSo, HeardNone, IsFull, IsFullAt, NotServed, NotTicked, ServedSo, TakesNone, TellsEnd, TickedSo, TookSo, TurnedSo, waiting_bytes}
use Rattle.tv_core.specs.Seen.{Seen, dev_of, first_by, history, is_told, setup_by, state_of, with_end, with_entry, with_events}
use Rattle.tv_core.proofs.History.{outer_more, outer_set}
use Rattle.tv_probed.specs.Keeping.{BringsSo, begun, learned, taken}

-- 1. What moves bring

-- the law of each core: its history is a legal run, and each device is the fold of what its worker's entries brought
pub record IsLawful (p : Seen) (d : ℕ) : Type 0 where
  pub legal : IsLegalRun p.machine p.image p.entries p.outer
  pub held : held_of (dev_of p d) ≡ held_from (held_of ((first_by p).devs d)) (own (setup_by p) (first_by p) d (history p))

own_append : (setup : Setup) (s : State) (d : ℕ) (xs ys : List Move) → own setup s d (xs ++ ys) ≡ own setup s d xs ++ own setup (after setup s xs) d ys
own_append setup s d [] ys = refl
own_append setup s d (x ∷ xs) ys =
    ap (λ (zs : List Brought). brought_by s d x ++ zs) (own_append setup (done setup s x) d xs ys)
    ∙ sym (append_assoc (brought_by s d x) (own setup (done setup s x) d xs) (own setup (after setup (done setup s x) xs) d ys))

own_self : (d : ℕ) (brought : List Brought) → if_own d d brought ≡ brought
own_self d brought = elim (eqb_tells d d) [
  | inl same ↦ rw same.0 refl
  | inr other ↦ absurd (other.1 refl)
]

-- a history with more moves
moves_bring : (p : Seen) (d seat : ℕ) (entries : List Entry) (outer : Option (ℕ × Why)) (moves : List Move)
    → with_outer entries outer ≡ history p ++ moves → IsLawful p d
    → held_of (dev_of (record p { entries = entries; outer = outer; seat = seat }) d)
    ≡ held_from (held_of ((first_by p).devs d)) (own (setup_by p) (first_by p) d (with_outer entries outer))
    → BringsSo p (record p { entries = entries; outer = outer; seat = seat }) d (own (setup_by p) (state_of p) d moves)
moves_bring p d seat entries outer moves is law later = record {
  machine = refl;
  held = later
      ∙ ap (λ (xs : List Move). held_from (held_of ((first_by p).devs d)) (own (setup_by p) (first_by p) d xs)) is
      ∙ ap (λ (bs : List Brought). held_from (held_of ((first_by p).devs d)) bs) (own_append (setup_by p) (first_by p) d (history p) moves)
      ∙ held_append (held_of ((first_by p).devs d)) (own (setup_by p) (first_by p) d (history p)) (own (setup_by p) (state_of p) d moves)
      ∙ ap (λ h. held_from h (own (setup_by p) (state_of p) d moves)) (sym law.held);
}

-- an entry more
entry_brings : (p q : Seen) (d : ℕ) (e : Entry) (brought : List Brought) → q ≡ with_entry p e → brought_by (state_of p) d (made e) ≡ brought
    → IsLawful p d → IsLawful q d → BringsSo p q d brought
entry_brings p q d e brought new_is is law later =
    let b = moves_bring p d p.seat (p.entries ++ e ∷ []) p.outer (made e ∷ []) (outer_more p.entries e p.outer law.legal.place) law
    (subst (λ (x : Seen). IsLawful x d) new_is later).held in
    subst (λ (x : Seen). BringsSo p x d brought) (sym new_is)
    (subst (λ (bs : List Brought). BringsSo p (with_entry p e) d bs) (append-nil (brought_by (state_of p) d (made e)) ∙ is) b)

-- nothing more
same_brings : (p q : Seen) (d : ℕ) → q ≡ p → BringsSo p q d []
same_brings p q d same = rw same record { machine = refl; held = refl }

-- 2. An end behind the entries

stays_ended : (setup : Setup) (s : State) (cause : Why) (entries : List Entry) → cause_in s.mode ≡ Some cause → IsLegal setup s (map made entries)
    → cause_in (after setup s (map made entries)).mode ≡ Some cause
stays_ended setup s cause [] is legal = is
stays_ended setup s cause (e ∷ entries) is legal =
    stays_ended setup (done setup s (made e)) cause entries
    (cause-more setup s e legal.0 ∙ ap (λ (c : Option Why). or_else c (or_else (end_of setup s (made e)) None)) is) legal.1

not_open : (m : Mode) (cause : Why) → cause_in m ≡ Some cause → IsOpen m → ⊥
not_open (mode.Ending other) cause is is_open = is_open
not_open mode.Running cause is is_open = let e : ◌≡◌ {A = Option Why} None (Some cause) = is in cc

-- where the run goes on, there was no such end
none_outer : (p : Seen) → IsLegalRun p.machine p.image p.entries p.outer → IsOpen (state_of p).mode → p.outer ≡ None
none_outer p run is_open = by_outer p.outer refl
  where
    by_outer : (outer : Option (ℕ × Why)) → p.outer ≡ outer → p.outer ≡ None
    by_outer None is = is
    by_outer (Some (k, cause)) is =
        let front : List Move = map made (take k p.entries) in
        let rest : List Move = map made (drop k p.entries) in
        let legal : IsLegal (setup_by p) (first_by p) (front ++ ended cause ∷ rest) = (let r = run.legal in let x = rw is at r in x) in
        let behind = (legal-parts (setup_by p) (first_by p) front (ended cause ∷ rest) legal).1 in
        let s : State = done (setup_by p) (after (setup_by p) (first_by p) front) (ended cause) in
        let stays : cause_in (after (setup_by p) s rest).mode ≡ Some cause = stays_ended (setup_by p) s cause (drop k p.entries) refl behind.1 in
        let at : cause_in (state_of p).mode ≡ Some cause =
        rw (is, after-append (setup_by p) (first_by p) front (ended cause ∷ rest)) stays in
        absurd (not_open (state_of p).mode cause at is_open)

end_brings : (p q : Seen) (d seat : ℕ) (cause : Why) → q ≡ with_end p cause seat → p.outer ≡ None → IsLawful p d → IsLawful q d → BringsSo p q d []
end_brings p q d seat cause new_is none law later =
    let is : with_outer p.entries (Some (length p.entries, cause)) ≡ history p ++ ended cause ∷ [] = rw none (outer_set p.entries cause) in
    subst (λ (x : Seen). BringsSo p x d []) (sym new_is)
    (moves_bring p d seat p.entries (Some (length p.entries, cause)) (ended cause ∷ []) is law (subst (λ (x : Seen). IsLawful x d) new_is later).held)

full_brings : (p q : Seen) (d : ℕ) (e : Entry) → IsFull p q e → IsLawful p d → IsLawful q d → BringsSo p q d []
full_brings p q d e full law later = end_brings p q d _ why.Full full.new_is (none_outer p law.legal full.is_open) law later

-- 3. A worker's calls

tells_brings : (p q : Seen) (d : ℕ) (e : Entry) → TellsEnd p q d e → IsLawful p d → IsLawful q d → BringsSo p q d []
tells_brings p q d e tells law later = by_end tells.1
  where
    told : q ≡ is_told tells.0 d
    told = tells.2

    unsaid : BringsSo p tells.0 d [] → BringsSo p q d []
    unsaid b = subst (λ (x : Seen). BringsSo p x d []) (sym told) (record { machine = b.machine; held = b.held })

    by_end : EndsNow p tells.0 e → BringsSo p q d []
    by_end (EndsNow.before _ same) = unsaid (same_brings p tells.0 d same)
    by_end (EndsNow.full full) =
        let x = subst (λ (y : Seen). IsLawful y d) told later in
        unsaid (full_brings p tells.0 d e full law (record { legal = x.legal; held = x.held }))

pub took_brings : (p q : Seen) (d : ℕ) (result : Option (ℕ × Item)) → TookSo p q d result → IsLawful p d → IsLawful q d → BringsSo p q d (taken result)
took_brings p q d (Some tagged) took law later =
    let v : DeviceRun = dev_of p d in
    let item : item_brought v.acted (slice_get v.made v.acted) ≡ Took tagged.0 tagged.1 ∷ [] =
    ap (λ (m : Option Made). item_brought v.acted m) took.0.item ∙ ap (λ (tag : ℕ). Took tag tagged.1 ∷ []) (sym took.0.place) in
    entry_brings p q d (entry.Take d) (taken (Some tagged)) took.1 (own_self d (item_brought v.acted (slice_get v.made v.acted)) ∙ item) law later
took_brings p q d None none law later = by_none none
  where
    by_none : TakesNone p q d → BringsSo p q d []
    by_none (TakesNone.empty _ _ same) = same_brings p q d same
    by_none (TakesNone.over tells) = tells_brings p q d (entry.Take d) tells law later

pub sent_brings : (p q : Seen) (d : ℕ) (result : Bool) → BeganSo p q d (entry.Send d) result → IsLawful p d → IsLawful q d → BringsSo p q d (begun result)
sent_brings p q d true new_is law later = entry_brings p q d (entry.Send d) (Began ∷ []) new_is (own_self d (Began ∷ [])) law later
sent_brings p q d false tells law later = tells_brings p q d (entry.Send d) tells law later

pub got_brings : (p q : Seen) (d : ℕ) (result : Option Heard) → GotSo p q d result → IsLawful p d → IsLawful q d → BringsSo p q d (learned result)
got_brings p q d (Some heard) got law later =
    entry_brings p q d (entry.Got d) (Learned heard ∷ []) got.1
    (own_self d (reply_brought (dev_of p d).phase) ∙ ap reply_brought got.0.served) law later
got_brings p q d None none law later = by_mode (state_of p).mode none.1
  where
    by_mode : (m : Mode) → HeardNone m p q d → BringsSo p q d []
    by_mode (mode.Ending cause) told = subst (λ (x : Seen). BringsSo p x d []) (sym told) (record { machine = refl; held = refl })
    by_mode mode.Running same = same_brings p q d same

pub got_fits : (p q : Seen) (d : ℕ) (result : Option Heard) → GotSo p q d result
    → IfSome result (λ heard. FitsNext (next (dev_of p d).device (dev_of p d).got) heard)
got_fits p q d (Some heard) got = got.0.fits
got_fits p q d None none = tt

pub replied_brings : (p q : Seen) (d : ℕ) → q ≡ with_entry p (entry.Reply d) → IsLawful p d → IsLawful q d → BringsSo p q d (Replied ∷ [])
replied_brings p q d new_is law later = entry_brings p q d (entry.Reply d) (Replied ∷ []) new_is (own_self d (Replied ∷ [])) law later

-- 4. Calls of others

served_brings : (p q : Seen) (d : ℕ) (way : Way) (e : Entry) (result : Bool) → brought_by (state_of p) d (made e) ≡ [] → ServedSo p q d way e result → IsLawful p d → IsLawful q d → BringsSo p q d []
served_brings p q d way e true nothing served law later = entry_brings p q d e [] served.1 nothing law later
served_brings p q d way e false nothing not law later = by_mode (state_of p).mode not
  where
    by_mode : (m : Mode) → NotServed m p q d way e → BringsSo p q d []
    by_mode (mode.Ending cause) same = same_brings p q d same
    by_mode mode.Running (inl none) = same_brings p q d none.1
    by_mode mode.Running (inr full) = full_brings p q d e full law later

pub memory_brings : (p q : Seen) (d : ℕ) (result : Bool) → ServedSo p q d Memory (entry.ServeMem d) result → IsLawful p d → IsLawful q d → BringsSo p q d []
memory_brings p q d result served law later = served_brings p q d Memory (entry.ServeMem d) result refl served law later

pub interrupt_brings : (p q : Seen) (d : ℕ) (result : Bool) → ServedSo p q d Interrupt (entry.ServeIrq d) result → IsLawful p d → IsLawful q d → BringsSo p q d []
interrupt_brings p q d result served law later = served_brings p q d Interrupt (entry.ServeIrq d) result refl served law later

pub delivered_brings : (p q : Seen) (d : ℕ) (result : Bool) → DeliveredSo p q d result → IsLawful p d → IsLawful q d → BringsSo p q d []
delivered_brings p q d true delivered law later = entry_brings p q d (entry.Deliver d) [] delivered.1 refl law later
delivered_brings p q d false none law later = same_brings p q d none.1

pub ended_brings : (p q : Seen) (d seat : ℕ) (cause : Why) → EndedSo p q cause seat → IsLawful p d → IsLawful q d → BringsSo p q d []
ended_brings p q d seat cause ended_so law later = by_mode (state_of p).mode refl ended_so
  where
    by_mode : (m : Mode) → (state_of p).mode ≡ m → EndedIn m p q cause seat → BringsSo p q d []
    by_mode (mode.Ending earlier) is same = same_brings p q d same
    by_mode mode.Running is new_is = end_brings p q d seat cause new_is (none_outer p law.legal (rw is tt)) law later

pub handed_brings : (p q : Seen) (d most n : ℕ) (out : List ℕ) → HandedSo p q out most n → BringsSo p q d []
handed_brings p q d most n out handed = subst (λ (x : Seen). BringsSo p x d []) (sym handed.new_is) (record { machine = refl; held = refl })

pub handed_few : (p q : Seen) (most n : ℕ) (out : List ℕ) → HandedSo p q out most n → n ≤ most
handed_few p q most n out handed = rw handed.count (min-le_left most (length (waiting_bytes p)))

pub ticked_brings : (p q : Seen) (d n : ℕ) (result : Bool) → TickedSo p q n result → IsLawful p d → IsLawful q d → BringsSo p q d []
ticked_brings p q d n true ticked law later = entry_brings p q d (entry.Tick n) [] ticked.2 refl law later
ticked_brings p q d n false not law later = by_mode (state_of p).mode (state_of p).ticked not
  where
    by_mode : (m : Mode) (ticked : Bool) → NotTicked m ticked p q n → BringsSo p q d []
    by_mode mode.Running false full = full_brings p q d (entry.Tick n) full law later
    by_mode mode.Running true same = same_brings p q d same
    by_mode (mode.Ending cause) ticked same = same_brings p q d same

-- events of a hart bring nothing
own_events : (setup : Setup) (s : State) (d hart n : ℕ) → own setup s d (map made (replicate n (entry.Hart hart))) ≡ []
own_events setup s d hart zero = refl
own_events setup s d hart (suc n) = own_events setup (done setup s (made (entry.Hart hart))) d hart n

events_bring : (p : Seen) (d hart n : ℕ) → p.outer ≡ None → IsLawful p d
    → held_of (dev_of (with_events p hart n) d) ≡ held_from (held_of ((first_by p).devs d)) (own (setup_by p) (first_by p) d (history (with_events p hart n)))
    → BringsSo p (with_events p hart n) d []
events_bring p d hart n none law later =
    let more : List Entry = replicate n (entry.Hart hart) in
    let is : with_outer (p.entries ++ more) p.outer ≡ history p ++ map made more = rw none (map-append made p.entries more) in
    subst (λ (bs : List Brought). BringsSo p (with_events p hart n) d bs) (own_events (setup_by p) (state_of p) d hart n)
    (moves_bring p d p.seat (p.entries ++ more) p.outer (map made more) is law later)

-- the same with an end behind them
events_end_bring : (p q : Seen) (d hart n seat : ℕ) → p.outer ≡ None → q ≡ with_end (with_events p hart n) why.Full seat → IsLawful p d → IsLawful q d → BringsSo p q d []
events_end_bring p q d hart n seat none new_is law later =
    let more : List Entry = replicate n (entry.Hart hart) in
    let all : List Entry = p.entries ++ more in
    let moves : List Move = map made more ++ ended why.Full ∷ [] in
    let is : with_outer all (Some (length all, why.Full)) ≡ history p ++ moves =
    outer_set all why.Full ∙ ap (λ (xs : List Move). xs ++ ended why.Full ∷ []) (map-append made p.entries more)
    ∙ append_assoc (map made p.entries) (map made more) (ended why.Full ∷ [])
    ∙ ap (λ (o : Option (ℕ × Why)). with_outer p.entries o ++ moves) (sym none) in
    let nothing : own (setup_by p) (state_of p) d moves ≡ [] =
    own_append (setup_by p) (state_of p) d (map made more) (ended why.Full ∷ [])
    ∙ ap (λ (bs : List Brought). bs ++ []) (own_events (setup_by p) (state_of p) d hart n) in
    subst (λ (x : Seen). BringsSo p x d []) (sym new_is)
    (subst (λ (bs : List Brought). BringsSo p (with_end (with_events p hart n) why.Full seat) d bs) nothing
    (moves_bring p d seat all (Some (length all, why.Full)) moves is law (subst (λ (x : Seen). IsLawful x d) new_is later).held))

pub turned_brings : (p q : Seen) (d hart most : ℕ) (result : Turn) → p.outer ≡ None → TurnedSo p q hart most result → IsLawful p d → IsLawful q d → BringsSo p q d []
turned_brings p q d hart most (turn.Ran n) none ran law later = by_end ran.then_full
  where
    by_end : (q ≡ with_events p hart n) ⊎ ((n < most) × IsFullAt (with_events p hart n) q hart) → BringsSo p q d []
    by_end (inl new_is) =
        subst (λ (x : Seen). BringsSo p x d []) (sym new_is)
        (events_bring p d hart n none law (subst (λ (x : Seen). IsLawful x d) new_is later).held)
    by_end (inr full) = events_end_bring p q d hart n _ none full.1.full.new_is law later
turned_brings p q d hart most turn.Ending none ends law later = by_end ends
  where
    by_end : EndsTurn p q hart → BringsSo p q d []
    by_end (inl over) = same_brings p q d over.1
    by_end (inr full) = full_brings p q d (entry.Hart hart) full.full law later
turned_brings p q d hart most turn.Waits none waits law later = same_brings p q d waits.2
turned_brings p q d hart most turn.Stalled none stalled law later = same_brings p q d stalled.3
