-- A turn of a hart, which is made of bursts.
use Rattle.std.proofs.Common.{◌≡◌, ◌≢◌, ℕ, ◌+◌, ◌-◌, ◌<◌, ◌≤◌, inl, inr, List, [], ◌∷◌, ◌++◌, replicate, None, refl, ap, sym, ◌∙◌, subst, arith, append_assoc, append-nil}
use Rattle.std.proofs.lemmas.Bool.Decides.{leb_tells}
use Rattle.tv_base.specs.declared.Why.{Why}
use Rattle.tv_base.specs.declared.Why.TheVariants as why
use Rattle.tv_journal.specs.declared.Entry.{Entry}
use Rattle.tv_journal.specs.declared.Entry.TheVariants as entry
use Rattle.tv_journal.proofs.Added.{replicate-more}
use Rattle.tv_spec.specs.declared.Mode.{Mode}
use Rattle.tv_spec.specs.declared.Mode.TheVariants as mode
use Rattle.tv_spec.specs.Legal.{after, with_outer}
use Rattle.tv_spec.specs.State.{State}
use Rattle.tv_spec.specs.Step.{ended}
use Rattle.tv_spec.proofs.Moves.{after-append}
use Rattle.tv_core.specs.declared.proxied.Turn.{Turn}
use Rattle.tv_core.specs.declared.proxied.Turn.TheVariants as turn
use Rattle.tv_core.specs.Bursts.{BurstSo, IsMadeBy}
use Rattle.tv_core.specs.Calls.{EndsTurn, IsFullAt, IsRanFor, Stalls, StopsTurn, TurnedSo}
use Rattle.tv_core.specs.Seen.{Seen, first_by, seat_of, setup_by, state_of, with_end, with_events}
use Rattle.tv_core.proofs.History.{outer_set}

-- 1. Events behind events

pub with_more : (p : Seen) (hart m n : ℕ) → with_events (with_events p hart m) hart n ≡ with_events p hart (m + n)
with_more p hart m n =
    ap (λ (es : List Entry). let q : Seen = record p { entries = es } in q) (
    append_assoc p.entries (replicate m (entry.Hart hart)) (replicate n (entry.Hart hart))
    ∙ ap (λ (es : List Entry). p.entries ++ es) (sym (replicate-more m n (entry.Hart hart)))
    )

pub with_none : (p : Seen) (hart : ℕ) → with_events p hart 0 ≡ p
with_none p hart = ap (λ (es : List Entry). let q : Seen = record p { entries = es } in q) (append-nil p.entries)

-- so many events were made so far
pub record HasMade (first now : Seen) (hart most n : ℕ) : Type 0 where
  pub few : n ≤ most
  pub carried : (k : ℕ) → k < n → Stalls (with_events first hart k) hart → ⊥
  pub now_is : now ≡ with_events first hart n

pub made_none : (p : Seen) (hart most : ℕ) → HasMade p p hart most 0
made_none p hart most = record {
  few = omega arith;
  carried = λ k less. absurd (omega (arith, less));
  now_is = sym (with_none p hart);
}

pub made_more : (first now later : Seen) (hart most m n : ℕ) → HasMade first now hart most m → IsMadeBy now later hart (most - m) n → HasMade first later hart most (m + n)
made_more first now later hart most m n H B = record {
  few = (let a = H.few in let b = B.few in omega (arith, a, b));
  carried = λ k less. elim (leb_tells m k) [
    | inl e ↦ (let above : m ≤ k = e.1 in
        let sum : m + (k - m) ≡ k = omega (arith, above) in
        let same : with_events now hart (k - m) ≡ with_events first hart k =
        ap (λ (q : Seen). with_events q hart (k - m)) H.now_is ∙ with_more first hart m (k - m) ∙ ap (with_events first hart) sum in
        subst (λ (q : Seen). Stalls q hart → ⊥) same (B.carried (k - m) (omega (arith, above, less))))
    | inr e ↦ H.carried k e.1
  ];
  now_is = B.new_is ∙ ap (λ (q : Seen). with_events q hart n) H.now_is ∙ with_more first hart m n;
}

-- 2. The end of a turn

-- behind an end that no entry made the run has ended
pub end_ends : (p : Seen) (cause : Why) (seat : ℕ) → (state_of (with_end p cause seat)).mode ≡ mode.Ending cause
end_ends p cause seat =
    ap (λ (s : State). s.mode) (
    ap (after (setup_by p) (first_by p)) (outer_set p.entries cause)
    ∙ after-append (setup_by p) (first_by p) (with_outer p.entries None) (ended cause ∷ [])
    )

not_running : (m : Mode) (cause : Why) → m ≡ mode.Ending cause → m ≢ mode.Running
not_running m cause is run = let e : mode.Ending cause ≡ mode.Running = sym is ∙ run in cc

-- all that were asked for
pub turn_done : (first now : Seen) (hart most n : ℕ) → HasMade first now hart most n → 0 < most → most ≤ n → IsRanFor first now hart most n
turn_done first now hart most n H some all = record {
  some = omega (arith, some, all);
  few = H.few;
  carried = H.carried;
  then_full = inl H.now_is;
  stops = λ less. absurd (omega (arith, less, all));
}

-- some, and then none for a reason
pub turn_stopped : (result : Turn) (first now later : Seen) (hart most n : ℕ) → HasMade first now hart most n → n < most → n ≢ 0
    → ((m : ℕ) → result ≢ turn.Ran m) → BurstSo now later hart (most - n) result → IsRanFor first later hart most n
turn_stopped (turn.Ran m) first now later hart most n H less some none B = absurd (none m refl)
turn_stopped turn.Ending first now later hart most n H less some none (inl over) = record {
  some = omega (arith, some);
  few = H.few;
  carried = H.carried;
  then_full = inl (over.1 ∙ H.now_is);
  stops = λ _. StopsTurn.stopped (subst (λ (q : Seen). (state_of q).mode ≢ mode.Running) (sym over.1) (λ run. over.0 (rw run tt)));
}
turn_stopped turn.Ending first now later hart most n H less some none (inr full) = record {
  some = omega (arith, some);
  few = H.few;
  carried = H.carried;
  then_full = inr (less, subst (λ (q : Seen). IsFullAt q later hart) H.now_is full);
  stops = λ _. StopsTurn.stopped (subst (λ (q : Seen). (state_of q).mode ≢ mode.Running) (sym full.full.new_is) (not_running (state_of (with_end now why.Full (seat_of now.machine (entry.Hart hart)))).mode why.Full (end_ends now why.Full (seat_of now.machine (entry.Hart hart)))));
}
turn_stopped turn.Waits first now later hart most n H less some none B = record {
  some = omega (arith, some);
  few = H.few;
  carried = H.carried;
  then_full = inl (B.2 ∙ H.now_is);
  stops = λ _. StopsTurn.waits (subst (λ (q : Seen). (state_of q).pending hart ≢ None) (sym B.2) B.1);
}
turn_stopped turn.Stalled first now later hart most n H less some none B = record {
  some = omega (arith, some);
  few = H.few;
  carried = H.carried;
  then_full = inl (B.3 ∙ H.now_is);
  stops = λ _. StopsTurn.stalls (subst (λ (q : Seen). Stalls q hart) (sym B.3) B.2);
}

-- none at all
pub turn_none : (result : Turn) (first now later : Seen) (hart most n : ℕ) → HasMade first now hart most n → n ≡ 0
    → ((m : ℕ) → result ≢ turn.Ran m) → BurstSo now later hart (most - n) result → TurnedSo first later hart most result
turn_none result first now later hart most n H zero_is none B = by_result result none B
  where
    here : now ≡ first
    here = H.now_is ∙ ap (with_events first hart) zero_is ∙ with_none first hart

    by_result : (r : Turn) → ((m : ℕ) → r ≢ turn.Ran m) → BurstSo now later hart (most - n) r → TurnedSo first later hart most r
    by_result (turn.Ran m) other b = absurd (other m refl)
    by_result turn.Ending other b = subst (λ (q : Seen). EndsTurn q later hart) here b
    by_result turn.Waits other b = subst (λ (q : Seen). TurnedSo q later hart most turn.Waits) here b
    by_result turn.Stalled other b = subst (λ (q : Seen). TurnedSo q later hart most turn.Stalled) here b
