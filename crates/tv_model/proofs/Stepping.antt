-- A replay, move by move.
use Rattle.std.proofs.Common.{◌≡◌, ◌≢◌, ℕ, zero, suc, ◌+◌, ◌-◌, ◌<◌, ◌≤◌, List, [], ◌∷◌, ◌++◌, Option, Some, None, replicate, map, length, take, drop, refl, ap, sym, ◌∙◌, subst, append_assoc, length-append, arith}
use Rattle.std.proofs.lemmas.Grind.{replicate_next, flat_map-append}
use Rattle.std.proofs.lemmas.List.{map-append, replicate-append-replicate, take-append-drop}
use Rattle.std.proofs.Math.Seq.{take-append-add, drop-append-add}
use Rattle.tv_base.specs.declared.Why.{Why}
use Rattle.tv_journal.specs.declared.Entry.{Entry}
use Rattle.tv_journal.specs.declared.Entry.TheVariants as entry
use Rattle.tv_journal.specs.declared.record.EndLine.{EndLine}
use Rattle.tv_journal.specs.Entries.{Record, entries_in, entries_of, records_of}
use Rattle.tv_journal.specs.Grammar.{cause_byte, outer_of, EndFits}
use Rattle.tv_journal.specs.Journals.{IsOuterEnd}
use Rattle.tv_machine.specs.declared.machine.Machine.{Machine}
use Rattle.tv_spec.specs.Legal.{IsLegal, IsLegalRun, HasPlace, after, with_outer}
use Rattle.tv_spec.specs.Setup.{Setup, setup_of}
use Rattle.tv_spec.specs.State.{State, first_state}
use Rattle.tv_spec.specs.Step.{Move, made, ended}
use Rattle.tv_spec.proofs.Moves.{after-append, legal-append, legal-parts}
use Rattle.tv_guest.specs.Burst.{events_of}
use Rattle.tv_model.specs.Moves.{AreMade, IsMade}
use Rattle.tv_model.specs.MonitorState.{MonitorState, setup_in, state_in}
use Rattle.tv_model.specs.Replay.{IsFirstIllegal, entry_count}
use Rattle.tv_model.specs.Replaying.{HasCause, HasLeft, due, not_due, closer}

-- a run with such an entry or end is not legal
pub first-illegal : (machine : Machine) (image : List ℕ) (entries : List Entry) (outer : Option (ℕ × Why)) (n : ℕ) → IsFirstIllegal machine image entries outer n
    → IsLegalRun machine image entries outer → ⊥
first-illegal machine image entries outer n stops run =
    let all : IsLegal (setup_of machine) (first_state machine image) (stops.front ++ stops.move ∷ stops.rest) =
    subst (IsLegal (setup_of machine) (first_state machine image)) stops.parts run.legal in
    stops.cannot (legal-parts (setup_of machine) (first_state machine image) stops.front (stops.move ∷ stops.rest) all).1.0

-- what holds of a setup and a state holds of the same ones
pub at_same : (P : Setup → State → Type 0) (a b : Setup) (s t : State) → a ≡ b → s ≡ t → P a s → P b t
at_same P a b s t setup state is = subst (λ (x : Setup). P x t) setup (subst (λ (y : State). P a y) state is)

-- moves made, one after the other
pub made-one : (old new : MonitorState) (move : Move) → IsMade old new move → AreMade old new (move ∷ [])
made-one old new move is = record { legal = (is.can, tt); setup = is.setup; state = is.state }

pub made-append : (old mid new : MonitorState) (first rest : List Move) → AreMade old mid first → AreMade mid new rest → AreMade old new (first ++ rest)
made-append old mid new first rest before more =
    let legal : IsLegal (setup_in old) (after (setup_in old) (state_in old) first) rest =
    at_same (λ setup s. IsLegal setup s rest) (setup_in mid) (setup_in old) (state_in mid) (after (setup_in old) (state_in old) first) before.setup before.state more.legal in
    record {
      legal = legal-append (setup_in old) (state_in old) first rest before.legal legal;
      setup = more.setup ∙ before.setup;
      state = more.state ∙ ap (λ (setup : Setup). after setup (state_in mid) rest) before.setup ∙ ap (λ (s : State). after (setup_in old) s rest) before.state
          ∙ sym (after-append (setup_in old) (state_in old) first rest);
    }

-- an entry once more
pub made-again : (old mid new : MonitorState) (e : Entry) (n : ℕ) → AreMade old mid (replicate n (made e)) → IsMade mid new (made e) → AreMade old new (replicate (n + 1) (made e))
made-again old mid new e n before more =
    subst (AreMade old new) (sym (replicate_next n (made e))) (made-append old mid new (replicate n (made e)) (made e ∷ []) before (made-one mid new (made e) more))

-- the moves to come: an outer end that is due, and the rest
pub with-due : (es : List Entry) (outer : Option (ℕ × Why)) → with_outer es outer ≡ due outer ++ with_outer es (not_due outer)
with-due es None = refl
with-due es (Some (zero, cause)) = refl
with-due es (Some (suc n, cause)) = refl

-- and entries before them
pub with-front : (xs ys : List Entry) (outer : Option (ℕ × Why)) → HasLeft (length xs) outer → with_outer (xs ++ ys) outer ≡ map made xs ++ with_outer ys (closer (length xs) outer)
with-front xs ys None left = map-append made xs ys
with-front xs ys (Some (place, cause)) left =
    let n = place - length xs in
    let place_is : place ≡ length xs + n = omega arith in
    ap (λ (k : ℕ). map made (take k (xs ++ ys)) ++ ended cause ∷ map made (drop k (xs ++ ys))) place_is
    ∙ ap (λ (zs : List Entry). map made zs ++ ended cause ∷ map made (drop (length xs + n) (xs ++ ys))) (take-append-add xs ys n)
    ∙ ap (λ (zs : List Entry). map made (xs ++ take n ys) ++ ended cause ∷ map made zs) (drop-append-add xs ys n)
    ∙ ap (λ (ms : List Move). ms ++ ended cause ∷ map made (drop n ys)) (map-append made xs (take n ys))
    ∙ append_assoc (map made xs) (map made (take n ys)) (ended cause ∷ map made (drop n ys))

-- how many entries are among moves
pub count-append : (first rest : List Move) → entry_count (first ++ rest) ≡ entry_count first + entry_count rest
count-append [] rest = omega arith
count-append (made e ∷ first) rest = let more = count-append first rest in omega arith
count-append (ended cause ∷ first) rest = count-append first rest

pub count-replicate : (n : ℕ) (e : Entry) → entry_count (replicate n (made e)) ≡ n
count-replicate zero e = refl
count-replicate (suc n) e = let more = count-replicate n e in omega arith

pub count-due : (outer : Option (ℕ × Why)) → entry_count (due outer) ≡ 0
count-due None = refl
count-due (Some (zero, cause)) = refl
count-due (Some (suc n, cause)) = refl

-- an outer end to come has a cause that no entry makes, and stands behind some of the records
pub record IsBorder (records : List Record) (place : ℕ) (cause : Why) : Type 0 where
  pub outer : cause_byte cause ≢ None
  pub before : ℕ
  pub place_is : place ≡ length (entries_of (take before records))

abbrev pub IsAtBorder : List Record → Option (ℕ × Why) → Type 0
IsAtBorder records None = Unit {0}
IsAtBorder records (Some (place, cause)) = IsBorder records place cause

border-line : (rs : List Record) (line : Option EndLine) → EndFits rs line → IsAtBorder rs (outer_of line)
border-line rs None fits = tt
border-line rs (Some end) fits = record { outer = fits.cause; before = end.records; place_is = fits.entries }

pub border-first : (es : List Entry) (outer : Option (ℕ × Why)) → IsOuterEnd es outer → IsAtBorder (records_of es) outer
border-first es outer end = subst (IsAtBorder (records_of es)) (sym end.outer_is) (border-line (records_of es) end.line end.fits)

pub border-cause : (rs : List Record) (outer : Option (ℕ × Why)) → IsAtBorder rs outer → HasCause outer
border-cause rs None border = tt
border-cause rs (Some (place, cause)) border = border.outer

pub border-due : (rs : List Record) (outer : Option (ℕ × Why)) → IsAtBorder rs outer → IsAtBorder rs (not_due outer)
border-due rs None border = tt
border-due rs (Some (zero, cause)) border = tt
border-due rs (Some (suc n, cause)) border = border

-- the entries before a border come at once with a record before it, or not at all
border-record : (r : Record) (rs : List Record) (place : ℕ) (cause : Why) (before : ℕ) → cause_byte cause ≢ None → 0 < place → place ≡ length (entries_of (take before (r ∷ rs)))
    → (length (entries_in r) ≤ place) × IsBorder rs (place - length (entries_in r)) cause
border-record r rs place cause zero outer some is = absurd (omega arith)
border-record r rs place cause (suc k) outer some is =
    let place_is : place ≡ length (entries_in r) + length (entries_of (take k rs)) = is ∙ length-append (entries_in r) (entries_of (take k rs)) in
    (omega arith, record { outer = outer; before = k; place_is = omega arith })

pub left-of-border : (r : Record) (rs : List Record) (outer : Option (ℕ × Why)) → IsAtBorder (r ∷ rs) (not_due outer) → HasLeft (length (entries_in r)) (not_due outer)
left-of-border r rs None border = tt
left-of-border r rs (Some (zero, cause)) border = tt
left-of-border r rs (Some (suc n, cause)) border = (border-record r rs (suc n) cause border.before border.outer (omega arith) border.place_is).0

pub border-closer : (r : Record) (rs : List Record) (outer : Option (ℕ × Why)) → IsAtBorder (r ∷ rs) (not_due outer)
    → IsAtBorder rs (closer (length (entries_in r)) (not_due outer))
border-closer r rs None border = tt
border-closer r rs (Some (zero, cause)) border = tt
border-closer r rs (Some (suc n, cause)) border = (border-record r rs (suc n) cause border.before border.outer (omega arith) border.place_is).1

-- behind the last record nothing is to come but an end that is due
none-before : (n : ℕ) → length (entries_of (take n [])) ≡ 0
none-before zero = refl
none-before (suc n) = refl

pub border-end : (outer : Option (ℕ × Why)) → IsAtBorder [] outer → with_outer [] (not_due outer) ≡ []
border-end None border = refl
border-end (Some (zero, cause)) border = refl
border-end (Some (suc n, cause)) border = absurd (omega (arith, border.place_is, none-before border.before))

-- a border is a place among the entries
pub entries-parts : (n : ℕ) (rs : List Record) → entries_of (take n rs) ++ entries_of (drop n rs) ≡ entries_of rs
entries-parts n rs = sym (flat_map-append entries_in (take n rs) (drop n rs)) ∙ ap entries_of (take-append-drop n rs)

pub border-place : (rs : List Record) (outer : Option (ℕ × Why)) → IsAtBorder rs outer → HasPlace (entries_of rs) outer
border-place rs None border = tt
border-place rs (Some (place, cause)) border =
    let all : length (entries_of (take border.before rs)) + length (entries_of (drop border.before rs)) ≡ length (entries_of rs) =
    sym (length-append (entries_of (take border.before rs)) (entries_of (drop border.before rs))) ∙ ap length (entries-parts border.before rs) in
    omega (arith, border.place_is)

-- events of a hart, and more of them
pub made-events : (old mid new : MonitorState) (hart n more total : ℕ) → AreMade old mid (events_of hart n) → AreMade mid new (events_of hart more) → total ≡ n + more → AreMade old new (events_of hart total)
made-events old mid new hart n more total before later total_is =
    let all : events_of hart n ++ events_of hart more ≡ events_of hart total =
    replicate-append-replicate n more (made (entry.Hart hart)) ∙ ap (events_of hart) (sym total_is) in
    subst (AreMade old new) all (made-append old mid new (events_of hart n) (events_of hart more) before later)
