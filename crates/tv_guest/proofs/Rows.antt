-- Events in a row that are counted once for all, and a burst that goes on by them.
use Rattle.std.proofs.Common.{◌≡◌, ◌≢◌, ℕ, zero, suc, ◌+◌, ◌≤◌, None, refl, sym, ap, ◌∙◌, subst, arith}
use Rattle.tv_hart.specs.declared.Did.TheVariants as did
use Rattle.tv_hart.specs.Hart.{Outcome, stepped, with_csrs}
use Rattle.tv_hart.specs.HartState.{HartState}
use Rattle.tv_hart.specs.Plain.{IsPlainEvent, RestsOf}
use Rattle.tv_spec.specs.declared.Shown.TheVariants as shown
use Rattle.tv_spec.specs.Local.{local_meaning}
use Rattle.tv_spec.specs.LocalState.{lines_of}
use Rattle.tv_spec.specs.Reach.{Reach}
use Rattle.tv_trap.specs.CsrState.{CsrState}
use Rattle.tv_trap.specs.Traps.{counted_by, pending_interrupt}
use Rattle.tv_trap.proofs.Counts.{IsCountOf, counts}
use Rattle.tv_guest.specs.Row.{IsCalm, IsCalmEvent, IsRow}
use Rattle.tv_guest.proofs.Bursts.{IsAlong, along_more}

-- so many plain events that are not counted are so many events, once they are counted
pub record IsUncounted (lines : ℕ) (first : HartState) (reach : Reach) (n : ℕ) (here : HartState) (now : Reach) : Type 0 where
  pub row : IsRow lines first reach n (with_csrs here (counted_by first.csrs n)) now
  pub csrs : here.csrs ≡ first.csrs
  pub waits : here.waits ≡ first.waits

pub uncounted_start : (lines : ℕ) (first : HartState) (reach : Reach) → IsUncounted lines first reach zero first reach
uncounted_start lines first reach = record { row = (refl, refl); csrs = refl; waits = refl }

pub uncounted_more : (lines : ℕ) (first here later : HartState) (reach now place : Reach) (n : ℕ) → pending_interrupt first.csrs lines ≡ None → IsUncounted lines first reach n here now
    → IsPlainEvent local_meaning here now later place → RestsOf here later → IsCalm now place → IsUncounted lines first reach (suc n) later place
uncounted_more lines first here later reach now place n none along event rests calm =
    let c : IsCountOf first.csrs (counted_by first.csrs n) = counts first.csrs n in
    let same : (counted_by first.csrs n).hart ≡ here.csrs.hart = c.hart ∙ ap (λ (s : CsrState). s.hart) (sym along.csrs) in
    record {
      row = (
        with_csrs here (counted_by first.csrs n),
        now,
        along.row,
        record {
          event = event (counted_by first.csrs n) lines same (c.pending lines ∙ none);
          calm = calm;
          waits = rests.waits;
        },
      );
      csrs = rests.csrs ∙ along.csrs;
      waits = rests.waits ∙ along.waits;
    }

-- in a row the lines stay as they are
row_lines : (hart lines : ℕ) (first here : HartState) (reach now : Reach) (n : ℕ) → IsRow lines first reach n here now → lines_of now.local hart ≡ lines_of reach.local hart
row_lines hart lines first here reach now zero row = ap (λ (p : Reach). lines_of p.local hart) row.1
row_lines hart lines first here reach now (suc n) row =
    ap (λ (p : Reach). lines_of p.local hart) row.3.calm ∙ row_lines hart lines first row.0 reach row.1 n row.2

-- a burst goes on by a row
pub along_row : (hart : ℕ) (first here later : HartState) (reach now place : Reach) (most count n : ℕ) → IsAlong hart first here reach now most count
    → IsRow (lines_of now.local hart) here now n later place → count + n ≤ most → IsAlong hart first later reach place most (count + n)
along_row hart first here later reach now place most count zero along row few =
    let none : count ≡ count + zero = omega arith in
    let at_here : IsAlong hart first here reach now most (count + zero) = subst (λ (k : ℕ). IsAlong hart first here reach now most k) none along in
    let at_later : IsAlong hart first later reach now most (count + zero) = subst (λ (h : HartState). IsAlong hart first h reach now most (count + zero)) (sym row.0) at_here in
    subst (λ (p : Reach). IsAlong hart first later reach p most (count + zero)) (sym row.1) at_later
along_row hart first here later reach now place most count (suc n) along row few =
    let h : HartState = row.0 in
    let p : Reach = row.1 in
    let e : IsCalmEvent (lines_of now.local hart) h p later place = row.3 in
    let before : IsAlong hart first h reach p most (count + n) = along_row hart first here h reach now p most count n along row.2 (omega (arith, few)) in
    let quiet : place.shown ≡ shown.Nothing = ap (λ (r : Reach). r.shown) e.calm ∙ before.quiet in
    let lines_are : lines_of now.local hart ≡ lines_of p.local hart = sym (row_lines hart (lines_of now.local hart) here h now p n row.2) in
    let next : count + n + 1 ≡ count + suc n = omega arith in
    let some : did.Retired ≢ did.Full = λ is. cc in
    let more : IsAlong hart first later reach place most (count + n + 1) = record {
      burst = λ setup s at. along_more hart first h later reach p p place (record place { shown = shown.Nothing }) most (count + n) (lines_of now.local hart) did.Retired shown.Nothing before
          (omega (arith, few)) lines_are refl some (sym e.event) (sym quiet) refl setup s at;
      ready = e.waits ∙ before.ready;
      quiet = quiet;
      gate = ap (λ (r : Reach). r.closed) e.calm ∙ before.gate;
      same = λ none. absurd (omega (arith, none));
    } in
    subst (λ (k : ℕ). IsAlong hart first later reach place most k) next more

-- the same, as the code comes to the row
pub along_quiet : (hart : ℕ) (first here later : HartState) (reach now asked place : Reach) (most count n lines : ℕ) → IsAlong hart first here reach now most count
    → lines ≡ lines_of now.local hart → asked ≡ now → IsRow lines here asked n later place → count + n ≤ most → IsAlong hart first later reach place most (count + n)
along_quiet hart first here later reach now asked place most count n lines along lines_are asked_is row few =
    let at : IsRow lines here now n later place = subst (λ (p : Reach). IsRow lines here p n later place) asked_is row in
    along_row hart first here later reach now place most count n along (subst (λ (l : ℕ). IsRow l here now n later place) lines_are at) few

-- the lines are up after it
pub lines_after : (hart lines : ℕ) (here later : HartState) (now asked place : Reach) (n : ℕ) → lines ≡ lines_of now.local hart → asked ≡ now
    → IsRow lines here asked n later place → lines ≡ lines_of place.local hart
lines_after hart lines here later now asked place n lines_are asked_is row =
    lines_are ∙ ap (λ (p : Reach). lines_of p.local hart) (sym asked_is) ∙ sym (row_lines hart lines here later asked place n row)

-- what stays as it was is as far
pub along_kept : (hart : ℕ) (first here later : HartState) (reach now place : Reach) (most count : ℕ) → IsAlong hart first here reach now most count
    → later ≡ here → place ≡ now → IsAlong hart first later reach place most count
along_kept hart first here later reach now place most count along later_is place_is =
    subst (λ (h : HartState). IsAlong hart first h reach place most count) (sym later_is)
    (subst (λ (p : Reach). IsAlong hart first here reach p most count) (sym place_is) along)

-- an event that needs what is closed would need it again
pub full_again : (hart lines : ℕ) (here later : HartState) (now place : Reach) → lines ≡ lines_of now.local hart → later ≡ here → place ≡ now
    → ◌≡◌ {A = Outcome Reach} (did.Full, later, place) (stepped local_meaning here now lines)
    → (stepped local_meaning later place (lines_of place.local hart)).0 ≡ did.Full
full_again hart lines here later now place lines_are later_is place_is event =
    let up : lines_of place.local hart ≡ lines = ap (λ (p : Reach). lines_of p.local hart) place_is ∙ sym lines_are in
    let again : stepped local_meaning later place (lines_of place.local hart) ≡ stepped local_meaning here now lines =
    λ i. stepped local_meaning (later_is i) (place_is i) (up i) in
    ap (λ (o : Outcome Reach). o.0) (again ∙ sym event)
