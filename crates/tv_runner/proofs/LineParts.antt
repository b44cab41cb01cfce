-- The turn of a device is that of the schedule.
use Rattle.std.proofs.Common.{◌≡◌, ℕ, zero, suc, ◌+◌, ◌-◌, ◌≤◌, List, Option, Some, None, refl, ap, sym, ◌∙◌, subst, arith}
use Rattle.tv_base.specs.declared.Why.{Why}
use Rattle.tv_items.specs.declared.action.Heard.{Heard}
use Rattle.tv_journal.specs.declared.Entry.{Entry}
use Rattle.tv_journal.specs.Entries.{record_count}
use Rattle.tv_plan.specs.Devices.{DeviceState}
use Rattle.tv_spec.specs.declared.Mode.{Mode}
use Rattle.tv_spec.specs.declared.Stop.{Stop}
use Rattle.tv_spec.specs.Setup.{Setup}
use Rattle.tv_spec.specs.Shows.{cause_in}
use Rattle.tv_spec.specs.Solo.{Bounds, Going, Solo, device_entry, device_step, device_turn, onward}
use Rattle.tv_core.specs.Calls.{why_of}
use Rattle.tv_core.specs.Seen.{Seen, dev_of, setup_by}
use Rattle.tv_runner.specs.Cores.{IsPartOf, bounds_by, solo_of, stop_for, stop_of}
use Rattle.tv_runner.specs.Engines.{device_part}
use Rattle.tv_runner.specs.Lines.{IsGoing, IsRested, IsServedOn, IsTurned, ends_counted, entries_of, going_of}
use Rattle.tv_runner.proofs.CoreParts.{stays}
use Rattle.tv_runner.proofs.CoreTurns.{plain, plain_is}
use Rattle.tv_runner.proofs.DeviceEntries.{next_none}
use Rattle.tv_runner.proofs.LineTurns.{ends_there}

-- a device that has no entry to make makes none
none_left : (d left : ℕ) (setup : Setup) (bounds : Bounds) (solo : Solo) → ◌≡◌ {A = Option Entry} (device_entry d (solo.state.devs d) (solo.answers d)) None
    → ◌≡◌ {A = Going} (entries_of d left setup bounds solo) (solo, None)
unfolding device_turn
none_left d zero setup bounds solo none = refl
none_left d (suc left) setup bounds solo none = ap (device_step setup bounds (device_turn setup bounds d left) solo) none

-- so what is left of its turn comes to nothing
rest_plain : (q : Seen) (d left : ℕ) (answers : ℕ → List Heard) → ((some : List Heard) → device_entry d (dev_of (plain q) d) some ≡ None) → stop_of (plain q) ≡ None
    → ◌≡◌ {A = Going} (onward (entries_of d left (setup_by q) (bounds_by q)) (going_of (plain q) answers)) (going_of (plain q) answers)
rest_plain q d left answers none goes =
    ap (λ (o : Option Stop). onward (entries_of d left (setup_by q) (bounds_by q)) (solo_of (plain q) answers, o)) goes
    ∙ none_left d left (setup_by q) (bounds_by q) (solo_of (plain q) answers) (none (answers d))
    ∙ ap (λ (o : Option Stop). let g : Going = (solo_of (plain q) answers, o) in g) (sym goes)

rest_going : (q : Seen) (d left : ℕ) (s : DeviceState) (answers : ℕ → List Heard) → IsRested q d s
    → ◌≡◌ {A = Going} (onward (entries_of d left (setup_by q) (bounds_by q)) (going_of q answers)) (going_of q answers)
rest_going q d left s answers rested =
    let is = plain_is q rested.going.outer in
    let none : (some : List Heard) → device_entry d (dev_of q d) some ≡ None = λ some. next_none d (dev_of q d) some rested.rest.still rested.rest.over rested.none in
    let goes : stop_of q ≡ None = ap (λ (m : Mode). stop_for (cause_in m)) rested.going.runs in
    subst (λ (p : Seen). ◌≡◌ {A = Going} (onward (entries_of d left (setup_by p) (bounds_by p)) (going_of p answers)) (going_of p answers)) (sym is)
    (rest_plain q d left answers (subst (λ (p : Seen). (some : List Heard) → device_entry d (dev_of p d) some ≡ None) is none) (subst (λ (p : Seen). stop_of p ≡ None) is goes))

-- and a run that stopped stays so
rest_over : (q : Seen) (next : Solo → Going) (cause : Why) (answers : ℕ → List Heard) → why_of q ≡ Some cause → ◌≡◌ {A = Going} (onward next (going_of q answers)) (going_of q answers)
rest_over q next cause answers is =
    subst (λ (o : Option Stop). ◌≡◌ {A = Going} (onward next (solo_of q answers, o)) (solo_of q answers, o)) (sym (ap stop_for is)) (stays next (solo_of q answers) cause)

rest_turned : (old new : Seen) (d left : ℕ) (s : DeviceState) (answers : ℕ → List Heard) → IsTurned d old new s
    → ◌≡◌ {A = Going} (onward (entries_of d left (setup_by new) (bounds_by new)) (going_of new answers)) (going_of new answers)
rest_turned old new d left s answers turned = by_why (why_of new) refl
  where
    by_why : (o : Option Why) → why_of new ≡ o → ◌≡◌ {A = Going} (onward (entries_of d left (setup_by new) (bounds_by new)) (going_of new answers)) (going_of new answers)
    by_why None is = rest_going new d left s answers (turned.rest is)
    by_why (Some cause) is = rest_over new (entries_of d left (setup_by new) (bounds_by new)) cause answers is

one_end : (o : Option Why) → ends_counted o ≤ 1
one_end None = omega arith
one_end (Some cause) = omega arith

-- the turn of a device of a core is that of the schedule
pub turn_part : (d : ℕ) (old new : Seen) (s : DeviceState) → IsGoing old → record_count new.entries ≤ old.machine.journal_entries → IsTurned d old new s → IsPartOf (device_part d) old new
turn_part d old new s going room turned =
    let on : IsServedOn d old new = turned.on in
    let rest : ℕ = suc old.machine.journal_entries - on.made in
    let few = on.few in
    let most = one_end (why_of new) in
    let all : on.made + rest ≡ suc old.machine.journal_entries = omega (arith, few, most, room) in
    let goes : stop_of old ≡ None = ap (λ (m : Mode). stop_for (cause_in m)) going.runs in
    record {
      machine = on.machine;
      image = on.image;
      handed = on.handed;
      made = λ (answers : ℕ → List Heard).
          sym (rest_turned old new d rest s answers turned)
          ∙ ap (λ m. let p : Seen = record old { machine = m } in onward (entries_of d rest (setup_by p) (bounds_by p)) (going_of new answers)) on.machine
          ∙ on.leads answers rest
          ∙ ap (λ (n : ℕ). onward (entries_of d n (setup_by old) (bounds_by old)) (going_of old answers)) all
          ∙ ap (λ (o : Option Stop). onward (entries_of d (suc old.machine.journal_entries) (setup_by old) (bounds_by old)) (solo_of old answers, o)) goes;
      ends = on.ends (ends_there old going);
    }
