-- The turns of all devices of a core, one after the other.
use Rattle.std.proofs.Common.{◌≡◌, ◌≢◌, ℕ, suc, ◌+◌, ◌-◌, ◌<◌, ◌≤◌, inl, inr, List, length, Option, Some, None, get_or, refl, ap, sym, ◌∙◌, subst, arith}
use Rattle.std.proofs.Math.ListN.{set}
use Rattle.std.proofs.lemmas.Bool.Decides.{eqb_tells}
use Rattle.std.proofs.lemmas.Grind.{get_or-set_at}
use Rattle.std.proofs.lemmas.List.{get_or-set_other, length-map, length-set}
use Rattle.tv_base.specs.declared.Why.{Why}
use Rattle.tv_items.specs.declared.action.Heard.{Heard}
use Rattle.tv_journal.specs.Entries.{record_count}
use Rattle.tv_machine.specs.declared.machine.Machine.{Machine}
use Rattle.tv_plan.specs.Devices.{DeviceState}
use Rattle.tv_plan.specs.Probe.{ProbeState}
use Rattle.tv_spec.specs.Setup.{Setup, device_setup}
use Rattle.tv_spec.specs.Solo.{Bounds, Going, Solo, device_turns, onward}
use Rattle.tv_spec.specs.State.{DeviceRun}
use Rattle.tv_core.specs.Calls.{why_of}
use Rattle.tv_core.specs.Seen.{HasDevice, Seen, dev_of, setup_by}
use Rattle.tv_runner.specs.Cores.{IsPartOf, bounds_by, solo_of}
use Rattle.tv_runner.specs.Engines.{AreAtRest, AreDevicesDone, AreThrough, all_devices, device_part, devices_from}
use Rattle.tv_runner.specs.Lines.{IsAtRest, IsGoing, IsRested, IsTurned}
use Rattle.tv_runner.proofs.CoreParts.{IsCoreOn, core_end, core_next, core_stop}
use Rattle.tv_runner.proofs.LineParts.{turn_part}
use Rattle.tv_runner.proofs.On.{Splits}

-- 1. The schedule

-- the devices from one on, with one left
devices_split : (slot left after : ℕ) (setup : Setup) (bounds : Bounds) (solo : Solo) → left ≡ suc after
    → ◌≡◌ {A = Going} (devices_from slot left setup bounds solo) (onward (devices_from (suc slot) after setup bounds) (device_part slot setup bounds solo))
unfolding device_turns
devices_split slot left after setup bounds solo is = rw is refl

devices_over : (slot left : ℕ) (setup : Setup) (bounds : Bounds) (solo : Solo) → left ≡ 0 → ◌≡◌ {A = Going} (devices_from slot left setup bounds solo) (solo, None)
unfolding device_turns
devices_over slot left setup bounds solo is = rw is refl

-- 2. The devices before one had their turns

pub record AreServed (old now : Seen) (probes : List ProbeState) (slot : ℕ) : Type 0 where
  pub on : IsCoreOn all_devices (devices_from slot (length old.machine.device - slot)) old now
  pub rest : AreAtRest now probes
  pub through : AreThrough now slot

pub served_first : (p : Seen) (probes : List ProbeState) → IsGoing p → AreAtRest p probes → AreServed p p probes 0
served_first p probes going rest = record {
  on = record {
    machine = refl;
    image = refl;
    handed = refl;
    outer = going.outer;
    runs = going.runs;
    leads = λ (answers : ℕ → List Heard).
        (let count : length (setup_by p).devices ≡ length p.machine.device = length-map p.machine.device device_setup in
        let all : length p.machine.device - 0 ≡ length p.machine.device = omega arith in
        ap (λ (n : ℕ). device_turns (setup_by p) (bounds_by p) 0 n (solo_of p answers)) (all ∙ sym count));
  };
  rest = rest;
  through = λ d below. absurd (omega (arith, below));
}

pub going_now : (old now : Seen) (probes : List ProbeState) (slot : ℕ) → AreServed old now probes slot → IsGoing now
going_now old now probes slot S = record { outer = S.on.outer; runs = S.on.runs }

pub has_slot : (old now : Seen) (probes : List ProbeState) (slot at : ℕ) → AreServed old now probes slot → at ≡ slot → slot < length probes → HasDevice now at
has_slot old now probes slot at S is below = (let count = S.rest.count in omega (arith, count, is, below))

pub rest_slot : (old now : Seen) (probes : List ProbeState) (slot at : ℕ) (element : ProbeState) → AreServed old now probes slot → at ≡ slot → slot < length probes
    → element ≡ get_or probes slot element → IsAtRest (dev_of now at) (DeviceState.Probe element)
rest_slot old now probes slot at element S is below here =
    subst (λ (d : ℕ). IsAtRest (dev_of now d) (DeviceState.Probe element)) (sym is)
    (subst (λ (q : ProbeState). IsAtRest (dev_of now slot) (DeviceState.Probe q)) (sym here) (S.rest.each slot element below))

-- the turn of a device is a part of them
part_slot : (old now new : Seen) (probes : List ProbeState) (slot at : ℕ) (s : DeviceState) → AreServed old now probes slot → at ≡ slot
    → record_count new.entries ≤ new.machine.journal_entries → IsTurned at now new s → IsPartOf (device_part slot) now new
part_slot old now new probes slot at s S is room turned =
    subst (λ (d : ℕ). IsPartOf (device_part d) now new) is
    (turn_part at now new s (going_now old now probes slot S)
    (subst (λ (m : Machine). record_count new.entries ≤ m.journal_entries) turned.on.machine room) turned)

splits_slot : (old : Seen) (slot : ℕ) → slot < length old.machine.device
    → Splits (devices_from slot (length old.machine.device - slot)) (devices_from (suc slot) (length old.machine.device - suc slot)) (device_part slot)
splits_slot old slot below setup bounds solo =
    devices_split slot (length old.machine.device - slot) (length old.machine.device - suc slot) setup bounds solo (omega (arith, below))

below_count : (old now : Seen) (probes : List ProbeState) (slot : ℕ) → AreServed old now probes slot → slot < length probes → slot < length old.machine.device
below_count old now probes slot S below =
    let count = S.rest.count in
    let same : length now.machine.device ≡ length old.machine.device = ap (λ (m : Machine). length m.device) S.on.machine in
    omega (arith, count, same, below)

-- where the run goes on, the next one is due
pub served_more : (old now new : Seen) (probes later : List ProbeState) (slot next at : ℕ) (element : ProbeState) → AreServed old now probes slot → at ≡ slot → next ≡ suc slot → slot < length probes
    → record_count new.entries ≤ new.machine.journal_entries → IsTurned at now new (DeviceState.Probe element) → later ≡ set probes slot element → why_of new ≡ None
    → AreServed old new later next
served_more old now new probes later slot next at element S is next_is below room turned later_is runs =
    subst (λ (qs : List ProbeState). AreServed old new qs next) (sym later_is)
    (subst (λ (n : ℕ). AreServed old new (set probes slot element) n) (sym next_is) (record {
      on = core_next all_devices (devices_from slot (length old.machine.device - slot)) (devices_from (suc slot) (length old.machine.device - suc slot)) (device_part slot) old now new S.on
          (splits_slot old slot (below_count old now probes slot S below)) (part_slot old now new probes slot at (DeviceState.Probe element) S is room turned) runs;
      rest = record {
        count = length-set probes slot element ∙ S.rest.count ∙ sym (ap (λ (m : Machine). length m.device) turned.on.machine);
        each = λ (d : ℕ) (none : ProbeState) (there : d < length (set probes slot element)). each d none (let same = length-set probes slot element in omega (arith, there, same));
      };
      through = λ (d : ℕ) (before : d < suc slot). through d before;
    }))
  where
    rested : IsRested new slot (DeviceState.Probe element)
    rested = subst (λ (d : ℕ). IsRested new d (DeviceState.Probe element)) is (turned.rest runs)

    other : (d : ℕ) → d ≢ slot → dev_of new d ≡ dev_of now d
    other d apart = turned.on.others d (λ same. apart (same ∙ is))

    each : (d : ℕ) (none : ProbeState) → d < length probes → IsAtRest (dev_of new d) (DeviceState.Probe (get_or (set probes slot element) d none))
    each d none there = elim (eqb_tells d slot) [
      | inl e ↦ subst (λ (q : ProbeState). IsAtRest (dev_of new d) (DeviceState.Probe q)) (sym (get_or-set_at probes slot d element none e.1 below))
          (subst (λ (k : ℕ). IsAtRest (dev_of new k) (DeviceState.Probe element)) (sym e.1) rested.rest)
      | inr e ↦ subst (λ (q : ProbeState). IsAtRest (dev_of new d) (DeviceState.Probe q)) (sym (get_or-set_other probes slot d element none e.1))
          (subst (λ (v : DeviceRun). IsAtRest v (DeviceState.Probe (get_or probes d none))) (sym (other d e.1)) (S.rest.each d none there))
    ]

    through : (d : ℕ) → d < suc slot → length (dev_of new d).made ≤ (dev_of new d).acted
    through d before = elim (eqb_tells d slot) [
      | inl e ↦ subst (λ (k : ℕ). length (dev_of new k).made ≤ (dev_of new k).acted) (sym e.1) rested.none
      | inr e ↦ subst (λ (v : DeviceRun). length v.made ≤ v.acted) (sym (other d e.1)) (S.through d (let apart = e.1 in omega (arith, before, apart)))
    ]

-- the run ended in the turn of a device
served_stop : (old now new : Seen) (probes : List ProbeState) (slot at : ℕ) (s : DeviceState) (cause : Why) → AreServed old now probes slot → at ≡ slot → slot < length probes
    → record_count new.entries ≤ new.machine.journal_entries → IsTurned at now new s → why_of new ≡ Some cause → IsPartOf all_devices old new
served_stop old now new probes slot at s cause S is below room turned some =
    core_stop all_devices (devices_from slot (length old.machine.device - slot)) (devices_from (suc slot) (length old.machine.device - suc slot)) (device_part slot) old now new cause S.on
    (splits_slot old slot (below_count old now probes slot S below)) (part_slot old now new probes slot at s S is room turned) some

-- all had theirs
pub served_all : (old now : Seen) (probes : List ProbeState) (slot : ℕ) → AreServed old now probes slot → slot ≡ length probes → IsPartOf all_devices old now × AreDevicesDone now probes
served_all old now probes slot S is =
    let count = S.rest.count in
    let same : length now.machine.device ≡ length old.machine.device = ap (λ (m : Machine). length m.device) S.on.machine in
    let none : length old.machine.device - slot ≡ 0 = omega (arith, count, same, is) in (
      core_end all_devices (devices_from slot (length old.machine.device - slot)) old now S.on
          (λ (setup : Setup) (bounds : Bounds) (solo : Solo). devices_over slot (length old.machine.device - slot) setup bounds solo none),
      record { going = going_now old now probes slot S; devices = record { rest = S.rest; through = subst (AreThrough now) is S.through } },
    )

-- the run ended in the turn of a device, for some cause
pub served_over : (old now new : Seen) (probes : List ProbeState) (slot at : ℕ) (s : DeviceState) → AreServed old now probes slot → at ≡ slot → slot < length probes
    → record_count new.entries ≤ new.machine.journal_entries → IsTurned at now new s → why_of new ≢ None → IsPartOf all_devices old new
served_over old now new probes slot at s S is below room turned over = by_why (why_of new) refl
  where
    by_why : (o : Option Why) → why_of new ≡ o → IsPartOf all_devices old new
    by_why None none = absurd (over none)
    by_why (Some cause) some = served_stop old now new probes slot at s cause S is below room turned some

-- how many devices there are
same_count : (old now : Seen) (first probes : List ProbeState) (slot : ℕ) → AreAtRest old first → AreServed old now probes slot → length probes ≡ length first
same_count old now first probes slot rest S = S.rest.count ∙ ap (λ (m : Machine). length m.device) S.on.machine ∙ sym rest.count

pub slot_below : (old now : Seen) (first probes : List ProbeState) (slot count : ℕ) → AreAtRest old first → AreServed old now probes slot → count ≡ length first → slot < count → slot < length probes
slot_below old now first probes slot count rest S is below = let same = same_count old now first probes slot rest S in omega (arith, same, is, below)

pub slot_end : (old now : Seen) (first probes : List ProbeState) (slot count : ℕ) → AreAtRest old first → AreServed old now probes slot → count ≡ length first → slot ≤ count → count ≤ slot → slot ≡ length probes
slot_end old now first probes slot count rest S is below over = let same = same_count old now first probes slot rest S in omega (arith, same, is, below, over)

pub within_room : (records owes room : ℕ) → records + owes ≤ room → records ≤ room
within_room records owes room all = omega (arith, all)
