-- The parts of a round of a core: the turns of all harts, those of all devices, and a tick.
use Rattle.std.proofs.Common.{◌≡◌, ◌≢◌, ℕ, ◌+◌, ◌<◌, ◌≤◌, Bool, false, List, length, Option, Some, None, refl, sym, subst, arith}
use Rattle.tv_base.specs.declared.Why.{Why}
use Rattle.tv_journal.specs.Entries.{record_count}
use Rattle.tv_machine.specs.Valid.{IsValid}
use Rattle.tv_plan.specs.Probe.{ProbeState}
use Rattle.tv_spec.specs.Legal.{IsLegalRun}
use Rattle.tv_spec.specs.Room.{owed}
use Rattle.tv_spec.specs.Solo.{round, solo_tick}
use Rattle.tv_core.specs.Calls.{TickedSo, why_of}
use Rattle.tv_core.specs.Seen.{Seen, debug_of, state_of}
use Rattle.tv_runner.specs.Cores.{IsPartOf}
use Rattle.tv_runner.specs.Engines.{AreDevicesDone, AreDone, AreTurnsDone, IsRoundDone, all_devices}
use Rattle.tv_runner.specs.Lines.{IsGoing}
use Rattle.tv_runner.specs.Parts.{all_turns}
use Rattle.tv_runner.proofs.AtRest.{done_tick}
use Rattle.tv_runner.proofs.CoreParts.{IsCoreOn, no_outer, runs_by, tick_is}
use Rattle.tv_runner.proofs.CoreRounds.{devices_on, devices_stop, round_is, round_on, round_stop}
use Rattle.tv_runner.proofs.Silent.{silent_devices, silent_events, silent_part, silent_tick, unticked_devices}

pub valid_on : (old new : Seen) → IsPartOf all_turns old new → IsValid old.machine → IsValid new.machine
valid_on old new is valid = subst IsValid (sym is.machine) valid

-- 1. The run ended in the turns of harts or of devices

pub over_turns : (old new : Seen) → IsGoing old → IsPartOf all_turns old new → why_of new ≢ None → IsPartOf round old new
over_turns old new going is over = by_why (why_of new) refl
  where
    by_why : (o : Option Why) → why_of new ≡ o → IsPartOf round old new
    by_why None none = absurd (over none)
    by_why (Some cause) some = round_stop old new cause going.outer going.runs is some

pub over_devices : (old mid new : Seen) → IsGoing old → IsPartOf all_turns old mid → why_of mid ≡ None → IsPartOf all_devices mid new → why_of new ≢ None → IsPartOf round old new
over_devices old mid new going turns goes is over = by_why (why_of new) refl
  where
    by_why : (o : Option Why) → why_of new ≡ o → IsPartOf round old new
    by_why None none = absurd (over none)
    by_why (Some cause) some = devices_stop old mid new cause (round_on old mid going.outer going.runs turns goes) is some

-- bytes behind the turns of devices
pub devices_bytes : (old mid new : Seen) → IsPartOf all_turns old mid → why_of mid ≡ None → length (debug_of mid) ≤ length (debug_of old) + 512 → IsPartOf all_devices mid new
    → length (debug_of new) ≤ length (debug_of old) + 512
devices_bytes old mid new turns goes before is =
    subst (λ (xs : List ℕ). length xs ≤ length (debug_of old) + 512) (sym (silent_part all_devices mid new (no_outer all_turns old mid turns goes) silent_devices is)) before

-- 2. A tick

pub record IsAtTick (old late : Seen) (probes : List ProbeState) : Type 0 where
  pub on : IsCoreOn round solo_tick old late
  pub unticked : (state_of late).ticked ≡ false
  pub events : (state_of old).events < (state_of late).events
  pub bytes : length (debug_of late) ≤ length (debug_of old) + 512
  pub devices : AreDone late probes

pub at_tick : (old mid late : Seen) (before probes : List ProbeState) → IsGoing old → IsPartOf all_turns old mid → length (debug_of mid) ≤ length (debug_of old) + 512 → why_of mid ≡ None → AreTurnsDone old mid before
    → IsPartOf all_devices mid late → why_of late ≡ None → AreDevicesDone late probes → IsAtTick old late probes
at_tick old mid late before probes going turns few goes done is on devices =
    let same = silent_events all_devices mid late done.going.outer devices.going.outer silent_devices is in
    let some = done.events.events in
    record {
      on = devices_on old mid late (round_on old mid going.outer going.runs turns goes) is on;
      unticked = unticked_devices mid late done.going.outer devices.going.outer is done.events.unticked;
      events = omega (arith, same, some);
      bytes = devices_bytes old mid late turns goes few is;
      devices = devices.devices;
    }

tick_part : (old late new : Seen) (probes : List ProbeState) (result : Bool) → IsAtTick old late probes → IsLegalRun new.machine new.image new.entries new.outer
    → record_count new.entries + owed (state_of new) ≤ new.machine.journal_entries → TickedSo late new 64 result → IsPartOf solo_tick late new
tick_part old late new probes result at run room T = tick_is late new result at.on.outer at.on.runs at.unticked (record { legal = run; room = room }) T

pub round_made : (old late new : Seen) (probes : List ProbeState) (result : Bool) → IsAtTick old late probes → IsLegalRun new.machine new.image new.entries new.outer
    → record_count new.entries + owed (state_of new) ≤ new.machine.journal_entries → TickedSo late new 64 result → IsPartOf round old new
round_made old late new probes result at run room T = round_is old late new at.on (tick_part old late new probes result at run room T)

pub round_bytes : (old late new : Seen) (probes : List ProbeState) (result : Bool) → IsAtTick old late probes → IsLegalRun new.machine new.image new.entries new.outer
    → record_count new.entries + owed (state_of new) ≤ new.machine.journal_entries → TickedSo late new 64 result → length (debug_of new) ≤ length (debug_of old) + 512
round_bytes old late new probes result at run room T =
    subst (λ (xs : List ℕ). length xs ≤ length (debug_of old) + 512) (sym (silent_part solo_tick late new at.on.outer silent_tick (tick_part old late new probes result at run room T))) at.bytes

pub round_done : (old late new : Seen) (probes : List ProbeState) (result : Bool) → IsAtTick old late probes → IsLegalRun new.machine new.image new.entries new.outer
    → record_count new.entries + owed (state_of new) ≤ new.machine.journal_entries → TickedSo late new 64 result → why_of new ≡ None → IsRoundDone old new probes
round_done old late new probes result at run room T none =
    let is = tick_part old late new probes result at run room T in
    let outer = no_outer solo_tick late new is none in
    let same = silent_events solo_tick late new at.on.outer outer silent_tick is in
    let some = at.events in
    record {
      going = record { outer = outer; runs = runs_by new none };
      events = omega (arith, same, some);
      devices = done_tick late new probes result at.on.outer at.on.runs at.unticked is.machine T none at.devices;
    }
