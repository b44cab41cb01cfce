-- What each state of a legal run of a valid machine has.
use Rattle.std.proofs.Common.{ℕ, suc, zero, ◌-◌, ◌/◌, ◌^◌, ◌<◌, ◌≤◌, List, [], ◌∷◌, map, length, length-append, false, refl, arith}
use Rattle.std.specs.List.{All}
use Rattle.std.proofs.lemmas.List.{length-replicate, length-map}
use Rattle.tv_base.specs.declared.limits.TheConstants.{PAGE_BYTES}
use Rattle.tv_machine.specs.declared.kinds.DeviceSpec.{DeviceSpec}
use Rattle.tv_machine.specs.declared.machine.Machine.{Machine}
use Rattle.tv_machine.specs.Valid.{IsValid, IsValidDevice}
use Rattle.tv_ram.proofs.Inside.{length_zeros}
use Rattle.tv_spec.specs.Legal.{after, IsLegal}
use Rattle.tv_spec.specs.Services.{AreServing}
use Rattle.tv_spec.specs.Setup.{Setup, device_setup, setup_of}
use Rattle.tv_spec.specs.Sound.{Sound}
use Rattle.tv_spec.specs.State.{State, first_state}
use Rattle.tv_spec.specs.Step.{Move, Can, done}
use Rattle.tv_spec.proofs.Ahead.{AreAhead, ahead_done, ahead_first}
use Rattle.tv_spec.proofs.Bound.{IsBounded, bounded_done}
use Rattle.tv_spec.proofs.Granted.{replies_fit}
use Rattle.tv_spec.proofs.Kept.{sound_done, sound_first}
use Rattle.tv_spec.proofs.Owed.{IsSmall}
use Rattle.tv_spec.proofs.Serving.{RepliesFit, serving_done}
use Rattle.tv_spec.proofs.Whole.{AreInRam, IsWhole, whole_done}

pub record HasRun (setup : Setup) (bytes pages : ℕ) (s : State) : Type 0 where
  pub sound : Sound setup s
  pub whole : IsWhole setup bytes pages s
  pub bounded : IsBounded setup s
  pub serving : AreServing s.devs
  pub ahead : AreAhead s.harts s.pending s.devs

pub run_done : (setup : Setup) (bytes pages : ℕ) (s : State) (move : Move) → AreInRam bytes setup.devices → Can setup s move → HasRun setup bytes pages s
    → HasRun setup bytes pages (done setup s move)
run_done setup bytes pages s move within can run =
    let fit : RepliesFit setup s = replies_fit setup s (λ d. rw run.whole.ram (within d)) in
    record {
      sound = sound_done setup s move can run.sound;
      whole = whole_done setup bytes pages s move within can run.whole;
      bounded = bounded_done setup s move can run.bounded;
      serving = serving_done setup s move fit can run.serving;
      ahead = ahead_done setup s move can run.sound run.ahead;
    }

pub run_from : (setup : Setup) (bytes pages : ℕ) (s : State) (moves : List Move) → AreInRam bytes setup.devices → IsLegal setup s moves → HasRun setup bytes pages s
    → HasRun setup bytes pages (after setup s moves)
run_from setup bytes pages s [] within legal run = run
run_from setup bytes pages s (move ∷ moves) within legal run =
    run_from setup bytes pages (done setup s move) moves within legal.1 (run_done setup bytes pages s move within legal.0 run)

-- a valid machine's devices have their ranges in memory
ranges_in_ram : (ram : ℕ) (devices : List DeviceSpec) → All (IsValidDevice ram) devices → AreInRam ram (map device_setup devices)
ranges_in_ram ram [] valid slot = λ k range below. absurd (omega arith)
ranges_in_ram ram (d ∷ devices) valid zero = (valid 0 d (omega arith)).in_ram
ranges_in_ram ram (d ∷ devices) valid (suc slot) = ranges_in_ram ram devices (λ k other below. valid (suc k) other (omega arith)) slot

pub valid_ranges : (machine : Machine) → IsValid machine → AreInRam machine.ram (setup_of machine).devices
valid_ranges machine valid = ranges_in_ram machine.ram machine.device valid.devices

pub valid_small : (machine : Machine) → IsValid machine → IsSmall (setup_of machine)
valid_small machine valid = record {
  harts = let h = valid.harts.1 in omega (arith, h);
  devices = rw length-map (let h = valid.slots in omega (arith, h));
}

pub run_first : (machine : Machine) (image : List ℕ) → IsValid machine → length image ≤ machine.ram
    → HasRun (setup_of machine) machine.ram (machine.ram / PAGE_BYTES) (first_state machine image)
run_first machine image valid fits = record {
  sound = sound_first machine image;
  whole = record {
    ram = let rest = length_zeros (machine.ram - length image) in rw (length-append, rest) (omega arith);
    count = rw length-map refl;
    withdrawn = length-replicate (machine.ram / PAGE_BYTES) false;
  };
  bounded = record {
    items = λ d. omega arith;
    events = omega arith;
    below = λ _. let some = valid.steps.0 in omega (arith, some);
  };
  serving = λ d. record { heard = tt; way = tt };
  ahead = ahead_first machine image;
}

-- each state of a legal run
pub valid_run : (machine : Machine) (image : List ℕ) (moves : List Move) → IsValid machine → length image ≤ machine.ram
    → IsLegal (setup_of machine) (first_state machine image) moves
    → HasRun (setup_of machine) machine.ram (machine.ram / PAGE_BYTES) (after (setup_of machine) (first_state machine image) moves)
valid_run machine image moves valid fits legal =
    run_from (setup_of machine) machine.ram (machine.ram / PAGE_BYTES) (first_state machine image) moves (valid_ranges machine valid) legal (run_first machine image valid fits)

-- so the tag of each item is below 2^32
pub valid_tags : (machine : Machine) (s : State) (d : ℕ) → IsValid machine → IsBounded (setup_of machine) s → length (s.devs d).made < 2 ^ 32
valid_tags machine s d valid b =
    let items = b.items d in let events = b.events in let most = valid.steps.1 in omega (arith, items, events, most)
