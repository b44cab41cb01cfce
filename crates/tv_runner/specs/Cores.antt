-- A run of the schedule that a core is, and what it means that a call carried out a part of the schedule.
use Rattle.std.specs.Prelude.{◌≡◌, ℕ, List, map, length, Option, Some, None}
use Rattle.tv_base.specs.declared.Why.{Why}
use Rattle.tv_base.specs.declared.Why.TheVariants as why
use Rattle.tv_core.specs.Seen.{Seen, first_by, setup_by, state_of}
use Rattle.tv_items.specs.declared.action.Heard.{Heard}
use Rattle.tv_spec.specs.declared.Stop.{Stop}
use Rattle.tv_spec.specs.declared.Stop.TheVariants as stop
use Rattle.tv_spec.specs.Legal.{after}
use Rattle.tv_spec.specs.Shows.{cause_in, debug_bytes}
use Rattle.tv_spec.specs.Solo.{Bounds, Going, Solo, bounds_of}
use Rattle.tv_spec.specs.Step.{made}
use Rattle.tv_runner.specs.Parts.{Part}

-- the run so far, with the replies from outside that are still to come. An outer end is left out of it: the stop tells that
abbrev pub solo_of : Seen → (ℕ → List Heard) → Solo
solo_of p answers = record {
  state = after (setup_by p) (first_by p) (map made p.entries);
  entries = p.entries;
  bytes = debug_bytes (setup_by p) (first_by p) (map made p.entries);
  answers = answers;
}

abbrev pub bounds_by : Seen → Bounds
bounds_by p = bounds_of p.machine

-- how it stopped, if it did
abbrev pub stop_for : Option Why → Option Stop
stop_for None = None
stop_for (Some why.Full) = Some stop.Full
stop_for (Some cause) = Some (stop.Ended cause)

abbrev pub stop_of : Seen → Option Stop
stop_of p = stop_for (cause_in (state_of p).mode)

-- where it goes on there is no outer end; one that is full has its end behind all entries, and any other stop is an entry's
abbrev pub EndsBy : Option Stop → Seen → Type 0
EndsBy (Some stop.Full) p = p.outer ≡ Some (length p.entries, why.Full)
EndsBy _ p = p.outer ≡ None

-- a part of the schedule was carried out, and it stopped so or goes on
pub record IsPartOf (part : Part) (old new : Seen) : Type 0 where
  pub machine : new.machine ≡ old.machine
  pub image : new.image ≡ old.image
  pub handed : new.handed ≡ old.handed
  pub made : (answers : ℕ → List Heard) → ◌≡◌ {A = Going} (solo_of new answers, stop_of new) (part (setup_by old) (bounds_by old) (solo_of old answers))
  pub ends : EndsBy (stop_of new) new

-- a part of the schedule was carried out, whatever was handed out meanwhile
pub record IsRunTo (part : Part) (old new : Seen) : Type 0 where
  pub machine : new.machine ≡ old.machine
  pub image : new.image ≡ old.image
  pub made : (answers : ℕ → List Heard) → ◌≡◌ {A = Going} (solo_of new answers, stop_of new) (part (setup_by old) (bounds_by old) (solo_of old answers))
  pub ends : EndsBy (stop_of new) new
