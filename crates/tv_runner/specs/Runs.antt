-- A run on one thread, and what it came to.
use Rattle.std.specs.Prelude.{◌≡◌, ℕ, suc, ◌++◌, List, length, Option, Some, None, IfNone, is_some, Bool, true, false, map}
use Rattle.tv_base.specs.declared.Why.{Why}
use Rattle.tv_base.specs.declared.Why.TheVariants as why
use Rattle.tv_journal.specs.declared.Entry.{Entry}
use Rattle.tv_machine.specs.declared.machine.Machine.{Machine}
use Rattle.tv_out.specs.Faults.{Rose}
use Rattle.tv_out.specs.Told.{ToldSink, appended, IsAllOut, IsCut}
use Rattle.tv_spec.specs.declared.Stop.{Stop}
use Rattle.tv_spec.specs.declared.Stop.TheVariants as stop
use Rattle.tv_spec.specs.Legal.{IsLegalRun, with_outer}
use Rattle.tv_spec.specs.Setup.{setup_of}
use Rattle.tv_spec.specs.Shows.{debug_bytes, cause_of_end}
use Rattle.tv_spec.specs.Solo.{Solo, Going, rounds, answers_in, solo_rounds, solo_run, outer_of_stop}
use Rattle.tv_spec.specs.State.{first_state}
use Rattle.tv_spec.specs.Step.{made}
use Rattle.tv_runner.specs.declared.run.Ran.{Ran}
use Rattle.tv_runner.specs.Parts.{Part}

-- bytes of the last of some rounds were lost: those of the rounds before went out, and a front of its own
pub record IsLostIn (before bytes : List ℕ) (old new : ToldSink) : Type 0 where
  pub last : List ℕ
  pub parts : bytes ≡ before ++ last
  pub cut : IsCut last (appended old.bytes before) new.bytes
  pub fault : Rose old.faults new.faults

-- all bytes went out, or some of the last round were lost
abbrev pub IsPut : Bool → List ℕ → List ℕ → ToldSink → ToldSink → Type 0
IsPut true before bytes old new = IsLostIn before bytes old new
IsPut false before bytes old new = IsAllOut bytes old new

-- so many rounds of the schedule
abbrev pub rounds_of : ℕ → Part
rounds_of n setup bounds solo = rounds setup bounds n solo

-- the outer end: that of the stop, or that bytes were lost in a run that had not stopped
abbrev pub outer_by : List Entry → Option Stop → Option (ℕ × Why)
outer_by entries None = Some (length entries, why.DebugLost)
outer_by entries (Some stopped) = outer_of_stop entries stopped

-- the cause for which a run ended
abbrev pub cause_by : Option Stop → Why
cause_by None = why.DebugLost
cause_by (Some (stop.Ended cause)) = cause
cause_by (Some stop.Full) = why.Full

-- a run of a machine with an image: so many rounds of the schedule with the replies from outside that its entries have, which are
-- all of it where it stopped; and where it did not stop, bytes were lost
pub record IsRun (machine : Machine) (image : List ℕ) (ran : Ran) (old new : ToldSink) : Type 0 where
  pub earlier : ℕ
  pub middle : Solo
  pub solo : Solo
  pub before : ◌≡◌ {A = Going} (solo_rounds machine image (answers_in ran.journal.entries) earlier) (middle, None)
  pub rounds : ◌≡◌ {A = Going} (solo_rounds machine image (answers_in ran.journal.entries) (suc earlier)) (solo, ran.stop)
  pub whole : is_some ran.stop ≡ true → ◌≡◌ {A = Going} (solo_run machine image (answers_in ran.journal.entries)) (solo, ran.stop)
  pub stopped : IfNone ran.stop (ran.lost ≡ true)
  pub entries : ran.journal.entries ≡ solo.entries
  pub outer : ran.journal.outer ≡ outer_by solo.entries ran.stop
  pub legal : IsLegalRun machine image ran.journal.entries ran.journal.outer
  pub bytes : solo.bytes ≡ debug_bytes (setup_of machine) (first_state machine image) (map made solo.entries)
  pub cause : cause_of_end (setup_of machine) (first_state machine image) (with_outer ran.journal.entries ran.journal.outer) ≡ Some (cause_by ran.stop)
  pub put : IsPut ran.lost middle.bytes solo.bytes old new
