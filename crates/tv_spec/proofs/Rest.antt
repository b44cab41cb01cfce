-- What moves of devices leave as it is.
use Rattle.std.proofs.Common.{◌≡◌, ℕ, List, [], ◌∷◌, Option, Some, None, refl}
use Rattle.tv_plan.specs.Devices.{DeviceState}
use Rattle.tv_script.specs.Services.{Next, Asks, Rests, Loses}
use Rattle.tv_spec.specs.declared.Shown.{Shown}
use Rattle.tv_spec.specs.declared.Shown.TheVariants as shown
use Rattle.tv_spec.specs.Devices.{answers_of, due_for, act_on}
use Rattle.tv_spec.specs.Setup.{Setup}
use Rattle.tv_spec.specs.declared.Made.{Made}
use Rattle.tv_spec.specs.declared.Maker.{Maker}
use Rattle.tv_spec.specs.declared.Answer.{Answer}
use Rattle.tv_spec.specs.declared.Due.{Due}
use Rattle.tv_spec.specs.State.{State}
use Rattle.tv_spec.specs.Step.{issued, landed, noted, reached, served, took}

-- a state that differs in its harts and devices alone
pub record IsBeside (s t : State) : Type 0 where
  pub mode_is : t.mode ≡ s.mode
  pub events_are : t.events ≡ s.events
  pub local_is : t.local ≡ s.local
  pub withdrawn_is : t.withdrawn ≡ s.withdrawn

pub beside_reached : (s : State) (ws : List Due) → IsBeside s (reached s ws)
beside_reached s [] = record { mode_is = refl; events_are = refl; local_is = refl; withdrawn_is = refl }
beside_reached s (w ∷ ws) = by_maker w.maker w.answer
  where
    by_maker : (maker : Maker) (answer : Answer) → IsBeside s (reached s (record { tag = w.tag; maker = maker; answer = answer } ∷ ws))
    by_maker (Maker.Line c) answer = record { mode_is = refl; events_are = refl; local_is = refl; withdrawn_is = refl }
    by_maker (Maker.Hart h) (Answer.Value v) = record { mode_is = refl; events_are = refl; local_is = refl; withdrawn_is = refl }
    by_maker (Maker.Hart h) (Answer.Verdict v) = record { mode_is = refl; events_are = refl; local_is = refl; withdrawn_is = refl }

pub beside_took : (s : State) (d : ℕ) (m : Option Made) → IsBeside s (took s d m)
beside_took s d None = record { mode_is = refl; events_are = refl; local_is = refl; withdrawn_is = refl }
beside_took s d (Some m) =
    let r = beside_reached s (due_for (s.devs d).acted m.maker (answers_of m.item (act_on (s.devs d) m))) in
    record { mode_is = r.mode_is; events_are = r.events_are; local_is = r.local_is; withdrawn_is = r.withdrawn_is }

-- what a service does may change memory, and leaves the mode and the number of events
pub mode_served : (setup : Setup) (s : State) (d : ℕ) (n : Next DeviceState) → (served setup s d n).mode ≡ s.mode
mode_served setup s d (Asks action) = refl
mode_served setup s d (Rests state) = refl
mode_served setup s d (Loses state) = refl

pub events_served : (setup : Setup) (s : State) (d : ℕ) (n : Next DeviceState) → (served setup s d n).events ≡ s.events
events_served setup s d (Asks action) = refl
events_served setup s d (Rests state) = refl
events_served setup s d (Loses state) = refl

pub beside_noted : (s : State) (d : ℕ) (ws : List Due) → IsBeside s (noted s d ws)
beside_noted s d [] = record { mode_is = refl; events_are = refl; local_is = refl; withdrawn_is = refl }
beside_noted s d (w ∷ ws) = by_maker w.maker
  where
    by_maker : (maker : Maker) → IsBeside s (noted s d (record { tag = w.tag; maker = maker; answer = w.answer } ∷ ws))
    by_maker (Maker.Hart h) = record { mode_is = refl; events_are = refl; local_is = refl; withdrawn_is = refl }
    by_maker (Maker.Line c) = record { mode_is = refl; events_are = refl; local_is = refl; withdrawn_is = refl }

pub beside_landed : (s : State) (d : ℕ) (ws : List Due) → IsBeside s (landed s d ws)
beside_landed s d [] = record { mode_is = refl; events_are = refl; local_is = refl; withdrawn_is = refl }
beside_landed s d (w ∷ ws) = by_maker w.maker
  where
    by_maker : (maker : Maker) → IsBeside s (landed s d (record { tag = w.tag; maker = maker; answer = w.answer } ∷ ws))
    by_maker (Maker.Hart h) = record { mode_is = refl; events_are = refl; local_is = refl; withdrawn_is = refl }
    by_maker (Maker.Line c) = record { mode_is = refl; events_are = refl; local_is = refl; withdrawn_is = refl }

pub beside_issued : (hart : ℕ) (seen : Shown) (s : State) → IsBeside s (issued hart seen s)
beside_issued hart shown.Nothing s = record { mode_is = refl; events_are = refl; local_is = refl; withdrawn_is = refl }
beside_issued hart (shown.Byte byte) s = record { mode_is = refl; events_are = refl; local_is = refl; withdrawn_is = refl }
beside_issued hart (shown.Finish finish) s = record { mode_is = refl; events_are = refl; local_is = refl; withdrawn_is = refl }
beside_issued hart (shown.Access d access) s = record { mode_is = refl; events_are = refl; local_is = refl; withdrawn_is = refl }
