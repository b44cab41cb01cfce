-- Parts of the schedule.
use Rattle.std.specs.Prelude.{ℕ}
use Rattle.tv_spec.specs.Setup.{Setup}
use Rattle.tv_spec.specs.Solo.{Bounds, Solo, Going, turn, turns}

abbrev pub Part : Type 0
Part = Setup → Bounds → Solo → Going

-- up to so many events of a hart; and the turns of all harts
abbrev pub turn_of : ℕ → ℕ → Part
turn_of hart left setup bounds solo = turn setup bounds hart left solo

abbrev pub all_turns : Part
all_turns setup bounds solo = turns setup bounds 0 setup.harts solo
