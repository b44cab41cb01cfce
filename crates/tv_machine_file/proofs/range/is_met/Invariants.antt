use Rattle.std.proofs.Common.{◌≡◌, drop}
use Rattle.tv_machine_file.specs.DeviceFiles.{meets_any}
use Rattle.tv_machine_file.proofs.range.is_met.Given as goal

abbrev pub invariant-loop-range : goal.invariant-loop-range
invariant-loop-range l = meets_any l.base l.len l.earlier ≡ meets_any l.base l.len (drop l.range-index l.earlier)
