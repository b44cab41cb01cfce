use Rattle.std.proofs.Common.{◌≡◌, drop}
use Rattle.tv_machine_file.specs.Keys.{is_among}
use Rattle.tv_machine_file.proofs.control.is_in_names.Given as goal

abbrev pub invariant-loop-name : goal.invariant-loop-name
invariant-loop-name l = is_among l.text l.names ≡ is_among l.text (drop l.name-index l.names)
