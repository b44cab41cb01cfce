use Rattle.std.proofs.Common.{◌≡◌, drop, map}
use Rattle.tv_machine_file.specs.Keys.{is_among}
use Rattle.tv_machine_file.proofs.keys.is_listed.Given as goal

abbrev pub invariant-loop-name : goal.invariant-loop-name
invariant-loop-name l = is_among l.text (map (λ name. name.now) l.names) ≡ is_among l.text (map (λ name. name.now) (drop l.name-index l.names))
