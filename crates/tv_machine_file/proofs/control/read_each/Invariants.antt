use Rattle.std.proofs.Common.{◌≡◌, ◌++◌, [], codes, drop}
use Rattle.toml.specs.View.{items_view}
use Rattle.tv_machine_file.specs.MachineFiles.{socket_faults, texts_in}
use Rattle.tv_machine_file.proofs.control.read_each.Given as goal

abbrev pub invariant-loop-place : goal.invariant-loop-place
invariant-loop-place l =
    record {
      faults : socket_faults (codes "control") 0 [] (items_view l.items) ≡ socket_faults (codes "control") l.place l.names (items_view (drop l.place l.items));
      texts : texts_in (items_view l.items) ≡ l.names ++ texts_in (items_view (drop l.place l.items));
    }
