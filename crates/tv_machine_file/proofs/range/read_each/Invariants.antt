use Rattle.std.proofs.Common.{◌≡◌, ◌++◌, [], drop}
use Rattle.toml.specs.View.{items_view}
use Rattle.tv_machine_file.specs.DeviceFiles.{each_range_faults, ranges_in}
use Rattle.tv_machine_file.proofs.range.read_each.Given as goal

abbrev pub invariant-loop-place : goal.invariant-loop-place
invariant-loop-place l =
    record {
      faults : each_range_faults l.path l.ram 0 [] (items_view l.items) ≡ each_range_faults l.path l.ram l.place l.ranges (items_view (drop l.place l.items));
      ranges : ranges_in (items_view l.items) ≡ l.ranges ++ ranges_in (items_view (drop l.place l.items));
    }
