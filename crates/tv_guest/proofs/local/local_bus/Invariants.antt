use Rattle.std.proofs.Common.{◌≡◌, ◌++◌}
use Rattle.tv_spec.specs.Local.{device_ranges, port_ranges}
use Rattle.tv_guest.proofs.local.local_bus.Given as goal

-- the devices so far
abbrev pub invariant-loop-number : goal.invariant-loop-number
invariant-loop-number l = l.bus ≡ port_ranges ++ device_ranges l.number
