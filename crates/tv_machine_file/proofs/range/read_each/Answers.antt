use Rattle.std.proofs.Common.{rules, ◌<◌, [], length, subst, sym}
use Rattle.toml.specs.Data.{as_table}
use Rattle.toml.specs.View.{items_view, view}
use Rattle.tv_machine_file.specs.DeviceFiles.{each_range_faults, range_faults}
use Rattle.tv_machine_file.specs.Keys.{Tells, member_path}
use Rattle.tv_machine_file.proofs.Members.{range_tells}
use Rattle.tv_machine_file.proofs.range.read_each.Goals as goal

pub returns-in_err-range-clause-fault : goal.returns-in_err-range-clause-fault
returns-in_err-range-clause-fault c =
    let below : c.loop-place.place < length c.args.items.now = search rules in
    let here : Tells (range_faults (member_path c.args.path.now c.loop-place.place) c.args.ram c.loop-place.ranges (as_table (view c.index-items-place.result))) c.in_err-range.field-0.0 = search rules in
    let all : Tells (each_range_faults c.args.path.now c.args.ram 0 [] (items_view c.args.items.now)) c.in_err-range.field-0.0 =
    subst (λ faults. Tells faults c.in_err-range.field-0.0) (sym c.loop-place.invariant.faults)
    (range_tells c.args.path.now c.args.ram c.loop-place.place c.loop-place.ranges c.args.items.now c.index-items-place.result c.in_err-range.field-0.0 below c.index-items-place.is here) in
    search (rules, all)
