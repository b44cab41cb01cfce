use Rattle.std.proofs.Common.{rules, ◌<◌, codes, length, subst, sym}
use Rattle.toml.specs.Data.{as_table}
use Rattle.toml.specs.View.{items_view, view}
use Rattle.tv_machine_file.specs.DeviceFiles.{device_faults, slot_faults}
use Rattle.tv_machine_file.specs.Keys.{Tells, member_path}
use Rattle.tv_machine_file.proofs.Members.{device_tells}
use Rattle.tv_machine_file.proofs.device.read_each.Goals as goal

pub returns-in_err-device-clause-fault : goal.returns-in_err-device-clause-fault
returns-in_err-device-clause-fault c =
    let below : c.loop-slot.slot < length c.args.items.now = search rules in
    let here : Tells (device_faults (member_path (codes "device") c.loop-slot.slot) c.args.ram (as_table (view c.index-items-slot.result))) c.in_err-device.field-0.0 = search rules in
    let all : Tells (slot_faults (codes "device") c.args.ram 0 (items_view c.args.items.now)) c.in_err-device.field-0.0 =
    subst (λ faults. Tells faults c.in_err-device.field-0.0) (sym c.loop-slot.invariant.faults)
    (device_tells (codes "device") c.args.ram c.loop-slot.slot c.args.items.now c.index-items-slot.result c.in_err-device.field-0.0 below c.index-items-slot.is here) in
    search (rules, all)
