use Rattle.tv_machine.proofs.Spots.{resized-set}
use Rattle.tv_machine.proofs.lists.set_sectors_at.Goals as goal

pub returns : goal.returns
returns c =
    rw (← c.index-devices-slot.is)
    (resized-set c.args.slot c.args.sectors c.args.devices.now c.index-devices-slot.result c.requires c.index-devices-slot.is)
