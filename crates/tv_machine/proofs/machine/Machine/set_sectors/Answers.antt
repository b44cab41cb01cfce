use Rattle.std.proofs.Common.{sym, ◌∙◌}
use Rattle.tv_machine.proofs.Spots.{disk-in}
use Rattle.tv_machine.proofs.Resized.{valid_resized}
use Rattle.tv_machine.proofs.machine.Machine.set_sectors.Goals as goal

pub returns-in-Some-clause-valid : goal.returns-in-Some-clause-valid
returns-in-Some-clause-valid c = λ is. rw c.set_sectors.ensures
    (valid_resized c.args.self.now c.args.sectors c.in-Some.slot c.requires
    (disk-in c.args.self.now.device c.args.cap c.in-Some.slot (rw (c.as_slice.ensures, c.from.ensures, c.get.ensures) at (sym c.disk_slot.ensures.slot ∙ c.in-Some.is))) is)
