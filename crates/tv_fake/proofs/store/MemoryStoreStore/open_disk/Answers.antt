use Rattle.std.proofs.Common.{rules, refl}
use Rattle.tv_out.specs.Asked.{disks}
use Rattle.tv_out.specs.Disk.{IsOpenedDisk}
use Rattle.tv_fake.specs.MemoryStore.{files_of, script_of}
use Rattle.tv_fake.specs.Opened.{opened_disk}
use Rattle.tv_fake.proofs.Openings.{opened, refused}
use Rattle.tv_fake.proofs.store.MemoryStoreStore.open_disk.Goals as goal

pub returns : goal.returns
returns c = record {
  opened = rw (c.restart.ensures, c.in_ok-disk.ensures.counted)
      (opened disks IsOpenedDisk opened_disk c.args.name.now (files_of c.args.self.now.objects) (script_of c.args.self.now) c.args.self.now.tally c.give.new.tally
      c.args.self.now.objects.disks.items c.give.new.shelf.items c.in_ok-disk.disk refl (search rules) c.in_ok-disk.ensures.gift c.in_ok-disk.ensures.shelf);
}

pub returns-in_err-disk : goal.returns-in_err-disk
returns-in_err-disk c = record {
  opened = rw c.in_err-disk.ensures.counted
      (refused disks IsOpenedDisk opened_disk c.args.name.now (files_of c.args.self.now.objects) (script_of c.args.self.now) c.args.self.now.tally c.give.new.tally
      c.args.self.now.objects.disks.items c.give.new.shelf.items _ c.in_err-disk.field-0.0 refl (search rules) c.in_err-disk.ensures.gift c.in_err-disk.ensures.shelf);
}
