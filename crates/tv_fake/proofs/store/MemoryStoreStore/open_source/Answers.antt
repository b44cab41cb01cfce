use Rattle.std.proofs.Common.{rules, refl}
use Rattle.tv_out.specs.Asked.{sources}
use Rattle.tv_out.specs.Told.{IsOpenedSource}
use Rattle.tv_fake.specs.MemoryStore.{files_of, script_of}
use Rattle.tv_fake.specs.Opened.{opened_source}
use Rattle.tv_fake.proofs.Openings.{opened, refused}
use Rattle.tv_fake.proofs.store.MemoryStoreStore.open_source.Goals as goal

pub returns : goal.returns
returns c = record {
  opened = rw (c.restart.ensures, c.in_ok-source.ensures.counted)
      (opened sources IsOpenedSource opened_source c.args.name.now (files_of c.args.self.now.objects) (script_of c.args.self.now) c.args.self.now.tally c.give.new.tally
      c.args.self.now.objects.sources.items c.give.new.shelf.items c.in_ok-source.source refl (search rules) c.in_ok-source.ensures.gift c.in_ok-source.ensures.shelf);
}

pub returns-in_err-source : goal.returns-in_err-source
returns-in_err-source c = record {
  opened = rw c.in_err-source.ensures.counted
      (refused sources IsOpenedSource opened_source c.args.name.now (files_of c.args.self.now.objects) (script_of c.args.self.now) c.args.self.now.tally c.give.new.tally
      c.args.self.now.objects.sources.items c.give.new.shelf.items _ c.in_err-source.field-0.0 refl (search rules) c.in_err-source.ensures.gift c.in_err-source.ensures.shelf);
}
