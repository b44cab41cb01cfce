use Rattle.std.proofs.Common.{rules, refl}
use Rattle.tv_out.specs.Asked.{sinks}
use Rattle.tv_out.specs.Told.{IsCreatedSink}
use Rattle.tv_fake.specs.MemoryStore.{files_of, script_of}
use Rattle.tv_fake.specs.Opened.{created_sink}
use Rattle.tv_fake.proofs.Openings.{opened, refused}
use Rattle.tv_fake.proofs.store.MemoryStoreStore.create.Goals as goal

pub returns : goal.returns
returns c = record {
  opened = rw (c.restart.ensures, c.in_ok-sink.ensures.counted)
      (opened sinks IsCreatedSink created_sink c.args.name.now (files_of c.args.self.now.objects) (script_of c.args.self.now) c.args.self.now.tally c.give.new.tally
      c.args.self.now.objects.sinks.items c.give.new.shelf.items c.in_ok-sink.sink refl (search rules) c.in_ok-sink.ensures.gift c.in_ok-sink.ensures.shelf);
}

pub returns-in_err-sink : goal.returns-in_err-sink
returns-in_err-sink c = record {
  opened = rw c.in_err-sink.ensures.counted
      (refused sinks IsCreatedSink created_sink c.args.name.now (files_of c.args.self.now.objects) (script_of c.args.self.now) c.args.self.now.tally c.give.new.tally
      c.args.self.now.objects.sinks.items c.give.new.shelf.items _ c.in_err-sink.field-0.0 refl (search rules) c.in_err-sink.ensures.gift c.in_err-sink.ensures.shelf);
}
