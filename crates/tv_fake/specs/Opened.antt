-- What an object tells when a store gives it: nothing was done with it yet.
use Rattle.std.specs.Prelude.{[]}
use Rattle.std.specs.Option.{option_map}
use Rattle.tv_out.specs.Calls.{Calls, RoomScript}
use Rattle.tv_out.specs.Disk.{ToldDisk, DiskContent}
use Rattle.tv_out.specs.Told.{ToldSink, ToldSource}

-- the same numbers fail, and no call was made
abbrev pub uncalled : Calls → Calls
uncalled calls = record { made = 0; failing = calls.failing }

abbrev pub uncalled_script : RoomScript → RoomScript
uncalled_script script = record { calls = uncalled script.calls; room = script.room }

-- the same bytes, and nothing was changed
abbrev pub unchanged : DiskContent → DiskContent
unchanged content = record { bytes = content.bytes; changes = 0; flushed = 0 }

abbrev pub opened_disk : ToldDisk → ToldDisk
opened_disk disk = record {
  sectors = disk.sectors;
  content = option_map unchanged disk.content;
  faults = 0;
  script = option_map uncalled_script disk.script;
}

abbrev pub created_sink : ToldSink → ToldSink
created_sink sink = record {
  bytes = option_map (λ _. []) sink.bytes;
  faults = 0;
  script = option_map uncalled_script sink.script;
}

abbrev pub opened_source : ToldSource → ToldSource
opened_source source = record { left = source.left; faults = 0; calls = option_map uncalled source.calls }
