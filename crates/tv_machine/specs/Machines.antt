-- The machines that are told by little: by their image alone, or by nothing.
use Rattle.std.specs.Prelude.{ℕ, List, [], codes}
use Rattle.tv_base.specs.declared.limits.TheConstants.{RAM_BYTES_DEFAULT, FLAT_RAM_BYTES, HART_EVENTS_DEFAULT, JOURNAL_RECORDS_DEFAULT, JOURNAL_PAYLOAD_BYTES_DEFAULT, TUBE_MESSAGES_DEFAULT}
use Rattle.tv_machine.specs.declared.machine.Machine.{Machine}

-- the machine that has this image, and else what a machine file has where it says nothing
abbrev pub plain_machine : List ℕ → Machine
plain_machine image =
    record {
      image = image;
      ram = RAM_BYTES_DEFAULT;
      harts = 1;
      steps = HART_EVENTS_DEFAULT;
      journal_entries = JOURNAL_RECORDS_DEFAULT;
      journal_bytes = JOURNAL_PAYLOAD_BYTES_DEFAULT;
      tube = TUBE_MESSAGES_DEFAULT;
      control = [];
      device = [];
    }

-- the machine of flat runs, with 1 MiB of memory
abbrev pub flat_machine : Machine
flat_machine = record (plain_machine (codes "image")) { ram = FLAT_RAM_BYTES }
