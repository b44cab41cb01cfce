-- Why a command is refused, with its status and its line.
use Rattle.std.specs.Prelude.{ℕ, ◌++◌, List, codes, decimal}
use Rattle.tv_journal.specs.declared.JournalFault.{JournalFault}
use Rattle.tv_journal.specs.declared.JournalFault.TheVariants as journal_fault
use Rattle.tv_machine_file.specs.declared.fault.FileFault.{FileFault}
use Rattle.tv_machine_file.specs.declared.fault.FileFault.TheVariants as fault
use Rattle.tv_top.specs.declared.refusal.Refusal.{Refusal}
use Rattle.tv_top.specs.declared.refusal.Refusal.TheVariants as refusal

-- a refusal, its name as a list of bytes
pub data Refused : Type 0 where
  unreadable : List ℕ → Refused
  too_long : Refused
  faulty : FileFault → Refused
  misfit : Refused
  no_journal : ℕ → Refused
  illegal : ℕ → Refused
  unwritable : Refused
  no_memory : Refused

abbrev pub refused_by : Refusal → Refused
refused_by (refusal.Unreadable name) = unreadable name.now
refused_by refusal.TooLong = too_long
refused_by (refusal.Faulty why) = faulty why
refused_by refusal.Misfit = misfit
refused_by (refusal.NoJournal at) = no_journal at
refused_by (refusal.Illegal entry) = illegal entry
refused_by refusal.Unwritable = unwritable
refused_by refusal.OutOfMemory = no_memory

-- the refusals by the fault of a machine file, and of a journal file
abbrev pub fault_refused : FileFault → Refused
fault_refused fault.Memory = no_memory
fault_refused why = faulty why

abbrev pub journal_refused : JournalFault → Refused
journal_refused (journal_fault.At at) = no_journal at
journal_refused journal_fault.Memory = no_memory

-- the exit status of a command that was refused so
abbrev pub refused_status : Refused → ℕ
refused_status (unreadable name) = 4
refused_status too_long = 3
refused_status (faulty why) = 3
refused_status misfit = 8
refused_status (no_journal at) = 14
refused_status (illegal entry) = 14
refused_status unwritable = 5
refused_status no_memory = 9

-- a line: the program's name, a text and a newline
abbrev pub line : List ℕ → List ℕ
line text = codes "tv: " ++ (text ++ codes "\n")

-- the text of a fault of a machine file
abbrev pub fault_text : FileFault → List ℕ
fault_text fault.NotToml = codes "not TOML"
fault_text (fault.Unknown key) = codes "unknown key " ++ key
fault_text (fault.Missing key) = codes "missing key " ++ key
fault_text (fault.Kind key) = codes "wrong kind at " ++ key
fault_text (fault.Range key) = codes "out of range at " ++ key
fault_text (fault.Twice key) = codes "given twice at " ++ key
fault_text (fault.Overlap key) = codes "overlap at " ++ key
fault_text fault.Memory = codes "out of memory"

-- the line of a refusal
abbrev pub refused_line : Refused → List ℕ
refused_line (unreadable name) = line (codes "cannot read " ++ name)
refused_line too_long = line (codes "machine file: too long")
refused_line (faulty why) = line (codes "machine file: " ++ fault_text why)
refused_line misfit = line (codes "image does not fit")
refused_line (no_journal at) = line (codes "bad journal at byte " ++ decimal at)
refused_line (illegal entry) = line (codes "illegal entry " ++ decimal entry)
refused_line unwritable = line (codes "cannot write")
refused_line no_memory = line (codes "out of memory")
