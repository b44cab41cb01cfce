-- The stages of the commands, one by one. Out of memory has no cause to show.
use Rattle.std.specs.Prelude.{◌≡◌, ◌≢◌, ℕ, ◌<◌, ◌≤◌, List, [], length, Option, Some, None, Result, Ok, Err, Bool, true, false}
use Rattle.std.specs.Option.{option_map}
use Rattle.std.specs.Result.{result_map_both}
use Rattle.tv_base.specs.declared.Failed.{Failed}
use Rattle.tv_base.specs.declared.limits.TheConstants.{JOURNAL_FILE_BYTES, MACHINE_FILE_BYTES}
use Rattle.tv_base.specs.declared.Why.{Why}
use Rattle.tv_journal.specs.declared.Entry.{Entry}
use Rattle.tv_journal.specs.Entries.{record_count}
use Rattle.tv_journal.specs.Grammar.{SpellsJournal, IsLongestFront}
use Rattle.tv_journal.specs.Journals.{JournalState}
use Rattle.tv_machine_file.specs.declared.fault.FileFault.TheVariants as fault
use Rattle.tv_machine.specs.declared.machine.Machine.{Machine}
use Rattle.tv_machine_file.specs.MachineFiles.{IsAnswer}
use Rattle.tv_machine.specs.Machines.{flat_machine}
use Rattle.tv_model.specs.Replay.{IsFirstIllegal, IsLegalWith}
use Rattle.tv_out.specs.declared.LoadFault.{LoadFault}
use Rattle.tv_out.specs.declared.LoadFault.TheVariants as load_fault
use Rattle.tv_out.specs.Asked.{FollowsLoad, HasOpened, after_load, sinks}
use Rattle.tv_out.specs.Faults.{Rose, NameRose, StaysElsewhere}
use Rattle.tv_out.specs.Told.{ToldStore, ToldSink, Holds, IsLonger, IsAllOut, IsCut, IsCreatedSink, WasRoom, FellShort}
use Rattle.tv_runner.specs.Runs.{IsRun}
use Rattle.tv_top.specs.declared.files.Role.{Role}
use Rattle.tv_top.specs.declared.files.Role.TheVariants as role
use Rattle.tv_top.specs.declared.run.Run.{Run}
use Rattle.tv_top.specs.Refusals.{Refused, unreadable, too_long, faulty, misfit, no_journal, illegal, unwritable, no_memory}
use Rattle.tv_top.specs.Stages.{Stage, Still, ◌>>=◌}
use Rattle.tv_top.specs.Texts.{legal_line}
use Rattle.tv_words.specs.CommandLine.{AskedMachine, of_image, of_file}

-- a file of a store was asked for: the files stay, and the counts of other names
pub record IsAsked (name : List ℕ) (before after : ToldStore) : Type 0 where
  pub files : after.files ≡ before.files
  pub later : before.faults ≤ after.faults
  pub elsewhere : StaysElsewhere before.name_faults after.name_faults name

-- the store failed at this name
pub record FailedAt (name : List ℕ) (before after : ToldStore) : Type 0 where
  pub rose : Rose before.faults after.faults
  pub at_name : NameRose before.name_faults after.name_faults name

-- the bytes of the file of this name, or that they are more than `most`, or that the store failed
abbrev pub HasLoaded : List ℕ → ℕ → ToldStore → ToldStore → Result (List ℕ) LoadFault → Type 0
HasLoaded name most before after (Ok bytes) = Holds before.files name bytes × (length bytes ≤ most)
HasLoaded name most before after (Err load_fault.TooLong) = IsLonger before.files name most
HasLoaded name most before after (Err load_fault.Failed) = FailedAt name before after
HasLoaded name most before after (Err load_fault.Memory) = Unit {0}

-- how many bytes a file has at most, and the refusal of a longer one
abbrev pub most_of : Role → ℕ
most_of role.Machine = MACHINE_FILE_BYTES
most_of (role.Image ram) = ram
most_of role.Journal = JOURNAL_FILE_BYTES

abbrev pub long_of : Role → Refused
long_of role.Machine = too_long
long_of (role.Image ram) = misfit
long_of role.Journal = no_journal JOURNAL_FILE_BYTES

-- the refusal by a load's answer, where that of a longer file is given
abbrev pub load_refused : List ℕ → Refused → LoadFault → Refused
load_refused name long load_fault.TooLong = long
load_refused name long load_fault.Failed = unreadable name
load_refused name long load_fault.Memory = no_memory

-- the file of this name is loaded, which uses nothing up
pub record Loads (name : List ℕ) (role : Role) (before after : ToldStore) (answer : Result (List ℕ) Refused) : Type 0 where
  pub load : Result (List ℕ) LoadFault
  pub loaded : HasLoaded name (most_of role) before after load
  pub follows : FollowsLoad before.script name before after load
  pub asked : IsAsked name before after
  pub script : after.script ≡ option_map after_load before.script
  pub answer_is : answer ≡ result_map_both (λ bytes. bytes) (load_refused name (long_of role)) load

-- the flat machine with a limit of events
abbrev pub flat_with : ℕ → Machine
flat_with steps = record flat_machine { steps = steps }

abbrev pub IsFlatMachine : ℕ → Result Machine Refused → Type 0
IsFlatMachine steps (Ok machine) = machine ≡ flat_with steps
IsFlatMachine steps (Err no_memory) = Unit {0}
IsFlatMachine steps (Err _) = ⊥

-- what the bytes of a machine file say
abbrev pub IsMachineIn : List ℕ → Result Machine Refused → Type 0
IsMachineIn bytes (Ok machine) = IsAnswer bytes (Ok machine)
IsMachineIn bytes (Err (faulty why)) = IsAnswer bytes (Err why) × (why ≢ fault.Memory)
IsMachineIn bytes (Err no_memory) = Unit {0}
IsMachineIn bytes (Err _) = ⊥

-- the machine is made, or read from its file
abbrev pub TakesMachine : AskedMachine → Stage ToldStore Machine
TakesMachine (of_image name steps) = Still (IsFlatMachine steps)
TakesMachine (of_file name) = do
  bytes ← Loads name role.Machine
  Still (IsMachineIn bytes)

-- an image is not empty
abbrev pub IsImage : List ℕ → Result (List ℕ) Refused → Type 0
IsImage bytes (Ok image) = (image ≡ bytes) × (0 < length bytes)
IsImage bytes (Err misfit) = bytes ≡ []
IsImage bytes (Err _) = ⊥

-- an image that fits into so much memory is loaded
abbrev pub LoadsImage : List ℕ → ℕ → Stage ToldStore (List ℕ)
LoadsImage name ram = do
  bytes ← Loads name (role.Image ram)
  Still (IsImage bytes)

-- the bytes are no journal's file, and so many of them begin one
pub record IsNoJournal (bytes : List ℕ) (n : ℕ) : Type 0 where
  pub none : (entries : List Entry) (outer : Option (ℕ × Why)) → ¬ SpellsJournal bytes entries outer
  pub front : IsLongestFront bytes n

abbrev pub IsJournalIn : List ℕ → Result JournalState Refused → Type 0
IsJournalIn bytes (Ok journal) = SpellsJournal bytes journal.entries journal.outer
IsJournalIn bytes (Err (no_journal n)) = IsNoJournal bytes n
IsJournalIn bytes (Err no_memory) = Unit {0}
IsJournalIn bytes (Err _) = ⊥

-- a journal is read from its file
abbrev pub LoadsJournal : List ℕ → Stage ToldStore JournalState
LoadsJournal name = do
  bytes ← Loads name role.Journal
  Still (IsJournalIn bytes)

-- the line of a journal that is a legal run
pub record IsLegalLine (machine : Machine) (image : List ℕ) (journal : JournalState) (text : List ℕ) : Type 0 where
  pub status : Option ℕ
  pub legal : IsLegalWith machine image journal.entries journal.outer status
  pub text_is : text ≡ legal_line (record_count journal.entries) (length journal.entries) status

-- it is one, or its first fault has this number
abbrev pub IsJudged : Machine → List ℕ → JournalState → Result (List ℕ) Refused → Type 0
IsJudged machine image journal (Ok text) = IsLegalLine machine image journal text
IsJudged machine image journal (Err (illegal n)) = IsFirstIllegal machine image journal.entries journal.outer n
IsJudged machine image journal (Err no_memory) = Unit {0}
IsJudged machine image journal (Err _) = ⊥

-- a file was created, or the store failed at this name
pub record IsCreation (name : List ℕ) (before after : ToldStore) (answer : Result (Option ToldSink) Refused) : Type 0 where
  pub created : Result ToldSink Failed
  pub opened : HasOpened sinks IsCreatedSink name before after created
  pub answer_is : answer ≡ result_map_both Some (λ _. unwritable) created

-- the file for a journal is created, if one is named
abbrev pub Creates : Option (List ℕ) → Stage ToldStore (Option ToldSink)
Creates None before after answer = (answer ≡ Ok None) × (after ≡ before)
Creates (Some name) before after answer = IsCreation name before after answer

-- all bytes of a journal's file went to a created object, or not all, as that told beforehand
abbrev pub PutsSo : Bool → List ℕ → ToldSink → Type 0
PutsSo true bytes created = WasRoom created.script created.bytes (length bytes)
PutsSo false bytes created = FellShort created.script created.bytes (length bytes)

-- a journal was put to a created object
pub record IsPutTo (created : ToldSink) (journal : JournalState) (saved : Bool) : Type 0 where
  pub bytes : List ℕ
  pub spells : SpellsJournal bytes journal.entries journal.outer
  pub puts : PutsSo saved bytes created

abbrev pub SavedBy : Option ToldSink → JournalState → Bool → Type 0
SavedBy None journal saved = saved ≡ true
SavedBy (Some created) journal saved = IsPutTo created journal saved

-- a run of the machine with the image, and its journal in the file that was created for it
pub record IsSavedRun (machine : Machine) (image : List ℕ) (created : Option ToldSink) (before after : ToldSink) (run : Run) : Type 0 where
  pub is_run : IsRun machine image run.ran before after
  pub steps_are : run.steps ≡ machine.steps
  pub kept : SavedBy created run.ran.journal run.saved

-- the machine runs on one thread, and its journal is saved
abbrev pub Runs : Machine → List ℕ → Option ToldSink → Stage ToldSink (Option Run)
Runs machine image created before after (Ok (Some run)) = IsSavedRun machine image created before after run
Runs machine image created before after (Err no_memory) = after ≡ before
Runs machine image created before after _ = ⊥

-- a text went out in part, since the sink failed
pub record IsTextCut (text : List ℕ) (before after : ToldSink) : Type 0 where
  pub cut : IsCut text before.bytes after.bytes
  pub rose : Rose before.faults after.faults

-- a text is put
abbrev pub Puts : List ℕ → Stage ToldSink (Option Run)
Puts text before after (Ok None) = IsAllOut text before after
Puts text before after (Err unwritable) = IsTextCut text before after
Puts text before after _ = ⊥
