-- The answers of a store, with what their objects tell.
use Rattle.std.proofs.Common.{◌≡◌, ℕ, List, Option, Some, None, Result, Ok, Err, refl}
use Rattle.std.specs.Result.{result_map_both}
use Rattle.std.specs.Option.{option_map}
use Rattle.tv_out.specs.declared.LoadFault.{LoadFault}
use Rattle.tv_out.specs.declared.LoadFault.TheVariants as load_fault
use Rattle.tv_base.specs.declared.Failed.{Failed}
use Rattle.tv_base.specs.declared.Why.{Why}
use Rattle.tv_journal.specs.declared.Entry.{Entry}
use Rattle.tv_journal.specs.declared.JournalFault.{JournalFault}
use Rattle.tv_journal.specs.declared.JournalFault.TheVariants as journal_fault
use Rattle.tv_journal.specs.Grammar.{SpellsJournal, IsLongestFront}
use Rattle.tv_out.specs.Asked.{FollowsLoad, HasOpened, after_load, sinks}
use Rattle.tv_out.specs.Told.{ToldStore, ToldSink, StoreScript, IsCreatedSink}
use Rattle.tv_top.specs.declared.files.Role.{Role}
use Rattle.tv_top.specs.Refusals.{unwritable, journal_refused}
use Rattle.tv_top.specs.Steps.{HasLoaded, IsAsked, IsCreation, IsJournalIn, Loads, long_of, most_of, load_refused}

follows-as : {T U : Type 0} (as_list : T → U) (script : Option StoreScript) (name : List ℕ) (before after : ToldStore) (load : Result T LoadFault)
    → FollowsLoad {T = T} script name before after load → FollowsLoad {T = U} script name before after (result_map_both as_list (λ fault. fault) load)
follows-as as_list None name before after load follows = tt
follows-as as_list (Some script) name before after (Ok bytes) follows = follows
follows-as as_list (Some script) name before after (Err load_fault.TooLong) follows = follows
follows-as as_list (Some script) name before after (Err load_fault.Failed) follows = follows
follows-as as_list (Some script) name before after (Err load_fault.Memory) follows = follows

-- a file was loaded with this answer
pub loads-by : {T : Type 0} (as_list : T → List ℕ) (name : List ℕ) (role : Role) (before after : ToldStore) (load : Result T LoadFault)
    → HasLoaded name (most_of role) before after (result_map_both as_list (λ fault. fault) load) → FollowsLoad {T = T} before.script name before after load
    → IsAsked name before after → after.script ≡ option_map after_load before.script
    → Loads name role before after (result_map_both (λ bytes. bytes) (load_refused name (long_of role)) (result_map_both as_list (λ fault. fault) load))
loads-by as_list name role before after load loaded follows asked script = record {
  load = result_map_both as_list (λ fault. fault) load;
  loaded = loaded;
  follows = follows-as as_list before.script name before after load follows;
  asked = asked;
  script = script;
  answer_is = refl;
}

-- a file was created with this answer
pub creation-by : (name : List ℕ) (before after : ToldStore) (created : Result ToldSink Failed) → HasOpened sinks IsCreatedSink name before after created
    → IsCreation name before after (result_map_both Some (λ _. unwritable) created)
creation-by name before after created opened = record { created = created; opened = opened; answer_is = refl }

-- why bytes are no journal's file
pub no-journal-in : (bytes : List ℕ) (fault : JournalFault)
    → ((at : ℕ) → fault ≡ journal_fault.At at → (entries : List Entry) (outer : Option (ℕ × Why)) → ¬ SpellsJournal bytes entries outer)
    → ((at : ℕ) → fault ≡ journal_fault.At at → IsLongestFront bytes at) → IsJournalIn bytes (Err (journal_refused fault))
no-journal-in bytes (journal_fault.At at) none front = record { none = none at refl; front = front at refl }
no-journal-in bytes journal_fault.Memory none front = tt
