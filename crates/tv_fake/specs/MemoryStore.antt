-- What a store in memory tells.
use Rattle.std.specs.Prelude.{◌≡◌, ℕ, List, Some, IsSome, IfSome, String, map}
use Rattle.std.specs.String.{string_bytes}
use Rattle.tv_out.specs.Told.{ToldStore, StoreScript, Files}
use Rattle.tv_out.specs.Shelf.{first_named}
use Rattle.tv_fake.specs.declared.store.MemoryStore.{MemoryStore}
use Rattle.tv_fake.specs.declared.store.Objects.{Objects}
use Rattle.tv_fake.specs.Opened.{opened_disk, created_sink, opened_source}
use Rattle.tv_fake.specs.Shelf.{shelf_of}
use Rattle.tv_fake.specs.Tally.{faults_by_name}

-- the file of each name is the first of it
abbrev pub files_of : Objects → Files
files_of objects = Some (λ name. first_named name (shelf_of (λ bytes. bytes.items) objects.files.items))

-- how its calls will fail, and what it is still to give
abbrev pub script_of : MemoryStore → StoreScript
script_of store = record {
  calls = store.calls;
  disks = shelf_of opened_disk store.objects.disks.items;
  sinks = shelf_of created_sink store.objects.sinks.items;
  sources = shelf_of opened_source store.objects.sources.items;
}

abbrev pub told_by : MemoryStore → ToldStore
told_by store = record {
  files = files_of store.objects;
  faults = store.tally.total;
  name_faults = Some (faults_by_name store.tally);
  script = Some (script_of store);
}

-- what a store tells before its first call: the counts of these names stand at 0, and it has these objects to give
pub record IsNewStore {A : Type 0} (names : List (String A)) (objects : Objects) (failing : List ℕ) (store : ToldStore) : Type 0 where
  pub files : store.files ≡ files_of objects
  pub faults : store.faults ≡ 0
  pub listed : IfSome store.name_faults (λ counts. counts.names ≡ map string_bytes names)
  pub counts : IfSome store.name_faults (λ counts. (name : List ℕ) → counts.count_of name ≡ 0)
  pub tells : IsSome store.name_faults
  pub script : store.script ≡ Some (record {
    calls = record { made = 0; failing = failing };
    disks = shelf_of opened_disk objects.disks.items;
    sinks = shelf_of created_sink objects.sinks.items;
    sources = shelf_of opened_source objects.sources.items;
  })
