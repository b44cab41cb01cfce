-- Calls of a store on a name.
use Rattle.std.specs.Prelude.{ℕ, ◌≡◌, ◌⊎◌, Bool, List, Option, Some, None, Result, Ok, Err, IfOk, Contains}
use Rattle.std.specs.Bool.{OnTrue}
use Rattle.std.specs.Option.{option_map}
use Rattle.std.specs.Result.{is_err}
use Rattle.tv_out.specs.declared.LoadFault.{LoadFault}
use Rattle.tv_out.specs.declared.LoadFault.TheVariants as fault
use Rattle.tv_out.specs.Faults.{NameFaults, HasCause, NameRose, StaysElsewhere}
use Rattle.tv_out.specs.Calls.{IsFailing, Foretold, next_count, with_call}
use Rattle.tv_out.specs.Disk.{ToldDisk}
use Rattle.tv_out.specs.Shelf.{Named, first_named, after_giving}
use Rattle.tv_out.specs.Told.{ToldStore, ToldSink, ToldSource, StoreScript, Files}

-- an object of this name was asked for: the files and the counts of other names stay, and a failure has its cause, at
-- this name too
pub record IsAskedFor (name : List ℕ) (before now : ToldStore) (fails : Bool) : Type 0 where
  pub files : now.files ≡ before.files
  pub elsewhere : StaysElsewhere before.name_faults now.name_faults name
  pub cause : HasCause before.faults now.faults fails
  pub at_name : OnTrue fails (NameRose before.name_faults now.name_faults name)

-- the object given is the first of its name, where a store tells those that it will give
abbrev pub IsGiven : {A : Type 0} → Option StoreScript → (StoreScript → List (Named A)) → List ℕ → A → Type 0
IsGiven None shelf name object = Unit {0}
IsGiven (Some script) shelf name object = first_named name (shelf script) ≡ Some object

-- the objects of one kind in a script: those that it is still to give, and the script with others in their place
pub record Kind (A : Type 0) : Type 0 where
  pub shelf : StoreScript → List (Named A)
  pub with_shelf : StoreScript → List (Named A) → StoreScript

abbrev pub disks : Kind ToldDisk
disks = record { shelf = λ script. script.disks; with_shelf = λ script shelf. record script { disks = shelf } }

abbrev pub sinks : Kind ToldSink
sinks = record { shelf = λ script. script.sinks; with_shelf = λ script shelf. record script { sinks = shelf } }

abbrev pub sources : Kind ToldSource
sources = record { shelf = λ script. script.sources; with_shelf = λ script shelf. record script { sources = shelf } }

-- the script after a file was loaded, which uses nothing up
abbrev pub after_load : StoreScript → StoreScript
after_load script = record script { calls = with_call script.calls }

-- the script after an object of this kind was asked for
abbrev pub after_opening : {A T E : Type 0} → Kind A → Result T E → List ℕ → StoreScript → StoreScript
after_opening kind answer name script = kind.with_shelf (after_load script) (after_giving answer name (kind.shelf script))

-- the name isn't in the list of names, where there is one
abbrev pub IsUnlisted : Option NameFaults → List ℕ → Type 0
IsUnlisted None name = ⊥
IsUnlisted (Some counts) name = ¬ (Contains counts.names name)

-- where a store tells its script, an object was refused exactly by the number of the call, since the name isn't in the
-- list, or since none of its name is left
abbrev pub FollowsOpening : {A : Type 0} → Option StoreScript → (StoreScript → List (Named A)) → List ℕ → ToldStore → ToldStore → Bool → Type 0
FollowsOpening None shelf name before now fails = Unit {0}
FollowsOpening (Some script) shelf name before now fails =
    Foretold (IsFailing script.calls ⊎ (IsUnlisted before.name_faults name ⊎ (first_named name (shelf script) ≡ None))) before.faults now.faults fails

-- an object of this kind and name was asked for, to be opened or created: one that is given is as a new one, and the first
-- of its name that the store tells; and a refusal follows from what it tells
pub record HasOpened {A E : Type 0} (kind : Kind A) (IsNew : A → Type 0) (name : List ℕ) (before now : ToldStore) (answer : Result A E) : Type 0 where
  pub is_new : IfOk answer IsNew
  pub is_given : IfOk answer (IsGiven before.script kind.shelf name)
  pub asked : IsAskedFor name before now (is_err answer)
  pub follows : FollowsOpening before.script kind.shelf name before now (is_err answer)
  pub script : now.script ≡ option_map (after_opening kind answer name) before.script

-- the name has no file, where that is told
abbrev pub IsMissing : Files → List ℕ → Type 0
IsMissing None name = ⊥
IsMissing (Some file_of) name = file_of name ≡ None

-- why a load failed by a script
abbrev pub IsLoadDue : StoreScript → List ℕ → ToldStore → Type 0
IsLoadDue script name store = IsFailing script.calls ⊎ (IsUnlisted store.name_faults name ⊎ IsMissing store.files name)

-- where a store tells its script, a load failed exactly by the number of the call, since the name isn't in the list, or
-- since it has no file; a file that is too long and want of memory are no failures of the store
abbrev pub FollowsLoad : {T : Type 0} → Option StoreScript → List ℕ → ToldStore → ToldStore → Result T LoadFault → Type 0
FollowsLoad None name before now result = Unit {0}
FollowsLoad (Some script) name before now (Err fault.Failed) =
    IsLoadDue script name before × (now.faults ≡ next_count before.faults)
FollowsLoad (Some script) name before now (Err fault.TooLong) =
    (¬ (IsLoadDue script name before)) × (now.faults ≡ before.faults)
FollowsLoad (Some script) name before now (Err fault.Memory) =
    (¬ (IsLoadDue script name before)) × (now.faults ≡ before.faults)
FollowsLoad (Some script) name before now (Ok _) =
    (¬ (IsLoadDue script name before)) × (now.faults ≡ before.faults)
