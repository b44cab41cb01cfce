-- The counts of faults of a store in memory.
use Rattle.std.specs.Prelude.{◌≡◌, ◌≤◌, ℕ, List, unwrap_or}
use Rattle.tv_out.specs.Calls.{next_count}
use Rattle.tv_out.specs.Faults.{NameFaults, IsElsewhereSame}
use Rattle.tv_out.specs.Shelf.{first_named}
use Rattle.tv_fake.specs.declared.shelf.Named.{Named}
use Rattle.tv_fake.specs.declared.tally.Tally.{Tally}
use Rattle.tv_fake.specs.Shelf.{names_of, objects}

-- the names, and the count of each; all other names share one
abbrev pub faults_in : List (Named ℕ) → ℕ → NameFaults
faults_in counts others = record {
  names = names_of counts;
  count_of = λ name. unwrap_or (first_named name (objects counts)) others;
}

abbrev pub faults_by_name : Tally → NameFaults
faults_by_name tally = faults_in tally.counts.items tally.others

-- a fault at this name was counted, and none at another name of the list
pub record IsRaised (name : List ℕ) (before now : Tally) : Type 0 where
  pub total : now.total ≡ next_count before.total
  pub later : before.total ≤ now.total
  pub at_name : (faults_by_name now).count_of name ≡ next_count ((faults_by_name before).count_of name)
  pub elsewhere : IsElsewhereSame (faults_by_name before) (faults_by_name now) name
