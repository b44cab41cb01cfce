-- Counts of faults: what an object outside the program says of its own failures.
use Rattle.std.specs.Prelude.{ℕ, ◌+◌, ◌-◌, ◌^◌, ◌≤◌, ◌≡◌, ◌≢◌, Bool, List, Option, Some, None, Contains, min}
use Rattle.std.specs.Bool.{OnTrue}

-- a count of faults rose from before to now; a count at its last value, 2 ^ 64 - 1, stays there and counts as risen
abbrev pub Rose : ℕ → ℕ → Type 0
Rose before now = min (before + 1) (2 ^ 64 - 1) ≤ now

-- a count never falls, and a call fails only where it rose
pub record HasCause (before now : ℕ) (fails : Bool) : Type 0 where
  pub later : before ≤ now
  pub failed : OnTrue fails (Rose before now)

-- the counts of faults by name that a store may tell: the names that it knows, and the count of each name; the names
-- that it doesn't know share one count
pub record NameFaults : Type 0 where
  pub names : List (List ℕ)
  pub count_of : List ℕ → ℕ

-- the count of this name rose, where counts of names are told
abbrev pub NameRose : Option NameFaults → Option NameFaults → List ℕ → Type 0
NameRose None now name = Unit {0}
NameRose (Some before) None name = Unit {0}
NameRose (Some before) (Some now) name = Rose (before.count_of name) (now.count_of name)

-- a call on a name leaves the list of names, and the counts of the other names of the list; no count falls, and the names
-- outside the list share theirs
pub record IsElsewhereSame (before now : NameFaults) (name : List ℕ) : Type 0 where
  pub names : now.names ≡ before.names
  pub others : (other : List ℕ) → Contains before.names other → other ≢ name → now.count_of other ≡ before.count_of other
  pub later : (any : List ℕ) → before.count_of any ≤ now.count_of any
  pub shared : (one other : List ℕ) → ¬ (Contains before.names one) → ¬ (Contains before.names other) → now.count_of one ≡ now.count_of other

-- the same, where counts of names are told; a store tells them always or never
abbrev pub StaysElsewhere : Option NameFaults → Option NameFaults → List ℕ → Type 0
StaysElsewhere None None name = Unit {0}
StaysElsewhere None (Some now) name = ⊥
StaysElsewhere (Some before) None name = ⊥
StaysElsewhere (Some before) (Some now) name = IsElsewhereSame before now name
