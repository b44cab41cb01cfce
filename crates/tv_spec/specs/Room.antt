-- The room of a journal: the records that it has, and those that are owed to entries that are to come.
use Rattle.std.specs.Prelude.{ℕ, zero, suc, ◌+◌, ◌*◌, ◌<◌, nat_le, Bool, if◌then◌else◌, List, [], ◌∷◌, ◌++◌, Option, Some, None}
use Rattle.tv_journal.specs.declared.Entry.{Entry}
use Rattle.tv_journal.specs.Entries.{record_count}
use Rattle.tv_spec.specs.Setup.{Setup}
use Rattle.tv_spec.specs.declared.Pending.{Pending}
use Rattle.tv_spec.specs.declared.Phase.{Phase}
use Rattle.tv_spec.specs.State.{State}
use Rattle.tv_spec.specs.Step.{made, done}

-- a load without its Reply is owed two records, its Reply and its Deliver; one with its Reply is owed one
abbrev pub owed_to_hart : Option Pending → ℕ
owed_to_hart None = 0
owed_to_hart (Some p) = if p.replied then 1 else 2

-- a request that was sent is owed its Got, and an action that was intended its Did
abbrev pub owed_to_phase : Phase → ℕ
owed_to_phase Phase.Quiet = 0
owed_to_phase _ = 1

unfoldable pub sum_below : ℕ → (ℕ → ℕ) → ℕ
sum_below zero f = 0
sum_below (suc n) f = sum_below n f + f n

-- the records that are owed, by the 8 harts and the 8 devices that there can be
abbrev pub owed : State → ℕ
owed s = sum_below 8 (λ hart. owed_to_hart (s.pending hart)) + sum_below 8 (λ d. owed_to_phase (s.devs d).phase)

-- whether a journal with room for so many records has room for an entry, with all that is owed after it
abbrev pub has_room : ℕ → Setup → State → List Entry → Entry → Bool
has_room room setup s entries e = nat_le (record_count (entries ++ e ∷ []) + owed (done setup s (made e))) room

-- a journal is short of room where fewer records are free than a load of a device needs, with a request on each of so many lines
-- of control sockets: three, for the event, its Reply and its Deliver, and four for each line
abbrev pub IsShortOfRoom : ℕ → ℕ → State → List Entry → Type 0
IsShortOfRoom room lines s entries = room < record_count entries + owed s + 3 + 4 * lines
