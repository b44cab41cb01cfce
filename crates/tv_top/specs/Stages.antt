-- Stages: what a command does, one after the other, until one of them is refused.
use Rattle.std.specs.Prelude.{◌≡◌, ◌⊎◌, Result, Ok, Err}
use Rattle.tv_out.specs.Told.{ToldStore, ToldSink}
use Rattle.tv_top.specs.Refusals.{Refused}

-- a stage says what holds of the outside before and after it with its answer
abbrev pub Stage : Type 0 → Type 0 → Type 1
Stage S A = S → S → Result A Refused → Type 0

-- a stage was carried out, and then the next one
pub record GoesOn {S A B : Type 0} (stage : Stage S A) (next : A → Stage S B) (before after : S) (answer : Result B Refused) : Type 0 where
  pub value : A
  pub middle : S
  pub done : stage before middle (Ok value)
  pub then : next value middle after answer

-- or it was refused, and nothing came after it
pub record Stops {S A B : Type 0} (stage : Stage S A) (before after : S) (answer : Result B Refused) : Type 0 where
  pub why : Refused
  pub refused : stage before after (Err why)
  pub answer_is : answer ≡ Err why

-- a stage with the next one
infixl 10 ◌>>=◌
abbrev pub ◌>>=◌ : {S A B : Type 0} → Stage S A → (A → Stage S B) → Stage S B
◌>>=◌ stage next before after answer = GoesOn stage next before after answer ⊎ Stops stage before after answer

-- a stage that leaves the outside as it was, with what holds of its answer
pub record Still {S A : Type 0} (Holds : Result A Refused → Type 0) (before after : S) (answer : Result A Refused) : Type 0 where
  pub holds : Holds answer
  pub still : after ≡ before

-- what a command may change
pub record Sides : Type 0 where
  pub store : ToldStore
  pub out : ToldSink

abbrev pub sides : ToldStore → ToldSink → Sides
sides store out = record { store = store; out = out }

-- a stage over the store alone, or over the output alone
pub record OnStore {A : Type 0} (stage : Stage ToldStore A) (before after : Sides) (answer : Result A Refused) : Type 0 where
  pub on_store : stage before.store after.store answer
  pub out_stays : after.out ≡ before.out

pub record OnOut {A : Type 0} (stage : Stage ToldSink A) (before after : Sides) (answer : Result A Refused) : Type 0 where
  pub on_out : stage before.out after.out answer
  pub store_stays : after.store ≡ before.store
