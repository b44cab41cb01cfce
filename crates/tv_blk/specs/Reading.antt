-- Sectors under way.
use Rattle.std.specs.Prelude.{◌≡◌, ◌<◌, ◌≤◌, ◌+◌, ℕ, Bool, true, false, List, length, Option, Some, None, Result, Ok, Err}
use Rattle.tv_base.specs.declared.limits.TheConstants.{DISK_SECTORS}
use Rattle.tv_virtio.specs.declared.queue.QueueStop.{QueueStop}
use Rattle.tv_vring.specs.Rings.{Ring, with_answered}

-- sectors from one on can be asked for one by one: where there are any, they are below the greatest capacity
abbrev pub AreNumbered : ℕ → ℕ → Type 0
AreNumbered first count = 0 < count → first + count ≤ DISK_SECTORS

-- only the answered bytes changed
pub record AnsweredSo (old new : Ring) : Type 0 where
  pub last : new.last ≡ old.last
  pub used : new.used ≡ old.used
  pub chain : new.chain ≡ old.chain
  pub readable : new.readable ≡ old.readable

-- the content, where all of it was read
abbrev pub with_content : List ℕ → Result Bool QueueStop → Result (Option (List ℕ)) QueueStop
with_content bytes (Ok true) = Ok (Some bytes)
with_content bytes (Ok false) = Ok None
with_content bytes (Err why) = Err why

-- the sectors read so far
pub record Filling (reached : Type 0) (first now : Ring) (count : ℕ) : Type 0 where
  pub here : reached
  pub ring : now ≡ with_answered first now.answered
  pub len : length now.answered ≡ count
