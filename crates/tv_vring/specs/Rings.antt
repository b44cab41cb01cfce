-- What contracts see of a device's queues.
use Rattle.std.specs.Prelude.{◌≡◌, ◌≤◌, ◌+◌, ◌%◌, ℕ, Bool, if◌then◌else◌, List, [], Option, Some, None, Result, Ok, Err, slice_index, slice_set, replicate}
use Rattle.tv_base.specs.declared.limits.TheConstants.{CHAIN_BYTES}
use Rattle.tv_virtio.specs.declared.queue.QueueRegs.{QueueRegs}
use Rattle.tv_virtio.specs.declared.queue.QueueStop.{QueueStop}
use Rattle.tv_virtio.specs.declared.queue.Span.{Span}
use Rattle.tv_virtio.specs.Spans.{Spans, total}
use Rattle.tv_virtio.specs.Queue.{Took, no_chain}
use Rattle.tv_vring.specs.declared.ring.Taken.{Taken}

-- of each queue the last seen available index and the used index; the queue of the take that was last, where nothing undid it
-- and no chain was given back since; the chain that was taken last with its readable bytes; and the bytes to be written
pub record Ring : Type 0 where
  pub last : List ℕ
  pub used : List ℕ
  pub taken : Option ℕ
  pub chain : Spans
  pub readable : List ℕ
  pub answered : List ℕ

-- the buffers of one direction, with the number of their bytes
pub record IsCounted (spans : List Span) (bytes : ℕ) : Type 0 where
  pub is : bytes ≡ total spans
  pub within : bytes ≤ CHAIN_BYTES

-- each buffer has room for the longest chain
pub record IsRoomy (readable answered length : ℕ) : Type 0 where
  pub reads : CHAIN_BYTES ≤ readable
  pub answers : CHAIN_BYTES ≤ answered
  pub within : length ≤ CHAIN_BYTES

abbrev pub first_ring : Ring
first_ring = record { last = replicate 3 0; used = replicate 3 0; taken = None; chain = no_chain; readable = []; answered = [] }

abbrev pub with_answered : Ring → List ℕ → Ring
with_answered r bytes = record r { answered = bytes }

-- a queue that begins anew
abbrev pub with_fresh : Ring → ℕ → Ring
with_fresh r n = record r { last = slice_set r.last n 0; used = slice_set r.used n 0; taken = None }

abbrev pub last_of : Ring → QueueRegs → ℕ
last_of r q = slice_index r.last q.number

abbrev pub used_of : Ring → QueueRegs → ℕ
used_of r q = slice_index r.used q.number

abbrev pub taken_by : Ring → Result Taken QueueStop → Result Took QueueStop
taken_by r (Ok t) = Ok (record { head = t.head; chain = r.chain; readable = r.readable })
taken_by r (Err why) = Err why

-- an index of 16 bits rises, and falls
abbrev pub raised_at : List ℕ → ℕ → List ℕ
raised_at xs n = slice_set xs n ((slice_index xs n + 1) % 65536)

abbrev pub lowered_at : List ℕ → ℕ → List ℕ
lowered_at xs n = slice_set xs n ((slice_index xs n + 65535) % 65536)

abbrev pub raised_where : List ℕ → ℕ → Bool → List ℕ
raised_where xs n done = if done then raised_at xs n else xs

-- the last take undone
abbrev pub with_kept : Ring → Option ℕ → Ring
with_kept r None = r
with_kept r (Some n) = record r { last = lowered_at r.last n; taken = None }

-- a take: the queue's last seen index rose where there was a chain
pub record TookSo (old new : Ring) (q : QueueRegs) (done : Bool) : Type 0 where
  pub last : new.last ≡ raised_where old.last q.number done
  pub used : new.used ≡ old.used
  pub taken : new.taken ≡ (if done then Some q.number else None)
  pub answered : new.answered ≡ []

-- a give: the queue's used index rose where it was written
pub record GaveSo (old new : Ring) (q : QueueRegs) (done : Bool) : Type 0 where
  pub used : new.used ≡ raised_where old.used q.number done
  pub last : new.last ≡ old.last
  pub taken : new.taken ≡ None
  pub chain : new.chain ≡ old.chain
  pub readable : new.readable ≡ old.readable
  pub answered : new.answered ≡ old.answered

-- a copy: what lies in the buffers is no part of it
pub record CopiedSo (old new : Ring) : Type 0 where
  pub last : new.last ≡ old.last
  pub used : new.used ≡ old.used
