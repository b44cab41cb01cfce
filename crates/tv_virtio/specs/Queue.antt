-- The split virtqueue (VIRTIO 1.2, section 2.7): what a device asks for as it takes a chain and gives it back, as scripts of
-- actions on guest memory. Numbers there are little-endian, and sums of addresses are modulo 2^64.
--     descriptor (2.7.5)       address 8 bytes, length 4, flags 2 (bit 0 NEXT, bit 1 WRITE, bit 2 INDIRECT), next 2
--     available ring (2.7.6)   in the driver area: flags 2 (bit 0: no interrupt), index 2, then heads of 2
--     used ring (2.7.8)        in the device area: flags 2, index 2, then elements of head 4 and written length 4
use Rattle.std.specs.Prelude.{◌≤◌, ◌<◌, ◌+◌, ◌-◌, ◌*◌, ◌/◌, ◌%◌, ◌^◌, ◌==◌, ◌&&◌, not, nat_lt, if◌then◌else◌, Bool, ℕ, zero, suc, List, [], ◌∷◌, ◌++◌, length, take, drop, Result, Ok, Err, Option, Some, None}
use Rattle.byteorder.specs.Endian.{little_number, little_bytes}
use Rattle.tv_base.specs.declared.limits.TheConstants.{CHAIN_BYTES, QUEUE_SIZE}
use Rattle.tv_items.specs.declared.action.Action.{Action}
use Rattle.tv_items.specs.declared.action.Heard.{Heard}
use Rattle.tv_items.specs.declared.action.Action.TheVariants as action
use Rattle.tv_items.specs.declared.action.Heard.TheVariants as heard
use Rattle.tv_script.specs.Happenings.{Happening}
use Rattle.tv_script.specs.Scripts.{Script, Over, Stop, Ask, ◌>>=◌, Reached, Cut}
use Rattle.tv_virtio.specs.declared.queue.QueueStop.{QueueStop}
use Rattle.tv_virtio.specs.declared.queue.QueueStop.TheVariants as stop
use Rattle.tv_virtio.specs.declared.queue.QueueFault.{QueueFault}
use Rattle.tv_virtio.specs.declared.queue.QueueFault.TheVariants as fault
use Rattle.tv_virtio.specs.declared.queue.QueueRegs.{QueueRegs}
use Rattle.tv_virtio.specs.declared.queue.Descriptor.{Descriptor}
use Rattle.tv_virtio.specs.declared.queue.Span.{Span}
use Rattle.tv_virtio.specs.Spans.{Spans, total, pieces, first}

-- what a call did of a script: to its value, to its stop, or up to an action that the port did not answer
abbrev pub RanSo : {A Q : Type 0} → (Q → List Happening → Q → Type 0) → (Q → Type 0) → (Q → Option Action) → Q → Script QueueStop A → Q → Result A QueueStop → Type 0
RanSo moved over stopped p s q (Ok value) = Reached moved p s q (Over value)
RanSo moved over stopped p s q (Err stop.Ended) = Cut moved over stopped p s q
RanSo moved over stopped p s q (Err why) = Reached moved p s q (Stop why)

-- a queue that can be served: its number, and what its size is at least and at most
abbrev pub IsServable : QueueRegs → Type 0
IsServable q = (q.number < 3) × (0 < q.size) × (q.size ≤ QUEUE_SIZE)

-- the address so far past another
abbrev pub from : ℕ → ℕ → ℕ
from base offset = (base + offset) % 2 ^ 64

-- the bytes of a reply, or a stop
abbrev pub heard_bytes : Heard → Script QueueStop (List ℕ)
heard_bytes (heard.Bytes bytes) = Over bytes
heard_bytes h = Stop stop.Refused

abbrev pub heard_done : Heard → Script QueueStop (Unit {0})
heard_done heard.Done = Over tt
heard_done h = Stop stop.Refused

-- so many bytes at an address
abbrev pub read : ℕ → ℕ → Script QueueStop (List ℕ)
read addr len = Ask (action.Read addr len) heard_bytes

-- bytes to an address
abbrev pub write : ℕ → List ℕ → Script QueueStop (Unit {0})
write addr bytes = Ask (action.Write addr bytes) heard_done

-- the little-endian number of n bytes at an address
abbrev pub number : ℕ → ℕ → Script QueueStop ℕ
number n addr = do
  bytes ← read addr n
  Over (little_number n bytes)

-- 1. The next chain

-- the available index, where it says that there is a next chain: it is past `last`, modulo 2^16, by at most the queue's size
abbrev pub next_index : QueueRegs → ℕ → Script QueueStop ℕ
next_index q last = do
  index ← number 2 (from q.driver 2)
  if index == last then Stop stop.Empty else (if nat_lt q.size ((index + (65536 - last)) % 65536) then Stop (stop.Malformed fault.Ahead index) else Over index)

-- the head of the next chain, in its entry of the available ring
abbrev pub ring_entry : QueueRegs → ℕ → Script QueueStop ℕ
ring_entry q last = do
  head ← number 2 (from q.driver (4 + 2 * (last % q.size)))
  if nat_lt head q.size then Over head else Stop (stop.Malformed fault.Head head)

-- both, one after the other
abbrev pub next_head : QueueRegs → ℕ → Script QueueStop ℕ
next_head q last = do
  index ← next_index q last
  ring_entry q last

-- the descriptor that 16 bytes spell
abbrev pub descriptor : List ℕ → Descriptor
descriptor bytes = record { addr = little_number 8 bytes; len = little_number 4 (drop 8 bytes); flags = little_number 2 (drop 12 bytes); next = little_number 2 (drop 14 bytes) }

abbrev pub goes_on : Descriptor → Bool
goes_on d = d.flags % 2 == 1

abbrev pub writes : Descriptor → Bool
writes d = d.flags / 2 % 2 == 1

abbrev pub is_indirect : Descriptor → Bool
is_indirect d = d.flags / 4 % 2 == 1

abbrev pub no_chain : Spans
no_chain = record { readable = []; writable = [] }

-- a chain with one more descriptor
abbrev pub added : Spans → Descriptor → Spans
added c d =
    let span : Span = record { addr = d.addr; len = d.len } in
    if writes d then record { readable = c.readable; writable = c.writable ++ span ∷ [] } else record { readable = c.readable ++ span ∷ []; writable = c.writable }

-- the first fault of one more descriptor of a chain, where `left` may follow it
abbrev pub fault_at : QueueRegs → ℕ → Spans → Descriptor → Option QueueFault
fault_at q left c d =
    if is_indirect d then Some fault.Indirect
    else (if not (writes d) && nat_lt 0 (length c.writable) then Some fault.Order
    else (if nat_lt CHAIN_BYTES (total (if writes d then c.writable else c.readable) + d.len) then Some fault.Long
    else (if goes_on d && left == 0 then Some fault.Loop
    else (if goes_on d && not (nat_lt d.next q.size) then Some fault.Next
    else None))))

-- a chain so far, and the descriptor that is next, if any
pub record Visited : Type 0 where
  pub chain : Spans
  pub next : Option ℕ

abbrev pub visited : ℕ → Spans → Descriptor → Option QueueFault → Script QueueStop Visited
visited at c d (Some f) = Stop (stop.Malformed f at)
visited at c d None = Over (record { chain = added c d; next = if goes_on d then Some d.next else None })

-- one more descriptor of a chain is read, where `left` may follow it
abbrev pub visit : QueueRegs → Spans → ℕ → ℕ → Script QueueStop Visited
visit q c at left = do
  bytes ← read (from q.desc (16 * at)) 16
  visited at c (descriptor bytes) (fault_at q left c (descriptor bytes))

-- on to the next descriptor, if any
abbrev pub onward : (ℕ → Spans → Script QueueStop Spans) → Visited → Script QueueStop Spans
onward go v = elim v.next [ None ↦ Over v.chain | Some at ↦ go at v.chain ]

-- the descriptors of a chain from `at` on, where `left` may follow that one
unfoldable pub walk : QueueRegs → Spans → ℕ → ℕ → Script QueueStop Spans
walk q c at zero = visit q c at 0 >>= onward (λ next c2. Stop (stop.Malformed fault.Loop at))
walk q c at (suc left) = visit q c at (suc left) >>= onward (λ next c2. walk q c2 next left)

-- the bytes of these pieces, after those that were got
unfoldable pub read_pieces : List Span → List ℕ → Script QueueStop (List ℕ)
read_pieces [] got = Over got
read_pieces (p ∷ ps) got = read p.addr p.len >>= λ bytes. read_pieces ps (got ++ bytes)

-- the bytes of these buffers, in pieces
unfoldable pub read_spans : List Span → List ℕ → Script QueueStop (List ℕ)
read_spans [] got = Over got
read_spans (s ∷ ss) got = read_pieces (pieces s) got >>= read_spans ss

-- a chain that was taken
pub record Took : Type 0 where
  pub head : ℕ
  pub chain : Spans
  pub readable : List ℕ

-- the readable bytes of a chain
abbrev pub readable_of : ℕ → Spans → Script QueueStop Took
readable_of head chain = do
  bytes ← read_spans chain.readable []
  Over (record { head = head; chain = chain; readable = bytes })

-- the chain at a head
abbrev pub chain_at : QueueRegs → ℕ → Script QueueStop Took
chain_at q head = do
  chain ← walk q no_chain head (q.size - 1)
  readable_of head chain

-- a take: the next chain, and its readable bytes
abbrev pub take_chain : QueueRegs → ℕ → Script QueueStop Took
take_chain q last = do
  head ← next_head q last
  chain_at q head

-- 2. A chain goes back

-- these bytes to these pieces
unfoldable pub write_pieces : List Span → List ℕ → Script QueueStop (Unit {0})
write_pieces [] bytes = Over tt
write_pieces (p ∷ ps) bytes = write p.addr (take p.len bytes) >>= λ _. write_pieces ps (drop p.len bytes)

-- these bytes to these buffers, in pieces, as far as they go
unfoldable pub write_spans : List Span → List ℕ → Script QueueStop (Unit {0})
write_spans [] bytes = Over tt
write_spans (s ∷ ss) bytes =
    let part : Span = first (length bytes) s in
    write_pieces (pieces part) (take part.len bytes) >>= λ _. write_spans ss (drop part.len bytes)

-- the used element, then the used index
abbrev pub publish : QueueRegs → ℕ → ℕ → ℕ → Script QueueStop (Unit {0})
publish q used head len = do
  _ ← write (from q.device (4 + 8 * (used % q.size))) (little_bytes 4 head ++ little_bytes 4 len)
  write (from q.device 2) (little_bytes 2 ((used + 1) % 65536))

-- whether the driver wants an interrupt (2.7.7)
abbrev pub wants : QueueRegs → Script QueueStop Bool
wants q = do
  flags ← number 2 q.driver
  Over (flags % 2 == 0)

-- a chain to the used ring, and whether the driver wants an interrupt
abbrev pub hand_back : QueueRegs → ℕ → ℕ → ℕ → Script QueueStop Bool
hand_back q used head len = do
  _ ← publish q used head len
  wants q

-- a give: first these bytes to the chain's writable buffers, then the chain to the used ring
abbrev pub give_chain : QueueRegs → ℕ → ℕ → List Span → List ℕ → Script QueueStop Bool
give_chain q used head spans bytes = do
  _ ← write_spans spans bytes
  hand_back q used head (length bytes)

-- 3. What a call ensures of what it leaves beside its result

abbrev pub with_value : {A B : Type 0} → B → Result A QueueStop → Result B QueueStop
with_value b (Ok a) = Ok b
with_value b (Err why) = Err why

abbrev pub with_chain : Spans → Result (Option ℕ) QueueStop → Result Visited QueueStop
with_chain c (Ok next) = Ok (record { chain = c; next = next })
with_chain c (Err why) = Err why

abbrev pub with_took : Spans → List ℕ → Result ℕ QueueStop → Result Took QueueStop
with_took c bytes (Ok head) = Ok (record { head = head; chain = c; readable = bytes })
with_took c bytes (Err why) = Err why
