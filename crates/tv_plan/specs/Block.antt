-- The block device (VIRTIO 1.2, section 5.2): each chain of its one queue is a request of the driver, on sectors of 512 bytes.
--     a request (5.2.6)   readable: type 4 bytes, reserved 4, sector 8, then the bytes to be written
--                         writable: the content, then one byte of status: 0 done, 1 failed, 2 not supported
--     its configuration   the capacity in sectors, 8 bytes
-- What the standard leaves to the device is settled so: all writable bytes are written, the content being zeros but where the
-- request gives one, and always where the status isn't 0; the sectors are read and written one by one, in order, and a failed
-- one is the last; a request without its 16 bytes or without a byte for its status breaks the device.
use Rattle.std.specs.Prelude.{◌≡◌, ℕ, zero, suc, ◌+◌, ◌-◌, ◌/◌, ◌%◌, ◌==◌, ◌&&◌, ◌||◌, not, nat_le, nat_lt, Bool, true, false, if◌then◌else◌, List, [], ◌∷◌, ◌++◌, length, take, drop, replicate, slice_index, slice_set, Option, Some, None}
use Rattle.std.proofs.Common.{refl}
use Rattle.byteorder.specs.Endian.{little_number, little_bytes}
use Rattle.tv_items.specs.declared.item.Item.{Item}
use Rattle.tv_items.specs.declared.item.Item.TheVariants as item
use Rattle.tv_items.specs.declared.item.Verdict.{Verdict}
use Rattle.tv_items.specs.declared.action.Heard.{Heard}
use Rattle.tv_items.specs.declared.action.Heard.TheVariants as heard
use Rattle.tv_items.specs.declared.action.Action.TheVariants as action
use Rattle.tv_script.specs.Scripts.{Script, Over, Stop, Ask, Tell, ◌>>=◌, caught}
use Rattle.tv_script.specs.Services.{End, Idle, Plan, opened}
use Rattle.tv_transport.specs.declared.registers.Effect.{Effect}
use Rattle.tv_transport.specs.declared.registers.Effect.TheVariants as effect
use Rattle.tv_transport.specs.declared.registers.TheConstants.{VERSION_1}
use Rattle.tv_transport.specs.Registers.{Registers, first_registers, transport_load, transport_store, has, DRIVER_OK, queue_regs, broken, buffer_used, config_changed}
use Rattle.tv_plan.specs.Serving.{is_served, index_raised, interrupt_if, broken_off, stopped_as}
use Rattle.tv_virtio.specs.declared.queue.QueueRegs.{QueueRegs}
use Rattle.tv_virtio.specs.declared.queue.QueueStop.{QueueStop}
use Rattle.tv_virtio.specs.Spans.{total}
use Rattle.tv_virtio.specs.Queue.{take_chain, give_chain, Took}

-- a disk in a slot: how many sectors it has, and whether it can only be read
pub record BlockDisk : Type 0 where
  pub slot : ℕ
  pub sectors : ℕ
  pub readonly : Bool

-- its disk, its registers, how far its queue is, and what is due or under way: the service of a queue, or a resize, by its
-- tag and the number of sectors
pub record BlockState : Type 0 where
  pub disk : BlockDisk
  pub registers : Registers
  pub last : List ℕ
  pub used : List ℕ
  pub serving : Option QueueRegs
  pub resizing : Option (ℕ × ℕ)

-- features (5.2.3): the disk can only be read, and requests to flush
abbrev pub READ_ONLY : ℕ
READ_ONLY = 0x20

abbrev pub FLUSH : ℕ
FLUSH = 0x200

abbrev pub block_features : Bool → ℕ
block_features readonly = VERSION_1 + (FLUSH + (if readonly then READ_ONLY else 0))

abbrev pub new_block : ℕ → ℕ → Bool → BlockState
new_block slot sectors readonly = record {
  disk = record { slot = slot; sectors = sectors; readonly = readonly };
  registers = first_registers 2 (block_features readonly) 1;
  last = replicate 3 0;
  used = replicate 3 0;
  serving = None;
  resizing = None;
}

-- 1. Items

-- an item comes only where nothing is under way
abbrev pub block_rested : BlockState → BlockState
block_rested b = record b { serving = None; resizing = None }

abbrev pub block_effect : BlockState → Effect → BlockState
block_effect b (effect.Ready n) = record b { last = slice_set b.last n 0; used = slice_set b.used n 0 }
block_effect b (effect.Notify n) = record b { serving = if is_served b.registers then queue_regs b.registers n else None }
block_effect b _ = b

abbrev pub block_acted : BlockState → ℕ → Item → BlockState
block_acted b tag (item.Store width off value) =
    let s = transport_store b.registers width off value in
    let rested : BlockState = block_rested b in
    block_effect (record rested { registers = s.registers }) s.effect
block_acted b tag (item.Resize sectors) = record b { serving = None; resizing = Some (tag, sectors) }
block_acted b tag i = block_rested b

abbrev pub block_loaded : BlockState → Item → ℕ
block_loaded b (item.Load width off) = transport_load b.registers (little_bytes 8 b.disk.sectors) width off
block_loaded b i = 0

-- 2. Requests

-- what a request comes to: its status, and its content as far as that isn't zeros
pub record Response : Type 0 where
  pub status : ℕ
  pub content : List ℕ

abbrev pub done : List ℕ → Response
done content = record { status = 0; content = content }

abbrev pub failed : Response
failed = record { status = 1; content = [] }

abbrev pub unsupported : Response
unsupported = record { status = 2; content = [] }

-- so many bytes of a content, and then the status
abbrev pub response_bytes : ℕ → Response → List ℕ
response_bytes len r = take len (r.content ++ replicate len 0) ++ (r.status ∷ [])

-- bytes are whole sectors, and these are all below the capacity
abbrev pub are_sectors : ℕ → ℕ → ℕ → Bool
are_sectors capacity sector len = len % 512 == 0 && (len == 0 || nat_le (sector + len / 512) capacity)

-- a sector, if it could be read
abbrev pub heard_sector : Heard → Script QueueStop (Option (List ℕ))
heard_sector (heard.Bytes bytes) = Over (Some bytes)
heard_sector h = Over None

abbrev pub read_sector : ℕ → Script QueueStop (Option (List ℕ))
read_sector sector = Ask (action.DiskRead sector) heard_sector

abbrev pub sector_read : (List ℕ → Script QueueStop (Option (List ℕ))) → Option (List ℕ) → Script QueueStop (Option (List ℕ))
sector_read go None = Over None
sector_read go (Some bytes) = go bytes

-- so many sectors from one on, after the bytes that were got
unfoldable pub read_sectors : ℕ → ℕ → List ℕ → Script QueueStop (Option (List ℕ))
read_sectors zero sector got = Over (Some got)
read_sectors (suc n) sector got = read_sector sector >>= sector_read (λ bytes. read_sectors n (sector + 1) (got ++ bytes))

-- whether an action was done
abbrev pub heard_whether : Heard → Script QueueStop Bool
heard_whether heard.Done = Over true
heard_whether h = Over false

abbrev pub write_sector : ℕ → List ℕ → Script QueueStop Bool
write_sector sector bytes = Ask (action.DiskWrite sector bytes) heard_whether

abbrev pub sector_written : Script QueueStop Bool → Bool → Script QueueStop Bool
sector_written go true = go
sector_written go false = Over false

-- the first bytes to so many sectors from one on
unfoldable pub write_sectors : ℕ → ℕ → List ℕ → Script QueueStop Bool
write_sectors zero sector bytes = Over true
write_sectors (suc n) sector bytes =
    write_sector sector (take 512 bytes) >>= sector_written (write_sectors n (sector + 1) (drop 512 bytes))

abbrev pub response_read : Option (List ℕ) → Script QueueStop Response
response_read None = Over failed
response_read (Some content) = Over (done content)

abbrev pub response_whether : Bool → Script QueueStop Response
response_whether true = Over (done [])
response_whether false = Over failed

-- type 0, VIRTIO_BLK_T_IN
abbrev pub block_in : ℕ → ℕ → ℕ → Script QueueStop Response
block_in capacity sector len =
    if are_sectors capacity sector len then read_sectors (len / 512) sector [] >>= response_read else Over failed

-- type 1, VIRTIO_BLK_T_OUT
abbrev pub block_out : ℕ → Bool → ℕ → List ℕ → Script QueueStop Response
block_out capacity readonly sector bytes =
    if not readonly && are_sectors capacity sector (length bytes)
    then write_sectors (length bytes / 512) sector bytes >>= response_whether
    else Over failed

-- type 4, VIRTIO_BLK_T_FLUSH
abbrev pub block_flush : Script QueueStop Response
block_flush = Ask action.Flush heard_whether >>= response_whether

-- type 8, VIRTIO_BLK_T_GET_ID: `tv-blk-` and the slot's digit
abbrev pub block_id : ℕ → List ℕ
block_id slot = 0x74 ∷ 0x76 ∷ 0x2d ∷ 0x62 ∷ 0x6c ∷ 0x6b ∷ 0x2d ∷ (0x30 + slot) ∷ []

-- the request that these bytes say, with room for so many bytes of content
abbrev pub block_request : BlockDisk → List ℕ → ℕ → Script QueueStop Response
block_request disk readable len =
    let kind : ℕ = little_number 4 readable in
    let sector : ℕ = little_number 8 (drop 8 readable) in
    if kind == 0 then block_in disk.sectors sector len
    else if kind == 1 then block_out disk.sectors disk.readonly sector (drop 16 readable)
    else if kind == 4 then block_flush
    else if kind == 8 then Over (done (block_id disk.slot))
    else Over unsupported

-- 3. Services

-- a broken service: the device needs a reset
abbrev pub block_broke : BlockState → BlockState
block_broke b = record b { registers = broken b.registers; serving = None; resizing = None }

abbrev pub block_broken : BlockState → Script (End BlockState) BlockState
block_broken b = broken_off b.registers (block_broke b)

abbrev pub block_stopped : BlockState → QueueStop → Script (End BlockState) BlockState
block_stopped b = stopped_as (block_rested b) (block_broken b)

-- a buffer was used; a refused interrupt is not followed by another
abbrev pub block_finish : BlockState → Bool → Script (End BlockState) BlockState
block_finish b wanted =
    let told : BlockState = record b { registers = buffer_used b.registers } in
    interrupt_if wanted (Over told) (Stop (Idle (block_broke told)))

-- the bytes go to the chain, and the chain to the used ring
abbrev pub block_hand : BlockState → QueueRegs → Took → List ℕ → Script (End BlockState) BlockState
block_hand b q took bytes =
    caught (give_chain q (slice_index b.used q.number) took.head took.chain.writable bytes) (block_stopped b)
    (block_finish (record b { used = index_raised b.used q.number }))

-- a request is served, and its chain given back with all writable bytes written
abbrev pub block_answer : BlockState → QueueRegs → Took → ℕ → Script (End BlockState) BlockState
block_answer b q took len =
    caught (block_request b.disk took.readable len) (block_stopped b) (λ r. block_hand b q took (response_bytes len r))

abbrev pub block_served : BlockState → QueueRegs → Took → ℕ → Script (End BlockState) BlockState
block_served b q took writable =
    if nat_lt (length took.readable) 16 || writable == 0 then block_broken b else block_answer b q took (writable - 1)

-- a round: the next chain
abbrev pub block_round : BlockState → Option QueueRegs → Script (End BlockState) BlockState
block_round b None = Stop (Idle b)
block_round b (Some q) =
    caught (take_chain q (slice_index b.last q.number)) (block_stopped b)
    (λ took. block_served (record b { last = index_raised b.last q.number }) q took (total took.chain.writable))

-- 4. A resize

abbrev pub resize_verdict : ℕ → ℕ → Verdict
resize_verdict tag status = record { tag = tag; status = status; other = 0; stats = [] }

-- the driver hears of the new capacity by an interrupt where it is ready
abbrev pub resize_told : BlockState → Script (End BlockState) BlockState
resize_told b = interrupt_if (has b.registers.status DRIVER_OK) (Stop (Idle b)) (Stop (Idle (block_broke b)))

abbrev pub with_sectors : BlockDisk → ℕ → BlockDisk
with_sectors disk sectors = record disk { sectors = sectors }

abbrev pub block_resized : BlockState → ℕ → BlockState
block_resized b sectors =
    record b { disk = with_sectors b.disk sectors; registers = config_changed b.registers; serving = None; resizing = None }

-- where the disk has the new length the capacity changes, with the generation of the configuration; else nothing does
abbrev pub resized : BlockState → ℕ → ℕ → Heard → Script (End BlockState) BlockState
resized b tag sectors heard.Done =
    Tell (resize_verdict tag 0) (resize_told (block_resized b sectors))
resized b tag sectors h = Tell (resize_verdict tag 7) (Stop (Idle (block_rested b)))

-- a service begins with the resize that is due, or with a round
abbrev pub block_begins : BlockState → Option (ℕ × ℕ) → Option QueueRegs → Script (End BlockState) BlockState
block_begins b (Some resize) serving = Ask (action.SetLen resize.1) (resized b resize.0 resize.1)
block_begins b None None = Stop (Idle b)
block_begins b None (Some q) = Over b

abbrev pub block_plan : Plan BlockState
block_plan = record { begins = λ b. block_begins b b.resizing b.serving; round = λ b. block_round b b.serving }

-- a round begins with an action, or ends the service
round_opens : (b : BlockState) (q : Option QueueRegs) → opened block_plan.round (block_round b q) ≡ block_round b q
unfolding opened caught ◌>>=◌
round_opens b None = refl
round_opens b (Some q) = refl

pub block_opens : (b : BlockState) → opened block_plan.round (block_plan.round b) ≡ block_plan.round b
block_opens b = round_opens b b.serving
