-- The registers of the memory-mapped transport (VIRTIO 1.2, section 4.2.2), version 2. A driver loads and stores 4 bytes at their
-- offsets; the device's configuration lies behind them, from 0x100 on, and takes each width.
--
-- What the standard leaves to the device is settled so: other loads below 0x100 give 0 and other stores do nothing; a store to
-- Status sets bits and clears none, and a bit that may not be set stays clear; each queue may have up to 256 descriptors.
use Rattle.std.specs.Prelude.{◌≡◌, ◌<◌, ℕ, ◌+◌, ◌-◌, ◌*◌, ◌/◌, ◌%◌, ◌^◌, ◌==◌, ◌&&◌, ◌||◌, nat_lt, if◌then◌else◌, Bool, true, false, List, length, replicate, set, slice_index, Option, Some, None}
use Rattle.std.specs.List.{slice_get}
use Rattle.std.specs.Int.RustNames.{bit_and, bit_or}
use Rattle.tv_base.specs.declared.limits.TheConstants.{QUEUE_SIZE}
use Rattle.tv_base.specs.declared.Width.{Width}
use Rattle.tv_base.specs.declared.Width.TheVariants.{B1, B2, B4, B8}
use Rattle.tv_virtio.specs.declared.queue.QueueRegs.{QueueRegs}
use Rattle.tv_transport.specs.declared.registers.Register.{Register}
use Rattle.tv_transport.specs.declared.registers.Register.TheVariants as register
use Rattle.tv_transport.specs.declared.registers.QueueState.{QueueState}
use Rattle.tv_transport.specs.declared.registers.Effect.{Effect}
use Rattle.tv_transport.specs.declared.registers.Effect.TheVariants as effect
use Rattle.tv_transport.specs.declared.registers.TheConstants.{VERSION_1}

-- which register lies at an offset
abbrev pub register_at : ℕ → Option Register
register_at off =
    if off == 0x000 then Some register.MagicValue
    else if off == 0x004 then Some register.Version
    else if off == 0x008 then Some register.DeviceId
    else if off == 0x00C then Some register.VendorId
    else if off == 0x010 then Some register.DeviceFeatures
    else if off == 0x014 then Some register.DeviceFeaturesSel
    else if off == 0x020 then Some register.DriverFeatures
    else if off == 0x024 then Some register.DriverFeaturesSel
    else if off == 0x030 then Some register.QueueSel
    else if off == 0x034 then Some register.QueueNumMax
    else if off == 0x038 then Some register.QueueNum
    else if off == 0x044 then Some register.QueueReady
    else if off == 0x050 then Some register.QueueNotify
    else if off == 0x060 then Some register.InterruptStatus
    else if off == 0x064 then Some register.InterruptAck
    else if off == 0x070 then Some register.Status
    else if off == 0x080 then Some register.QueueDescLow
    else if off == 0x084 then Some register.QueueDescHigh
    else if off == 0x090 then Some register.QueueDriverLow
    else if off == 0x094 then Some register.QueueDriverHigh
    else if off == 0x0A0 then Some register.QueueDeviceLow
    else if off == 0x0A4 then Some register.QueueDeviceHigh
    else if off == 0x0FC then Some register.ConfigGeneration
    else None

-- a device's registers: its type and the features that it offers, which stay; what the driver selected and stored; and the
-- registers of each of its queues
pub record Registers : Type 0 where
  pub kind : ℕ
  pub offered : ℕ
  pub device_select : ℕ
  pub driver_select : ℕ
  pub queue_select : ℕ
  pub accepted : ℕ
  pub status : ℕ
  pub interrupt : ℕ
  pub generation : ℕ
  pub queues : List QueueState

abbrev pub no_queue : QueueState
no_queue = record { size = 0; is_ready = false; desc = 0; driver = 0; device = 0 }

-- at the start; a reset leads back there, but for the generation
abbrev pub first_registers : ℕ → ℕ → ℕ → Registers
first_registers kind offered queues =
    record { kind = kind; offered = offered; device_select = 0; driver_select = 0; queue_select = 0; accepted = 0; status = 0; interrupt = 0; generation = 0; queues = replicate queues no_queue }

abbrev pub reset_registers : Registers → Registers
reset_registers r = let fresh = first_registers r.kind r.offered (length r.queues) in record fresh { generation = r.generation }

-- 1. Loads

-- the half of a number of 8 bytes that a select names
abbrev pub half : ℕ → ℕ → ℕ
half select number = if select == 0 then number % 2 ^ 32 else if select == 1 then number / 2 ^ 32 else 0

-- the queue that the driver selected, if there is one
abbrev pub selected : Registers → Option QueueState
selected r = slice_get r.queues r.queue_select

abbrev pub size_most : Option QueueState → ℕ
size_most None = 0
size_most (Some q) = QUEUE_SIZE

abbrev pub readiness : Option QueueState → ℕ
readiness None = 0
readiness (Some q) = if q.is_ready then 1 else 0

-- what a register shows; those that are only stored to show 0
abbrev pub shown : Registers → Register → ℕ
shown r register.MagicValue = 0x74726976
shown r register.Version = 2
shown r register.DeviceId = r.kind
shown r register.VendorId = 0x5654
shown r register.DeviceFeatures = half r.device_select r.offered
shown r register.QueueNumMax = size_most (selected r)
shown r register.QueueReady = readiness (selected r)
shown r register.InterruptStatus = r.interrupt
shown r register.Status = r.status
shown r register.ConfigGeneration = r.generation
shown r _ = 0

abbrev pub shown_at : Registers → Option Register → ℕ
shown_at r None = 0
shown_at r (Some g) = shown r g

-- so many bytes of a configuration from an offset on, least first; those past its end are 0
abbrev pub config_byte : List ℕ → ℕ → ℕ
config_byte config at = slice_index config at

abbrev pub config_half : List ℕ → ℕ → ℕ
config_half config at = config_byte config at + 2 ^ 8 * config_byte config (at + 1)

abbrev pub config_word : List ℕ → ℕ → ℕ
config_word config at = config_half config at + 2 ^ 16 * config_half config (at + 2)

abbrev pub config_load : List ℕ → Width → ℕ → ℕ
config_load config B1 at = config_byte config at
config_load config B2 at = config_half config at
config_load config B4 at = config_word config at
config_load config B8 at = config_word config at + 2 ^ 32 * config_word config (at + 4)

-- a load
abbrev pub register_load : Registers → Width → ℕ → ℕ
register_load r B4 off = shown_at r (register_at off)
register_load r width off = 0

abbrev pub transport_load : Registers → List ℕ → Width → ℕ → ℕ
transport_load r config width off = if nat_lt off 0x100 then register_load r width off else config_load config width (off - 0x100)

-- 2. Stores

-- a number of 8 bytes with another low, and another high half
abbrev pub with_low : ℕ → ℕ → ℕ
with_low number value = number / 2 ^ 32 * 2 ^ 32 + value

abbrev pub with_high : ℕ → ℕ → ℕ
with_high number value = value * 2 ^ 32 + number % 2 ^ 32

-- bits of Status (section 2.1)
abbrev pub DRIVER_OK : ℕ
DRIVER_OK = 4

abbrev pub FEATURES_OK : ℕ
FEATURES_OK = 8

abbrev pub DEVICE_NEEDS_RESET : ℕ
DEVICE_NEEDS_RESET = 64

-- those that may be set at any time: ACKNOWLEDGE 1, DRIVER 2 and FAILED 128
abbrev pub PLAIN : ℕ
PLAIN = 0x83

-- bits of InterruptStatus: a buffer was used, and the configuration changed
abbrev pub USED_BUFFER : ℕ
USED_BUFFER = 1

abbrev pub CONFIG_CHANGE : ℕ
CONFIG_CHANGE = 2

abbrev pub has : ℕ → ℕ → Bool
has bits flag = bit_and bits flag == flag

-- bits of a byte without others
abbrev pub without : ℕ → ℕ → ℕ
without bits others = bit_and bits (2 ^ 8 - 1 - others)

-- the accepted features can be used: they are among the offered ones and hold VERSION_1
abbrev pub can_accept : ℕ → ℕ → Bool
can_accept accepted offered = (bit_and accepted offered == accepted) && has accepted VERSION_1

-- Status after a store of `value`: FEATURES_OK is newly set only where the accepted features can be used, and then DRIVER_OK
-- only where FEATURES_OK is set
abbrev pub with_features_ok : ℕ → ℕ → Bool → ℕ
with_features_ok status value can = if has value FEATURES_OK && can then bit_or status FEATURES_OK else status

abbrev pub with_driver_ok : ℕ → ℕ → ℕ
with_driver_ok status value = if has value DRIVER_OK && has status FEATURES_OK then bit_or status DRIVER_OK else status

abbrev pub status_stored : Registers → ℕ → ℕ
status_stored r value = with_driver_ok (with_features_ok (bit_or r.status (bit_and value PLAIN)) value (can_accept r.accepted r.offered)) value

-- the accepted features, half by half; they stay once FEATURES_OK is set
abbrev pub accepted_stored : Registers → ℕ → ℕ
accepted_stored r value =
    if has r.status FEATURES_OK then r.accepted
    else if r.driver_select == 0 then with_low r.accepted value
    else if r.driver_select == 1 then with_high r.accepted value
    else r.accepted

-- a queue can be made ready: its size is a power of two up to 256, and its areas are aligned (section 2.7)
abbrev pub is_size : ℕ → Bool
is_size n = n == 1 || n == 2 || n == 4 || n == 8 || n == 16 || n == 32 || n == 64 || n == 128 || n == 256

abbrev pub can_be_ready : QueueState → Bool
can_be_ready q = is_size q.size && q.desc % 16 == 0 && q.driver % 2 == 0 && q.device % 4 == 0

-- a store to a register of the queue's size and areas
abbrev pub laid_out : QueueState → Register → ℕ → QueueState
laid_out q register.QueueNum value = record q { size = value }
laid_out q register.QueueDescLow value = record q { desc = with_low q.desc value }
laid_out q register.QueueDescHigh value = record q { desc = with_high q.desc value }
laid_out q register.QueueDriverLow value = record q { driver = with_low q.driver value }
laid_out q register.QueueDriverHigh value = record q { driver = with_high q.driver value }
laid_out q register.QueueDeviceLow value = record q { device = with_low q.device value }
laid_out q register.QueueDeviceHigh value = record q { device = with_high q.device value }
laid_out q _ value = q

-- the registers then, and what the store means for the device
pub record Stored : Type 0 where
  pub registers : Registers
  pub effect : Effect

abbrev pub silently : Registers → Stored
silently r = record { registers = r; effect = effect.None }

abbrev pub with_selected : Registers → QueueState → Registers
with_selected r q = record r { queues = set r.queues r.queue_select q }

-- a queue's size and areas stay while it is ready
abbrev pub laid_out_in : Registers → Option QueueState → Register → ℕ → Registers
laid_out_in r None g value = r
laid_out_in r (Some q) g value = if q.is_ready then r else with_selected r (laid_out q g value)

-- a store to QueueReady, by its bit 0: a queue is made not ready, or ready where it can be and isn't
abbrev pub ready_stored : Registers → Option QueueState → ℕ → Stored
ready_stored r None value = silently r
ready_stored r (Some q) value =
    if value % 2 == 0 then silently (with_selected r (record q { is_ready = false }))
    else if q.is_ready then silently r
    else if can_be_ready q then record { registers = with_selected r (record q { is_ready = true }); effect = effect.Ready r.queue_select }
    else silently r

-- a notification names a queue by a number below 2^16
abbrev pub notified : ℕ → Effect
notified value = if nat_lt value (2 ^ 16) then effect.Notify value else effect.None

-- a store of 4 bytes to a register; one to a register that is only loaded does nothing
abbrev pub stored : Registers → Register → ℕ → Stored
stored r register.DeviceFeaturesSel value = silently (record r { device_select = value })
stored r register.DriverFeatures value = silently (record r { accepted = accepted_stored r value })
stored r register.DriverFeaturesSel value = silently (record r { driver_select = value })
stored r register.QueueSel value = silently (record r { queue_select = value })
stored r register.QueueReady value = ready_stored r (selected r) value
stored r register.QueueNotify value = record { registers = r; effect = notified value }
stored r register.InterruptAck value = silently (record r { interrupt = without r.interrupt (value % 2 ^ 8) })
stored r register.Status value =
    if value == 0 then record { registers = reset_registers r; effect = effect.Reset }
    else silently (record r { status = status_stored r (value % 2 ^ 8) })
stored r register.QueueNum value = silently (laid_out_in r (selected r) register.QueueNum value)
stored r register.QueueDescLow value = silently (laid_out_in r (selected r) register.QueueDescLow value)
stored r register.QueueDescHigh value = silently (laid_out_in r (selected r) register.QueueDescHigh value)
stored r register.QueueDriverLow value = silently (laid_out_in r (selected r) register.QueueDriverLow value)
stored r register.QueueDriverHigh value = silently (laid_out_in r (selected r) register.QueueDriverHigh value)
stored r register.QueueDeviceLow value = silently (laid_out_in r (selected r) register.QueueDeviceLow value)
stored r register.QueueDeviceHigh value = silently (laid_out_in r (selected r) register.QueueDeviceHigh value)
stored r _ value = silently r

abbrev pub stored_at : Registers → Option Register → ℕ → Stored
stored_at r None value = silently r
stored_at r (Some g) value = stored r g value

-- a store
abbrev pub register_store : Registers → Width → ℕ → ℕ → Stored
register_store r B4 off value = stored_at r (register_at off) (value % 2 ^ 32)
register_store r width off value = silently r

abbrev pub transport_store : Registers → Width → ℕ → ℕ → Stored
transport_store r width off value = if nat_lt off 0x100 then register_store r width off value else record { registers = r; effect = effect.Config }

-- a queue that is ready could be made so
abbrev pub IsSound : QueueState → Type 0
IsSound q = q.is_ready ≡ true → can_be_ready q ≡ true

-- 3. What the device does to its registers

-- it needs a reset
abbrev pub broken : Registers → Registers
broken r = record r { status = bit_or r.status DEVICE_NEEDS_RESET; interrupt = bit_or r.interrupt CONFIG_CHANGE }

-- its configuration changed
abbrev pub config_changed : Registers → Registers
config_changed r = record r { generation = (r.generation + 1) % 2 ^ 32; interrupt = bit_or r.interrupt CONFIG_CHANGE }

-- it used a buffer
abbrev pub buffer_used : Registers → Registers
buffer_used r = record r { interrupt = bit_or r.interrupt USED_BUFFER }

-- a queue that is ready
abbrev pub ready_regs : ℕ → Option QueueState → Option QueueRegs
ready_regs number None = None
ready_regs number (Some q) =
    if q.is_ready then Some (record { number = number; size = q.size; desc = q.desc; driver = q.driver; device = q.device }) else None

abbrev pub queue_regs : Registers → ℕ → Option QueueRegs
queue_regs r number = ready_regs number (slice_get r.queues number)

-- what is known of it, where there are so many queues
pub record IsReadyQueue (queues : ℕ) (q : QueueRegs) : Type 0 where
  pub there : q.number < queues
  pub size : is_size q.size ≡ true
  pub desc : q.desc % 16 ≡ 0
  pub driver : q.driver % 2 ≡ 0
  pub device : q.device % 4 ≡ 0
