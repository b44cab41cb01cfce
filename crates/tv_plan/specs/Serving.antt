-- What the devices with queues have in common: when a queue is served, and how a service goes on and ends (VIRTIO 1.2, sections
-- 2.1 and 2.7).
use Rattle.std.specs.Prelude.{ℕ, ◌+◌, ◌%◌, ◌&&◌, not, Bool, if◌then◌else◌, List, slice_index, slice_set}
use Rattle.tv_items.specs.declared.action.Heard.{Heard}
use Rattle.tv_items.specs.declared.action.Heard.TheVariants as heard
use Rattle.tv_items.specs.declared.action.Action.TheVariants as action
use Rattle.tv_script.specs.Scripts.{Script, Stop, Ask}
use Rattle.tv_script.specs.Services.{End, Idle}
use Rattle.tv_transport.specs.Registers.{Registers, has, DRIVER_OK, DEVICE_NEEDS_RESET}
use Rattle.tv_virtio.specs.declared.queue.QueueStop.{QueueStop}
use Rattle.tv_virtio.specs.declared.queue.QueueStop.TheVariants as stop

-- a notification is served where the driver is ready and the device isn't broken
abbrev pub is_served : Registers → Bool
is_served r = has r.status DRIVER_OK && not (has r.status DEVICE_NEEDS_RESET)

-- an index of 16 bits rises
abbrev pub index_raised : List ℕ → ℕ → List ℕ
index_raised xs n = slice_set xs n ((slice_index xs n + 1) % 65536)

-- an interrupt, where it is wanted: what follows where it was raised or wasn't wanted, and what follows where it was refused
abbrev pub interrupted : {S : Type 0} → Script (End S) S → Script (End S) S → Heard → Script (End S) S
interrupted raised refused heard.Done = raised
interrupted raised refused h = refused

abbrev pub interrupt_if : {S : Type 0} → Bool → Script (End S) S → Script (End S) S → Script (End S) S
interrupt_if wanted raised refused = if wanted then Ask action.Raise (interrupted raised refused) else raised

-- a broken service ends in this state. Where the driver is ready an interrupt tells it; nothing more comes of a refusal of that
abbrev pub broken_off : {S : Type 0} → Registers → S → Script (End S) S
broken_off r broke = if has r.status DRIVER_OK then Ask action.Raise (λ h. Stop (Idle broke)) else Stop (Idle broke)

-- what a stop of a queue means: where no chain is left the service ends, and any other breaks it
abbrev pub stopped_as : {S : Type 0} → S → Script (End S) S → QueueStop → Script (End S) S
stopped_as rested broke stop.Empty = Stop (Idle rested)
stopped_as rested broke why = broke
