-- The state of a device of any kind.
use Rattle.tv_plan.specs.Devices.{DeviceState}
use Rattle.tv_blk.specs.Parts.{state_of as block_state}
use Rattle.tv_console.specs.Parts.{state_of as console_state}
use Rattle.tv_small.specs.Parts.{state_of as entropy_state}
use Rattle.tv_balloon.specs.Parts.{state_of as balloon_state}
use Rattle.tv_devices.specs.declared.AnyDevice.{AnyDevice}
use Rattle.tv_devices.specs.declared.AnyDevice.TheVariants as any

abbrev pub any_state : AnyDevice → DeviceState
any_state (any.Block device) = DeviceState.Block (block_state device)
any_state (any.Console device) = DeviceState.Console (console_state device)
any_state (any.Entropy device) = DeviceState.Entropy (entropy_state device)
any_state (any.Balloon device) = DeviceState.Balloon (balloon_state device)
any_state (any.Probe device) = DeviceState.Probe device
