-- What an item comes to.
use Rattle.std.specs.Prelude.{◌≡◌, ◌≤◌}
use Rattle.tv_base.specs.declared.limits.TheConstants.{DISK_SECTORS}
use Rattle.tv_items.specs.declared.item.Item.{Item}
use Rattle.tv_items.specs.declared.item.Item.TheVariants as item
use Rattle.tv_plan.specs.Devices.{DeviceState, Acted}
use Rattle.tv_port.specs.declared.device.Acted.{Acted as ActedCode}

-- an item on which a device may be asked to act
abbrev pub CanAct : Item → Type 0
CanAct (item.Resize sectors) = sectors ≤ DISK_SECTORS
CanAct i = Unit {0}

-- an item was acted on
pub record ActedSo (acted : Acted) (new : DeviceState) (result : ActedCode) : Type 0 where
  pub device : new ≡ acted.device
  pub value : result.value ≡ acted.value
  pub verdict : result.verdict ≡ acted.verdict
