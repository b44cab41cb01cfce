-- A guest, and how it begins.
use Rattle.std.specs.Prelude.{◌≡◌, ℕ, ◌<◌, ◌≤◌, List, length}
use Rattle.std.specs.List.{slice_index_or}
use Rattle.tv_hart.specs.Hart.{first_hart}
use Rattle.tv_hart.specs.HartState.{HartState}
use Rattle.tv_machine.specs.declared.machine.Machine.{Machine}
use Rattle.tv_ram.specs.Memory.{with_image}
use Rattle.tv_spec.specs.declared.Mode.{Mode}
use Rattle.tv_spec.specs.declared.Mode.TheVariants as mode
use Rattle.tv_spec.specs.declared.Shown.{Shown}
use Rattle.tv_spec.specs.declared.Shown.TheVariants as shown
use Rattle.tv_spec.specs.LocalState.{first_local}
use Rattle.tv_guest.specs.GuestState.{GuestState}

-- it has at most 8 harts, nothing is shown between events, and a run that goes on is below its limit
pub record IsGuest (harts : List HartState) (seen : Shown) (now : Mode) (events steps : ℕ) : Type 0 where
  pub few : length harts ≤ 8
  pub quiet : seen ≡ shown.Nothing
  pub within : now ≡ mode.Running → events < steps

-- as the run of a machine with an image begins
pub record IsFirst (guest : GuestState) (machine : Machine) (image : List ℕ) : Type 0 where
  pub steps : guest.steps ≡ machine.steps
  pub count : length guest.harts ≡ machine.harts
  pub each : (number : ℕ) → slice_index_or guest.harts number (first_hart number) ≡ first_hart number
  pub local : guest.local ≡ first_local machine.harts (length machine.device) (with_image machine.ram image)
  pub mode_is : guest.mode ≡ mode.Running
  pub events : guest.events ≡ 0

-- harts at their start, in the order of their numbers
pub record AreFirst (harts : List HartState) (count : ℕ) : Type 0 where
  pub count_is : length harts ≡ count
  pub each : (number : ℕ) → slice_index_or harts number (first_hart number) ≡ first_hart number
