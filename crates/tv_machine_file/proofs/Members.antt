-- The fault of the member of an array that is read: the first one of those from it on.
use Rattle.std.proofs.Common.{◌≡◌, ◌<◌, ℕ, List, ◌++◌, drop, length, slice_index_or, sym, subst}
use Rattle.toml.specs.declared.value.Value.{Value}
use Rattle.toml.specs.Data.{Items, as_table}
use Rattle.toml.specs.View.{items_view, view}
use Rattle.toml.proofs.Views.{items_view-drop}
use Rattle.tv_machine.specs.declared.kinds.MemRange.{MemRange}
use Rattle.tv_machine_file.specs.declared.fault.FileFault.{FileFault}
use Rattle.tv_machine_file.specs.DeviceFiles.{device_faults, each_range_faults, range_faults, slot_faults}
use Rattle.tv_machine_file.specs.Keys.{Tells, member_path}
use Rattle.tv_machine_file.proofs.Tables.{first_append}

-- a fault told of the first of two lists is told of both
tells_first : (a b : List FileFault) (f : FileFault) → Tells a f → Tells (a ++ b) f
tells_first a b f tells = (tells.0, λ other. first_append a b f (tells.1 other))

pub range_tells : (path : List ℕ) (ram n : ℕ) (ranges : List MemRange) (vs : List Value) (d : Value) (f : FileFault) → n < length vs → d ≡ slice_index_or vs n d
    → Tells (range_faults (member_path path n) ram ranges (as_table (view d))) f → Tells (each_range_faults path ram n ranges (items_view (drop n vs))) f
range_tells path ram n ranges vs d f below is tells =
    subst (λ (ds : Items). Tells (each_range_faults path ram n ranges ds) f) (sym (items_view-drop vs n d below))
    (tells_first (range_faults (member_path path n) ram ranges (as_table (view (slice_index_or vs n d)))) _ f
    (subst (λ (x : Value). Tells (range_faults (member_path path n) ram ranges (as_table (view x))) f) is tells))

pub device_tells : (path : List ℕ) (ram n : ℕ) (vs : List Value) (d : Value) (f : FileFault) → n < length vs → d ≡ slice_index_or vs n d
    → Tells (device_faults (member_path path n) ram (as_table (view d))) f → Tells (slot_faults path ram n (items_view (drop n vs))) f
device_tells path ram n vs d f below is tells =
    subst (λ (ds : Items). Tells (slot_faults path ram n ds) f) (sym (items_view-drop vs n d below))
    (tells_first (device_faults (member_path path n) ram (as_table (view (slice_index_or vs n d)))) _ f
    (subst (λ (x : Value). Tells (device_faults (member_path path n) ram (as_table (view x))) f) is tells))
