-- Devices of a machine file: their faults in the order in which they count, and what those without a fault are.
use Rattle.std.specs.Prelude.{◌≡◌, ℕ, ◌+◌, ◌++◌, ◌&&◌, ◌||◌, ℤ, pos, negsuc, Bool, true, false, if◌then◌else◌, nat_le, nat_lt, List, [], ◌∷◌, codes, Option, Some, None, is_some, option_and_then}
use Rattle.std.specs.List.{AllByRecursion}
use Rattle.toml.specs.Data.{Data, as_str, as_integer, as_bool, as_array, as_table, Items, no_items, item, Members, get_member}
use Rattle.tv_base.specs.declared.limits.TheConstants.{DEVICES, DEVICE_GRANTS, RAM_BASE}
use Rattle.tv_machine.specs.declared.kinds.DeviceKind.{DeviceKind}
use Rattle.tv_machine.specs.declared.kinds.MemRange.{MemRange}
use Rattle.tv_machine.specs.declared.kinds.DeviceSpec.{DeviceSpec}
use Rattle.tv_machine_file.specs.declared.fault.FileFault.{FileFault}
use Rattle.tv_machine_file.specs.declared.fault.FileFault.TheVariants.{Missing, Kind, Overlap}
use Rattle.tv_machine_file.specs.declared.keys.TableKind.{TableKind}
use Rattle.tv_machine_file.specs.declared.keys.TableKind.TheVariants as table_kind
use Rattle.tv_machine_file.specs.Keys.{key_path, member_path, same_text, item_count, unknown_faults, range_fault}

-- 1. Numbers of a memory range

-- the whole number that a key holds, if it is one from 0 on
abbrev pub natural : Option ℤ → Option ℕ
natural None = None
natural (Some (pos n)) = Some n
natural (Some (negsuc n)) = None

abbrev pub natural_at : Option Data → Option ℕ
natural_at None = None
natural_at (Some d) = natural (as_integer d)

-- the faults of a whole number that has to be there
abbrev pub whole_kind_faults : List ℕ → Option ℤ → List FileFault
whole_kind_faults path None = Kind path ∷ []
whole_kind_faults path (Some z) = []

abbrev pub whole_faults : List ℕ → Option Data → List FileFault
whole_faults path None = Missing path ∷ []
whole_faults path (Some d) = whole_kind_faults path (as_integer d)

-- whether `len` bytes from an address on, at least one, lie in guest memory of `ram` bytes
abbrev pub lies_in : ℕ → Option ℕ → Option ℕ → Bool
lies_in ram (Some base) (Some len) = nat_le 1 len && (nat_le RAM_BASE base && nat_le (base + len) (RAM_BASE + ram))
lies_in ram base len = false

-- whether `len` bytes from an address on share one with a range, or with one of some
abbrev pub meets : ℕ → ℕ → MemRange → Bool
meets base len range = nat_lt base (range.base + range.len) && nat_lt range.base (base + len)

abbrev pub meets_any : ℕ → ℕ → List MemRange → Bool
meets_any base len [] = false
meets_any base len (range ∷ ranges) = meets base len range || meets_any base len ranges

-- the same of bytes whose address and number a range tells, at least one
abbrev pub overlaps : Option ℕ → Option ℕ → List MemRange → Bool
overlaps (Some base) (Some len) earlier = nat_le 1 len && meets_any base len earlier
overlaps base len earlier = false

abbrev pub overlap_fault : Bool → List ℕ → List FileFault
overlap_fault true path = Overlap path ∷ []
overlap_fault false path = []

-- 2. Rights

abbrev pub rights_named : List ℕ → Option ℕ
rights_named text =
    if same_text text (codes "r") then Some 1
    else if same_text text (codes "w") then Some 2
    else if same_text text (codes "rw") then Some 3
    else None

abbrev pub rights_text_faults : List ℕ → Option (List ℕ) → List FileFault
rights_text_faults path None = Kind path ∷ []
rights_text_faults path (Some text) = range_fault (is_some (rights_named text)) path

abbrev pub rights_faults : List ℕ → Option Data → List FileFault
rights_faults path None = []
rights_faults path (Some d) = rights_text_faults path (as_str d)

-- the rights that a range tells, both where it tells none
abbrev pub rights_or_both : Option ℕ → ℕ
rights_or_both None = 3
rights_or_both (Some rights) = rights

abbrev pub rights_of : Option Data → ℕ
rights_of None = 3
rights_of (Some d) = rights_or_both (option_and_then rights_named (as_str d))

-- 3. Memory ranges

-- the faults of a range's table, after these ranges
abbrev pub range_table_faults : List ℕ → ℕ → List MemRange → Members → List FileFault
range_table_faults path ram earlier t =
    overlap_fault (overlaps (natural_at (get_member (codes "base") t)) (natural_at (get_member (codes "len") t)) earlier) path
    ++ (unknown_faults table_kind.Range path t
    ++ (whole_faults (key_path path (codes "base")) (get_member (codes "base") t)
    ++ (whole_faults (key_path path (codes "len")) (get_member (codes "len") t)
    ++ (range_fault (lies_in ram (natural_at (get_member (codes "base") t)) (natural_at (get_member (codes "len") t))) (key_path path (codes "len"))
    ++ rights_faults (key_path path (codes "rights")) (get_member (codes "rights") t)))))

abbrev pub range_faults : List ℕ → ℕ → List MemRange → Option Members → List FileFault
range_faults path ram earlier None = Kind path ∷ []
range_faults path ram earlier (Some t) = range_table_faults path ram earlier t

-- the range that a table without a fault tells
abbrev pub or_zero : Option ℕ → ℕ
or_zero None = 0
or_zero (Some n) = n

abbrev pub range_of : Members → MemRange
range_of t = record {
  base = or_zero (natural_at (get_member (codes "base") t));
  len = or_zero (natural_at (get_member (codes "len") t));
  rights = record { 0 = rights_of (get_member (codes "rights") t) };
}

abbrev pub range_list : Option Members → List MemRange
range_list None = []
range_list (Some t) = range_of t ∷ []

abbrev pub ranges_in : Items → List MemRange
ranges_in no_items = []
ranges_in (item d ds) = range_list (as_table d) ++ ranges_in ds

-- the faults of the ranges from the n-th on, after these
abbrev pub each_range_faults : List ℕ → ℕ → ℕ → List MemRange → Items → List FileFault
each_range_faults path ram n earlier no_items = []
each_range_faults path ram n earlier (item d ds) =
    range_faults (member_path path n) ram earlier (as_table d) ++ each_range_faults path ram (n + 1) (earlier ++ range_list (as_table d)) ds

abbrev pub ranges_faults : List ℕ → ℕ → Option Items → List FileFault
ranges_faults path ram None = Kind path ∷ []
ranges_faults path ram (Some ds) = range_fault (nat_le (item_count ds) DEVICE_GRANTS) path ++ each_range_faults path ram 0 [] ds

-- the faults of the array of ranges
abbrev pub mem_faults : List ℕ → ℕ → Option Data → List FileFault
mem_faults path ram None = []
mem_faults path ram (Some d) = ranges_faults path ram (as_array d)

-- the ranges that a device is granted: all guest memory where it doesn't say
abbrev pub all_ram : ℕ → MemRange
all_ram ram = record { base = RAM_BASE; len = ram; rights = record { 0 = 3 } }

abbrev pub ranges_of : Option Items → List MemRange
ranges_of None = []
ranges_of (Some ds) = ranges_in ds

abbrev pub mem_of : ℕ → Option Data → List MemRange
mem_of ram None = all_ram ram ∷ []
mem_of ram (Some d) = ranges_of (as_array d)

-- 4. Devices

-- a truth value that may be missing
abbrev pub flag_kind_faults : List ℕ → Option Bool → List FileFault
flag_kind_faults path None = Kind path ∷ []
flag_kind_faults path (Some flag) = []

abbrev pub flag_faults : List ℕ → Option Data → List FileFault
flag_faults path None = []
flag_faults path (Some d) = flag_kind_faults path (as_bool d)

abbrev pub flag_or : Bool → Option Bool → Bool
flag_or usual None = usual
flag_or usual (Some flag) = flag

abbrev pub flag_of : Bool → Option Data → Bool
flag_of usual None = usual
flag_of usual (Some d) = flag_or usual (as_bool d)

-- the kind that a text names, of those that are built
abbrev pub kind_named : List ℕ → Option DeviceKind
kind_named text = if same_text text (codes "probe") then Some DeviceKind.Probe else None

abbrev pub kind_at : Option Data → Option DeviceKind
kind_at None = None
kind_at (Some d) = option_and_then kind_named (as_str d)

-- the keys that a device has by its kind
abbrev pub table_of : Option DeviceKind → TableKind
table_of None = table_kind.Device
table_of (Some kind) = table_kind.Probe

abbrev pub kind_text_faults : List ℕ → Option (List ℕ) → List FileFault
kind_text_faults path None = Kind path ∷ []
kind_text_faults path (Some text) = range_fault (is_some (kind_named text)) path

abbrev pub kind_faults : List ℕ → Option Data → List FileFault
kind_faults path None = Missing path ∷ []
kind_faults path (Some d) = kind_text_faults path (as_str d)

-- the faults of a device's table
abbrev pub device_table_faults : List ℕ → ℕ → Members → List FileFault
device_table_faults path ram t =
    unknown_faults (table_of (kind_at (get_member (codes "kind") t))) path t
    ++ (kind_faults (key_path path (codes "kind")) (get_member (codes "kind") t)
    ++ (mem_faults (key_path path (codes "mem")) ram (get_member (codes "mem") t)
    ++ flag_faults (key_path path (codes "irq")) (get_member (codes "irq") t)))

abbrev pub device_faults : List ℕ → ℕ → Option Members → List FileFault
device_faults path ram None = Kind path ∷ []
device_faults path ram (Some t) = device_table_faults path ram t

-- the device that a table without a fault tells
abbrev pub kind_or_probe : Option DeviceKind → DeviceKind
kind_or_probe None = DeviceKind.Probe
kind_or_probe (Some kind) = kind

abbrev pub device_of : ℕ → Members → DeviceSpec
device_of ram t =
    record {
      kind = kind_or_probe (kind_at (get_member (codes "kind") t));
      mem = mem_of ram (get_member (codes "mem") t);
      irq = flag_of true (get_member (codes "irq") t);
      disk = None;
      readonly = false;
      output = None;
      input = None;
      sectors = 0;
    }

abbrev pub device_list : ℕ → Option Members → List DeviceSpec
device_list ram None = []
device_list ram (Some t) = device_of ram t ∷ []

abbrev pub devices_in : ℕ → Items → List DeviceSpec
devices_in ram no_items = []
devices_in ram (item d ds) = device_list ram (as_table d) ++ devices_in ram ds

-- the faults of the devices from the n-th on
abbrev pub slot_faults : List ℕ → ℕ → ℕ → Items → List FileFault
slot_faults path ram n no_items = []
slot_faults path ram n (item d ds) = device_faults (member_path path n) ram (as_table d) ++ slot_faults path ram (n + 1) ds

abbrev pub slots_faults : List ℕ → ℕ → Option Items → List FileFault
slots_faults path ram None = Kind path ∷ []
slots_faults path ram (Some ds) = range_fault (nat_le (item_count ds) DEVICES) path ++ slot_faults path ram 0 ds

-- the faults of the array of devices
abbrev pub devices_faults : List ℕ → ℕ → Option Data → List FileFault
devices_faults path ram None = []
devices_faults path ram (Some d) = slots_faults path ram (as_array d)

-- the devices that it tells
abbrev pub slots_of : ℕ → Option Items → List DeviceSpec
slots_of ram None = []
slots_of ram (Some ds) = devices_in ram ds

abbrev pub devices_of : ℕ → Option Data → List DeviceSpec
devices_of ram None = []
devices_of ram (Some d) = slots_of ram (as_array d)

-- the devices that are built are probes
abbrev pub AreProbes : List DeviceSpec → Type 0
AreProbes = AllByRecursion (λ device. device.kind ≡ DeviceKind.Probe)
