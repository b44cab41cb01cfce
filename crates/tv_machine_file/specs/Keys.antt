-- Keys of a machine file: which there are, their paths, and the faults of a key's value.
use Rattle.std.specs.Prelude.{◌≡◌, ◌≢◌, ℕ, ◌+◌, ◌%◌, ◌&&◌, ◌||◌, ◌++◌, ℤ, pos, negsuc, Bool, true, false, if◌then◌else◌, nat_eq, nat_le, List, [], ◌∷◌, length, codes, decimal, Option, Some, None}
use Rattle.std.specs.Prelude.{String}
use Rattle.std.specs.BTreeMap.{BTreeMap}
use Rattle.std.specs.declared.alloc.Global.{Global}
use Rattle.std.specs.Cmp.Lexicographic.{pointwise, slice_cmp}
use Rattle.std.specs.Ordering.{nat_cmp, match_ordering}
use Rattle.toml.specs.declared.value.Value.{Value}
use Rattle.toml.specs.View.{table_view}
use Rattle.toml.specs.Data.{Data, as_str, as_integer, Items, no_items, item, Members, no_members, member, get_member}
use Rattle.tv_machine_file.specs.declared.fault.FileFault.{FileFault}
use Rattle.tv_machine_file.specs.declared.fault.FileFault.TheVariants.{NotToml, Unknown, Missing, Kind, Range, Twice, Overlap, Memory}
use Rattle.tv_machine_file.specs.declared.keys.Bounds.{Bounds}
use Rattle.tv_machine_file.specs.declared.keys.Rule.{Rule}
use Rattle.tv_machine_file.specs.declared.keys.Rule.TheVariants as rule
use Rattle.tv_machine_file.specs.declared.keys.TableKind.{TableKind}
use Rattle.tv_machine_file.specs.declared.keys.TableKind.TheVariants as table_kind

-- the first fault, if there is one
abbrev pub first : List FileFault → Option FileFault
first [] = None
first (fault ∷ faults) = Some fault

-- a fault is the first of these, unless it is want of memory
abbrev pub Tells : List FileFault → FileFault → Type 0
Tells faults fault = (fault ≢ NotToml) × (fault ≢ Memory → first faults ≡ Some fault)

-- the fault of a key that breaks a rule
abbrev pub fault_of : Rule → List ℕ → FileFault
fault_of rule.Unknown path = Unknown path
fault_of rule.Missing path = Missing path
fault_of rule.Kind path = Kind path
fault_of rule.Range path = Range path
fault_of rule.Twice path = Twice path
fault_of rule.Overlap path = Overlap path

-- the path of a key in the table at a path; the file itself has the empty path
abbrev pub key_path : List ℕ → List ℕ → List ℕ
key_path [] key = key
key_path (byte ∷ path) key = (byte ∷ path) ++ (codes "." ++ key)

-- the path of a member of an array, which counts them from 0
abbrev pub member_path : List ℕ → ℕ → List ℕ
member_path path n = key_path path (decimal n)

-- the keys of the file itself, of a device whose kind is none that is built, of a probe, and of a memory range
abbrev pub known_keys : TableKind → List (List ℕ)
known_keys table_kind.File =
    codes "image" ∷ codes "ram" ∷ codes "harts" ∷ codes "steps" ∷ codes "journal_entries" ∷ codes "journal_bytes" ∷ codes "tube" ∷ codes "control"
    ∷ codes "device" ∷ []
known_keys table_kind.Device =
    codes "kind" ∷ codes "mem" ∷ codes "irq" ∷ codes "disk" ∷ codes "readonly" ∷ codes "output" ∷ codes "input" ∷ []
known_keys table_kind.Probe = codes "kind" ∷ codes "mem" ∷ codes "irq" ∷ []
known_keys table_kind.Range = codes "base" ∷ codes "len" ∷ codes "rights" ∷ []

abbrev pub same_text : List ℕ → List ℕ → Bool
same_text = pointwise nat_eq

abbrev pub is_among : List ℕ → List (List ℕ) → Bool
is_among text [] = false
is_among text (x ∷ xs) = same_text text x || is_among text xs

-- the keys of a table
abbrev pub keys_in : Members → List (List ℕ)
keys_in no_members = []
keys_in (member key d ms) = key ∷ keys_in ms

-- of a text and another, if there is one, the one that comes first in the order of their bytes
abbrev pub lesser : List ℕ → Option (List ℕ) → List ℕ
lesser text None = text
lesser text (Some other) = match_ordering (slice_cmp nat_cmp text other) text text other

-- the least of some texts, in the order of their bytes
abbrev pub least : List (List ℕ) → Option (List ℕ)
least [] = None
least (text ∷ texts) = Some (lesser text (least texts))

-- those of these keys that a table doesn't know
abbrev pub unknown_keys : TableKind → List (List ℕ) → List (List ℕ)
unknown_keys kind [] = []
unknown_keys kind (key ∷ keys) = if is_among key (known_keys kind) then unknown_keys kind keys else key ∷ unknown_keys kind keys

-- the fault of an unknown key in the table at a path
abbrev pub unknown_fault : List ℕ → Option (List ℕ) → List FileFault
unknown_fault path None = []
unknown_fault path (Some key) = Unknown (key_path path key) ∷ []

-- the fault of the least key that the table at a path doesn't know
abbrev pub unknown_faults : TableKind → List ℕ → Members → List FileFault
unknown_faults kind path t = unknown_fault path (least (unknown_keys kind (keys_in t)))

-- the fault of a value that is out of range
abbrev pub range_fault : Bool → List ℕ → List FileFault
range_fault true path = []
range_fault false path = Range path ∷ []

-- how many members an array has
abbrev pub item_count : Items → ℕ
item_count no_items = 0
item_count (item d ds) = 1 + item_count ds

-- what a table has at a key
abbrev pub held : BTreeMap (String Global) Value → List ℕ → Option Data
held table key = get_member key (table_view table)

-- whether a whole number is in these bounds
abbrev pub is_in : Bounds → ℤ → Bool
is_in bounds (pos n) = (nat_le bounds.least n && nat_le n bounds.most) && nat_eq (n % bounds.step) 0
is_in bounds (negsuc n) = false

abbrev pub integer_faults : Bounds → List ℕ → Option ℤ → List FileFault
integer_faults bounds path None = Kind path ∷ []
integer_faults bounds path (Some z) = range_fault (is_in bounds z) path

-- the faults of a number that may be missing
abbrev pub number_faults : Bounds → List ℕ → Option Data → List FileFault
number_faults bounds path None = []
number_faults bounds path (Some d) = integer_faults bounds path (as_integer d)

-- whether a name has 1 to `most` bytes
abbrev pub is_name : ℕ → List ℕ → Bool
is_name most name = nat_le 1 (length name) && nat_le (length name) most

abbrev pub text_faults : ℕ → List ℕ → Option (List ℕ) → List FileFault
text_faults most path None = Kind path ∷ []
text_faults most path (Some name) = range_fault (is_name most name) path

-- the faults of a name that has to be there
abbrev pub name_faults : ℕ → List ℕ → Option Data → List FileFault
name_faults most path None = Missing path ∷ []
name_faults most path (Some d) = text_faults most path (as_str d)

-- the number that a key holds, or the usual one
abbrev pub number_of : Option ℤ → ℕ → ℕ
number_of (Some (pos n)) usual = n
number_of _ usual = usual

abbrev pub number_or : Bounds → Option Data → ℕ
number_or bounds None = bounds.usual
number_or bounds (Some d) = number_of (as_integer d) bounds.usual

-- the text that a key holds
abbrev pub text_of : Option (List ℕ) → List ℕ
text_of (Some text) = text
text_of None = []

abbrev pub name_or_none : Option Data → List ℕ
name_or_none None = []
name_or_none (Some d) = text_of (as_str d)
