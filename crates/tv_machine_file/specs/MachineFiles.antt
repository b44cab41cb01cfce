-- Machine files: the faults of one in the order in which they count, and the machine that one without a fault says.
use Rattle.std.specs.Prelude.{◌≡◌, ℕ, ◌+◌, ◌++◌, Bool, true, false, nat_le, List, [], ◌∷◌, codes, Option, Some, None, Result, Ok, Err, option_to_list, IsUtf8}
use Rattle.toml.specs.Data.{Data, as_str, as_array, Items, no_items, item, Members, get_member}
use Rattle.toml.specs.Parse.{parse_document}
use Rattle.tv_base.specs.declared.limits.TheConstants.{HARTS, LINES, RAM_BYTES, RAM_BYTES_LEAST, RAM_BYTES_DEFAULT, PAGE_BYTES, TUBE_MESSAGES, TUBE_MESSAGES_DEFAULT, HART_EVENTS, HART_EVENTS_DEFAULT, JOURNAL_RECORDS, JOURNAL_RECORDS_DEFAULT, JOURNAL_PAYLOAD_BYTES, JOURNAL_PAYLOAD_BYTES_DEFAULT, FILE_NAME_BYTES, SOCKET_NAME_BYTES}
use Rattle.tv_machine_file.specs.declared.fault.FileFault.{FileFault}
use Rattle.tv_machine_file.specs.declared.fault.FileFault.TheVariants.{NotToml, Kind, Twice, Memory}
use Rattle.tv_machine_file.specs.declared.keys.Bounds.{Bounds}
use Rattle.tv_machine_file.specs.declared.keys.TableKind.TheVariants as table_kind
use Rattle.tv_machine.specs.declared.machine.Machine.{Machine}
use Rattle.tv_machine_file.specs.Keys.{member_path, is_among, item_count, unknown_faults, range_fault, number_faults, name_faults, is_name, number_or, name_or_none, first}
use Rattle.tv_machine_file.specs.DeviceFiles.{devices_faults, devices_of}

-- the numbers of a machine: the least, the most, what each is a multiple of, and the one that is usual
abbrev pub ram_bounds : Bounds
ram_bounds = record { least = RAM_BYTES_LEAST; most = RAM_BYTES; step = PAGE_BYTES; usual = RAM_BYTES_DEFAULT }

abbrev pub harts_bounds : Bounds
harts_bounds = record { least = 1; most = HARTS; step = 1; usual = 1 }

abbrev pub steps_bounds : Bounds
steps_bounds = record { least = 1; most = HART_EVENTS; step = 1; usual = HART_EVENTS_DEFAULT }

abbrev pub journal_entries_bounds : Bounds
journal_entries_bounds = record { least = 1; most = JOURNAL_RECORDS; step = 1; usual = JOURNAL_RECORDS_DEFAULT }

abbrev pub journal_bytes_bounds : Bounds
journal_bytes_bounds = record { least = 0; most = JOURNAL_PAYLOAD_BYTES; step = 1; usual = JOURNAL_PAYLOAD_BYTES_DEFAULT }

abbrev pub tube_bounds : Bounds
tube_bounds = record { least = 1; most = TUBE_MESSAGES; step = 1; usual = TUBE_MESSAGES_DEFAULT }

-- the fault of a name that stands among earlier ones
abbrev pub twice_fault : Bool → List ℕ → List FileFault
twice_fault true path = Twice path ∷ []
twice_fault false path = []

-- the faults of the n-th socket, after these names
abbrev pub socket_fault : List ℕ → ℕ → List (List ℕ) → Option (List ℕ) → List FileFault
socket_fault path n earlier None = Kind (member_path path n) ∷ []
socket_fault path n earlier (Some name) =
    range_fault (is_name SOCKET_NAME_BYTES name) (member_path path n) ++ twice_fault (is_among name earlier) (member_path path n)

-- the faults of the sockets from the n-th on, after these names
abbrev pub socket_faults : List ℕ → ℕ → List (List ℕ) → Items → List FileFault
socket_faults path n earlier no_items = []
socket_faults path n earlier (item d ds) =
    socket_fault path n earlier (as_str d) ++ socket_faults path (n + 1) (earlier ++ option_to_list (as_str d)) ds

abbrev pub sockets_faults : List ℕ → Option Items → List FileFault
sockets_faults path None = Kind path ∷ []
sockets_faults path (Some ds) = range_fault (nat_le (item_count ds) LINES) path ++ socket_faults path 0 [] ds

-- the faults of the array of sockets
abbrev pub control_faults : List ℕ → Option Data → List FileFault
control_faults path None = []
control_faults path (Some d) = sockets_faults path (as_array d)

-- the names in an array
abbrev pub texts_in : Items → List (List ℕ)
texts_in no_items = []
texts_in (item d ds) = option_to_list (as_str d) ++ texts_in ds

abbrev pub sockets_in : Option Items → List (List ℕ)
sockets_in None = []
sockets_in (Some ds) = texts_in ds

abbrev pub control_of : Option Data → List (List ℕ)
control_of None = []
control_of (Some d) = sockets_in (as_array d)

-- the faults of a machine file in their order: the least key that it doesn't know, and then those of its keys
abbrev pub file_faults : Members → List FileFault
file_faults t =
    unknown_faults table_kind.File [] t ++ (name_faults FILE_NAME_BYTES (codes "image") (get_member (codes "image") t)
    ++ (number_faults ram_bounds (codes "ram") (get_member (codes "ram") t)
    ++ (number_faults harts_bounds (codes "harts") (get_member (codes "harts") t)
    ++ (number_faults steps_bounds (codes "steps") (get_member (codes "steps") t)
    ++ (number_faults journal_entries_bounds (codes "journal_entries") (get_member (codes "journal_entries") t)
    ++ (number_faults journal_bytes_bounds (codes "journal_bytes") (get_member (codes "journal_bytes") t)
    ++ (number_faults tube_bounds (codes "tube") (get_member (codes "tube") t)
    ++ (control_faults (codes "control") (get_member (codes "control") t)
    ++ devices_faults (codes "device") (number_or ram_bounds (get_member (codes "ram") t)) (get_member (codes "device") t)))))))))

-- the machine that a machine file without a fault says
abbrev pub machine_of : Members → Machine
machine_of t =
    record {
      image = name_or_none (get_member (codes "image") t);
      ram = number_or ram_bounds (get_member (codes "ram") t);
      harts = number_or harts_bounds (get_member (codes "harts") t);
      steps = number_or steps_bounds (get_member (codes "steps") t);
      journal_entries = number_or journal_entries_bounds (get_member (codes "journal_entries") t);
      journal_bytes = number_or journal_bytes_bounds (get_member (codes "journal_bytes") t);
      tube = number_or tube_bounds (get_member (codes "tube") t);
      control = control_of (get_member (codes "control") t);
      device = devices_of (number_or ram_bounds (get_member (codes "ram") t)) (get_member (codes "device") t);
    }

-- the bytes are a text that TOML reads as this table
pub record IsToml (bytes : List ℕ) (t : Members) : Type 0 where
  pub utf8 : IsUtf8 bytes
  pub parsed : parse_document bytes ≡ Some t

-- a machine file without a fault, and its machine
pub record Says (bytes : List ℕ) (machine : Machine) : Type 0 where
  pub table : Members
  pub toml : IsToml bytes table
  pub faultless : file_faults table ≡ []
  pub is : machine ≡ machine_of table

-- a machine file whose first fault is this one
pub record HasFault (bytes : List ℕ) (fault : FileFault) : Type 0 where
  pub table : Members
  pub toml : IsToml bytes table
  pub is_first : first (file_faults table) ≡ Some fault

-- what holds of the answer to a machine file; want of memory has no cause to show
abbrev pub IsAnswer : List ℕ → Result Machine FileFault → Type 0
IsAnswer bytes (Ok machine) = Says bytes machine
IsAnswer bytes (Err NotToml) = IsUtf8 bytes → parse_document bytes ≡ None
IsAnswer bytes (Err Memory) = Unit {0}
IsAnswer bytes (Err fault) = HasFault bytes fault
