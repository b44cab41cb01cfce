-- A machine file without a fault says a valid machine.
use Rattle.std.proofs.Common.{◌≡◌, ◌≢◌, ◌<◌, ◌≤◌, ◌+◌, ◌%◌, ◌&&◌, ℕ, zero, suc, ℤ, pos, negsuc, Bool, true, false, nat_eq, nat_le, List, [], ◌∷◌, ◌++◌, length, length-append, codes, Option, Some, None, refl, sym, arith, append_assoc, slice_index_or}
use Rattle.std.proofs.lemmas.Bool.{and_parts, or_parts}
use Rattle.std.proofs.lemmas.Bool.Decides.{nat_tests, not_from_Decides}
use Rattle.std.proofs.lemmas.List.{append-nil}
use Rattle.std.proofs.lemmas.List.Elements.{All-push}
use Rattle.std.proofs.lemmas.List.Quantifiers.{all_pairs_push}
use Rattle.std.specs.Cmp.Lexicographic.{bytes_decides}
use Rattle.std.specs.List.{All, AllPairs}
use Rattle.std.specs.Option.{option_to_list}
use Rattle.toml.specs.Data.{Data, as_str, as_integer, as_array, Items, no_items, item, Members, get_member}
use Rattle.tv_base.specs.declared.limits.TheConstants.{LINES, FILE_NAME_BYTES, SOCKET_NAME_BYTES}
use Rattle.tv_machine_file.specs.declared.keys.Bounds.{Bounds}
use Rattle.tv_machine_file.specs.declared.keys.TableKind.TheVariants as table_kind
use Rattle.tv_machine_file.specs.Keys.{member_path, is_in, is_name, is_among, item_count, same_text, range_fault, integer_faults, number_faults, number_of, number_or, text_faults, name_faults, name_or_none, text_of, unknown_faults}
use Rattle.tv_machine_file.specs.MachineFiles.{file_faults, machine_of, socket_fault, socket_faults, sockets_faults, sockets_in, control_faults, control_of, twice_fault, texts_in, ram_bounds, harts_bounds, steps_bounds, journal_entries_bounds, journal_bytes_bounds, tube_bounds}
use Rattle.tv_machine_file.specs.DeviceFiles.{AreProbes}
use Rattle.tv_machine_file.proofs.Faultless.{in_range, none_in}
use Rattle.tv_machine_file.proofs.ValidDevices.{AreSlots, are_probes, distinct, no_entropy, slots}
use Rattle.tv_machine.specs.Valid.{IsValid, IsWithin, IsSocketName, AreDifferent}

number_in : (b : Bounds) (z : ℤ) → is_in b z ≡ true → is_in b (pos (number_of (Some z) b.usual)) ≡ true
number_in b (pos n) is = is
number_in b (negsuc n) is = absurd (cc)

integer_in : (b : Bounds) (path : List ℕ) (o : Option ℤ) → integer_faults b path o ≡ [] → is_in b (pos (number_of o b.usual)) ≡ true
integer_in b path None none = absurd (cc)
integer_in b path (Some z) none = number_in b z (in_range (is_in b z) path none)

-- a number without a fault is in its bounds
pub bounded : (b : Bounds) (path : List ℕ) (o : Option Data) → is_in b (pos b.usual) ≡ true → number_faults b path o ≡ []
    → is_in b (pos (number_or b o)) ≡ true
bounded b path None usual none = usual
bounded b path (Some d) usual none = integer_in b path (as_integer d) none

-- what it means to be in bounds
pub within : (b : Bounds) (n : ℕ) → is_in b (pos n) ≡ true → IsWithin b.least b.most n × (n % b.step ≡ 0)
within b n is =
    let (between, multiple) = and_parts (nat_le b.least n && nat_le n b.most) (nat_eq (n % b.step) 0) is in
    let (low, high) = and_parts (nat_le b.least n) (nat_le n b.most) between in
    let least : b.least ≤ n = grind (arith, nat_tests) in
    let most : n ≤ b.most = grind (arith, nat_tests) in
    let none_left : n % b.step ≡ 0 = grind (arith, nat_tests) in
    ((least, most), none_left)

name_within : (most : ℕ) (name : List ℕ) → is_name most name ≡ true → IsWithin 1 most (length name)
name_within most name is =
    let (low, high) = and_parts (nat_le 1 (length name)) (nat_le (length name) most) is in
    let some : 1 ≤ length name = grind (arith, nat_tests) in
    let few : length name ≤ most = grind (arith, nat_tests) in
    (some, few)

text_in : (most : ℕ) (path : List ℕ) (o : Option (List ℕ)) → text_faults most path o ≡ [] → IsWithin 1 most (length (text_of o))
text_in most path None none = absurd (cc)
text_in most path (Some name) none = name_within most name (in_range (is_name most name) path none)

-- a name without a fault has a length in its bounds
pub named : (most : ℕ) (path : List ℕ) (o : Option Data) → name_faults most path o ≡ [] → IsWithin 1 most (length (name_or_none o))
named most path None none = absurd (cc)
named most path (Some d) none = text_in most path (as_str d) none

not_twice : (among : Bool) (path : List ℕ) → twice_fault among path ≡ [] → among ≡ false
not_twice true path none = absurd (cc)
not_twice false path none = refl

-- a name that isn't among some is none of them
other_than : (name : List ℕ) (xs : List (List ℕ)) → is_among name xs ≡ false → (k : ℕ) (d : List ℕ) → k < length xs → slice_index_or xs k d ≢ name
other_than name [] is k d below = absurd (omega arith)
other_than name (x ∷ xs) is zero d below =
    let (here, more) = or_parts (same_text name x) (is_among name xs) is in
    λ e. not_from_Decides (same_text name x) (bytes_decides name x) here (sym e)
other_than name (x ∷ xs) is (suc k) d below =
    let (here, more) = or_parts (same_text name x) (is_among name xs) is in
    other_than name xs more k d (omega arith)

-- names of sockets that differ from one another
pub record AreSockets (names : List (List ℕ)) : Type 0 where
  pub sockets : All IsSocketName names
  pub distinct : AllPairs AreDifferent names

one_more : (path : List ℕ) (n : ℕ) (earlier : List (List ℕ)) (name : List ℕ) → AreSockets earlier → socket_fault path n earlier (Some name) ≡ []
    → AreSockets (earlier ++ name ∷ [])
one_more path n earlier name are none =
    let (fits, once) = none_in (range_fault (is_name SOCKET_NAME_BYTES name) (member_path path n)) (twice_fault (is_among name earlier) (member_path path n)) none in
    record {
      sockets = All-push IsSocketName earlier name are.sockets (name_within SOCKET_NAME_BYTES name (in_range (is_name SOCKET_NAME_BYTES name) _ fits));
      distinct = all_pairs_push AreDifferent earlier name are.distinct (other_than name earlier (not_twice (is_among name earlier) _ once));
    }

socket_in : (path : List ℕ) (n : ℕ) (earlier : List (List ℕ)) (o : Option (List ℕ)) → AreSockets earlier → socket_fault path n earlier o ≡ []
    → AreSockets (earlier ++ option_to_list o)
socket_in path n earlier None are none = absurd (cc)
socket_in path n earlier (Some name) are none = one_more path n earlier name are none

sockets_in_items : (path : List ℕ) (n : ℕ) (earlier : List (List ℕ)) (ds : Items) → AreSockets earlier → socket_faults path n earlier ds ≡ []
    → AreSockets (earlier ++ texts_in ds)
sockets_in_items path n earlier no_items are none = rw (append-nil earlier) are
sockets_in_items path n earlier (item d ds) are none =
    let (here, more) = none_in (socket_fault path n earlier (as_str d)) (socket_faults path (n + 1) (earlier ++ option_to_list (as_str d)) ds) none in
    let regroup : (earlier ++ option_to_list (as_str d)) ++ texts_in ds ≡ earlier ++ (option_to_list (as_str d) ++ texts_in ds) = rw append_assoc refl in
    rw (← regroup) (sockets_in_items path (n + 1) (earlier ++ option_to_list (as_str d)) ds (socket_in path n earlier (as_str d) are here) more)

one_at_most : (o : Option (List ℕ)) → length (option_to_list o) ≤ 1
one_at_most None = omega arith
one_at_most (Some name) = omega arith

no_longer : (ds : Items) → length (texts_in ds) ≤ item_count ds
no_longer no_items = omega arith
no_longer (item d ds) = omega (arith, length-append (option_to_list (as_str d)) (texts_in ds), one_at_most (as_str d), no_longer ds)

no_sockets : AreSockets []
no_sockets = record { sockets = λ k d below. absurd (omega arith); distinct = λ i j d before below. absurd (omega arith) }

-- the lines of a machine file without a fault
pub record AreLines (names : List (List ℕ)) : Type 0 where
  pub few : length names ≤ LINES
  pub are : AreSockets names

lines_in : (path : List ℕ) (o : Option Items) → sockets_faults path o ≡ [] → AreLines (sockets_in o)
lines_in path None none = absurd (cc)
lines_in path (Some ds) none =
    let (count, each) = none_in (range_fault (nat_le (item_count ds) LINES) path) (socket_faults path 0 [] ds) none in
    let fits : nat_le (item_count ds) LINES ≡ true = in_range (nat_le (item_count ds) LINES) path count in
    let few : item_count ds ≤ LINES = grind (arith, nat_tests) in
    record { few = omega (arith, no_longer ds); are = sockets_in_items path 0 [] ds no_sockets each }

pub lines : (path : List ℕ) (o : Option Data) → control_faults path o ≡ [] → AreLines (control_of o)
lines path None none = record { few = omega arith; are = no_sockets }
lines path (Some d) none = lines_in path (as_array d) none

-- the devices of a machine file without a fault
read_slots : (t : Members) → file_faults t ≡ [] → AreSlots (machine_of t).ram (machine_of t).device
read_slots t none =
    let (k, after_keys) = none_in (unknown_faults table_kind.File [] t) _ none in
    let (i, after_image) = none_in (name_faults FILE_NAME_BYTES (codes "image") (get_member (codes "image") t)) _ after_keys in
    let (r, after_ram) = none_in (number_faults ram_bounds (codes "ram") (get_member (codes "ram") t)) _ after_image in
    let (h, after_harts) = none_in (number_faults harts_bounds (codes "harts") (get_member (codes "harts") t)) _ after_ram in
    let (s, after_steps) = none_in (number_faults steps_bounds (codes "steps") (get_member (codes "steps") t)) _ after_harts in
    let (e, after_entries) = none_in (number_faults journal_entries_bounds (codes "journal_entries") (get_member (codes "journal_entries") t)) _ after_steps in
    let (b, after_bytes) = none_in (number_faults journal_bytes_bounds (codes "journal_bytes") (get_member (codes "journal_bytes") t)) _ after_entries in
    let (u, after_tube) = none_in (number_faults tube_bounds (codes "tube") (get_member (codes "tube") t)) _ after_bytes in
    let (c, device) = none_in (control_faults (codes "control") (get_member (codes "control") t)) _ after_tube in
    let ram = within ram_bounds (machine_of t).ram (bounded ram_bounds (codes "ram") (get_member (codes "ram") t) refl r) in
    let some : 1 ≤ (machine_of t).ram = omega (arith, ram.0.0) in
    slots (codes "device") (machine_of t).ram (get_member (codes "device") t) some device

-- a machine file without a fault says a valid machine
pub valid_machine : (t : Members) → file_faults t ≡ [] → IsValid (machine_of t)
valid_machine t none =
    let (k, after_keys) = none_in (unknown_faults table_kind.File [] t) _ none in
    let (i, after_image) = none_in (name_faults FILE_NAME_BYTES (codes "image") (get_member (codes "image") t)) _ after_keys in
    let (r, after_ram) = none_in (number_faults ram_bounds (codes "ram") (get_member (codes "ram") t)) _ after_image in
    let (h, after_harts) = none_in (number_faults harts_bounds (codes "harts") (get_member (codes "harts") t)) _ after_ram in
    let (s, after_steps) = none_in (number_faults steps_bounds (codes "steps") (get_member (codes "steps") t)) _ after_harts in
    let (e, after_entries) = none_in (number_faults journal_entries_bounds (codes "journal_entries") (get_member (codes "journal_entries") t)) _ after_steps in
    let (b, after_bytes) = none_in (number_faults journal_bytes_bounds (codes "journal_bytes") (get_member (codes "journal_bytes") t)) _ after_entries in
    let (u, after_tube) = none_in (number_faults tube_bounds (codes "tube") (get_member (codes "tube") t)) _ after_bytes in
    let (c, after_control) = none_in (control_faults (codes "control") (get_member (codes "control") t)) _ after_tube in
    let device = read_slots t none in
    let control : AreLines (control_of (get_member (codes "control") t)) = lines (codes "control") (get_member (codes "control") t) c in
    let ram = within ram_bounds _ (bounded ram_bounds (codes "ram") (get_member (codes "ram") t) refl r) in
    record {
      image = named FILE_NAME_BYTES (codes "image") (get_member (codes "image") t) i;
      ram = ram.0;
      pages = ram.1;
      harts = (within harts_bounds _ (bounded harts_bounds (codes "harts") (get_member (codes "harts") t) refl h)).0;
      steps = (within steps_bounds _ (bounded steps_bounds (codes "steps") (get_member (codes "steps") t) refl s)).0;
      journal_entries = (within journal_entries_bounds _ (bounded journal_entries_bounds (codes "journal_entries") (get_member (codes "journal_entries") t) refl e)).0;
      journal_bytes = (within journal_bytes_bounds _ (bounded journal_bytes_bounds (codes "journal_bytes") (get_member (codes "journal_bytes") t) refl b)).0.1;
      tube = (within tube_bounds _ (bounded tube_bounds (codes "tube") (get_member (codes "tube") t) refl u)).0;
      lines = control.few;
      sockets = control.are.sockets;
      distinct_sockets = control.are.distinct;
      slots = device.few;
      devices = device.are.valid;
      distinct_files = distinct (machine_of t).device device.files;
      one_entropy = no_entropy (machine_of t).device device.are.probes;
    }

-- and its devices are probes
pub machine_probes : (t : Members) → file_faults t ≡ [] → AreProbes (machine_of t).device
machine_probes t none = are_probes (machine_of t).device (read_slots t none).are.probes
