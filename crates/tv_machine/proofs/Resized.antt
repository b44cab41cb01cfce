-- A valid machine stays valid where a disk gets another number of sectors.
use Rattle.std.proofs.Common.{◌≡◌, ◌≢◌, ◌⊎◌, inl, inr, ◌<◌, ◌≤◌, ℕ, zero, suc, List, [], ◌∷◌, length, Some, None, refl, ap, arith, slice_index_or}
use Rattle.std.specs.List.{flat_map}
use Rattle.tv_base.specs.declared.limits.TheConstants.{DISK_SECTORS}
use Rattle.tv_machine.specs.declared.kinds.DeviceKind.{DeviceKind}
use Rattle.tv_machine.specs.declared.kinds.DeviceKind.TheVariants.{Block, Console, Entropy, Balloon, Probe}
use Rattle.tv_machine.specs.declared.kinds.DeviceSpec.{DeviceSpec}
use Rattle.tv_machine.specs.declared.machine.Machine.{Machine}
use Rattle.tv_machine.specs.Capabilities.{resized_at, resized_in}
use Rattle.tv_machine.specs.Valid.{IsValid, IsValidDevice, HasFilesOf, written_files}

-- a device as it was, or one with a disk with this number of sectors
abbrev pub IsResized : ℕ → DeviceSpec → DeviceSpec → Type 0
IsResized n d e = (e ≡ d) ⊎ ((d.disk ≢ None) × (e ≡ record d { sectors = n }))

each_resized : (slot n k : ℕ) (ds : List DeviceSpec) (d : DeviceSpec) → k < length ds → (slice_index_or ds slot d).disk ≢ None
    → IsResized n (slice_index_or ds k d) (slice_index_or (resized_at slot n ds) k d)
each_resized slot n k [] d below some = absurd (omega arith)
each_resized zero n zero (x ∷ ds) d below some = inr (some, refl)
each_resized zero n (suc k) (x ∷ ds) d below some = inl refl
each_resized (suc slot) n zero (x ∷ ds) d below some = inl refl
each_resized (suc slot) n (suc k) (x ∷ ds) d below some = each_resized slot n k ds d (omega arith) some

as_many : (slot n : ℕ) (ds : List DeviceSpec) → length (resized_at slot n ds) ≡ length ds
as_many slot n [] = refl
as_many zero n (x ∷ ds) = refl
as_many (suc slot) n (x ∷ ds) = ap suc (as_many slot n ds)

same_files : (slot n : ℕ) (ds : List DeviceSpec) → flat_map written_files (resized_at slot n ds) ≡ flat_map written_files ds
same_files slot n [] = refl
same_files zero n (x ∷ ds) = refl
same_files (suc slot) n (x ∷ ds) = rw (same_files slot n ds) refl

kept_files : (kind : DeviceKind) (n : ℕ) (d : DeviceSpec) → HasFilesOf kind d → HasFilesOf kind (record d { sectors = n })
kept_files Block n d has = has
kept_files Console n d has = has
kept_files Entropy n d has = has
kept_files Balloon n d has = has
kept_files Probe n d has = has

valid_device : (ram n : ℕ) (d e : DeviceSpec) → n ≤ DISK_SECTORS → IsValidDevice ram d → IsResized n d e → IsValidDevice ram e
valid_device ram n d e fits is (inl same) = rw same is
valid_device ram n d e fits is (inr resized) =
    rw resized.1 (record {
      ranges = is.ranges;
      in_ram = is.in_ram;
      apart = is.apart;
      files = kept_files d.kind n d is.files;
      sectors = fits;
      diskless = λ none. absurd (resized.0 none);
    })

same_kind : (n : ℕ) (d e : DeviceSpec) → IsResized n d e → e.kind ≡ d.kind
same_kind n d e (inl same) = rw same refl
same_kind n d e (inr resized) = rw resized.1 refl

-- with another number of sectors for a disk
pub valid_resized : (m : Machine) (n slot : ℕ) → n ≤ DISK_SECTORS → ((d : DeviceSpec) → (slice_index_or m.device slot d).disk ≢ None) → IsValid m → IsValid (resized_in m n (Some slot))
valid_resized m n slot fits some is =
    record {
      image = is.image;
      ram = is.ram;
      pages = is.pages;
      harts = is.harts;
      steps = is.steps;
      journal_entries = is.journal_entries;
      journal_bytes = is.journal_bytes;
      tube = is.tube;
      lines = is.lines;
      sockets = is.sockets;
      distinct_sockets = is.distinct_sockets;
      slots = rw (as_many slot n m.device) is.slots;
      devices = λ k d below.
          let inside : k < length m.device = omega (arith, as_many slot n m.device, below) in
          valid_device m.ram n _ _ fits (is.devices k d inside) (each_resized slot n k m.device d inside (some d));
      distinct_files = rw (same_files slot n m.device) is.distinct_files;
      one_entropy = λ i j d before below.
          let inside : j < length m.device = omega (arith, as_many slot n m.device, below) in
          let first : i < length m.device = omega (arith, before, inside) in
          let kinds = is.one_entropy i j d before inside in
          rw (same_kind n _ _ (each_resized slot n i m.device d first (some d)), same_kind n _ _ (each_resized slot n j m.device d inside (some d))) kinds;
    }
