-- Requests that aren't done.
use Rattle.std.proofs.Common.{◌≡◌, ◌≢◌, ◌&&◌, not, ℕ, Bool, List, false, length, refl}
use Rattle.std.proofs.lemmas.Bool.{ne_eqb}
use Rattle.byteorder.specs.Endian.{little_number}
use Rattle.tv_plan.specs.Block.{BlockDisk, are_sectors, block_in, block_out, block_request, failed, unsupported}
use Rattle.tv_script.specs.Scripts.{Over}

-- on sectors that the disk doesn't have, or doesn't take
pub not_read : (capacity sector len : ℕ) → false ≡ are_sectors capacity sector len → Over failed ≡ block_in capacity sector len
not_read capacity sector len h = rw (← h) refl

pub not_written : (capacity : ℕ) (readonly : Bool) (sector : ℕ) (bytes : List ℕ) → false ≡ (not readonly && are_sectors capacity sector (length bytes)) → Over failed ≡ block_out capacity readonly sector bytes
not_written capacity readonly sector bytes h = rw (← h) refl

-- a request of a type that isn't known
pub unknown : (disk : BlockDisk) (readable : List ℕ) (len kind : ℕ) → kind ≡ little_number 4 readable → kind ≢ 0 → kind ≢ 1 → kind ≢ 4 → kind ≢ 8 → Over unsupported ≡ block_request disk readable len
unknown disk readable len kind is zero one four eight = rw (← is, ne_eqb kind 0 zero, ne_eqb kind 1 one, ne_eqb kind 4 four, ne_eqb kind 8 eight) refl
