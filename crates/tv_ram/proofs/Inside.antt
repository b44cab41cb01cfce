-- Accesses that lie in memory, and memory that begins with an image.
use Rattle.std.proofs.Common.{◌≡◌, ℕ, zero, suc, true, List, ◌++◌, length, arith, refl, ap}
use Rattle.std.proofs.lemmas.Bool.Decides.{nat_tests}
use Rattle.std.proofs.lemmas.List.{drop-replicate, length-replicate}
use Rattle.tv_ram.specs.Memory.{ram_base, is_inside, AreInside, zeros, with_bytes, with_image}

-- an access lies in memory exactly where each of its bytes does
pub each_inside : (bytes addr n : ℕ) → is_inside bytes addr n ≡ true → AreInside bytes addr n
each_inside bytes addr n inside i below = (grind (arith, nat_tests), grind (arith, nat_tests))

pub inside_since_each : (bytes addr n : ℕ) → AreInside bytes addr n → is_inside bytes addr n ≡ true
inside_since_each bytes addr zero each = refl
inside_since_each bytes addr (suc n) each =
    let first = each 0 (omega arith) in
    let last = each n (omega arith) in
    grind (arith, nat_tests)

-- memory of zeros with an image written at its start
pub image_written : (bytes : ℕ) (image : List ℕ) → with_bytes (zeros bytes) ram_base image ≡ with_image bytes image
unfolding zeros
image_written bytes image = ap (λ rest. image ++ rest) (drop-replicate (length image) bytes 0)

-- there are so many zeros
pub length_zeros : (n : ℕ) → length (zeros n) ≡ n
unfolding zeros
length_zeros n = length-replicate n 0
