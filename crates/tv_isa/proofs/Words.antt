-- A word and its six fields determine each other.
use Rattle.std.proofs.Common.{◌≡◌, ℕ, ◌<◌, ◌^◌, ◌/◌, ◌%◌, arith, refl}
use Rattle.tv_isa.specs.declared.fields.Fields.{Fields}
use Rattle.tv_isa.specs.Fields.{split, join, Fits}

-- the fields of a word give that word back
pub join_split : (w : ℕ) → join (split w) ≡ w
unfolding join
join_split w = omega arith

-- the fields of a word fit
pub fits_split : (w : ℕ) → w < 2 ^ 32 → Fits (split w)
fits_split w h = (omega arith, omega arith, omega arith, omega arith, omega arith, omega arith)

-- the word of some fields has those fields
pub split_join : (f : Fields) → Fits f → split (join f) ≡ f
unfolding join
split_join f fits =
    let e0 : join f % 2 ^ 7 ≡ f.opcode = omega arith in
    let e1 : join f / 2 ^ 7 % 2 ^ 5 ≡ f.rd = omega arith in
    let e2 : join f / 2 ^ 12 % 2 ^ 3 ≡ f.funct3 = omega arith in
    let e3 : join f / 2 ^ 15 % 2 ^ 5 ≡ f.rs1 = omega arith in
    let e4 : join f / 2 ^ 20 % 2 ^ 5 ≡ f.rs2 = omega arith in
    let e5 : join f / 2 ^ 25 ≡ f.funct7 = omega arith in
    rw (e0, e1, e2, e3, e4, e5) refl
