-- Sectors, one at a time.
use Rattle.std.proofs.Common.{◌≡◌, ◌∙◌, ◌<◌, ◌≤◌, ◌+◌, ◌*◌, ◌-◌, ℕ, suc, List, ◌++◌, take, drop, refl, ap, arith, true, Some}
use Rattle.std.proofs.lemmas.List.{drop-drop}
use Rattle.tv_plan.specs.Block.{read_sector, read_sectors, sector_read, write_sector, write_sectors, sector_written}
use Rattle.tv_script.specs.Scripts.{Over, ◌>>=◌}

-- before the first sector
pub read_begin : (count first : ℕ) (got : List ℕ) → read_sectors count first got ≡ read_sectors (count - 0) (first + 0) got
read_begin count first got =
    let e : count ≡ count - 0 = omega arith in
    let f : first ≡ first + 0 = omega arith in
    ap (λ (k : ℕ). read_sectors k first got) e ∙ ap (λ (at : ℕ). read_sectors (count - 0) at got) f

pub write_begin : (count first : ℕ) (bytes : List ℕ) → write_sectors count first bytes ≡ write_sectors (count - 0) (first + 0) bytes
write_begin count first bytes =
    let e : count ≡ count - 0 = omega arith in
    let f : first ≡ first + 0 = omega arith in
    ap (λ (k : ℕ). write_sectors k first bytes) e ∙ ap (λ (at : ℕ). write_sectors (count - 0) at bytes) f

-- the next sector is read
pub read_next : (count first n at : ℕ) (got : List ℕ) → n < count → at ≡ first + n
    → read_sectors (count - n) (first + n) got ≡ read_sector at >>= sector_read (λ bytes. read_sectors (count - (n + 1)) (first + (n + 1)) (got ++ bytes))
unfolding read_sectors
read_next count first n at got more is =
    let left : count - n ≡ suc (count - (n + 1)) = omega (arith, more) in
    let on : first + n + 1 ≡ first + (n + 1) = omega arith in
    ap (λ (k : ℕ). read_sectors k (first + n) got) left
    ∙ rw (is, on) refl

-- no sector is left
pub read_end : (count first n : ℕ) (got : List ℕ) → count ≤ n → read_sectors (count - n) (first + n) got ≡ Over (Some got)
unfolding read_sectors
read_end count first n got all =
    let none : count - n ≡ 0 = omega (arith, all) in ap (λ (k : ℕ). read_sectors k (first + n) got) none

-- the next sector is written
pub write_next : (count first n : ℕ) (bytes part : List ℕ) → n < count → part ≡ take 512 (drop (512 * n) bytes)
    → write_sectors (count - n) (first + n) (drop (512 * n) bytes)
    ≡ write_sector (first + n) part >>= sector_written (write_sectors (count - (n + 1)) (first + (n + 1)) (drop (512 * (n + 1)) bytes))
unfolding write_sectors
write_next count first n bytes part more is =
    let left : count - n ≡ suc (count - (n + 1)) = omega (arith, more) in
    let on : first + n + 1 ≡ first + (n + 1) = omega arith in
    let place : 512 * n + 512 ≡ 512 * (n + 1) = omega arith in
    let rest : drop 512 (drop (512 * n) bytes) ≡ drop (512 * (n + 1)) bytes =
    drop-drop 512 (512 * n) bytes ∙ ap (λ (k : ℕ). drop k bytes) place in
    ap (λ (k : ℕ). write_sectors k (first + n) (drop (512 * n) bytes)) left
    ∙ rw (is, on, rest) refl

pub write_end : (count first n : ℕ) (bytes : List ℕ) → count ≤ n → write_sectors (count - n) (first + n) bytes ≡ Over true
unfolding write_sectors
write_end count first n bytes all =
    let none : count - n ≡ 0 = omega (arith, all) in ap (λ (k : ℕ). write_sectors k (first + n) bytes) none
