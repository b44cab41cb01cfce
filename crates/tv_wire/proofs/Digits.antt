-- The bytes of a number that was read from bytes.
use Rattle.std.proofs.Common.{◌≡◌, ◌∙◌, ℕ, zero, suc, ◌+◌, ◌*◌, ◌/◌, ◌%◌, ◌^◌, ◌<◌, ◌≤◌, List, [], ◌∷◌, ◌++◌, length, drop, take, get_or, refl, ap, sym, arith}
use Rattle.std.proofs.Math.Nat.{div-div-eq-div-mul, div-one, pow-suc}
use Rattle.std.proofs.lemmas.List.{get_or-drop, take-append-drop, take_all}
use Rattle.std.specs.Int.{byte_at, bytes_low_first}
use Rattle.byteorder.specs.Endian.{little_bytes, little_number}
use Rattle.byteorder.specs.Numbers.{little_from-cons, little_from-lt}

-- each is a byte
abbrev pub AreBytes : List ℕ → Type 0
AreBytes bs = (i : ℕ) → get_or bs i 0 < 256

pub bytes_behind : (n : ℕ) (bs : List ℕ) → AreBytes bs → AreBytes (drop n bs)
bytes_behind n bs each i = rw (get_or-drop n bs i 0) (each (n + i))

byte_is : (j x : ℕ) → byte_at j x ≡ x / 256 ^ j % 256
byte_is zero x = ap (λ (y : ℕ). y % 256) (sym (div-one x))
byte_is (suc j) x = refl

-- the bytes of x from byte j on, where these bytes spell what is left of x there
bytes_from : (k j x : ℕ) (bs : List ℕ) → AreBytes bs → k ≤ length bs → x / 256 ^ j ≡ little_number k bs → bytes_low_first j k x ≡ take k bs
bytes_from zero j x bs each few is = refl
bytes_from (suc k) j x [] each few is = absurd (omega (arith, few))
bytes_from (suc k) j x (b ∷ bs) each few is =
    let here : b < 256 = each 0 in
    let rest : ℕ = little_number k bs in
    let whole : x / 256 ^ j ≡ b + 256 * rest = is ∙ ap (λ (r : ℕ). b + 256 * r) (little_from-cons 0 k b bs) in
    let first : byte_at j x ≡ b = byte_is j x ∙ omega (arith, whole, here) in
    let left : x / 256 ^ suc j ≡ rest =
    ap (λ (d : ℕ). x / d) (pow-suc 256 j) ∙ sym (div-div-eq-div-mul x (256 ^ j) 256) ∙ omega (arith, whole, here) in
    ap (λ (c : ℕ). c ∷ bytes_low_first (suc j) k x) first
    ∙ ap (λ (cs : List ℕ). b ∷ cs) (bytes_from k (suc j) x bs (λ i. each (suc i)) (omega (arith, few)) left)

pub front_again : (n : ℕ) (bs : List ℕ) → AreBytes bs → n ≤ length bs → little_bytes n (little_number n bs) ++ drop n bs ≡ bs
front_again n bs each few =
    ap (λ (cs : List ℕ). cs ++ drop n bs) (bytes_from n 0 (little_number n bs) bs each few (div-one (little_number n bs)))
    ∙ take-append-drop n bs

pub all_again : (n : ℕ) (bs : List ℕ) → AreBytes bs → length bs ≡ n → little_bytes n (little_number n bs) ≡ bs
all_again n bs each same =
    bytes_from n 0 (little_number n bs) bs each (omega (arith, same)) (div-one (little_number n bs)) ∙ take_all n bs (omega (arith, same))

pub number_fits : (n : ℕ) (bs : List ℕ) → AreBytes bs → little_number n bs < 256 ^ n
number_fits n bs each = little_from-lt 0 n bs each
