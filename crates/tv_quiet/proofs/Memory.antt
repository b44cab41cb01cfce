-- Bytes of memory, and memory with bytes written.
use Rattle.std.proofs.Common.{◌≡◌, ◌≤◌, ◌<◌, ◌+◌, ◌-◌, ◌==◌, ◌∙◌, ℕ, zero, suc, false, List, [], ◌∷◌, ◌++◌, length, get_or, refl, ap, sym, arith, inl, inr}
use Rattle.std.proofs.lemmas.Bool.{cases_lt, lt-ltb, le-ltb}
use Rattle.std.proofs.lemmas.Bool.Decides.{eqb_tells}
use Rattle.std.proofs.lemmas.List.{get_or_default, get_or_past, get_or_append_left, get_or-append_right}
use Rattle.tv_quiet.specs.World.{bytes_at, written}
use Rattle.tv_quiet.specs.Meaning.{Apart}

-- functions that agree everywhere are one
pub same_function : {A : Type 0} → (f g : ℕ → A) → ((k : ℕ) → f k ≡ g k) → f ≡ g
same_function f g same = λ i. λ k. same k i

pub not_zero : (n : ℕ) → 1 ≤ n → (n == 0) ≡ false
not_zero n h = elim (eqb_tells n 0) [ inl e ↦ absurd (omega (arith, h, e.1)) | inr e ↦ e.0 ]

-- 1. Bytes

pub length_bytes_at : (m : ℕ → ℕ) (at n : ℕ) → length (bytes_at m at n) ≡ n
unfolding bytes_at
length_bytes_at m at zero = refl
length_bytes_at m at (suc n) = ap suc (length_bytes_at m (suc at) n)

pub bytes_at-append : (m : ℕ → ℕ) (at n k : ℕ) → bytes_at m at (n + k) ≡ bytes_at m at n ++ bytes_at m (at + n) k
unfolding bytes_at
bytes_at-append m at zero k =
    let e : at ≡ at + 0 = omega arith in
    let f : 0 + k ≡ k = omega arith in
    ap (λ (n : ℕ). bytes_at m at n) f ∙ ap (λ (a : ℕ). bytes_at m a k) e
bytes_at-append m at (suc n) k =
    let e : suc at + n ≡ at + suc n = omega arith in
    let f : suc n + k ≡ suc (n + k) = omega arith in
    ap (λ (j : ℕ). bytes_at m at j) f ∙ ap (λ (bs : List ℕ). m at ∷ bs) (bytes_at-append m (suc at) n k ∙ ap (λ (a : ℕ). bytes_at m (suc at) n ++ bytes_at m a k) e)

-- the same bytes, place by place
pub bytes_at_same : (f g : ℕ → ℕ) (at n : ℕ) → ((x : ℕ) → at ≤ x → x < at + n → f x ≡ g x) → bytes_at f at n ≡ bytes_at g at n
unfolding bytes_at
bytes_at_same f g at zero h = refl
bytes_at_same f g at (suc n) h =
    ap (λ (b : ℕ). b ∷ bytes_at f (suc at) n) (h at (omega arith) (omega arith))
    ∙ ap (λ (bs : List ℕ). g at ∷ bs) (bytes_at_same f g (suc at) n (λ x k l. h x (omega arith) (omega arith)))

-- the bytes that stand at a place
pub bytes_at_are : (f : ℕ → ℕ) (at : ℕ) (bytes : List ℕ) → ((i : ℕ) → i < length bytes → f (at + i) ≡ get_or bytes i 0) → bytes_at f at (length bytes) ≡ bytes
unfolding bytes_at
bytes_at_are f at [] h = refl
bytes_at_are f at (b ∷ bs) h =
    let e : at ≡ at + 0 = omega arith in
    ap (λ (c : ℕ). c ∷ bytes_at f (suc at) (length bs)) (ap (λ (a : ℕ). f a) e ∙ h 0 (omega arith))
    ∙ ap (λ (cs : List ℕ). b ∷ cs) (bytes_at_are f (suc at) bs (λ i k. (let g : suc at + i ≡ at + suc i = omega arith in ap (λ (a : ℕ). f a) g ∙ h (suc i) (omega arith))))

-- 2. Writes

pub written_same : {A : Type 0} → (f g : ℕ → A) (at : ℕ) (bytes : List A) (x : ℕ) → f x ≡ g x → written f at bytes x ≡ written g at bytes x
unfolding written
written_same f g at bytes x e = rw e refl

pub written_at : (m : ℕ → ℕ) (at : ℕ) (bytes : List ℕ) (i : ℕ) → i < length bytes → written m at bytes (at + i) ≡ get_or bytes i 0
unfolding written
written_at m at bytes i h =
    let k : at + i - at ≡ i = omega arith in
    rw (le-ltb (at + i) at (omega arith), k) (get_or_default bytes i (m (at + i)) 0 h)

pub written_outside : (m : ℕ → ℕ) (at : ℕ) (bytes : List ℕ) (x : ℕ) → Apart at (length bytes) x 1 → written m at bytes x ≡ m x
unfolding written
written_outside m at bytes x (inl h) = rw (le-ltb x at (omega arith)) (get_or_past bytes (x - at) (m x) (omega arith))
written_outside m at bytes x (inr h) = rw (lt-ltb x at (omega arith)) refl

-- bytes that were written are there
pub bytes_at_written : (m : ℕ → ℕ) (at : ℕ) (bytes : List ℕ) → bytes_at (written m at bytes) at (length bytes) ≡ bytes
bytes_at_written m at bytes = bytes_at_are (written m at bytes) at bytes (λ i h. written_at m at bytes i h)

-- one write after another that ends where it begins
pub written_append : {A : Type 0} → (m : ℕ → A) (at : ℕ) (xs ys : List A) (x : ℕ) → written (written m at xs) (at + length xs) ys x ≡ written m at (xs ++ ys) x
unfolding written
written_append m at xs ys x = elim (cases_lt x at) [
  | inl h ↦ rw (lt-ltb x (at + length xs) (omega arith), lt-ltb x at h) refl
  | inr h ↦ elim (cases_lt x (at + length xs)) [
    | inl k ↦ rw (lt-ltb x (at + length xs) k, le-ltb x at h) (sym (get_or_append_left xs ys (m x) (x - at) (omega arith)))
    | inr k ↦
        let i : x - (at + length xs) ≡ x - at - length xs = omega arith in
        rw (le-ltb x (at + length xs) k, le-ltb x at h, get_or_past xs (x - at) (m x) (omega arith), i) (sym (get_or-append_right xs ys (length xs) (x - at) (m x) refl (omega arith)))
  ]
]

-- a write of no byte
pub written_none : {A : Type 0} → (m : ℕ → A) (at : ℕ) (bytes : List A) (x : ℕ) → length bytes ≡ 0 → written m at bytes x ≡ m x
unfolding written
written_none m at bytes x e = elim (cases_lt x at) [
  | inl h ↦ rw (lt-ltb x at h) refl
  | inr h ↦ rw (le-ltb x at h) (get_or_past bytes (x - at) (m x) (omega arith))
]

-- bytes apart from a write stay
pub bytes_at_apart : (m : ℕ → ℕ) (at : ℕ) (bytes : List ℕ) (b n : ℕ) → Apart at (length bytes) b n → bytes_at (written m at bytes) b n ≡ bytes_at m b n
bytes_at_apart m at bytes b n (inl h) = bytes_at_same (written m at bytes) m b n (λ x k l. written_outside m at bytes x (inl (omega arith)))
bytes_at_apart m at bytes b n (inr h) = bytes_at_same (written m at bytes) m b n (λ x k l. written_outside m at bytes x (inr (omega arith)))
