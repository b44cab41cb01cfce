-- The bytes of a response.
use Rattle.std.proofs.Common.{◌≡◌, ◌∙◌, ◌≤◌, ◌+◌, ◌-◌, ℕ, List, ◌++◌, length, take, replicate, min, refl, ap, sym, arith, inl, inr, length-append, append-nil, append_assoc}
use Rattle.std.proofs.Math.Seq.{take-append-add}
use Rattle.std.proofs.lemmas.Bool.{cases_lt}
use Rattle.std.proofs.lemmas.List.{take_all, take-append-le, take-replicate, length-take-le, length-replicate, replicate-append-replicate}
use Rattle.tv_plan.specs.Block.{Response, response_bytes}
use Rattle.tv_vring.specs.Rings.{Ring, with_answered}

-- bytes for which there is room, and then zeros
with_zeros : (len : ℕ) (bytes : List ℕ) → length bytes ≤ len → bytes ++ replicate (len - length bytes) 0 ≡ take len (bytes ++ replicate len 0)
with_zeros len bytes h =
    let e : len ≡ length bytes + (len - length bytes) = omega arith in
    let k : len - length bytes ≤ len = omega arith in
    sym (ap (λ (n : ℕ). take n (bytes ++ replicate len 0)) e
    ∙ take-append-add bytes (replicate len 0) (len - length bytes)
    ∙ ap (λ (zs : List ℕ). bytes ++ zs) (take-replicate (len - length bytes) len 0 k))

-- bytes for which there is just room, or too little
cut_off : (len : ℕ) (bytes : List ℕ) → len ≤ length bytes → take len bytes ++ replicate (len - len) 0 ≡ take len (bytes ++ replicate len 0)
cut_off len bytes h =
    let e : len - len ≡ 0 = omega arith in
    rw (e, append-nil, take-append-le len bytes (replicate len 0) h) refl

pub padded : (len given : ℕ) (bytes : List ℕ) → given ≡ min (length bytes) len → take given bytes ++ replicate (len - given) 0 ≡ take len (bytes ++ replicate len 0)
padded len given bytes e =
    elim (cases_lt (length bytes) len) [
      | inl h ↦ (let g : given ≡ length bytes = omega arith in rw (g, take_all (length bytes) bytes (omega arith)) (with_zeros len bytes (omega arith)))
      | inr h ↦ (let g : given ≡ len = omega arith in rw g (cut_off len bytes h))
    ]

-- a content that fills its room
pub whole : (len : ℕ) (bytes : List ℕ) → length bytes ≡ len → take len (bytes ++ replicate len 0) ≡ bytes
whole len bytes e =
    let h : len ≤ length bytes = omega arith in
    let k : length bytes ≤ len = omega arith in
    take-append-le len bytes (replicate len 0) h ∙ take_all len bytes k

pub length_bytes : (len : ℕ) (r : Response) → length (response_bytes len r) ≡ len + 1
length_bytes len r =
    let h : len ≤ length (r.content ++ replicate len 0) = rw (length-append, length-replicate) (omega arith) in
    rw (length-append, length-take-le len (r.content ++ replicate len 0) h) refl

-- zeros after zeros
pub more_zeros : (xs : List ℕ) (a b c : ℕ) → a + b ≡ c → (xs ++ replicate a 0) ++ replicate b 0 ≡ xs ++ replicate c 0
more_zeros xs a b c e =
    append_assoc xs (replicate a 0) (replicate b 0) ∙ ap (λ (zs : List ℕ). xs ++ zs) (replicate-append-replicate a b 0 ∙ ap (λ (n : ℕ). replicate n 0) e)

pub zeros_next : (first now : Ring) (n k m : ℕ) → now ≡ with_answered first (first.answered ++ replicate n 0) → n + k ≡ m
    → with_answered now (now.answered ++ replicate k 0) ≡ with_answered first (first.answered ++ replicate m 0)
zeros_next first now n k m h e =
    ap (λ (r : Ring). with_answered r (r.answered ++ replicate k 0)) h ∙ ap (λ (bytes : List ℕ). with_answered first bytes) (more_zeros first.answered n k m e)
