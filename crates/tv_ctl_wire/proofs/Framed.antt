-- Of any kind of frame: its bytes from its code, its id and its body, and back.
use Rattle.std.proofs.Common.{◌≡◌, ◌∙◌, ◌==◌, ◌&&◌, ℕ, ◌+◌, ◌<◌, ◌≤◌, leb, Bool, true, false, List, [], ◌∷◌, ◌++◌, length, take, drop, slice_index, refl, ap, sym, arith, append-nil}
use Rattle.std.proofs.lemmas.Bool.{lt-leb}
use Rattle.std.proofs.lemmas.Bool.Decides.{nat_tests}
use Rattle.std.proofs.lemmas.List.{drop-drop, drop_all, drop_at, length-drop, length-take, take_all, append_assoc}
use Rattle.std.specs.Cmp.Derive.{both_true}
use borrow.Rule.Slice.PartMut.{mid_of, post_of}
use Rattle.byteorder.specs.Endian.{little_bytes, little_number}
use Rattle.tv_ctl_wire.specs.Frames.{AreBytes, frame_bytes}
use Rattle.tv_ctl_wire.specs.Reading.{Kind, late, sized, opens, coded, counted, begins}
use Rattle.tv_ctl_wire.proofs.Fronts.{or_when, when_or}
use Rattle.tv_ctl_wire.proofs.Wholes.{IsWhole, least_size, sized_two}
use Rattle.tv_wire.proofs.Answered.{both, same}
use Rattle.tv_wire.proofs.Digits.{bytes_behind, front_again}
use Rattle.tv_wire.proofs.Found.{byte_again}

eqb_same : (n m : ℕ) → n ≡ m → (n == m) ≡ true
eqb_same n m e = grind (arith, nat_tests, e)

number_is : (code id : ℕ) (body : List ℕ) → 10 + length body < 65536 → little_number 2 (frame_bytes code id body) ≡ 10 + length body
number_is code id body few = omega (arith, few)

-- what was put together is a frame
pub framed : (A : Type 0) (k : Kind A) (code id : ℕ) (body : List ℕ) → 10 + length body < 65536 → k.size (10 + length body) ≡ true
    → k.takes code (10 + length body) ≡ true → k.counts code (10 + length body) (slice_index body 0) ≡ true → IsWhole A k (frame_bytes code id body)
unfolding opens coded counted
framed A k code id body few size takes counts =
    let frame : List ℕ = frame_bytes code id body in
    let number : little_number 2 frame ≡ 10 + length body = number_is code id body few in
    record {
      begun = both_true (both_true (sized_two A k frame (omega arith) ∙ ap k.size number ∙ size)
          (both_true (or_when (leb (length frame) 2) (slice_index frame 2 == 0) (λ e. eqb_same (slice_index frame 2) 0 (omega (arith, few))))
          (both_true (or_when (leb (length frame) 3) (slice_index frame 3 == 0) (λ e. eqb_same (slice_index frame 3) 0 (omega (arith, few))))
          (or_when (leb (length frame) 4) (1 == 1) (λ e. refl)))))
          (both_true (or_when (leb (length frame) 5) (k.takes code (little_number 2 frame)) (λ e. ap (λ (n : ℕ). k.takes code n) number ∙ takes))
          (or_when (leb (length frame) 14) (k.counts code (little_number 2 frame) (slice_index body 0))
          (λ e. ap (λ (n : ℕ). k.counts code n (slice_index body 0)) number ∙ counts)));
      size = omega (arith, number);
    }

zero_at : (at : ℕ) (bytes : List ℕ) (byte : ℕ) → at < length bytes → late at (slice_index bytes at == byte) bytes ≡ true → slice_index bytes at ≡ byte
zero_at at bytes byte more h = same (slice_index bytes at) byte (when_or (leb (length bytes) at) _ h (lt-leb (length bytes) at more))

pub opens_is : (bytes : List ℕ) → 5 ≤ length bytes → opens bytes ≡ true
    → (slice_index bytes 2 ≡ 0) × (slice_index bytes 3 ≡ 0) × (slice_index bytes 4 ≡ 1)
unfolding opens
opens_is bytes five h =
    let first = both _ _ h in
    let second = both _ _ first.1 in
    (zero_at 2 bytes 0 (omega (arith, five)) first.0, zero_at 3 bytes 0 (omega (arith, five)) second.0, zero_at 4 bytes 1 (omega (arith, five)) second.1)

four_of : (bytes : List ℕ) → slice_index bytes 2 ≡ 0 → slice_index bytes 3 ≡ 0 → 4 ≤ length bytes → little_number 4 bytes ≡ little_number 2 bytes
four_of bytes two three long = omega (arith, two, three)

frame_again : (A : Type 0) (k : Kind A) (frame : List ℕ) → AreBytes frame → IsWhole A k frame → 14 ≤ length frame
    → frame ≡ frame_bytes (slice_index frame 5) (little_number 8 (drop 6 frame)) (drop 14 frame)
frame_again A k frame each is long =
    let opened = opens_is frame (omega (arith, long)) (both _ _ (both _ _ is.begun).0).1 in
    let count : 10 + length (drop 14 frame) ≡ little_number 4 frame =
    rw (length-drop 14 frame, four_of frame opened.0 opened.1 (omega (arith, long))) (omega (arith, long, is.size)) in
    let id : little_bytes 8 (little_number 8 (drop 6 frame)) ++ drop 14 frame ≡ drop 6 frame =
    ap (λ (bs : List ℕ). little_bytes 8 (little_number 8 (drop 6 frame)) ++ bs) (sym (drop-drop 8 6 frame))
    ∙ front_again 8 (drop 6 frame) (bytes_behind 6 frame each) (rw (length-drop 6 frame) (omega (arith, long))) in
    let version : 1 ∷ drop 5 frame ≡ drop 4 frame =
    ap (λ (b : ℕ). b ∷ drop 5 frame) (sym opened.2) ∙ byte_again 4 frame (omega (arith, long)) in
    sym (ap (λ (n : ℕ). little_bytes 4 n ++ (1 ∷ (slice_index frame 5 ∷ (little_bytes 8 (little_number 8 (drop 6 frame)) ++ drop 14 frame)))) count
    ∙ ap (λ (bs : List ℕ). little_bytes 4 (little_number 4 frame) ++ (1 ∷ (slice_index frame 5 ∷ bs))) id
    ∙ ap (λ (bs : List ℕ). little_bytes 4 (little_number 4 frame) ++ (1 ∷ bs)) (byte_again 5 frame (omega (arith, long)))
    ∙ ap (λ (bs : List ℕ). little_bytes 4 (little_number 4 frame) ++ bs) version
    ∙ front_again 4 frame each (omega (arith, long)))

-- a frame is put together from its parts
pub frame_is : (A : Type 0) (k : Kind A) → ((size : ℕ) → k.size size ≡ true → 10 ≤ size) → (frame : List ℕ) → AreBytes frame → IsWhole A k frame
    → (14 ≤ length frame) × (frame ≡ frame_bytes (slice_index frame 5) (little_number 8 (drop 6 frame)) (drop 14 frame))
frame_is A k least frame each is = let long = least_size A k least frame is in (long, frame_again A k frame each is long)

-- a body that was written behind 14 bytes
behind : (out head body part : List ℕ) (n : ℕ) → length out ≡ 4100 → part ≡ body ++ drop n (mid_of 14 4086 out)
    → head ++ drop 14 (take 14 out ++ (part ++ post_of 14 4086 out)) ≡ (head ++ body) ++ drop (14 + n) out
behind out head body part n size part_is =
    let all : mid_of 14 4086 out ≡ drop 14 out = take_all 4086 (drop 14 out) (rw (length-drop 14 out) (omega (arith, size))) in
    let none : post_of 14 4086 out ≡ [] = drop_all 4086 (drop 14 out) (rw (length-drop 14 out) (omega (arith, size))) in
    let front : length (take 14 out) ≡ 14 = omega (arith, size, length-take 14 out) in
    let now : part ≡ body ++ drop (14 + n) out = part_is ∙ ap (λ (bs : List ℕ). body ++ drop n bs) all ∙ ap (λ (bs : List ℕ). body ++ bs) (drop-drop n 14 out) in
    ap (λ (bs : List ℕ). head ++ bs) (drop_at (take 14 out) (part ++ post_of 14 4086 out) 14 front)
    ∙ ap (λ (bs : List ℕ). head ++ (part ++ bs)) none
    ∙ ap (λ (bs : List ℕ). head ++ bs) (append-nil part ∙ now)
    ∙ sym (append_assoc head body (drop (14 + n) out))

-- what is written for a frame
pub written_is : (code id n : ℕ) (body out part new : List ℕ) → length out ≡ 4100 → n ≡ length body → part ≡ body ++ drop n (mid_of 14 4086 out)
    → new ≡ (little_bytes 4 (10 + n) ++ (1 ∷ (code ∷ little_bytes 8 id))) ++ drop 14 (take 14 out ++ (part ++ post_of 14 4086 out))
    → new ≡ frame_bytes code id body ++ drop (14 + n) out
written_is code id n body out part new size n_is part_is new_is =
    new_is ∙ behind out (little_bytes 4 (10 + n) ++ (1 ∷ (code ∷ little_bytes 8 id))) body part n size part_is
    ∙ ap (λ (k : ℕ). ((little_bytes 4 (10 + k) ++ (1 ∷ (code ∷ little_bytes 8 id))) ++ body) ++ drop (14 + n) out) n_is

only : (b : Bool) → ((b && true) && true) ≡ b
only true = refl
only false = refl

-- bytes of fewer than two tell only what the first one tells
pub short_is : (A : Type 0) (k : Kind A) (bytes : List ℕ) → length bytes < 2 → begins k bytes ≡ late 0 (k.first (slice_index bytes 0)) bytes
unfolding sized opens coded counted
short_is A k [] short = refl
short_is A k (b ∷ []) short = only (k.first b)
short_is A k (b ∷ c ∷ bytes) short = absurd (omega (arith, short))
