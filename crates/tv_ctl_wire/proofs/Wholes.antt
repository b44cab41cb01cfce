-- Of any kind of frame: what is cut from bytes is the frame at their front.
use Rattle.std.proofs.Common.{◌≡◌, ◌∙◌, ◌==◌, ℕ, ◌+◌, ◌*◌, ◌<◌, ◌≤◌, true, List, [], ◌∷◌, ◌++◌, length, slice_index, length-append, refl, ap, sym, arith}
use Rattle.std.proofs.lemmas.Bool.{le-ltb}
use Rattle.std.specs.Cmp.Derive.{both_true}
use Rattle.byteorder.specs.Endian.{little_number}
use Rattle.tv_ctl_wire.specs.Frames.{AreBytes}
use Rattle.tv_ctl_wire.specs.Reading.{Kind, sized, opens, coded, counted, begins}
use Rattle.tv_ctl_wire.proofs.Fronts.{byte_front, number_front, late_front, late_whole}
use Rattle.tv_wire.proofs.Answered.{both}

-- bytes that are one frame
pub record IsWhole (A : Type 0) (k : Kind A) (frame : List ℕ) : Type 0 where
  pub begun : begins k frame ≡ true
  pub size : length frame ≡ little_number 2 frame + 4

-- what a kind owes
pub record Lawful (A : Type 0) (k : Kind A) (spells : List ℕ → A → Type 0) : Type 0 where
  pub second : ℕ → ℕ
  pub code : ℕ → ℕ
  pub count : ℕ → ℕ → ℕ
  pub start : k.first 10 ≡ true
  pub low : (first rest : ℕ) → k.size (first + 256 * rest) ≡ true → k.first first ≡ true
  pub high : (first : ℕ) → first < 256 → k.first first ≡ true → k.size (first + 256 * second first) ≡ true
  pub least : (size : ℕ) → k.size size ≡ true → 10 ≤ size
  pub some_code : (size : ℕ) → k.size size ≡ true → k.takes (code size) size ≡ true
  pub some_count : (c size : ℕ) → k.takes c size ≡ true → k.counts c size (count c size) ≡ true
  pub no_count : (c byte : ℕ) → k.counts c 10 byte ≡ true
  pub bytes : ((first : ℕ) → second first < 256) × ((size : ℕ) → code size < 256) × ((c size : ℕ) → count c size < 256)
  pub found : (frame : List ℕ) → AreBytes frame → IsWhole A k frame → spells frame (k.value frame)
  pub whole : (frame : List ℕ) (value : A) → spells frame value → IsWhole A k frame
  pub again : (frame : List ℕ) (value : A) → spells frame value → k.value frame ≡ value

pub sized_two : (A : Type 0) (k : Kind A) (bytes : List ℕ) → 2 ≤ length bytes → sized k bytes ≡ k.size (little_number 2 bytes)
unfolding sized
sized_two A k bytes two = rw (le-ltb (length bytes) 2 two) refl

sized_front : (A : Type 0) (k : Kind A) (spells : List ℕ → A → Type 0) (laws : Lawful A k spells) (front rest : List ℕ)
    → sized k (front ++ rest) ≡ true → sized k front ≡ true
unfolding sized
sized_front A k spells laws [] rest h = refl
sized_front A k spells laws (b ∷ []) [] h = h
sized_front A k spells laws (b ∷ []) (c ∷ rest) h =
    laws.low b (c + 0) (sym (sized_two A k (b ∷ c ∷ rest) (omega arith)) ∙ h)
sized_front A k spells laws (b ∷ c ∷ front) rest h =
    sized_two A k (b ∷ c ∷ front) (omega arith) ∙ ap k.size (sym (number_front (b ∷ c ∷ front) rest (omega arith)))
    ∙ sym (sized_two A k (b ∷ c ∷ (front ++ rest)) (omega arith)) ∙ h

opens_front : (front rest : List ℕ) → opens (front ++ rest) ≡ true → opens front ≡ true
unfolding opens
opens_front front rest h =
    let first = both _ _ h in
    let second = both _ _ first.1 in
    both_true (late_front 2 (slice_index front 2 == 0) (slice_index (front ++ rest) 2 == 0) front rest (λ m. ap (λ (b : ℕ). b == 0) (byte_front 2 front rest m)) first.0)
    (both_true (late_front 3 (slice_index front 3 == 0) (slice_index (front ++ rest) 3 == 0) front rest (λ m. ap (λ (b : ℕ). b == 0) (byte_front 3 front rest m)) second.0)
    (late_front 4 (slice_index front 4 == 1) (slice_index (front ++ rest) 4 == 1) front rest (λ m. ap (λ (b : ℕ). b == 1) (byte_front 4 front rest m)) second.1))

pub same_code : (A : Type 0) (k : Kind A) (front rest : List ℕ) → 5 < length front
    → k.takes (slice_index (front ++ rest) 5) (little_number 2 (front ++ rest)) ≡ k.takes (slice_index front 5) (little_number 2 front)
same_code A k front rest m =
    ap (λ (c : ℕ). k.takes c (little_number 2 (front ++ rest))) (byte_front 5 front rest m)
    ∙ ap (λ (n : ℕ). k.takes (slice_index front 5) n) (number_front front rest (omega (arith, m)))

pub same_count : (A : Type 0) (k : Kind A) (front rest : List ℕ) → 14 < length front
    → k.counts (slice_index (front ++ rest) 5) (little_number 2 (front ++ rest)) (slice_index (front ++ rest) 14)
    ≡ k.counts (slice_index front 5) (little_number 2 front) (slice_index front 14)
same_count A k front rest m =
    ap (λ (c : ℕ). k.counts c (little_number 2 (front ++ rest)) (slice_index (front ++ rest) 14)) (byte_front 5 front rest (omega (arith, m)))
    ∙ ap (λ (n : ℕ). k.counts (slice_index front 5) n (slice_index (front ++ rest) 14)) (number_front front rest (omega (arith, m)))
    ∙ ap (λ (b : ℕ). k.counts (slice_index front 5) (little_number 2 front) b) (byte_front 14 front rest m)

coded_front : (A : Type 0) (k : Kind A) (front rest : List ℕ) → coded k (front ++ rest) ≡ true → coded k front ≡ true
unfolding coded
coded_front A k front rest h = late_front 5 _ _ front rest (λ m. same_code A k front rest m) h

counted_front : (A : Type 0) (k : Kind A) (front rest : List ℕ) → counted k (front ++ rest) ≡ true → counted k front ≡ true
unfolding counted
counted_front A k front rest h = late_front 14 _ _ front rest (λ m. same_count A k front rest m) h

-- a front of what begins a frame begins one
pub begins_front : (A : Type 0) (k : Kind A) (spells : List ℕ → A → Type 0) (laws : Lawful A k spells) (front rest : List ℕ)
    → begins k (front ++ rest) ≡ true → begins k front ≡ true
begins_front A k spells laws front rest h =
    let halves = both _ _ h in
    let first = both _ _ halves.0 in
    let second = both _ _ halves.1 in
    both_true (both_true (sized_front A k spells laws front rest first.0) (opens_front front rest first.1))
    (both_true (coded_front A k front rest second.0) (counted_front A k front rest second.1))

pub sized_whole : (A : Type 0) (k : Kind A) (front rest : List ℕ) → 2 ≤ length front → sized k front ≡ true → sized k (front ++ rest) ≡ true
sized_whole A k front rest two h =
    sized_two A k (front ++ rest) (omega (arith, two, length-append front rest)) ∙ ap k.size (number_front front rest two)
    ∙ sym (sized_two A k front two) ∙ h

opens_whole : (front rest : List ℕ) → 5 ≤ length front → opens front ≡ true → opens (front ++ rest) ≡ true
unfolding opens
opens_whole front rest five h =
    let first = both _ _ h in
    let second = both _ _ first.1 in
    both_true (late_whole 2 (slice_index front 2 == 0) (slice_index (front ++ rest) 2 == 0) front rest (λ m. ap (λ (b : ℕ). b == 0) (byte_front 2 front rest m)) (λ l. absurd (omega (arith, l, five))) first.0)
    (both_true (late_whole 3 (slice_index front 3 == 0) (slice_index (front ++ rest) 3 == 0) front rest (λ m. ap (λ (b : ℕ). b == 0) (byte_front 3 front rest m)) (λ l. absurd (omega (arith, l, five))) second.0)
    (late_whole 4 (slice_index front 4 == 1) (slice_index (front ++ rest) 4 == 1) front rest (λ m. ap (λ (b : ℕ). b == 1) (byte_front 4 front rest m)) (λ l. absurd (omega (arith, l, five))) second.1))

pub size_is : (A : Type 0) (k : Kind A) (bytes : List ℕ) → 2 ≤ length bytes → sized k bytes ≡ true → k.size (little_number 2 bytes) ≡ true
size_is A k bytes two h = sym (sized_two A k bytes two) ∙ h

two_of : (bytes : List ℕ) (n : ℕ) → length bytes ≡ n + 4 → 2 ≤ length bytes
two_of bytes n h = omega (arith, h)

pub least_size : (A : Type 0) (k : Kind A) → ((size : ℕ) → k.size size ≡ true → 10 ≤ size) → (frame : List ℕ) → IsWhole A k frame → 14 ≤ length frame
least_size A k least frame is =
    let two = two_of frame (little_number 2 frame) is.size in
    let ten = least (little_number 2 frame) (size_is A k frame two (both _ _ (both _ _ is.begun).0).0) in
    omega (arith, is.size, ten)

pub whole_size : (A : Type 0) (k : Kind A) (spells : List ℕ → A → Type 0) (laws : Lawful A k spells) (frame : List ℕ) → IsWhole A k frame → 14 ≤ length frame
whole_size A k spells laws frame is = least_size A k laws.least frame is

coded_whole : (A : Type 0) (k : Kind A) (front rest : List ℕ) → 6 ≤ length front → coded k front ≡ true → coded k (front ++ rest) ≡ true
unfolding coded
coded_whole A k front rest six h = late_whole 5 _ _ front rest (λ m. same_code A k front rest m) (λ l. absurd (omega (arith, l, six))) h

bare_count : (A : Type 0) (k : Kind A) (spells : List ℕ → A → Type 0) (laws : Lawful A k spells) (c size byte : ℕ) → size ≡ 10 → k.counts c size byte ≡ true
bare_count A k spells laws c size byte e = ap (λ (n : ℕ). k.counts c n byte) e ∙ laws.no_count c byte

counted_whole : (A : Type 0) (k : Kind A) (spells : List ℕ → A → Type 0) (laws : Lawful A k spells) (frame rest : List ℕ)
    → 14 ≤ length frame → length frame ≡ little_number 2 frame + 4 → counted k frame ≡ true → counted k (frame ++ rest) ≡ true
unfolding counted
counted_whole A k spells laws frame rest long size h =
    late_whole 14 _ _ frame rest (λ m. same_count A k frame rest m)
    (λ l. bare_count A k spells laws _ _ _ (number_front frame rest (omega (arith, long)) ∙ omega (arith, l, long, size))) h

-- what begins with a frame
pub begins_whole : (A : Type 0) (k : Kind A) (spells : List ℕ → A → Type 0) (laws : Lawful A k spells) (frame rest : List ℕ)
    → IsWhole A k frame → begins k (frame ++ rest) ≡ true
begins_whole A k spells laws frame rest is =
    let long : 14 ≤ length frame = whole_size A k spells laws frame is in
    let halves = both _ _ is.begun in
    let first = both _ _ halves.0 in
    let second = both _ _ halves.1 in
    both_true (both_true (sized_whole A k frame rest (omega (arith, long)) first.0) (opens_whole frame rest (omega (arith, long)) first.1))
    (both_true (coded_whole A k frame rest (omega (arith, long)) second.0) (counted_whole A k spells laws frame rest long is.size second.1))
