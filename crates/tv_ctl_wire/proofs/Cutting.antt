-- Of any kind of frame: what a cut tells.
use Rattle.std.proofs.Common.{◌≡◌, ◌∙◌, ◌||◌, ℕ, zero, suc, ◌+◌, ◌<◌, ◌≤◌, ltb, Bool, true, false, cond, List, [], ◌∷◌, ◌++◌, length, take, drop, length-append, refl, ap, sym, subst, arith, append-nil}
use Rattle.std.proofs.lemmas.Bool.{false≢true, le-ltb}
use Rattle.std.proofs.lemmas.List.{take-append-drop, take-append-le, take_all, length-take-le}
use Rattle.std.proofs.lemmas.Bool.Decides.{nat_tests}
use Rattle.byteorder.specs.Endian.{little_number}
use Rattle.tv_ctl_wire.specs.declared.Cut.{Cut}
use Rattle.tv_ctl_wire.specs.declared.Cut.TheVariants as cut
use Rattle.tv_ctl_wire.specs.Cuts.{CutSo, Begins, IsApart, IsFront}
use Rattle.tv_ctl_wire.specs.Frames.{AreBytes}
use Rattle.tv_ctl_wire.specs.Reading.{Kind, begins, goes_on, reading}
use Rattle.tv_ctl_wire.proofs.Fronts.{number_front}
use Rattle.tv_ctl_wire.proofs.Wholes.{Lawful, IsWhole, whole_size, begins_front, begins_whole}
use Rattle.tv_ctl_wire.proofs.Rest.{completed}

ends : (bytes : List ℕ) (n : ℕ) → 2 ≤ length bytes → n ≤ length bytes → (ltb (length bytes) 2 || ltb (length bytes) n) ≡ false
ends bytes n two long = rw (le-ltb (length bytes) 2 two, le-ltb (length bytes) n long) refl

size_front : (A : Type 0) (k : Kind A) (spells : List ℕ → A → Type 0) (laws : Lawful A k spells) (frame rest : List ℕ) → IsWhole A k frame
    → little_number 2 (frame ++ rest) + 4 ≡ length frame
size_front A k spells laws frame rest is =
    let long = whole_size A k spells laws frame is in
    ap (λ (n : ℕ). n + 4) (number_front frame rest (omega (arith, long))) ∙ sym is.size

-- a frame with others behind is read as what it says
pub front_read : (A : Type 0) (k : Kind A) (spells : List ℕ → A → Type 0) (laws : Lawful A k spells) (frame rest : List ℕ) (value : A)
    → spells frame value → reading k (frame ++ rest) ≡ cut.Whole value (length frame)
front_read A k spells laws frame rest value spelt =
    let is = laws.whole frame value spelt in
    let long = whole_size A k spells laws frame is in
    let more = ends (frame ++ rest) (length frame) (omega (arith, long, length-append frame rest)) (omega (arith, length-append frame rest)) in
    let front : take (length frame) (frame ++ rest) ≡ frame = take-append-le (length frame) frame rest (omega arith) ∙ take_all (length frame) frame (omega arith) in
    rw (begins_whole A k spells laws frame rest is, size_front A k spells laws frame rest is, more, front)
    (ap (λ (v : A). cut.Whole v (length frame)) (laws.again frame value spelt))

begun_front : (A : Type 0) (k : Kind A) (spells : List ℕ → A → Type 0) (laws : Lawful A k spells) (bytes frame rest : List ℕ) (value : A)
    → spells frame value → frame ≡ bytes ++ rest → begins k bytes ≡ true
begun_front A k spells laws bytes frame rest value spelt is =
    begins_front A k spells laws bytes rest (ap (λ (bs : List ℕ). begins k bs) (sym is) ∙ (laws.whole frame value spelt).begun)

fewer : (A : Type 0) (k : Kind A) (front : List ℕ) → (2 ≤ length front → length front < little_number 2 front + 4)
    → goes_on front ≡ true
fewer A k front h = grind (arith, nat_tests, h)

going : (A : Type 0) (k : Kind A) (spells : List ℕ → A → Type 0) (laws : Lawful A k spells) (bytes frame rest : List ℕ)
    → frame ≡ bytes ++ rest → 0 < length rest → IsWhole A k frame → goes_on bytes ≡ true
going A k spells laws bytes frame rest is some whole =
    fewer A k bytes (λ two.
    let number : little_number 2 frame ≡ little_number 2 bytes = ap (little_number 2) is ∙ number_front bytes rest two in
    let size : length frame ≡ length bytes + length rest = ap length is ∙ length-append bytes rest in
    omega (arith, number, size, whole.size, some))

-- a front of a frame that isn't all of it goes on
pub front_goes_on : (A : Type 0) (k : Kind A) (spells : List ℕ → A → Type 0) (laws : Lawful A k spells) (bytes frame rest : List ℕ) (value : A)
    → spells frame value → frame ≡ bytes ++ rest → 0 < length rest → reading k bytes ≡ cut.More
front_goes_on A k spells laws bytes frame rest value spelt is some =
    rw (begun_front A k spells laws bytes frame rest value spelt is, going A k spells laws bytes frame rest is some (laws.whole frame value spelt)) refl

take_bytes : (n : ℕ) (bytes : List ℕ) → AreBytes bytes → AreBytes (take n bytes)
take_bytes zero bytes each i = omega arith
take_bytes (suc n) [] each i = omega arith
take_bytes (suc n) (b ∷ bytes) each zero = each 0
take_bytes (suc n) (b ∷ bytes) each (suc i) = take_bytes n bytes (λ j. each (suc j)) i

pub front_whole : (A : Type 0) (k : Kind A) (spells : List ℕ → A → Type 0) (laws : Lawful A k spells) (bytes : List ℕ)
    → begins k bytes ≡ true → 2 ≤ length bytes → little_number 2 bytes + 4 ≤ length bytes → IsWhole A k (take (little_number 2 bytes + 4) bytes)
front_whole A k spells laws bytes h two long =
    let size : ℕ = little_number 2 bytes + 4 in
    let front : List ℕ = take size bytes in
    let both_parts : front ++ drop size bytes ≡ bytes = take-append-drop size bytes in
    let count : length front ≡ size = length-take-le size bytes long in
    let number : little_number 2 bytes ≡ little_number 2 front =
    ap (little_number 2) (sym both_parts) ∙ number_front front (drop size bytes) (omega (arith, count)) in
    record {
      begun = begins_front A k spells laws front (drop size bytes) (ap (λ (bs : List ℕ). begins k bs) both_parts ∙ h);
      size = count ∙ ap (λ (n : ℕ). n + 4) number;
    }

some_rest : (A : Type 0) (k : Kind A) (spells : List ℕ → A → Type 0) (laws : Lawful A k spells) (bytes rest : List ℕ)
    → (2 ≤ length bytes → length bytes < little_number 2 bytes + 4) → IsWhole A k (bytes ++ rest) → 0 < length rest
some_rest A k spells laws bytes [] less is =
    let same : bytes ++ [] ≡ bytes = append-nil bytes in
    let whole : IsWhole A k bytes = subst (IsWhole A k) same is in
    let long = whole_size A k spells laws bytes whole in
    let few = less (omega (arith, long)) in
    absurd (omega (arith, few, whole.size))
some_rest A k spells laws bytes (b ∷ rest) less is = omega arith

more_is : (A : Type 0) (k : Kind A) (spells : List ℕ → A → Type 0) (laws : Lawful A k spells) (bytes : List ℕ) → AreBytes bytes
    → begins k bytes ≡ true → goes_on bytes ≡ true → Begins A spells bytes
more_is A k spells laws bytes each h on =
    let less : 2 ≤ length bytes → length bytes < little_number 2 bytes + 4 = λ two. grind (arith, nat_tests, on, two) in
    let c = completed A k spells laws bytes each h (λ two. let l = less two in omega (arith, l)) in
    record {
      value = k.value (bytes ++ c.rest);
      rest = c.rest;
      some = some_rest A k spells laws bytes c.rest less c.is;
      spelt = laws.found (bytes ++ c.rest) c.each c.is;
    }

whole_is : (A : Type 0) (k : Kind A) (spells : List ℕ → A → Type 0) (laws : Lawful A k spells) (bytes : List ℕ) → AreBytes bytes
    → begins k bytes ≡ true → goes_on bytes ≡ false
    → IsFront A spells bytes (k.value (take (little_number 2 bytes + 4) bytes)) (little_number 2 bytes + 4)
whole_is A k spells laws bytes each h on =
    let two : 2 ≤ length bytes = grind (arith, nat_tests, on) in
    let long : little_number 2 bytes + 4 ≤ length bytes = grind (arith, nat_tests, on) in
    record {
      within = long;
      spelt = laws.found (take (little_number 2 bytes + 4) bytes) (take_bytes (little_number 2 bytes + 4) bytes each) (front_whole A k spells laws bytes h two long);
    }

apart_is : (A : Type 0) (k : Kind A) (spells : List ℕ → A → Type 0) (laws : Lawful A k spells) (bytes : List ℕ)
    → begins k bytes ≡ false → IsApart A spells bytes
apart_is A k spells laws bytes h = record {
  begun = λ frame rest value spelt is.
      false≢true (sym h ∙ ap (λ (bs : List ℕ). begins k bs) is ∙ begins_whole A k spells laws frame rest (laws.whole frame value spelt));
  begins = λ frame rest value spelt is. false≢true (sym h ∙ begun_front A k spells laws bytes frame rest value spelt is);
}

cut_at : (A : Type 0) (k : Kind A) (spells : List ℕ → A → Type 0) (laws : Lawful A k spells) (bytes : List ℕ) (b on : Bool) → AreBytes bytes
    → begins k bytes ≡ b → goes_on bytes ≡ on
    → CutSo A spells bytes (cond b (cond on cut.More (cut.Whole (k.value (take (little_number 2 bytes + 4) bytes)) (little_number 2 bytes + 4))) cut.Bad)
cut_at A k spells laws bytes false on each h e = apart_is A k spells laws bytes h
cut_at A k spells laws bytes true true each h e = more_is A k spells laws bytes each h e
cut_at A k spells laws bytes true false each h e = whole_is A k spells laws bytes each h e

pub cut_of : (A : Type 0) (k : Kind A) (spells : List ℕ → A → Type 0) (laws : Lawful A k spells) (bytes : List ℕ) (r : Cut A) → AreBytes bytes
    → r ≡ reading k bytes → CutSo A spells bytes r
cut_of A k spells laws bytes r each is =
    subst (CutSo A spells bytes) (sym is) (cut_at A k spells laws bytes (begins k bytes) (goes_on bytes) each refl refl)
