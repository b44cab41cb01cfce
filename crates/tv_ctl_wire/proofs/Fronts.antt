-- What the front of some bytes has in common with them, and what one byte more changes.
use Rattle.std.proofs.Common.{◌≡◌, ◌∙◌, ◌||◌, ℕ, ◌<◌, ◌≤◌, leb, Bool, true, false, List, [], ◌∷◌, ◌++◌, length, slice_index, length-append, refl, sym, arith}
use Rattle.std.proofs.Math.ListN.{get_or-append}
use Rattle.std.proofs.Math.Seq.{get_or-append_seam}
use Rattle.std.proofs.lemmas.Bool.{leb-true, leb-false, lt-leb}
use Rattle.std.proofs.lemmas.Bool.{false≢true}
use Rattle.byteorder.specs.Endian.{little_number}
use Rattle.byteorder.specs.Numbers.{little_from-append}
use Rattle.tv_ctl_wire.specs.Reading.{late}

-- a test that holds unless something holds
pub or_when : (b t : Bool) → (b ≡ false → t ≡ true) → (b || t) ≡ true
or_when true t h = refl
or_when false t h = h refl

pub when_or : (b t : Bool) → (b || t) ≡ true → b ≡ false → t ≡ true
when_or true t h e = absurd (false≢true (sym e))
when_or false t h e = h

pub byte_front : (at : ℕ) (front rest : List ℕ) → at < length front → slice_index (front ++ rest) at ≡ slice_index front at
byte_front at front rest more = get_or-append front rest 0 at more

pub number_front : (front rest : List ℕ) → 2 ≤ length front → little_number 2 (front ++ rest) ≡ little_number 2 front
number_front front rest two = little_from-append 2 front rest two

longer : (at : ℕ) (front rest : List ℕ) → at < length front → leb (length (front ++ rest)) at ≡ false
longer at front rest more = lt-leb (length (front ++ rest)) at (omega (arith, more, length-append front rest))

-- what holds of all bytes holds of their front
pub late_front : (at : ℕ) (test whole : Bool) (front rest : List ℕ) → (at < length front → whole ≡ test)
    → late at whole (front ++ rest) ≡ true → late at test front ≡ true
late_front at test whole front rest same holds =
    or_when (leb (length front) at) test (λ e.
    let more : at < length front = leb-false (length front) at e in
    sym (same more) ∙ when_or (leb (length (front ++ rest)) at) whole holds (longer at front rest more))

few : (at : ℕ) (front : List ℕ) → leb (length front) at ≡ true → length front ≤ at
few at front e = leb-true (length front) at e

came : (at : ℕ) (test whole : Bool) (front : List ℕ) (b : Bool) → leb (length front) at ≡ b → (at < length front → whole ≡ test)
    → (length front ≤ at → whole ≡ true) → late at test front ≡ true → whole ≡ true
came at test whole front true e same new holds = new (few at front e)
came at test whole front false e same new holds = same (leb-false (length front) at e) ∙ when_or (leb (length front) at) test holds e

-- what holds of bytes that have come holds of them with others behind
pub late_whole : (at : ℕ) (test whole : Bool) (front rest : List ℕ) → (at < length front → whole ≡ test) → (length front ≤ at → whole ≡ true)
    → late at test front ≡ true → late at whole (front ++ rest) ≡ true
late_whole at test whole front rest same new holds =
    or_when (leb (length (front ++ rest)) at) whole (λ e. came at test whole front (leb (length front) at) refl same new holds)

-- one byte more
pub late_next : (at byte : ℕ) (test whole : Bool) (front : List ℕ) → (at < length front → whole ≡ test) → (length front ≡ at → whole ≡ true)
    → late at test front ≡ true → late at whole (front ++ byte ∷ []) ≡ true
late_next at byte test whole front same new holds =
    or_when (leb (length (front ++ byte ∷ [])) at) whole (λ e.
    let more : at < length (front ++ byte ∷ []) = leb-false (length (front ++ byte ∷ [])) at e in
    came at test whole front (leb (length front) at) refl same
    (λ l. new (omega (arith, l, more, length-append front (byte ∷ [])))) holds)

-- a byte behind others
pub byte_behind : (at byte : ℕ) (front : List ℕ) → length front ≡ at → slice_index (front ++ byte ∷ []) at ≡ byte
byte_behind at byte front e = rw (sym e) (get_or-append_seam front byte [] 0)
