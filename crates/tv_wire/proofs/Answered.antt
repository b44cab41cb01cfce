-- What follows from a test's answer.
use Rattle.std.proofs.Common.{◌≡◌, ◌==◌, ◌&&◌, ℕ, Bool, true, false, cond, Option, Some, None, refl, arith}
use Rattle.std.proofs.lemmas.Bool.{false≢true}
use Rattle.std.proofs.lemmas.Bool.Decides.{nat_tests}
use Rattle.std.proofs.lemmas.Option.{none-some}

-- one way or the other
pub cases : {A B : Type 0} (b : Bool) (x y : Option A) (a : A) → (b ≡ true → x ≡ Some a → B) → (b ≡ false → y ≡ Some a → B)
    → cond b x y ≡ Some a → B
cases true x y a one other is = one refl is
cases false x y a one other is = other refl is

pub when : {A : Type 0} (b : Bool) (x : Option A) (a : A) → cond b x None ≡ Some a → (b ≡ true) × (x ≡ Some a)
when true x a is = (refl, is)
when false x a is = absurd (none-some a is)

pub unless : {A : Type 0} (b : Bool) (x : Option A) (a : A) → cond b None x ≡ Some a → (b ≡ false) × (x ≡ Some a)
unless true x a is = absurd (none-some a is)
unless false x a is = (refl, is)

pub both : (b c : Bool) → (b && c) ≡ true → (b ≡ true) × (c ≡ true)
both true c is = (refl, is)
both false c is = absurd (false≢true is)

pub same : (n k : ℕ) → (n == k) ≡ true → n ≡ k
same n k is = grind (arith, nat_tests, is)
