-- Answers of which none is the value of a load.
use Rattle.std.proofs.Common.{◌≡◌, ℕ, zero, suc, ◌+◌, ◌<◌, List, [], ◌∷◌, length, take, get_or, subst, arith}
use Rattle.tv_items.specs.declared.item.Verdict.{Verdict}
use Rattle.tv_spec.specs.declared.Answer.{Answer}
use Rattle.tv_spec.specs.declared.Due.{Due}
use Rattle.tv_spec.specs.Devices.{NoLoadDue}

-- one of them is
pub load_there : (ws : List Due) (i : ℕ) (none : Due) (value : ℕ) → i < length ws → (get_or ws i none).answer ≡ Answer.Value value → NoLoadDue ws → ⊥
load_there [] i none value below is free = absurd (omega (arith, below))
load_there (w ∷ ws) zero none value below is free = rw is at free.0
load_there (w ∷ ws) (suc i) none value below is free = load_there ws i none value (omega (arith, below)) is free.1

-- none of the first i is, and neither is the next
next_free : (ws : List Due) (i : ℕ) (none : Due) (verdict : Verdict) → i < length ws → NoLoadDue (take i ws) → (get_or ws i none).answer ≡ Answer.Verdict verdict → NoLoadDue (take (suc i) ws)
next_free [] i none verdict below free is = absurd (omega (arith, below))
next_free (w ∷ ws) zero none verdict below free is = (rw is tt, tt)
next_free (w ∷ ws) (suc i) none verdict below free is = (free.0, next_free ws i none verdict (omega (arith, below)) free.1 is)

pub more_free : (ws : List Due) (i : ℕ) (none : Due) (verdict : Verdict) → i < length ws → NoLoadDue (take i ws) → (get_or ws i none).answer ≡ Answer.Verdict verdict → NoLoadDue (take (i + 1) ws)
more_free ws i none verdict below free is =
    let next : suc i ≡ i + 1 = omega arith in
    subst (λ (n : ℕ). NoLoadDue (take n ws)) next (next_free ws i none verdict below free is)
