-- The parts of the schedule one after another.
use Rattle.std.proofs.Common.{◌≡◌, ℕ, suc, Some, None, refl}
use Rattle.tv_spec.specs.Setup.{Setup}
use Rattle.tv_spec.specs.Solo.{Bounds, Solo, Going, onward, turn, turns}
use Rattle.tv_runner.specs.Parts.{Part, turn_of}

pub onward-twice : (whole first second : Solo → Going) (g : Going) → ((solo : Solo) → whole solo ≡ onward second (first solo)) → onward whole g ≡ onward second (onward first g)
onward-twice whole first second (solo, None) is = is solo
onward-twice whole first second (solo, Some stopped) is = refl

pub onward-round : (g : Going) → onward (λ solo. (solo, None)) g ≡ g
onward-round (solo, None) = refl
onward-round (solo, Some stopped) = refl

pub onward-same : (one two : Solo → Going) (g : Going) → ((solo : Solo) → one solo ≡ two solo) → onward one g ≡ onward two g
onward-same one two (solo, None) same = same solo
onward-same one two (solo, Some stopped) same = refl

-- the rest is a part and what comes next
abbrev pub Splits : Part → Part → Part → Type 0
Splits rest next part =
    (setup : Setup) (bounds : Bounds) (solo : Solo) → ◌≡◌ {A = Going} (rest setup bounds solo) (onward (next setup bounds) (part setup bounds solo))

-- a turn with no event left
pub turn-over : (hart left : ℕ) (setup : Setup) (bounds : Bounds) (solo : Solo) → left ≡ 0 → ◌≡◌ {A = Going} (turn_of hart left setup bounds solo) (solo, None)
unfolding turn
turn-over hart left setup bounds solo over = rw over refl

-- the turns of so many harts from one on
abbrev pub turns_from : ℕ → ℕ → Setup → Bounds → Solo → Going
turns_from hart left setup bounds solo = turns setup bounds hart left solo

-- turns with one left
pub turns-split : (number next hart left after : ℕ) (setup : Setup) (bounds : Bounds) (solo : Solo) → left ≡ suc after → hart ≡ number → next ≡ suc number
    → ◌≡◌ {A = Going} (turns_from number left setup bounds solo) (onward (turns_from next after setup bounds) (turn_of hart 64 setup bounds solo))
unfolding turns
turns-split number next hart left after setup bounds solo left_is hart_is next_is = rw (left_is, hart_is, next_is) refl

pub turns-over : (hart left : ℕ) (setup : Setup) (bounds : Bounds) (solo : Solo) → left ≡ 0 → ◌≡◌ {A = Going} (turns_from hart left setup bounds solo) (solo, None)
unfolding turns
turns-over hart left setup bounds solo over = rw over refl

-- two parts one after another
abbrev pub both : Part → Part → Setup → Bounds → Solo → Going
both first second setup bounds solo = onward (second setup bounds) (first setup bounds solo)
