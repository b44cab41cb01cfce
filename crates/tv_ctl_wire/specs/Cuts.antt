-- What a cut of bytes tells of the frame at their front.
use Rattle.std.specs.Prelude.{◌≡◌, ℕ, ◌<◌, ◌≤◌, List, ◌++◌, length, take}
use Rattle.tv_ctl_wire.specs.declared.Cut.{Cut}
use Rattle.tv_ctl_wire.specs.declared.Cut.TheVariants as cut

-- bytes that begin a frame and are none yet: so many follow
pub record Begins (A : Type 0) (spells : List ℕ → A → Type 0) (bytes : List ℕ) : Type 0 where
  pub value : A
  pub rest : List ℕ
  pub some : 0 < length rest
  pub spelt : spells (bytes ++ rest) value

-- no frame begins with these bytes, and they begin with none
pub record IsApart (A : Type 0) (spells : List ℕ → A → Type 0) (bytes : List ℕ) : Type 0 where
  pub begun : (frame rest : List ℕ) (value : A) → spells frame value → bytes ≡ frame ++ rest → ⊥
  pub begins : (frame rest : List ℕ) (value : A) → spells frame value → frame ≡ bytes ++ rest → ⊥

pub record IsFront (A : Type 0) (spells : List ℕ → A → Type 0) (bytes : List ℕ) (value : A) (size : ℕ) : Type 0 where
  pub within : size ≤ length bytes
  pub spelt : spells (take size bytes) value

abbrev pub CutSo : (A : Type 0) → (List ℕ → A → Type 0) → List ℕ → Cut A → Type 0
CutSo A spells bytes (cut.Whole value size) = IsFront A spells bytes value size
CutSo A spells bytes cut.Bad = IsApart A spells bytes
CutSo A spells bytes cut.More = Begins A spells bytes
