-- What contracts see of a seat.
use Rattle.std.specs.Prelude.{◌≡◌, ℕ, ◌+◌, ◌<◌, true, List, [], ◌∷◌, length, map, Option, Some, None, Contains}
use Rattle.atomic_table.specs.Table.{Me}
use Rattle.atomic_table.specs.Seated.{TableId}
use Rattle.tv_seat.specs.declared.views.Claim.{Claim}
use Rattle.tv_seat.specs.declared.views.Stage.{Stage}
use Rattle.tv_seat.specs.declared.views.Stage.TheVariants.{Idle, Waits, Holds}
use Rattle.tv_seat.specs.declared.views.View.{View}
use Rattle.tv_seat.specs.Claims.{claim_of, Grew}

-- the lock that the seat is of, how many seats were split from it, what it may say, and the value on which it entered, if
-- it has not left
pub record SeatState (T E : Type 0) : Type 0 where
  pub lock : TableId
  pub made : ℕ
  pub own : Claim E
  pub inside : Option T

-- a table of three words and one slot
abbrev pub IsBoard : TableId → Type 0
IsBoard table = (table.words ≡ 3) × (table.slots ≡ 1)

-- the value that a seat holds
abbrev pub inside_of : {T : Type 0} → Stage T → Option T
inside_of Idle = None
inside_of (Waits t) = None
inside_of (Holds t x) = Some x

module _ {T E : Type 0} where
  abbrev pub seat_state : TableId → Me (Option T) (View T E) → SeatState T E
  seat_state lock me = record { lock = lock; made = me.0.made; own = me.0.own; inside = inside_of me.0.stage }

  -- a seat of this number, which saw this much and did nothing yet
  abbrev pub new_seat : TableId → ℕ → List (E × ℕ) → SeatState T E
  new_seat lock number seen = record { lock = lock; made = 0; own = record { number = number; seen = seen; mine = []; tally = 0 }; inside = None }

  -- these are all seats that were made, the first one first
  abbrev pub IsEverySeat : List (SeatState T E) → Type 0
  IsEverySeat [] = ⊥
  IsEverySeat (first ∷ others) =
      (first.own.number ≡ 0) × ((k : ℕ) → k < first.made → Contains (map (λ (s : SeatState T E). s.own.number) others) (k + 1))

module _ {T E : Type 0} (history : T → List (E × ℕ)) where
  -- the slot is empty while its value is in the seat's guard, and the count is of the value on which the seat entered
  abbrev pub Stands : ℕ → Stage T → List (ℕ × Option T) → Type 0
  Stands count Idle slots = slots ≡ []
  Stands count (Waits t) slots = ⊥
  Stands count (Holds t x) slots = (slots ≡ (0, None) ∷ []) × (count ≡ length (history x))

  -- the numbers of a seat are those that its view has, and it has no ticket that waits
  pub record IsSeat (number made count : ℕ) (me : Me (Option T) (View T E)) : Type 0 where
    pub live : me.0.live ≡ true
    pub numbered : number ≡ me.0.own.number
    pub made_so_many : made ≡ me.0.made
    pub stands : Stands count me.0.stage me.1

  -- the seat entered and found this value
  abbrev pub entered : T → SeatState T E → SeatState T E
  entered value seat = record seat { own = record seat.own { seen = history value }; inside = Some value }

module _ {T E : Type 0} (history : T → List (E × ℕ)) (tally : T → ℕ → ℕ) where
  -- the value is the one on which the seat entered, with entries of that seat behind it
  abbrev pub MayLeave : SeatState T E → T → Type 0
  MayLeave seat value = (x : T) × (seat.inside ≡ Some x) × Grew history tally seat.own.number x value

  -- the seat left, and put this value back
  abbrev pub left : T → SeatState T E → SeatState T E
  left value seat = record seat { own = claim_of history tally seat.own.number value; inside = None }
