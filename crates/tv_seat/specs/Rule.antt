-- The rule of the lock: what holds between any two steps. The table has three words, which are the next ticket, the
-- ticket whose turn it is, and the number of entries in the history; and one slot, which has the locked value.
use Rattle.std.specs.Prelude.{◌≡◌, ℕ, ◌+◌, ◌%◌, ◌<◌, ◌≤◌, true, false, ◌⊎◌, List, [], ◌∷◌, length, Option, Some}
use mathlib.Core.Option.{some, none}
use mathlib.Core.Option as maybe
use lib.ListN.{get_elem?}
use Rattle.atomic_table.specs.Table.{State}
use Rattle.tv_seat.specs.declared.views.Claim.{Claim}
use Rattle.tv_seat.specs.declared.views.Stage.{Stage}
use Rattle.tv_seat.specs.declared.views.Stage.TheVariants.{Idle, Waits, Holds}
use Rattle.tv_seat.specs.declared.views.View.{View}
use Rattle.tv_seat.specs.Claims.{IsClaim, entries_of_seat}

-- the fact holds of each
abbrev pub Each : {A : Type 0} → (A → Type 0) → List A → Type 0
Each P [] = Unit {0}
Each P (x ∷ xs) = P x × Each P xs

-- how many tickets a seat has
abbrev pub tickets_of : {T : Type 0} → Stage T → ℕ
tickets_of Idle = 0
tickets_of (Waits t) = 1
tickets_of (Holds t x) = 1

module _ {T E : Type 0} where
  -- a seat with this number that saw this much, and did nothing yet
  abbrev pub newcomer : ℕ → List (E × ℕ) → View T E
  newcomer n seen = record { live = true; made = 0; stage = Idle; own = record { number = n; seen = seen; mine = []; tally = 0 }; others = [] }

  -- a seat that another one took in
  abbrev pub spent : View T E
  spent = record { live = false; made = 0; stage = Idle; own = record { number = 0; seen = []; mine = []; tally = 0 }; others = [] }

  -- how many tickets all seats have
  abbrev pub tickets : List (View T E) → ℕ
  tickets [] = 0
  tickets (v ∷ vs) = tickets_of v.stage + tickets vs

  -- the seat n was taken in
  abbrev pub IsSpent : List (View T E) → ℕ → Type 0
  IsSpent views n = (v : View T E) × (get_elem? views n ≡ some v) × (v.live ≡ false)

  -- some seat holds the value x
  abbrev pub IsHeld : List (View T E) → T → Type 0
  IsHeld views x = (p : ℕ) × (v : View T E) × (t : ℕ) × (get_elem? views p ≡ some v) × (v.stage ≡ Holds t x)

-- The seat p stands thus. Its ticket was drawn, its turn has not passed, and no other seat has it. Only the seat whose
-- turn it is may hold the value, which then isn't at home
abbrev pub IsInTurn : {T : Type 0} → ℕ → ℕ → T → (ℕ → ℕ) → List (maybe.Option (Option T)) → ℕ → Stage T → Type 0
IsInTurn drawn serving value owner homes p Idle = Unit {0}
IsInTurn drawn serving value owner homes p (Waits t) = (serving ≤ t) × (t < drawn) × (owner t ≡ p)
IsInTurn drawn serving value owner homes p (Holds t x) = (t ≡ serving) × (t < drawn) × (owner t ≡ p) × (x ≡ value) × (homes ≡ none ∷ [])

module _ {T E : Type 0} (history : T → List (E × ℕ)) (tally : T → ℕ → ℕ) where
  -- The seat p has its place for its number and says what is so, unless it was taken in; it was then idle. What it says
  -- of the seats that it took in is so too
  abbrev pub Fits : T → List (View T E) → ℕ → View T E → Type 0
  Fits value views p v =
      (v.live ≡ true → (v.own.number ≡ p) × IsClaim history tally value v.own)
      × (v.live ≡ false → v.stage ≡ Idle)
      × Each (λ (c : Claim E). IsClaim history tally value c × IsSpent views c.number) v.others

  -- Tickets count on without an end here; the words have them modulo 2^64. The value is the one that the count of
  -- entries stands for, which lies in the slot or is out with the seat whose turn it is
  pub record IsSeated (s : State (Option T) (View T E)) : Type 0 where
    pub drawn : ℕ
    pub serving : ℕ
    pub value : T
    pub owner : ℕ → ℕ
    pub words : s.words ≡ drawn % 18446744073709551616 ∷ serving % 18446744073709551616 ∷ length (history value) ∷ []
    pub waiting : tickets s.views + serving ≡ drawn
    pub few : length s.views ≤ 65536
    pub home : (s.homes ≡ some (Some value) ∷ []) ⊎ ((s.homes ≡ none ∷ []) × IsHeld s.views value)
    pub turns : (p : ℕ) (v : View T E) → get_elem? s.views p ≡ some v → IsInTurn drawn serving value owner s.homes p v.stage
    pub fits : (p : ℕ) (v : View T E) → get_elem? s.views p ≡ some v → Fits value s.views p v
    pub made : (v : View T E) → get_elem? s.views 0 ≡ some v → v.made + 1 ≡ length s.views
    pub unmade : (n : ℕ) → length s.views ≤ n → (entries_of_seat n (history value) ≡ []) × (tally value n ≡ 0)
