-- What is said of the seats that are handed back is said of the claims that the first one took in.
use Rattle.std.proofs.Common.{◌≡◌, ℕ, zero, suc, ◌+◌, ◌<◌, true, List, [], ◌∷◌, ◌++◌, map, length, drop, get_or, Option, Some, None, refl, sym, ap, ◌∙◌, subst, arith}
use Rattle.std.specs.Prelude.{All, Contains}
use mathlib.Core.Option.{some}
use lib.ListN.{get_elem?}
use Rattle.atomic_table.specs.Table.{Final, Seen}
use Rattle.tv_seat.specs.declared.views.Claim.{Claim}
use Rattle.tv_seat.specs.declared.views.Stage.{Stage}
use Rattle.tv_seat.specs.declared.views.Stage.TheVariants.{Idle, Waits, Holds}
use Rattle.tv_seat.specs.declared.views.View.{View}
use Rattle.tv_seat.specs.Claims.{IsClaim}
use Rattle.tv_seat.specs.Rule.{Each, IsSeated}
use Rattle.tv_seat.specs.Seats.{SeatState, IsEverySeat, Stands, inside_of}
use Rattle.tv_seat.proofs.Seating.{ends}

module _ {A : Type 0} where
  pub each_of_all : (P : A → Type 0) (xs : List A) → All P xs → Each P xs
  each_of_all P [] h = tt
  each_of_all P (x ∷ xs) h = (h 0 x (omega arith), each_of_all P xs (λ k d below. h (suc k) d (omega arith)))

  pub all_of_each : (P : A → Type 0) (xs : List A) → Each P xs → All P xs
  all_of_each P [] h k d below = absurd (omega arith)
  all_of_each P (x ∷ xs) h zero d below = h.0
  all_of_each P (x ∷ xs) h (suc k) d below = all_of_each P xs h.1 k d (omega arith)

  each_behind : (P : A → Type 0) (xs ys : List A) → Each P (xs ++ ys) → Each P ys
  each_behind P [] ys h = h
  each_behind P (x ∷ xs) ys h = each_behind P xs ys h.1

  -- what holds of all holds of the one between two parts
  pub all_between : (P : A → Type 0) (all xs ys zs : List A) (a : A) → All P all → all ≡ xs ++ ys → ys ≡ a ∷ zs → P a
  all_between P all xs ys zs a h e f =
      (each_behind P xs (a ∷ zs) (subst (λ (l : List A). Each P l) (e ∙ ap (λ (l : List A). xs ++ l) f) (each_of_all P all h))).0

  -- a list with its first element taken off
  pub removed : (xs ys : List A) (a : A) → 0 < length xs → a ≡ get_or xs 0 a → ys ≡ drop 1 xs → xs ≡ a ∷ ys
  removed [] ys a long e f = absurd (omega arith)
  removed (x ∷ xs) ys a long e f = λ i. sym e i ∷ sym f i

module _ {T E : Type 0} where
  pub some_seat : (seats : List (SeatState T E)) → IsEverySeat seats → 0 < length seats
  some_seat [] h = absurd h
  some_seat (s ∷ ss) h = omega arith

  own_numbers : (seats : List (SeatState T E)) → map (λ (c : Claim E). c.number) (map (λ (s : SeatState T E). s.own) seats) ≡ map (λ (s : SeatState T E). s.own.number) seats
  own_numbers [] = refl
  own_numbers (s ∷ ss) = ap (λ (ns : List ℕ). s.own.number ∷ ns) (own_numbers ss)

  -- a number of the seats is one of the claims, once those of the seats stand behind others
  pub numbers_behind : (cs : List (Claim E)) (seats : List (SeatState T E)) (n : ℕ) → Contains (map (λ (s : SeatState T E). s.own.number) seats) n
      → Contains (map (λ (c : Claim E). c.number) (cs ++ map (λ (s : SeatState T E). s.own) seats)) n
  numbers_behind [] seats n h = subst (λ (ns : List ℕ). Contains ns n) (sym (own_numbers seats)) h
  numbers_behind (c ∷ cs) seats n h = let r = numbers_behind cs seats n h in let below = r.1 in (suc r.0, omega arith, r.2)

  each_own : (P : Claim E → Type 0) (seats : List (SeatState T E)) → Each P (map (λ (s : SeatState T E). s.own) seats) → Each (λ (s : SeatState T E). P s.own) seats
  each_own P [] h = tt
  each_own P (s ∷ ss) h = (h.0, each_own P ss h.1)

  pub all_claimed : (P : Claim E → Type 0) (all : List (SeatState T E)) (first : SeatState T E) (others : List (SeatState T E)) (cs : List (Claim E)) → all ≡ first ∷ others
      → P first.own → Each P (cs ++ map (λ (s : SeatState T E). s.own) others) → All (λ (s : SeatState T E). P s.own) all
  all_claimed P all first others cs e h hs =
      subst (λ (l : List (SeatState T E)). All (λ (s : SeatState T E). P s.own) l) (sym e)
      (all_of_each (λ (s : SeatState T E). P s.own) (first ∷ others) (h, each_own P others (each_behind P cs (map (λ (s : SeatState T E). s.own) others) hs)))

  -- a seat that hasn't entered is idle, and holds nothing
  pub stands_out : (history : T → List (E × ℕ)) (count : ℕ) (st : Stage T) (slots : List (ℕ × Option T)) → Stands history count st slots → inside_of st ≡ None
      → (st ≡ Idle) × (slots ≡ [])
  stands_out history count Idle slots h out = (refl, h)
  stands_out history count (Waits t) slots h out = absurd h
  stands_out history count (Holds t x) slots h out = absurd (cc)

module _ {T E : Type 0} (history : T → List (E × ℕ)) (tally : T → ℕ → ℕ) where
  -- the value that comes out, and what the first seat and those that it took in may say of it
  pub closes : (id : ℕ) (v : View T E) (ws : List ℕ) (xs : List (Option T)) (o : Option T) (y : T) → v.live ≡ true → v.own.number ≡ 0 → v.stage ≡ Idle
      → ((k : ℕ) → k < v.made → Contains (map (λ (c : Claim E). c.number) v.others) (k + 1))
      → Final (Seen (IsSeated history tally) id v) ws xs → get_elem? xs 0 ≡ some o → o ≡ Some y
      → IsClaim history tally y v.own × Each (IsClaim history tally y) v.others
  closes id v ws xs o y live first idle all final found is =
      let last = ends history tally id v ws xs o live first idle all final found in
      let e : Some last.0 ≡ Some y = sym last.1 ∙ is in
      let same : last.0 ≡ y = cc in
      subst (λ (z : T). IsClaim history tally z v.own × Each (IsClaim history tally z) v.others) same (last.2, last.3)
