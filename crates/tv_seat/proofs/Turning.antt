-- The steps that move the turn keep the rule: to draw a ticket, to look whose turn it is, and to pass it on.
use Rattle.std.proofs.Common.{◌≡◌, ◌≢◌, ℕ, ◌+◌, ◌%◌, ◌<◌, ◌≤◌, ◌==◌, Bool, true, List, [], ◌∷◌, length, set, slice_index, slice_set, if◌then◌else◌, Option, Some, refl, sym, ap, ◌∙◌, subst, inl, inr, ⊎_elim, eq-eqb, ne_eqb, arith}
use mathlib.Core.Option.{some, none}
use mathlib.Core.Option as maybe
use mathlib.Core.Logic.{dite}
use native.Mathlib.Decide.{ℕ_discrete}
use lib.ListN.{get_elem?}
use Rattle.atomic_table.specs.Table.{State, Me, Act, Valid, Allows, stepped, step, carried_after, homes_after, rest}
use Rattle.atomic_table.specs.Table.Act.{keeps, takes, gives}
use Rattle.atomic_table.proofs.Lists.{set_here, set_again, one_turn}
use Rattle.tv_seat.specs.declared.views.Stage.{Stage}
use Rattle.tv_seat.specs.declared.views.Stage.TheVariants.{Idle, Waits, Holds}
use Rattle.tv_seat.specs.declared.views.View.{View}
use Rattle.tv_seat.specs.Rule.{tickets_of, tickets, IsInTurn, IsSeated}
use Rattle.tv_seat.specs.Steps.{Drew, Looked, Passed}
use Rattle.tv_seat.proofs.Viewing.{at_within, one_at, length_set, set_all, tickets_set, tickets-few, held_stays, made_set, fits_set}

-- the owners once the ticket t is the seat p's
abbrev owners : (ℕ → ℕ) → ℕ → ℕ → ℕ → ℕ
owners owner t p k = if k == t then p else owner k

owners-new : (owner : ℕ → ℕ) (t p : ℕ) → owners owner t p t ≡ p
owners-new owner t p = ap (λ (b : Bool). if b then p else owner t) (eq-eqb t t refl)

owners-old : (owner : ℕ → ℕ) (t p k : ℕ) → k < t → owners owner t p k ≡ owner k
owners-old owner t p k below = ap (λ (b : Bool). if b then p else owner k) (ne_eqb k t (λ same. omega arith))

module _ {T : Type 0} where
  -- the ticket of a stage
  abbrev ticket_of : Stage T → ℕ
  ticket_of Idle = 0
  ticket_of (Waits t) = t
  ticket_of (Holds t x) = t

  same_ticket : (s : Stage T) (t u : ℕ) → s ≡ Waits t → s ≡ Waits u → t ≡ u
  same_ticket s t u e f = ap ticket_of (sym e ∙ f)

  pub holds_ticket : (s : Stage T) (t u : ℕ) (x y : T) → s ≡ Holds t x → s ≡ Holds u y → t ≡ u
  holds_ticket s t u x y e f = ap ticket_of (sym e ∙ f)

  -- the value of a stage, or else y
  abbrev value_of : T → Stage T → T
  value_of y Idle = y
  value_of y (Waits t) = y
  value_of y (Holds t x) = x

  pub holds_value : (s : Stage T) (t u : ℕ) (x y : T) → s ≡ Holds t x → s ≡ Holds u y → x ≡ y
  holds_value s t u x y e f = ap (value_of x) (sym e ∙ f)

  turn_drawn : (drawn serving : ℕ) (x : T) (owner : ℕ → ℕ) (homes : List (maybe.Option (Option T))) (p q : ℕ) (s : Stage T)
      → IsInTurn drawn serving x owner homes q s → IsInTurn (drawn + 1) serving x (owners owner drawn p) homes q s
  turn_drawn drawn serving x owner homes p q Idle h = tt
  turn_drawn drawn serving x owner homes p q (Waits t) h = let b = h.1 in (h.0, omega arith, owners-old owner drawn p t h.1 ∙ h.2)
  turn_drawn drawn serving x owner homes p q (Holds t y) h = let b = h.1 in (h.0, omega arith, owners-old owner drawn p t h.1 ∙ h.2, h.3, h.4)

  -- where it's the turn of the seat p, another one waits, and does so whatever the slot and the value are
  pub turn_else : (drawn serving : ℕ) (x y : T) (owner : ℕ → ℕ) (homes homes' : List (maybe.Option (Option T))) (p q : ℕ) (s : Stage T) → q ≢ p → owner serving ≡ p
      → IsInTurn drawn serving x owner homes q s → IsInTurn drawn serving y owner homes' q s
  turn_else drawn serving x y owner homes homes' p q Idle ne own h = tt
  turn_else drawn serving x y owner homes homes' p q (Waits t) ne own h = h
  turn_else drawn serving x y owner homes homes' p q (Holds t z) ne own h = absurd (ne (sym h.2 ∙ ap owner h.0 ∙ own))

  turn_passed : (drawn serving : ℕ) (x : T) (owner : ℕ → ℕ) (homes homes' : List (maybe.Option (Option T))) (p q : ℕ) (s : Stage T) → q ≢ p → owner serving ≡ p
      → IsInTurn drawn serving x owner homes q s → IsInTurn drawn (serving + 1) x owner homes' q s
  turn_passed drawn serving x owner homes homes' p q Idle ne own h = tt
  turn_passed drawn serving x owner homes homes' p q (Waits t) ne own h =
      let later : serving ≢ t = λ same. ne (sym h.2 ∙ ap owner (sym same) ∙ own) in let a = h.0 in (omega arith, h.1, h.2)
  turn_passed drawn serving x owner homes homes' p q (Holds t z) ne own h = absurd (ne (sym h.2 ∙ ap owner h.0 ∙ own))

module _ {T E : Type 0} (history : T → List (E × ℕ)) (tally : T → ℕ → ℕ) where
  abbrev Rule : State (Option T) (View T E) → Type 0
  Rule s = IsSeated history tally s

  -- what the rule says of the stage of a seat, where that is known
  pub turn_of : (s : State (Option T) (View T E)) (r : IsSeated history tally s) (p : ℕ) (v : View T E) (st : Stage T) → get_elem? s.views p ≡ some v → v.stage ≡ st
      → IsInTurn r.drawn r.serving r.value r.owner s.homes p st
  turn_of s r p v st at is = subst (λ (z : Stage T). IsInTurn r.drawn r.serving r.value r.owner s.homes p z) is (r.turns p v at)

  pub draws : (slots id : ℕ) (m : Me (Option T) (View T E)) → m.0.live ≡ true → m.0.stage ≡ Idle
      → Allows (IsSeated history tally) slots id m 0 (λ k. (k + 1) % 18446744073709551616) (Drew (step slots 0 1 0 none) m)
  draws slots id m live idle s r len at small =
      let w : View T E = record m.0 { stage = Waits r.drawn } in
      let views' : List (View T E) = set s.views id w in
      let P : List ℕ → Type 0 = λ ws. (z : View T E) × (a : Act (Option T)) × Valid s.homes m.1 a
      × IsSeated history tally (stepped (record { words = ws; homes = s.homes; views = s.views }) 0 ((slice_index ws 0 + 1) % 18446744073709551616) id m.1 z a)
      × Drew (step slots 0 1 0 none) m (slice_index ws 0) (z, carried_after m.1 a) in
      let waiting : tickets views' + r.serving ≡ r.drawn + 1 =
      let h = tickets_set s.views id m.0 w at in let i : tickets_of m.0.stage ≡ 0 = ap (λ (z : Stage T). tickets_of z) idle in let g = r.waiting in omega arith in
      let within : r.serving ≤ r.drawn = let g = r.waiting in omega arith in
      let f = r.fits id m.0 at in
      subst P (sym r.words) (
        w,
        keeps,
        tt,
        record {
          drawn = r.drawn + 1;
          serving = r.serving;
          value = r.value;
          owner = owners r.owner r.drawn id;
          words = let e : (r.drawn % 18446744073709551616 + 1) % 18446744073709551616 ≡ (r.drawn + 1) % 18446744073709551616 = omega arith in
              ap (λ (k : ℕ). k ∷ r.serving % 18446744073709551616 ∷ length (history r.value) ∷ []) e;
          waiting = waiting;
          few = let h = length_set s.views id w in let g = r.few in omega arith;
          home = ⊎_elim (λ h. inl h)
              (λ h. inr (h.0, held_stays s.views id m.0 w r.value at (λ t is. let no : Idle ≡ Holds t r.value = sym idle ∙ is in absurd (cc)) h.1)) r.home;
          turns = set_all (λ (q : ℕ) (u : View T E). IsInTurn (r.drawn + 1) r.serving r.value (owners r.owner r.drawn id) s.homes q u.stage) s.views id w
              (within, omega arith, owners-new r.owner r.drawn id)
              (λ q u ne here. turn_drawn r.drawn r.serving r.value r.owner s.homes id q u.stage (r.turns q u here));
          fits = fits_set history tally r.value r.value s.views id m.0 w at live live (f.0 live).0 refl (f.0 live).1 (λ c _ h. h) r.fits;
          made = made_set s.views id m.0 w at refl r.made;
          unmade = λ n long. r.unmade n (let h = length_set s.views id w in omega arith);
        },
        (r.drawn, refl, refl),
      )

  -- a seat whose turn it is and that waits finds the value at home
  at_home : (s : State (Option T) (View T E)) (r : IsSeated history tally s) (id : ℕ) (v : View T E) (t : ℕ) → get_elem? s.views id ≡ some v → v.stage ≡ Waits t
      → t ≡ r.serving → s.homes ≡ some (Some r.value) ∷ []
  at_home s r id v t at waits turn =
      ⊎_elim
      (λ h. h)
      (λ h. let held = turn_of s r h.1.0 h.1.1 (Holds h.1.2 r.value) h.1.3 h.1.4 in
      let mine = turn_of s r id v (Waits t) at waits in
      let same : h.1.0 ≡ id = sym held.2 ∙ ap r.owner (held.0 ∙ sym turn) ∙ mine.2 in
      let here : get_elem? s.views id ≡ some h.1.1 = subst (λ (q : ℕ). get_elem? s.views q ≡ some h.1.1) same h.1.3 in
      let one : h.1.1 ≡ v = one_at s.views id h.1.1 v here at in
      let no : Waits t ≡ Holds h.1.2 r.value = sym waits ∙ sym (ap (λ (z : View T E). z.stage) one) ∙ h.1.4 in absurd (cc))
      r.home

  -- what a seat may do at a look
  abbrev Look : (slots id : ℕ) (m : Me (Option T) (View T E)) (s : State (Option T) (View T E)) → List ℕ → Type 0
  Look slots id m s ws = (z : View T E) × (a : Act (Option T)) × Valid s.homes m.1 a
      × IsSeated history tally (stepped (record { words = ws; homes = s.homes; views = s.views }) 1 (slice_index ws 1) id m.1 z a)
      × Looked (step slots 1 0 0 none) m (slice_index ws 1) (z, carried_after m.1 a)

  takes_turn : (slots id : ℕ) (m : Me (Option T) (View T E)) (t : ℕ) (s : State (Option T) (View T E)) (r : IsSeated history tally s) → get_elem? s.views id ≡ some m.0
      → m.0.live ≡ true → m.0.stage ≡ Waits t → m.1 ≡ [] → t ≡ r.serving
      → Look slots id m s (r.drawn % 18446744073709551616 ∷ r.serving % 18446744073709551616 ∷ length (history r.value) ∷ [])
  takes_turn slots id m t s r at live waits none_held turn =
      let w : View T E = record m.0 { stage = Holds t r.value } in
      let views' : List (View T E) = set s.views id w in
      let home = at_home s r id m.0 t at waits turn in
      let homes' : slice_set s.homes 0 none ≡ none ∷ [] = ap (λ (hs : List (maybe.Option (Option T))). slice_set hs 0 none) home in
      let mine = turn_of s r id m.0 (Waits t) at waits in
      let f = r.fits id m.0 at in (
        w,
        takes 0 (Some r.value),
        ap (λ (hs : List (maybe.Option (Option T))). get_elem? hs 0) home,
        record {
          drawn = r.drawn;
          serving = r.serving;
          value = r.value;
          owner = r.owner;
          words = refl;
          waiting = let h = tickets_set s.views id m.0 w at in let i : tickets_of m.0.stage ≡ 1 = ap (λ (z : Stage T). tickets_of z) waits in let g = r.waiting in omega arith;
          few = let h = length_set s.views id w in let g = r.few in omega arith;
          home = inr (homes', (id, w, t, set_here s.views id w (at_within s.views id m.0 at), refl));
          turns = set_all (λ (q : ℕ) (u : View T E). IsInTurn r.drawn r.serving r.value r.owner (slice_set s.homes 0 none) q u.stage) s.views id w
              (turn, mine.1, mine.2, refl, homes')
              (λ q u ne here. turn_else r.drawn r.serving r.value r.value r.owner s.homes (slice_set s.homes 0 none) id q u.stage ne (ap r.owner (sym turn) ∙ mine.2) (r.turns q u here));
          fits = fits_set history tally r.value r.value s.views id m.0 w at live live (f.0 live).0 refl (f.0 live).1 (λ c _ h. h) r.fits;
          made = made_set s.views id m.0 w at refl r.made;
          unmade = λ n long. r.unmade n (let h = length_set s.views id w in omega arith);
        },
        (λ u is. let same : t ≡ u = same_ticket m.0.stage t u waits is in (
          (λ _. (r.value, λ i. (record m.0 { stage = Holds (same i) r.value }, (0, Some r.value) ∷ none_held i))),
          (λ ne. absurd (ne (ap (λ (k : ℕ). k % 18446744073709551616) (sym turn ∙ same)))),
        )),
      )

  waits_on : (slots id : ℕ) (m : Me (Option T) (View T E)) (t : ℕ) (s : State (Option T) (View T E)) (r : IsSeated history tally s) → get_elem? s.views id ≡ some m.0
      → m.0.stage ≡ Waits t → r.serving % 18446744073709551616 ≢ t % 18446744073709551616
      → Look slots id m s (r.drawn % 18446744073709551616 ∷ r.serving % 18446744073709551616 ∷ length (history r.value) ∷ [])
  waits_on slots id m t s r at waits later = (
    m.0,
    keeps,
    tt,
    subst (λ (q : List ℕ × List (View T E)). IsSeated history tally (record { words = q.0; homes = s.homes; views = q.1 }))
        (λ i. (r.words i, sym (set_again s.views id m.0 at) i)) r,
    (λ u is. let same : t ≡ u = same_ticket m.0.stage t u waits is in (
      (λ e. absurd (later (e ∙ ap (λ (k : ℕ). k % 18446744073709551616) (sym same)))),
      (λ _. refl),
    )),
  )

  pub looks : (slots id : ℕ) (m : Me (Option T) (View T E)) (t : ℕ) → m.0.live ≡ true → m.0.stage ≡ Waits t → m.1 ≡ []
      → Allows (IsSeated history tally) slots id m 1 (λ k. k) (Looked (step slots 1 0 0 none) m)
  looks slots id m t live waits none_held s r len at small =
      let mine = turn_of s r id m.0 (Waits t) at waits in
      subst (Look slots id m s) (sym r.words)
      (dite (ℕ_discrete (r.serving % 18446744073709551616) (t % 18446744073709551616))
      (λ same. let reach : t < r.serving + 18446744073709551616 = let a = tickets-few s.views in let b = r.few in let c = r.waiting in let d = mine.1 in omega arith in
      takes_turn slots id m t s r at live waits none_held (sym (one_turn r.serving t 18446744073709551616 mine.0 reach same)))
      (λ ne. waits_on slots id m t s r at waits ne))

  pub passes : (slots id : ℕ) (m : Me (Option T) (View T E)) (t : ℕ) (x : T) → m.0.live ≡ true → m.0.stage ≡ Holds t x → m.1 ≡ (0, Some x) ∷ []
      → Allows (IsSeated history tally) slots id m 1 (λ k. (k + 1) % 18446744073709551616) (Passed (step slots 1 1 0 none) m)
  passes slots id m t x live has held s r len at small =
      let w : View T E = record m.0 { stage = Idle } in
      let views' : List (View T E) = set s.views id w in
      let mine = turn_of s r id m.0 (Holds t x) at has in
      let back : homes_after s.homes m.1 gives ≡ some (Some r.value) ∷ [] =
      ap (λ (c : List (ℕ × Option T)). homes_after s.homes c gives) held ∙ ap (λ (hs : List (maybe.Option (Option T))). slice_set hs 0 (some (Some x))) mine.4
      ∙ ap (λ (y : T). some (Some y) ∷ []) mine.3 in
      let P : List ℕ → Type 0 = λ ws. (z : View T E) × (a : Act (Option T)) × Valid s.homes m.1 a
      × IsSeated history tally (stepped (record { words = ws; homes = s.homes; views = s.views }) 1 ((slice_index ws 1 + 1) % 18446744073709551616) id m.1 z a)
      × Passed (step slots 1 1 0 none) m (slice_index ws 1) (z, carried_after m.1 a) in
      let f = r.fits id m.0 at in
      subst P (sym r.words) (
        w,
        gives,
        tt,
        record {
          drawn = r.drawn;
          serving = r.serving + 1;
          value = r.value;
          owner = r.owner;
          words = let e : (r.serving % 18446744073709551616 + 1) % 18446744073709551616 ≡ (r.serving + 1) % 18446744073709551616 = omega arith in
              ap (λ (k : ℕ). r.drawn % 18446744073709551616 ∷ k ∷ length (history r.value) ∷ []) e;
          waiting = let h = tickets_set s.views id m.0 w at in let i : tickets_of m.0.stage ≡ 1 = ap (λ (z : Stage T). tickets_of z) has in let g = r.waiting in omega arith;
          few = let h = length_set s.views id w in let g = r.few in omega arith;
          home = inl back;
          turns = set_all (λ (q : ℕ) (u : View T E). IsInTurn r.drawn (r.serving + 1) r.value r.owner (homes_after s.homes m.1 gives) q u.stage) s.views id w
              tt
              (λ q u ne here. turn_passed r.drawn r.serving r.value r.owner s.homes (homes_after s.homes m.1 gives) id q u.stage ne (ap r.owner (sym mine.0) ∙ mine.2) (r.turns q u here));
          fits = fits_set history tally r.value r.value s.views id m.0 w at live live (f.0 live).0 refl (f.0 live).1 (λ c _ h. h) r.fits;
          made = made_set s.views id m.0 w at refl r.made;
          unmade = λ n long. r.unmade n (let h = length_set s.views id w in omega arith);
        },
        (λ i. (w, rest (held i))),
      )
