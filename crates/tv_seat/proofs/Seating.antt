-- The lock opens under its rule; to split a seat and to take one in keep it; and the value is at home once all seats are
-- one again.
use Rattle.std.proofs.Common.{◌≡◌, ℕ, zero, suc, ◌+◌, ◌<◌, true, false, List, [], ◌∷◌, ◌++◌, map, length, set, slice_index_or, Option, Some, refl, sym, ap, ◌∙◌, subst, inl, inr, ⊎_elim, length-append, arith}
use mathlib.Core.Option.{some, none, some-injective, some-ne-none}
use mathlib.Core.Option as maybe
use mathlib.Core.Logic.{dite}
use native.Mathlib.Decide.{ℕ_discrete}
use lib.ListN.{get_elem?}
use Rattle.std.specs.Prelude.{Contains}
use Rattle.atomic_table.specs.Table.{State, Splits, Joins, opening, Final, Seen}
use Rattle.atomic_table.proofs.Lists.{set_here, set_else, at_longer}
use Rattle.tv_seat.specs.declared.views.Claim.{Claim}
use Rattle.tv_seat.specs.declared.views.Stage.{Stage}
use Rattle.tv_seat.specs.declared.views.Stage.TheVariants.{Idle, Holds}
use Rattle.tv_seat.specs.declared.views.View.{View}
use Rattle.tv_seat.specs.Claims.{entries_of_seat, IsClaim}
use Rattle.tv_seat.specs.Rule.{Each, tickets_of, newcomer, spent, IsSpent, IsInTurn, Fits, IsSeated}
use Rattle.tv_seat.specs.Steps.{made_one_more, one_more, took_in}
use Rattle.tv_seat.proofs.Claiming.{each_map, each_append}
use Rattle.tv_seat.proofs.Viewing.{at_within, one_at, length_set, set_all, at_end, tickets_set, tickets-append, spent_stays, held_stays, made_set, fits_set}

single_all : {A : Type 0} (P : ℕ → A → Type 0) (a : A) → P 0 a → (j : ℕ) (b : A) → get_elem? (a ∷ []) j ≡ some b → P j b
single_all P a here zero b e = subst (P 0) (some-injective a b e) here
single_all P a here (suc j) b e = absurd (some-ne-none b (sym e))

-- some one of the claims has the number, and what holds of each holds of it
each_number : {E : Type 0} (P : Claim E → Type 0) (n : ℕ) (cs : List (Claim E)) → Each P cs
    → (k : ℕ) → k < length (map (λ (c : Claim E). c.number) cs) → slice_index_or (map (λ (c : Claim E). c.number) cs) k n ≡ n → (c : Claim E) × P c × (c.number ≡ n)
each_number P n [] h k below e = absurd (omega arith)
each_number P n (c ∷ cs) h zero below e = (c, h.0, e)
each_number P n (c ∷ cs) h (suc k) below e = each_number P n cs h.1 k (omega arith) e

module _ {T E : Type 0} (history : T → List (E × ℕ)) (tally : T → ℕ → ℕ) where
  pub starts : (x : T) → history x ≡ [] → ((n : ℕ) → tally x n ≡ 0) → IsSeated history tally (opening (0 ∷ 0 ∷ 0 ∷ []) (Some x ∷ []) (newcomer 0 []))
  starts x empty zeros = record {
    drawn = 0;
    serving = 0;
    value = x;
    owner = λ _. 0;
    words = ap (λ (h : List (E × ℕ)). 0 ∷ 0 ∷ length h ∷ []) (sym empty);
    waiting = refl;
    few = omega arith;
    home = inl refl;
    turns = single_all (λ (p : ℕ) (v : View T E). IsInTurn 0 0 x (λ _. 0) (some (Some x) ∷ []) p v.stage) (newcomer 0 []) tt;
    fits = single_all (λ (p : ℕ) (v : View T E). Fits history tally x (newcomer 0 [] ∷ []) p v) (newcomer 0 [])
        ((λ _. (refl, ((history x, refl), ap (entries_of_seat 0) empty, zeros 0))), (λ _. refl), tt);
    made = λ v at. let e : 0 ≡ v.made = ap (λ (z : View T E). z.made) (some-injective (newcomer 0 []) v at) in omega arith;
    unmade = λ n _. (ap (entries_of_seat n) empty, zeros n);
  }

  pub splits : (id : ℕ) (v : View T E) → v.live ≡ true → v.own.number ≡ 0 → v.made < 65535
      → Splits (IsSeated history tally) id v (made_one_more v) (one_more v)
  splits id v live first room s r at =
      let w : View T E = made_one_more v in
      let new : View T E = one_more v in
      let mid : List (View T E) = set s.views id w in
      let views' : List (View T E) = mid ++ new ∷ [] in
      let f = r.fits id v at in
      let own = f.0 live in
      let zeroth : id ≡ 0 = sym own.0 ∙ first in
      let made : v.made + 1 ≡ length s.views = r.made v (subst (λ (q : ℕ). get_elem? s.views q ≡ some v) zeroth at) in
      let longer : length views' ≡ length s.views + 1 = let a = length_set s.views id w in let b = length-append mid (new ∷ []) in omega arith in
      let still : (n : ℕ) → IsSpent mid n → IsSpent views' n = λ n h. (h.0, at_longer mid (new ∷ []) n h.0 h.1, h.2) in
      let Mid : Claim E → Type 0 = λ c. IsClaim history tally r.value c × IsSpent mid c.number in
      let After : Claim E → Type 0 = λ c. IsClaim history tally r.value c × IsSpent views' c.number in
      let mid_fits : (j : ℕ) (u : View T E) → get_elem? mid j ≡ some u → Fits history tally r.value mid j u =
      fits_set history tally r.value r.value s.views id v w at live live own.0 refl own.1 (λ c _ h. h) r.fits in
      let mid_turns : (j : ℕ) (u : View T E) → get_elem? mid j ≡ some u → IsInTurn r.drawn r.serving r.value r.owner s.homes j u.stage =
      set_all (λ (q : ℕ) (u : View T E). IsInTurn r.drawn r.serving r.value r.owner s.homes q u.stage) s.views id w (r.turns id v at) (λ q u ne here. r.turns q u here) in
      let fresh = r.unmade (length s.views) (omega arith) in
      record {
        drawn = r.drawn;
        serving = r.serving;
        value = r.value;
        owner = r.owner;
        words = r.words;
        waiting = let a = tickets-append mid new in let b = tickets_set s.views id v w at in let g = r.waiting in omega arith;
        few = omega arith;
        home = ⊎_elim (λ h. inl h)
            (λ h. let k = held_stays s.views id v w r.value at (λ t e. e) h.1 in inr (h.0, (k.0, k.1, k.2, at_longer mid (new ∷ []) k.0 k.1 k.3, k.4))) r.home;
        turns = λ j u here. ⊎_elim
            (λ old. mid_turns j u old)
            (λ t. subst (λ (z : View T E). IsInTurn r.drawn r.serving r.value r.owner s.homes j z.stage) t.1 tt)
            (at_end mid new u j here);
        fits = λ j u here. ⊎_elim
            (λ old. let g = mid_fits j u old in (g.0, g.1, each_map Mid After (λ c h. (h.0, still c.number h.1)) u.others g.2))
            (λ t. let there : length mid ≡ v.made + 1 = length_set s.views id w ∙ sym made in
            let n : length s.views ≡ v.made + 1 = sym made in
            subst (λ (q : ℕ × View T E). Fits history tally r.value views' q.0 q.1) (λ i. (sym t.0 i, t.1 i)) (
              (λ _. (sym there, (own.1.0, subst (λ (k : ℕ). entries_of_seat k (history r.value) ≡ []) n fresh.0, subst (λ (k : ℕ). tally r.value k ≡ 0) n fresh.1))),
              (λ _. refl),
              tt,
            ))
            (at_end mid new u j here);
        made = λ u here. ⊎_elim
            (λ old. let put : get_elem? mid 0 ≡ some w = subst (λ (q : ℕ). get_elem? mid q ≡ some w) zeroth (set_here s.views id w (at_within s.views id v at)) in
            let one : v.made + 1 ≡ u.made = ap (λ (z : View T E). z.made) (one_at mid 0 w u put old) in omega arith)
            (λ t. let a = length_set s.views id w in let b = t.0 in absurd (omega arith))
            (at_end mid new u 0 here);
        unmade = λ n long. r.unmade n (omega arith);
      }

  pub joins : (id other : ℕ) (v w : View T E) → v.live ≡ true → v.own.number ≡ 0 → w.live ≡ true → w.stage ≡ Idle
      → Joins (IsSeated history tally) id v other w (took_in v w) spent
  joins id other v w live first live' idle s r at apart at' =
      let both : View T E = took_in v w in
      let mid : List (View T E) = set s.views id both in
      let views' : List (View T E) = set mid other spent in
      let there : get_elem? s.views other ≡ some w = sym (set_else s.views id other both apart) ∙ at' in
      let own = (r.fits id v at).0 live in
      let theirs = (r.fits other w there).0 live' in
      let gone : IsSpent views' other = (spent, set_here mid other spent (at_within mid other w at'), refl) in
      let still : (n : ℕ) → IsSpent s.views n → IsSpent views' n = λ n h.
      let a = spent_stays s.views id v both at live n h in
      dite (ℕ_discrete n other) (λ same. subst (λ (k : ℕ). IsSpent views' k) (sym same) gone) (λ ne. (a.1.0, set_else mid other n spent ne ∙ a.1.1, a.1.2)) in
      let Before : Claim E → Type 0 = λ c. IsClaim history tally r.value c × IsSpent s.views c.number in
      let After : Claim E → Type 0 = λ c. IsClaim history tally r.value c × IsSpent views' c.number in
      let carry : (c : Claim E) → Before c → After c = λ c h. (h.0, still c.number h.1) in
      let zeroth : id ≡ 0 = sym own.0 ∙ first in
      record {
        drawn = r.drawn;
        serving = r.serving;
        value = r.value;
        owner = r.owner;
        words = r.words;
        waiting = let a = tickets_set s.views id v both at in let b = tickets_set mid other w spent at' in
            let i : tickets_of w.stage ≡ 0 = ap (λ (z : Stage T). tickets_of z) idle in let g = r.waiting in omega arith;
        few = let a = length_set s.views id both in let b = length_set mid other spent in let g = r.few in omega arith;
        home = ⊎_elim (λ h. inl h)
            (λ h. inr (
              h.0,
              held_stays mid other w spent r.value at' (λ t e. let no : Idle ≡ Holds t r.value = sym idle ∙ e in absurd (cc))
                  (held_stays s.views id v both r.value at (λ t e. e) h.1),
            )) r.home;
        turns = set_all (λ (q : ℕ) (u : View T E). IsInTurn r.drawn r.serving r.value r.owner s.homes q u.stage) mid other spent tt
            (λ q u ne here. set_all (λ (q : ℕ) (u : View T E). IsInTurn r.drawn r.serving r.value r.owner s.homes q u.stage) s.views id both (r.turns id v at)
            (λ q u ne here. r.turns q u here) q u here);
        fits = set_all (λ (q : ℕ) (u : View T E). Fits history tally r.value views' q u) mid other spent
            ((λ alive. let no : false ≡ true = alive in absurd (cc)), (λ _. refl), tt)
            (λ q u ne here. set_all (λ (q : ℕ) (u : View T E). Fits history tally r.value views' q u) s.views id both (
              (λ _. own),
              (λ dead. let no : true ≡ false = sym live ∙ dead in absurd (cc)),
              each_append After v.others (w.own ∷ []) (each_map Before After carry v.others (r.fits id v at).2)
                  ((theirs.1, subst (λ (k : ℕ). IsSpent views' k) (sym theirs.0) gone), tt),
            )
            (λ q u ne here. let f = r.fits q u here in (f.0, f.1, each_map Before After carry u.others f.2)) q u here);
        made = λ u here.
            let kept : get_elem? mid 0 ≡ some u = sym (set_else mid other 0 spent (λ same. apart (sym same ∙ sym zeroth))) ∙ here in
            let m = made_set s.views id v both at refl r.made u kept in let b = length_set mid other spent in omega arith;
        unmade = λ n long. r.unmade n (let a = length_set s.views id both in let b = length_set mid other spent in omega arith);
      }

  -- once every other seat was taken in, nobody holds the value
  nobody_holds : (s : State (Option T) (View T E)) (r : IsSeated history tally s) (v : View T E) → get_elem? s.views 0 ≡ some v → v.stage ≡ Idle
      → ((k : ℕ) → k < v.made → Contains (map (λ (c : Claim E). c.number) v.others) (k + 1))
      → (p : ℕ) (u : View T E) (t : ℕ) → get_elem? s.views p ≡ some u → u.stage ≡ Holds t r.value → ⊥
  nobody_holds s r v at idle all zero u t here holds =
      let one : v ≡ u = one_at s.views 0 v u at here in
      let no : Idle ≡ Holds t r.value = sym idle ∙ ap (λ (z : View T E). z.stage) one ∙ holds in cc
  nobody_holds s r v at idle all (suc k) u t here holds =
      let m = r.made v at in
      let within = at_within s.views (suc k) u here in
      let has = all k (omega arith) in
      let c = each_number (λ c. IsClaim history tally r.value c × IsSpent s.views c.number) (k + 1) v.others (r.fits 0 v at).2 has.0 has.1 has.2 in
      let number : c.0.number ≡ suc k = let e = c.2 in omega arith in
      let gone : IsSpent s.views (suc k) = subst (λ (n : ℕ). IsSpent s.views n) number c.1.1 in
      let one : gone.0 ≡ u = one_at s.views (suc k) gone.0 u gone.1 here in
      let dead : u.live ≡ false = sym (ap (λ (z : View T E). z.live) one) ∙ gone.2 in
      let no : Idle ≡ Holds t r.value = sym ((r.fits (suc k) u here).1 dead) ∙ holds in cc

  pub ends : (id : ℕ) (v : View T E) (ws : List ℕ) (xs : List (Option T)) (o : Option T) → v.live ≡ true → v.own.number ≡ 0 → v.stage ≡ Idle
      → ((k : ℕ) → k < v.made → Contains (map (λ (c : Claim E). c.number) v.others) (k + 1))
      → Final (Seen (IsSeated history tally) id v) ws xs → get_elem? xs 0 ≡ some o
      → (x : T) × (o ≡ Some x) × IsClaim history tally x v.own × Each (IsClaim history tally x) v.others
  ends id v ws xs o live first idle all final found =
      let s = final.0 in
      let r = final.1.0 in
      let at = final.1.1 in
      let f = r.fits id v at in
      let zeroth : id ≡ 0 = sym (f.0 live).0 ∙ first in
      let at' : get_elem? s.views 0 ≡ some v = subst (λ (q : ℕ). get_elem? s.views q ≡ some v) zeroth at in
      let home : s.homes ≡ some (Some r.value) ∷ [] =
      ⊎_elim (λ h. h) (λ h. absurd (nobody_holds s r v at' idle all h.1.0 h.1.1 h.1.2 h.1.3 h.1.4)) r.home in
      let there : get_elem? xs 0 ≡ some (Some r.value) = final.4 0 (Some r.value) (ap (λ (hs : List (maybe.Option (Option T))). get_elem? hs 0) home) in
      let Both : Claim E → Type 0 = λ c. IsClaim history tally r.value c × IsSpent s.views c.number in
      (r.value, one_at xs 0 o (Some r.value) found there, (f.0 live).1, each_map Both (IsClaim history tally r.value) (λ c h. h.0) v.others f.2)
