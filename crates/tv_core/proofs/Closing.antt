-- What is closed for a burst, device by device.
use Rattle.std.proofs.Common.{◌≡◌, ◌||◌, ℕ, ◌+◌, ◌<◌, ◌≤◌, inl, inr, Bool, false, not, List, length, get_or, set, ap, ◌∙◌, arith, length-set}
use Rattle.std.specs.Prelude.{nat_le}
use Rattle.std.proofs.lemmas.Bool.Decides.{eqb_tells}
use Rattle.std.proofs.lemmas.List.{get_or-set_same, get_or-set_other, get_or_default}
use Rattle.tv_base.specs.declared.limits.TheConstants.{DEBUG_RING_BYTES}
use Rattle.tv_side.specs.Sides.{SideState}
use Rattle.tv_spec.specs.declared.Closed.{Closed}
use Rattle.tv_spec.specs.Reach.{is_closed}
use Rattle.tv_core.specs.Bursts.{AreGates, is_full}

-- the same of the first devices
pub record AreGatesBelow (bytes : List ℕ) (sides : List SideState) (room : Bool) (closed : Closed) (n : ℕ) : Type 0 where
  pub debug : closed.debug ≡ nat_le DEBUG_RING_BYTES (length bytes)
  pub all_stores : length closed.stores ≡ 8
  pub all_loads : length closed.loads ≡ 8
  pub stores : (d : ℕ) (none : SideState) → d < n → is_closed closed.stores d ≡ is_full (get_or sides d none)
  pub loads : (d : ℕ) (none : SideState) → d < n → is_closed closed.loads d ≡ (is_full (get_or sides d none) || not room)

pub gates_none : (bytes : List ℕ) (sides : List SideState) (room : Bool) (closed : Closed) (count : ℕ) → count ≡ length bytes → closed.debug ≡ nat_le DEBUG_RING_BYTES count
    → length closed.stores ≡ 8 → length closed.loads ≡ 8 → AreGatesBelow bytes sides room closed 0
gates_none bytes sides room closed count count_is debug stores loads = record {
  debug = debug ∙ ap (λ (n : ℕ). nat_le DEBUG_RING_BYTES n) count_is;
  all_stores = stores;
  all_loads = loads;
  stores = λ d none less. absurd (omega (arith, less));
  loads = λ d none less. absurd (omega (arith, less));
}

set_below : (gates : List Bool) (slot : ℕ) (gate : Bool) (n : ℕ) (says : ℕ → Bool) → length gates ≡ 8 → slot < 8 → gate ≡ says slot
    → ((d : ℕ) → d < slot → is_closed gates d ≡ says d) → (d : ℕ) → d < slot + 1 → is_closed (set gates slot gate) d ≡ says d
set_below gates slot gate n says all within here old d less = elim (eqb_tells d slot) [
  | inl e ↦ rw (e.1, get_or-set_same gates slot gate false (rw all within)) here
  | inr e ↦ rw (get_or-set_other gates slot d gate false e.1) (old d (let apart = e.1 in omega (arith, less, apart)))
]

pub gates_more : (bytes : List ℕ) (sides : List SideState) (room : Bool) (closed : Closed) (slot : ℕ) (full shut : Bool) (element : SideState)
    → AreGatesBelow bytes sides room closed slot → slot < length sides → length sides ≤ 8 → element ≡ get_or sides slot element → full ≡ is_full element → shut ≡ (full || not room)
    → AreGatesBelow bytes sides room (record { debug = closed.debug; loads = set closed.loads slot shut; stores = set closed.stores slot full }) (slot + 1)
gates_more bytes sides room closed slot full shut element G within few here full_is shut_is =
    let small : slot < 8 = omega (arith, within, few) in
    record {
      debug = G.debug;
      all_stores = rw length-set G.all_stores;
      all_loads = rw length-set G.all_loads;
      stores = λ d none less. set_below closed.stores slot full slot (λ k. is_full (get_or sides k none)) G.all_stores small (at none) (λ k before. G.stores k none before) d less;
      loads = λ d none less. set_below closed.loads slot shut slot (λ k. is_full (get_or sides k none) || not room) G.all_loads small
          (shut_is ∙ ap (λ (b : Bool). b || not room) (at none)) (λ k before. G.loads k none before) d less;
    }
  where
    at : (none : SideState) → full ≡ is_full (get_or sides slot none)
    at none = full_is ∙ ap (λ (side : SideState). is_full side) (here ∙ get_or_default sides slot element none within)

pub gates_all : (bytes : List ℕ) (sides : List SideState) (room : Bool) (closed : Closed) (n : ℕ) → AreGatesBelow bytes sides room closed n → length sides ≤ n
    → AreGates bytes sides room closed
gates_all bytes sides room closed n G all = record {
  debug = G.debug;
  stores = λ d none less. G.stores d none (omega (arith, less, all));
  loads = λ d none less. G.loads d none (omega (arith, less, all));
}
