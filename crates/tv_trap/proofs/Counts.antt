-- Events counted one after another.
use Rattle.std.proofs.Common.{◌≡◌, ℕ, zero, suc, ◌+◌, ◌%◌, ◌^◌, ◌<◌, None, true, refl, sym, ap, ◌∙◌, arith}
use Rattle.std.proofs.Math.Nat.{mod-add-mod, mod-eq_of_lt}
use Rattle.tv_trap.specs.CsrState.{CsrState}
use Rattle.tv_trap.specs.Traps.{counted, counted_by, pending_interrupt}

-- the counters rise by the number of events
pub all_counted : (s : CsrState) (n : ℕ) → s.mcycle < 2 ^ 64 → s.minstret < 2 ^ 64
    → counted_by s n ≡ record s { mcycle = (s.mcycle + n) % 2 ^ 64; minstret = (s.minstret + n) % 2 ^ 64 }
all_counted s zero cycles retired =
    let e : s.mcycle ≡ (s.mcycle + 0) % 2 ^ 64 = sym (ap (λ (k : ℕ). k % 2 ^ 64) (omega arith) ∙ mod-eq_of_lt cycles) in
    let f : s.minstret ≡ (s.minstret + 0) % 2 ^ 64 = sym (ap (λ (k : ℕ). k % 2 ^ 64) (omega arith) ∙ mod-eq_of_lt retired) in
    λ i. record s { mcycle = e i; minstret = f i }
all_counted s (suc n) cycles retired =
    let e : ((s.mcycle + n) % 2 ^ 64 + 1) % 2 ^ 64 ≡ (s.mcycle + suc n) % 2 ^ 64 = mod-add-mod (s.mcycle + n) (2 ^ 64) 1 ∙ ap (λ (k : ℕ). k % 2 ^ 64) (omega arith) in
    let f : ((s.minstret + n) % 2 ^ 64 + 1) % 2 ^ 64 ≡ (s.minstret + suc n) % 2 ^ 64 = mod-add-mod (s.minstret + n) (2 ^ 64) 1 ∙ ap (λ (k : ℕ). k % 2 ^ 64) (omega arith) in
    ap (λ (t : CsrState). counted t true None) (all_counted s n cycles retired) ∙ (λ i. record s { mcycle = e i; minstret = f i })

-- what no count changes
pub record IsCountOf (s t : CsrState) : Type 0 where
  pub hart : t.hart ≡ s.hart
  pub pending : (lines : ℕ) → pending_interrupt t lines ≡ pending_interrupt s lines

pub counts : (s : CsrState) (n : ℕ) → IsCountOf s (counted_by s n)
counts s zero = record { hart = refl; pending = λ lines. refl }
counts s (suc n) = let c = counts s n in record { hart = c.hart; pending = c.pending }
