-- What harts wait for.
use Rattle.std.proofs.Common.{◌≡◌, ◌<◌, ℕ, inl, inr, length, Option, Some, None, sym, subst}
use Rattle.std.specs.Prelude.{slice_index_or}
use Rattle.tv_hart.specs.Hart.{first_hart}
use Rattle.tv_hart.specs.HartState.{HartState}
use Rattle.tv_spec.specs.declared.Pending.{Pending}
use Rattle.tv_spec.specs.State.{DeviceRun}
use Rattle.tv_core.specs.Holds.{Holds, Parts, seen}
use Rattle.tv_core.specs.Seen.{state_of}
use Rattle.tv_core.specs.Stands.{HartStands, IsUnderWay}

under_way : (kept now : HartState) (load : Option Pending) (devs : ℕ → DeviceRun) → HartStands kept now load devs → IsUnderWay devs load
under_way kept now None devs stands = tt
under_way kept now (Some p) devs stands = elim stands.1 [ inl e ↦ inl e.0 | inr e ↦ inr (e.0, e.1.has) ]

-- each load that did not land is under way
pub loads_under_way : (p : Parts) → Holds p → (hart : ℕ) → hart < p.machine.harts → IsUnderWay (state_of (seen p)).devs ((state_of (seen p)).pending hart)
loads_under_way p H hart exists =
    let below : hart < length p.guest.harts = subst (λ (n : ℕ). hart < n) (sym H.harts) exists in
    under_way (slice_index_or p.guest.harts hart (first_hart 0)) ((state_of (seen p)).harts hart) ((state_of (seen p)).pending hart) (state_of (seen p)).devs
    (H.stands.each_hart hart (first_hart 0) below)
