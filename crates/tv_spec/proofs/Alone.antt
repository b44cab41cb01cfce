-- A machine without devices: each event of a hart is over at once, and none shows an access. So it makes only the moves of harts and
-- time, no hart ever waits, and nothing is owed.
use Rattle.std.proofs.Common.{◌≡◌, ℕ, length, false, Option, Some, None, refl, arith}
use Rattle.tv_base.specs.declared.Width.{Width}
use Rattle.tv_base.specs.Width.{width_bytes}
use Rattle.tv_bus.specs.declared.Target.{Target}
use Rattle.tv_bus.specs.declared.Target.TheVariants as target
use Rattle.tv_hart.specs.Hart.{stepped}
use Rattle.tv_hart.specs.HartState.{HartState}
use Rattle.tv_hart.proofs.Steps.{IsAnswered, IsOver, IsSettled, over_step}
use Rattle.tv_spec.specs.declared.Shown.{Shown}
use Rattle.tv_spec.specs.declared.Shown.TheVariants as shown
use Rattle.tv_spec.specs.Local.{local_meaning, load_from, store_to, target_at}
use Rattle.tv_spec.specs.LocalState.{lines_of}
use Rattle.tv_spec.specs.Reach.{Reach, all_open}
use Rattle.tv_spec.specs.State.{State}
use Rattle.tv_spec.specs.Step.{event_of, issued}
use Rattle.tv_spec.proofs.Memory.{IsFound, IsPlace, IsToDevice, found_at, place_stepped}

load_answered : (bytes : ℕ) (p : Reach) (width : Width) (addr : ℕ) (place : Option (Target × ℕ)) → IsFound bytes 0 addr (width_bytes width) place → IsAnswered (load_from p width addr place).0
load_answered bytes p width addr None found = tt
load_answered bytes p width addr (Some (target.Ram, off)) found = tt
load_answered bytes p width addr (Some (target.Finisher, off)) found = tt
load_answered bytes p width addr (Some (target.Timer, off)) found = tt
load_answered bytes p width addr (Some (target.Intc, off)) found = tt
load_answered bytes p width addr (Some (target.Debug, off)) found = tt
load_answered bytes p width addr (Some (target.Device slot, off)) found = absurd (let none = found.0 in omega (arith, none))

store_settled : (bytes : ℕ) (p : Reach) (hart : ℕ) (width : Width) (addr value : ℕ) (place : Option (Target × ℕ)) → p.closed.debug ≡ false → IsFound bytes 0 addr (width_bytes width) place
    → IsSettled (store_to p hart width addr value place).0
store_settled bytes p hart width addr value None gate found = tt
store_settled bytes p hart width addr value (Some (target.Ram, off)) gate found = tt
store_settled bytes p hart width addr value (Some (target.Finisher, off)) gate found = tt
store_settled bytes p hart width addr value (Some (target.Timer, off)) gate found = tt
store_settled bytes p hart width addr value (Some (target.Intc, off)) gate found = tt
store_settled bytes p hart width addr value (Some (target.Debug, off)) gate found = rw gate tt
store_settled bytes p hart width addr value (Some (target.Device slot, off)) gate found = absurd (let none = found.0 in omega (arith, none))

-- an event where the debug port is open
pub alone_over : (hart : HartState) (p : Reach) (lines : ℕ) → p.local.devices ≡ 0 → p.closed.debug ≡ false → IsOver (stepped local_meaning hart p lines).0
alone_over hart p lines none gate =
    over_step local_meaning hart p lines (record {
      loads = λ number width addr. load_answered (length p.local.ram) p width addr (target_at p addr (width_bytes width)) (found addr (width_bytes width));
      stores = λ number width addr value. store_settled (length p.local.ram) p number width addr value (target_at p addr (width_bytes width)) gate (found addr (width_bytes width));
    })
  where
    found : (addr n : ℕ) → IsFound (length p.local.ram) 0 addr n (target_at p addr n)
    found addr n = let r = rw none at (found_at p addr n) in rw none r

-- an event shows no access, so it issues nothing
alone_issued : (hart : ℕ) (seen : Shown) (s : State) → IsToDevice 0 seen → issued hart seen s ≡ s
alone_issued hart shown.Nothing s none = refl
alone_issued hart (shown.Byte byte) s none = refl
alone_issued hart (shown.Finish finish) s none = refl
alone_issued hart (shown.Access d how) s none = absurd (omega (arith, none))

pub alone_event : (s t : State) (hart : ℕ) → s.local.devices ≡ 0 → issued hart (event_of s hart).2.shown t ≡ t
alone_event s t hart none =
    let p : IsPlace (length s.local.ram) 0 all_open (event_of s hart).2 =
    place_stepped (length s.local.ram) 0 all_open (s.harts hart) (record { local = s.local; closed = all_open; shown = shown.Nothing }) (lines_of s.local hart)
    (record { ram = refl; count = none; gate = refl; seen = tt }) in
    alone_issued hart (event_of s hart).2.shown t p.seen
