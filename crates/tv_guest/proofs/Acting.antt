-- A device's action by the grants as code keeps them is the defined one.
use Rattle.std.proofs.Common.{◌≡◌, ℕ, ◌+◌, Bool, true, false, if◌then◌else◌, List, Option, refl, ◌∙◌}
use Rattle.tv_grants.specs.Direct.{Direct as DirectMemory, direct_action, done, heard_of, may_do}
use Rattle.tv_grants.specs.Grants.{GrantState, owns_source}
use Rattle.tv_intc.specs.Controller.{raise_of}
use Rattle.tv_intc.specs.ControllerState.{Controller}
use Rattle.tv_items.specs.declared.action.Action.{Action}
use Rattle.tv_items.specs.declared.action.Action.TheVariants as action
use Rattle.tv_items.specs.declared.action.Heard.{Heard}
use Rattle.tv_items.specs.declared.action.Way.TheVariants.{Memory, Interrupt}
use Rattle.tv_items.specs.Fits.{way_of}
use Rattle.tv_spec.specs.Direct.{Direct, direct}
use Rattle.tv_spec.specs.LocalState.{LocalState}
use Rattle.tv_guest.specs.Direct.{granted_to, reservations_after}

-- what an action on memory leaves, with the reservations that it ends
abbrev pub direct_by : Action → LocalState → DirectMemory → Direct
direct_by a local d = record {
  heard = d.heard;
  local = record local { ram = d.ram; reservations = reservations_after a d.heard local.reservations };
  withdrawn = d.grants.withdrawn;
}

direct_memory : (dev : ℕ) (local : LocalState) (g : GrantState) (a : Action) → way_of a ≡ Memory
    → direct (granted_to g dev) dev local g.withdrawn a ≡ direct_by a local (direct_action dev local.ram g a)
direct_memory dev local g (action.Read addr len) way = by_bool (may_do dev g (action.Read addr len)) refl
  where
    by_bool : (b : Bool) → may_do dev g (action.Read addr len) ≡ b
        → direct (granted_to g dev) dev local g.withdrawn (action.Read addr len) ≡ direct_by (action.Read addr len) local (direct_action dev local.ram g (action.Read addr len))
    by_bool true e = rw e refl
    by_bool false e = rw e refl
direct_memory dev local g (action.Write addr bytes) way = by_bool (may_do dev g (action.Write addr bytes)) refl
  where
    by_bool : (b : Bool) → may_do dev g (action.Write addr bytes) ≡ b
        → direct (granted_to g dev) dev local g.withdrawn (action.Write addr bytes) ≡ direct_by (action.Write addr bytes) local (direct_action dev local.ram g (action.Write addr bytes))
    by_bool true e = rw e refl
    by_bool false e = rw e refl
direct_memory dev local g (action.Release page hold) way = by_bool hold (may_do dev g (action.Release page hold)) refl
  where
    by_bool : (h b : Bool) → may_do dev g (action.Release page h) ≡ b
        → direct (granted_to g dev) dev local g.withdrawn (action.Release page h) ≡ direct_by (action.Release page h) local (direct_action dev local.ram g (action.Release page h))
    by_bool true true e = rw e refl
    by_bool false true e = rw e refl
    by_bool true false e = rw e refl
    by_bool false false e = rw e refl
direct_memory dev local g (action.Regain page) way = by_bool (may_do dev g (action.Regain page)) refl
  where
    by_bool : (b : Bool) → may_do dev g (action.Regain page) ≡ b
        → direct (granted_to g dev) dev local g.withdrawn (action.Regain page) ≡ direct_by (action.Regain page) local (direct_action dev local.ram g (action.Regain page))
    by_bool true e = rw e refl
    by_bool false e = rw e refl
direct_memory dev local g action.Raise way = cc
direct_memory dev local g (action.DiskRead sector) way = cc
direct_memory dev local g (action.DiskWrite sector bytes) way = cc
direct_memory dev local g action.Flush way = cc
direct_memory dev local g (action.SetLen sectors) way = cc
direct_memory dev local g (action.Put bytes) way = cc
direct_memory dev local g (action.Input most) way = cc
direct_memory dev local g (action.Random len) way = cc

-- an action on memory leaves the ranges and the sources
grants_kept : (dev : ℕ) (ram : List ℕ) (g : GrantState) (a : Action)
    → (direct_action dev ram g a).grants ≡ record g { withdrawn = (direct_action dev ram g a).grants.withdrawn }
grants_kept dev ram g a = by_bool (may_do dev g a) refl
  where
    by_action : (x : Action) → (done ram g x).grants ≡ record g { withdrawn = (done ram g x).grants.withdrawn }
    by_action (action.Read addr len) = refl
    by_action (action.Write addr bytes) = refl
    by_action (action.Release page true) = refl
    by_action (action.Release page false) = refl
    by_action (action.Regain page) = refl
    by_action action.Raise = refl
    by_action (action.DiskRead sector) = refl
    by_action (action.DiskWrite sector bytes) = refl
    by_action action.Flush = refl
    by_action (action.SetLen sectors) = refl
    by_action (action.Put bytes) = refl
    by_action (action.Input most) = refl
    by_action (action.Random len) = refl

    by_bool : (b : Bool) → may_do dev g a ≡ b → (direct_action dev ram g a).grants ≡ record g { withdrawn = (direct_action dev ram g a).grants.withdrawn }
    by_bool true e = rw e (by_action a)
    by_bool false e = rw e refl

-- what the code of an action on memory comes to
pub memory_acted : (dev : ℕ) (local : LocalState) (g g2 : GrantState) (a : Action) (h : Heard) (ram : List ℕ) (reservations : List (Option ℕ)) → way_of a ≡ Memory
    → direct_action dev local.ram g a ≡ record { heard = h; ram = ram; grants = g2 } → reservations ≡ reservations_after a h local.reservations
    → direct (granted_to g dev) dev local g.withdrawn a ≡ record { heard = h; local = record local { ram = ram; reservations = reservations }; withdrawn = g2.withdrawn }
memory_acted dev local g g2 a h ram reservations way is ended = direct_memory dev local g a way ∙ rw (is, ended) refl

pub memory_grants : (dev : ℕ) (ram later : List ℕ) (g g2 : GrantState) (a : Action) (h : Heard)
    → direct_action dev ram g a ≡ record { heard = h; ram = later; grants = g2 } → g2 ≡ record g { withdrawn = g2.withdrawn }
memory_grants dev ram later g g2 a h is = let r = rw is at (grants_kept dev ram g a) in r

-- and the code of a raise
pub interrupt_acted : (dev : ℕ) (local : LocalState) (g : GrantState) (a : Action) (h : Heard) (intc : Controller) → way_of a ≡ Interrupt
    → h ≡ heard_of (owns_source g dev) → intc ≡ (if owns_source g dev then raise_of local.intc (dev + 1) else local.intc)
    → direct (granted_to g dev) dev local g.withdrawn a ≡ record { heard = h; local = record local { intc = intc }; withdrawn = g.withdrawn }
interrupt_acted dev local g action.Raise h intc way heard_is intc_is = by_bool (owns_source g dev) refl
  where
    by_bool : (b : Bool) → owns_source g dev ≡ b
        → direct (granted_to g dev) dev local g.withdrawn action.Raise ≡ record { heard = h; local = record local { intc = intc }; withdrawn = g.withdrawn }
    by_bool true e = rw (heard_is, intc_is, e) refl
    by_bool false e = rw (heard_is, intc_is, e) refl
interrupt_acted dev local g (action.Read addr len) h intc way heard_is intc_is = cc
interrupt_acted dev local g (action.Write addr bytes) h intc way heard_is intc_is = cc
interrupt_acted dev local g (action.Release page hold) h intc way heard_is intc_is = cc
interrupt_acted dev local g (action.Regain page) h intc way heard_is intc_is = cc
interrupt_acted dev local g (action.DiskRead sector) h intc way heard_is intc_is = cc
interrupt_acted dev local g (action.DiskWrite sector bytes) h intc way heard_is intc_is = cc
interrupt_acted dev local g action.Flush h intc way heard_is intc_is = cc
interrupt_acted dev local g (action.SetLen sectors) h intc way heard_is intc_is = cc
interrupt_acted dev local g (action.Put bytes) h intc way heard_is intc_is = cc
interrupt_acted dev local g (action.Input most) h intc way heard_is intc_is = cc
interrupt_acted dev local g (action.Random len) h intc way heard_is intc_is = cc
