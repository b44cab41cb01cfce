-- What an action of a device on memory or interrupts does, where it is granted; where it isn't, nothing changes but the reply.
use Rattle.std.specs.Prelude.{ℕ, ◌+◌, ◌-◌, if◌then◌else◌, List, length, Bool, true, false, slice_set}
use Rattle.tv_base.specs.declared.limits.TheConstants.{PAGE_BYTES}
use Rattle.tv_grants.specs.Grants.{first_page, is_allowed, is_page_allowed, right_to}
use Rattle.tv_intc.specs.Controller.{raise_of}
use Rattle.tv_items.specs.declared.action.Action.{Action}
use Rattle.tv_items.specs.declared.action.Action.TheVariants as action
use Rattle.tv_items.specs.declared.action.Heard.{Heard}
use Rattle.tv_items.specs.declared.action.Heard.TheVariants as heard
use Rattle.tv_ram.specs.Memory.{bytes_at, with_bytes, with_zero_page, page_base}
use Rattle.tv_spec.specs.LocalState.{LocalState}
use Rattle.tv_spec.specs.Reservations.{after_other_write}
use Rattle.tv_spec.specs.Setup.{DeviceSetup}

-- whether an action is granted to a device, while these pages are withdrawn; one that is done outside the machine isn't done here
abbrev pub is_permitted : DeviceSetup → List Bool → Action → Bool
is_permitted setup withdrawn (action.Read addr len) = is_allowed setup.mem withdrawn (right_to false) addr len
is_permitted setup withdrawn (action.Write addr bytes) = is_allowed setup.mem withdrawn (right_to true) addr (length bytes)
is_permitted setup withdrawn (action.Release page hold) = is_page_allowed setup.mem page
is_permitted setup withdrawn (action.Regain page) = is_page_allowed setup.mem page
is_permitted setup withdrawn action.Raise = setup.irq
is_permitted setup withdrawn _ = false

-- what it leaves, and its reply
pub record Direct : Type 0 where
  pub heard : Heard
  pub local : LocalState
  pub withdrawn : List Bool

abbrev pub refused : LocalState → List Bool → Direct
refused local withdrawn = record { heard = heard.Refused; local = local; withdrawn = withdrawn }

-- a device's write ends each reservation of which it touches a byte
abbrev pub overwritten : LocalState → ℕ → List ℕ → LocalState
overwritten local addr bytes = record local {
  ram = with_bytes local.ram addr bytes;
  reservations = after_other_write addr (length bytes) local.reservations;
}

-- and so does a page that is filled with zeros
abbrev pub zeroed : LocalState → ℕ → LocalState
zeroed local page = record local {
  ram = with_zero_page local.ram page;
  reservations = after_other_write (page_base page) PAGE_BYTES local.reservations;
}

-- with a page of memory withdrawn, or given back
abbrev pub with_page : List Bool → ℕ → Bool → List Bool
with_page withdrawn page is = slice_set withdrawn (page - first_page) is

-- with the interrupt of the device in a slot raised, whose source has the slot's number and one
abbrev pub raised : LocalState → ℕ → LocalState
raised local slot = record local { intc = raise_of local.intc (slot + 1) }

-- an action that is granted
abbrev pub granted : ℕ → LocalState → List Bool → Action → Direct
granted slot local withdrawn (action.Read addr len) =
    record { heard = heard.Bytes (bytes_at local.ram addr len); local = local; withdrawn = withdrawn }
granted slot local withdrawn (action.Write addr bytes) =
    record { heard = heard.Done; local = overwritten local addr bytes; withdrawn = withdrawn }
granted slot local withdrawn (action.Release page hold) =
    record { heard = heard.Done; local = zeroed local page; withdrawn = if hold then with_page withdrawn page true else withdrawn }
granted slot local withdrawn (action.Regain page) =
    record { heard = heard.Done; local = local; withdrawn = with_page withdrawn page false }
granted slot local withdrawn action.Raise =
    record { heard = heard.Done; local = raised local slot; withdrawn = withdrawn }
granted slot local withdrawn _ = refused local withdrawn

-- an action of the device in a slot
abbrev pub direct : DeviceSetup → ℕ → LocalState → List Bool → Action → Direct
direct setup slot local withdrawn action =
    if is_permitted setup withdrawn action then granted slot local withdrawn action else refused local withdrawn
