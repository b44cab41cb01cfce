-- What a device's action does to guest memory and to the grants, and what the device hears of it.
use Rattle.std.specs.Prelude.{ℕ, if◌then◌else◌, Bool, true, false, List, length}
use Rattle.tv_grants.specs.Grants.{GrantState, is_allowed, is_page_allowed, ranges_of, released, right_to, with_page}
use Rattle.tv_items.specs.declared.action.Action.{Action}
use Rattle.tv_items.specs.declared.action.Action.TheVariants as action
use Rattle.tv_items.specs.declared.action.Heard.{Heard}
use Rattle.tv_items.specs.declared.action.Heard.TheVariants as heard
use Rattle.tv_ram.specs.Memory.{bytes_at, with_bytes, with_zero_page}

-- whether the device in a slot may do an action on memory; no other action is one on memory
abbrev pub may_do : ℕ → GrantState → Action → Bool
may_do dev s (action.Read addr len) = is_allowed (ranges_of dev s.ranges) s.withdrawn (right_to false) addr len
may_do dev s (action.Write addr bytes) = is_allowed (ranges_of dev s.ranges) s.withdrawn (right_to true) addr (length bytes)
may_do dev s (action.Release page hold) = is_page_allowed (ranges_of dev s.ranges) page
may_do dev s (action.Regain page) = is_page_allowed (ranges_of dev s.ranges) page
may_do dev s _ = false

-- what a device hears of an action, and memory and the grants after it
pub record Direct : Type 0 where
  pub heard : Heard
  pub ram : List ℕ
  pub grants : GrantState

-- an action on memory that is done
abbrev pub done : List ℕ → GrantState → Action → Direct
done ram s (action.Read addr len) = record { heard = heard.Bytes (bytes_at ram addr len); ram = ram; grants = s }
done ram s (action.Write addr bytes) = record { heard = heard.Done; ram = with_bytes ram addr bytes; grants = s }
done ram s (action.Release page hold) = record { heard = heard.Done; ram = with_zero_page ram page; grants = released s page hold }
done ram s (action.Regain page) = record { heard = heard.Done; ram = ram; grants = with_page s page false }
done ram s _ = record { heard = heard.Refused; ram = ram; grants = s }

-- an action on memory: it is done where the device may do it, else refused, and then all stays
abbrev pub direct_action : ℕ → List ℕ → GrantState → Action → Direct
direct_action dev ram s a = if may_do dev s a then done ram s a else record { heard = heard.Refused; ram = ram; grants = s }

-- what is heard of an action that gives no bytes, by whether it was done
abbrev pub heard_of : Bool → Heard
heard_of true = heard.Done
heard_of false = heard.Refused
