-- The probe: a plain device for tests and diagnosis. Its registers are at these offsets, with these widths in bytes.
--     0x00  8  ADDR    an address of guest memory
--     0x08  4  LEN     a count of bytes
--     0x10  8  DATA    the bytes read last, or those to write, least first
--     0x18  4  GO      a store starts an action; a load gives 0
--     0x1C  4  RESULT  of the last action: 0 none yet, 1 done, 2 refused; it can only be loaded
--     0x20  8  COUNT   the stores so far, of any kind; it can only be loaded
use Rattle.std.specs.Prelude.{true, ◌≡◌, ◌⊎◌, ◌<◌, ◌≤◌, ℕ, ◌+◌, ◌/◌, ◌%◌, ◌^◌, ◌==◌, ◌&&◌, nat_le, nat_lt, if◌then◌else◌, length, take, Option, Some, None}
use Rattle.byteorder.specs.Endian.{little_number, little_bytes}
use Rattle.tv_base.specs.declared.limits.TheConstants.{PAGE_BYTES}
use Rattle.tv_base.specs.declared.Width.{Width}
use Rattle.tv_base.specs.declared.Width.TheVariants.{B4, B8}
use Rattle.tv_items.specs.declared.item.Item.{Item}
use Rattle.tv_items.specs.declared.item.Item.TheVariants as item
use Rattle.tv_items.specs.declared.action.Action.{Action}
use Rattle.tv_items.specs.declared.action.Action.TheVariants as action
use Rattle.tv_items.specs.declared.action.Heard.{Heard}
use Rattle.tv_items.specs.declared.action.Heard.TheVariants as heard
use Rattle.tv_script.specs.Scripts.{Script, Stop, Ask}
use Rattle.std.proofs.Common.{refl}
use Rattle.tv_script.specs.Services.{End, Idle, Plan, opened}

-- its registers, and the action that the last store to GO started, 0 for none
pub record ProbeState : Type 0 where
  pub addr : ℕ
  pub len : ℕ
  pub datum : ℕ
  pub result : ℕ
  pub count : ℕ
  pub going : ℕ

abbrev pub new_probe : ProbeState
new_probe = record { addr = 0; len = 0; datum = 0; result = 0; count = 0; going = 0 }

-- a load: each register answers at its own width, and anything else is 0
abbrev pub probe_load : ProbeState → Width → ℕ → ℕ
probe_load p B8 off = if off == 0x00 then p.addr else if off == 0x10 then p.datum else if off == 0x20 then p.count else 0
probe_load p B4 off = if off == 0x08 then p.len else if off == 0x1C then p.result else 0
probe_load p _ off = 0

-- a store to GO: 1 reads and 2 writes LEN bytes at ADDR, 1 to 8; 3 raises the interrupt; 4 releases and 5 regains the page of
-- ADDR, below 2^32. What can't be asked for is refused at once, and another value does nothing.
abbrev pub probe_started : ProbeState → ℕ → ProbeState
probe_started p go =
    if nat_le 1 go && nat_le go 2 then (if nat_le 1 p.len && nat_le p.len 8 then record p { going = go } else record p { result = 2 })
    else if go == 3 then record p { going = 3 }
    else if nat_le 4 go && nat_le go 5 then (if nat_lt (p.addr / PAGE_BYTES) (2 ^ 32) then record p { going = go } else record p { result = 2 })
    else p

-- a store to a register at its own width changes it, and any other store none
abbrev pub probe_stored : ProbeState → Width → ℕ → ℕ → ProbeState
probe_stored p B8 off value = if off == 0x00 then record p { addr = value } else if off == 0x10 then record p { datum = value } else p
probe_stored p B4 off value =
    if off == 0x08 then record p { len = value % 2 ^ 32 } else if off == 0x18 then probe_started p (value % 2 ^ 32) else p
probe_stored p _ off value = p

-- an item comes only where no action is under way
abbrev pub probe_rested : ProbeState → ProbeState
probe_rested p = record p { going = 0 }

-- each store counts
abbrev pub probe_store : ProbeState → Width → ℕ → ℕ → ProbeState
probe_store p width off value = let q = probe_stored p width off value in record q { count = (q.count + 1) % 2 ^ 64 }

-- after an item, and the value that a load gives
abbrev pub probe_acted : ProbeState → Item → ProbeState
probe_acted p (item.Store width off value) = probe_store (probe_rested p) width off value
probe_acted p i = probe_rested p

abbrev pub probe_loaded : ProbeState → Item → ℕ
probe_loaded p (item.Load width off) = probe_load p width off
probe_loaded p i = 0

-- the action that is under way; its numbers are in range where the store to GO began it
abbrev pub probe_action : ProbeState → Option Action
probe_action p =
    if p.going == 1 then Some (action.Read p.addr p.len)
    else if p.going == 2 then Some (action.Write p.addr (take p.len (little_bytes 8 p.datum)))
    else if p.going == 3 then Some action.Raise
    else if p.going == 4 then Some (action.Release (p.addr / PAGE_BYTES) true)
    else if p.going == 5 then Some (action.Regain (p.addr / PAGE_BYTES))
    else None

-- after its reply
abbrev pub probe_heard : ProbeState → Heard → ProbeState
probe_heard p (heard.Bytes bytes) = record p { datum = little_number (length bytes) bytes; result = 1; going = 0 }
probe_heard p heard.Done = record p { result = 1; going = 0 }
probe_heard p _ = record p { result = 2; going = 0 }

-- a service: the action under way, if any
abbrev pub probe_asks : ProbeState → Option Action → Script (End ProbeState) ProbeState
probe_asks p None = Stop (Idle p)
probe_asks p (Some a) = Ask a (λ h. Stop (Idle (probe_heard p h)))

abbrev pub probe_plan : Plan ProbeState
probe_plan = record { begins = λ p. probe_asks p (probe_action p); round = λ p. Stop (Idle p) }

-- an action under way has its numbers in range
pub record IsGoing (addr len going : ℕ) : Type 0 where
  pub bytes : going ≡ 1 ⊎ going ≡ 2 → (1 ≤ len) × (len ≤ 8)
  pub page : going ≡ 4 ⊎ going ≡ 5 → addr / PAGE_BYTES < 2 ^ 32

-- bytes that it hears are 1 to 8
abbrev pub HearsFew : Heard → Type 0
HearsFew (heard.Bytes bytes) = (1 ≤ length bytes) × (length bytes ≤ 8)
HearsFew h = Unit {0}

-- an action that it asks for reads 1 to 8 bytes
abbrev pub AsksFew : Action → Type 0
AsksFew (action.Read addr len) = (1 ≤ len) × (len ≤ 8)
AsksFew (action.DiskRead sector) = ⊥
AsksFew (action.Input most) = ⊥
AsksFew (action.Random len) = ⊥
AsksFew a = Unit {0}

-- a round of it is over at once
pub probe_opens : (p : ProbeState) → opened probe_plan.round (probe_plan.round p) ≡ probe_plan.round p
unfolding opened
probe_opens p = refl
