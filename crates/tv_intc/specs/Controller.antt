-- What the interrupt controller does (RISC-V PLIC Specification), with the departures that the crate names.
use Rattle.std.specs.Prelude.{◌≡◌, ◌≢◌, ◌≤◌, ◌==◌, ◌&&◌, ◌||◌, ℕ, zero, suc, ◌+◌, ◌*◌, ◌/◌, ◌%◌, ◌^◌, Bool, true, false, if◌then◌else◌, nat_lt, nat_le, replicate, slice_index_or, slice_set, Option, Some, None}
use Rattle.tv_base.specs.declared.Width.{Width}
use Rattle.tv_base.specs.declared.Width.TheVariants.{B4}
use Rattle.tv_intc.specs.declared.controller.Gate.{Gate}
use Rattle.tv_intc.specs.declared.controller.Gate.TheVariants as gate
use Rattle.tv_intc.specs.declared.controller_map.Register.{Register}
use Rattle.tv_intc.specs.declared.controller_map.Register.TheVariants.{Priority, Pending, Enables, Threshold, Claim}
use Rattle.tv_intc.specs.ControllerMap.{register_at}
use Rattle.tv_intc.specs.ControllerState.{Controller}

-- the controller of a machine with this many harts, at the start
abbrev pub started : ℕ → Controller
started harts = record {
  harts = harts;
  priority = replicate 9 0;
  gates = replicate 9 gate.Idle;
  enables = replicate 8 0;
  thresholds = replicate 8 0;
}

-- A source

abbrev pub gate_of : Controller → ℕ → Gate
gate_of c source = slice_index_or c.gates source gate.Idle

abbrev pub with_gate : Controller → ℕ → Gate → Controller
with_gate c source gate = record c { gates = slice_set c.gates source gate }

abbrev pub is_pending : Gate → Bool
is_pending gate.Pending = true
is_pending _ = false

-- a raise makes an idle source pending; one that comes while the source is claimed is held; a second one is lost
abbrev pub raised : Gate → Gate
raised gate.Idle = gate.Pending
raised gate.Pending = gate.Pending
raised gate.Claimed = gate.Held
raised gate.Held = gate.Held

-- completing ends a claim, and a held raise makes the source pending; where there is no claim it does nothing
abbrev pub completed : Gate → Gate
completed gate.Idle = gate.Idle
completed gate.Pending = gate.Pending
completed gate.Claimed = gate.Idle
completed gate.Held = gate.Pending

-- the sources are 1 to 8
abbrev pub is_source : ℕ → Bool
is_source n = nat_le 1 n && nat_le n 8

abbrev pub raise_of : Controller → ℕ → Controller
raise_of c source = if is_source source then with_gate c source (raised (gate_of c source)) else c

abbrev pub complete_of : Controller → ℕ → Controller
complete_of c source = if is_source source then with_gate c source (completed (gate_of c source)) else c

-- A hart

abbrev pub priority_of : Controller → ℕ → ℕ
priority_of c source = slice_index_or c.priority source 0

abbrev pub enables_of : Controller → ℕ → ℕ
enables_of c hart = slice_index_or c.enables hart 0

abbrev pub threshold_of : Controller → ℕ → ℕ
threshold_of c hart = slice_index_or c.thresholds hart 0

-- a source is eligible for a hart where it is pending, enabled for the hart, and of a priority above the hart's threshold
abbrev pub is_eligible : Controller → ℕ → ℕ → Bool
is_eligible c hart source =
    is_pending (gate_of c source) && (enables_of c hart / 2 ^ source % 2 == 1)
    && nat_lt (threshold_of c hart) (priority_of c source)

-- whether one of the sources 1 to n is eligible
abbrev pub any_eligible : Controller → ℕ → ℕ → Bool
any_eligible c hart zero = false
any_eligible c hart (suc n) = any_eligible c hart n || is_eligible c hart (suc n)

-- the one of two sources that a claim prefers, the first having the lower number: the greater priority, and the lower number
-- on a tie; 0 stands for none
abbrev pub preferred : Controller → ℕ → ℕ → ℕ
preferred c first second = if first == 0 || nat_lt (priority_of c first) (priority_of c second) then second else first

-- the source among 1 to n that a claim of a hart gives: the eligible one that it prefers, 0 where none is eligible
abbrev pub choice : Controller → ℕ → ℕ → ℕ
choice c hart zero = 0
choice c hart (suc n) =
    if is_eligible c hart (suc n) then preferred c (choice c hart n) (suc n) else choice c hart n

-- what the choice is for, of the sources 1 to n: it is 0 only where none is eligible; else it is eligible, no eligible one
-- has a greater priority, and none of the same priority has a lower number
pub record IsBest (eligible : ℕ → Bool) (priority : ℕ → ℕ) (n source : ℕ) : Type 0 where
  pub known : source ≤ n
  pub none : source ≡ 0 → (other : ℕ) → 1 ≤ other → other ≤ n → eligible other ≡ false
  pub chosen : source ≢ 0 → eligible source ≡ true
  pub greatest : (other : ℕ) → 1 ≤ other → other ≤ n → eligible other ≡ true
      → (priority other ≤ priority source) × (priority other ≡ priority source → source ≤ other)

-- a claim: the source is then claimed and not pending
abbrev pub claim_by : Controller → ℕ → ℕ × Controller
claim_by c source = if source == 0 then (0, c) else (source, with_gate c source gate.Claimed)

-- the external line, as bit 11 of mip
abbrev pub lines_of : Controller → ℕ → ℕ
lines_of c hart = if any_eligible c hart 8 then 2 ^ 11 else 0

-- Registers

-- the bit of a source in the pending register
abbrev pub pending_bit : Gate → ℕ → ℕ
pending_bit gate source = if is_pending gate then 2 ^ source else 0

-- the pending register, as far as the sources 1 to n fill it
abbrev pub pending_word : Controller → ℕ → ℕ
pending_word c zero = 0
pending_word c (suc n) = pending_word c n + pending_bit (gate_of c (suc n)) (suc n)

-- a load of 4 bytes from a register
abbrev pub load_of : Controller → Register → ℕ × Controller
load_of c (Priority source) = (priority_of c source, c)
load_of c Pending = (pending_word c 8, c)
load_of c (Enables hart) = (enables_of c hart, c)
load_of c (Threshold hart) = (threshold_of c hart, c)
load_of c (Claim hart) = claim_by c (choice c hart 8)

-- a store of 4 bytes to a register: priorities and thresholds keep their low 3 bits, enables their bits 1 to 8
abbrev pub store_of : Controller → Register → ℕ → Controller
store_of c (Priority source) value = record c { priority = slice_set c.priority source (value % 2 ^ 3) }
store_of c Pending value = c
store_of c (Enables hart) value = record c { enables = slice_set c.enables hart (2 * (value / 2 % 2 ^ 8)) }
store_of c (Threshold hart) value = record c { thresholds = slice_set c.thresholds hart (value % 2 ^ 3) }
store_of c (Claim hart) value = complete_of c value

-- a load: where no register of this width is, it gives 0
abbrev pub load_by : Controller → Option Register → ℕ × Controller
load_by c (Some register) = load_of c register
load_by c None = (0, c)

abbrev pub load_at : Controller → ℕ → Width → ℕ × Controller
load_at c off B4 = load_by c (register_at c.harts off)
load_at c off _ = (0, c)

-- a store: where no register of this width is, it does nothing
abbrev pub store_by : Controller → Option Register → ℕ → Controller
store_by c (Some register) value = store_of c register value
store_by c None value = c

abbrev pub store_at : Controller → ℕ → Width → ℕ → Controller
store_at c off B4 value = store_by c (register_at c.harts off) (value % 2 ^ 32)
store_at c off _ value = c
