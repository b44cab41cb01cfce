-- A proxy as contracts see it: how many items were made for its device, and who waits for an answer.
use Rattle.std.specs.Prelude.{◌≡◌, ◌≢◌, ℕ, ◌+◌, ◌<◌, List, replicate, Option, Some, None, slice_index_or, slice_set}
use Rattle.tv_base.specs.declared.Access.{Access}
use Rattle.tv_base.specs.declared.Access.TheVariants as access
use Rattle.tv_base.specs.declared.limits.TheConstants.{HARTS, LINES}
use Rattle.tv_items.specs.declared.item.Verdict.{Verdict}
use Rattle.tv_wire.specs.declared.Msg.{Msg}
use Rattle.tv_wire.specs.declared.Msg.TheVariants as msg
use Rattle.tv_proxy.specs.declared.proxy.Landed.{Landed}
use Rattle.tv_proxy.specs.declared.proxy.Landed.TheVariants as landed

-- how many items were made; and of each hart and each line the tag of the item for whose answer it waits, if any
pub record ProxyState : Type 0 where
  pub made : ℕ
  pub harts : List (Option ℕ)
  pub lines : List (Option ℕ)

-- no item was made
abbrev pub no_items : ProxyState
no_items = record { made = 0; harts = replicate HARTS None; lines = replicate LINES None }

-- who makes items: a hart, by accesses, or a control line, by commands
pub data Maker : Type 0 where
  hart : ℕ → Maker
  line : ℕ → Maker

-- the tag of the item for whose answer a maker waits
abbrev pub waits_for : ProxyState → Maker → Option ℕ
waits_for p (Maker.hart h) = slice_index_or p.harts h None
waits_for p (Maker.line c) = slice_index_or p.lines c None

-- with a maker that waits for the answer to an item, or for nothing
abbrev pub with_waiting : ProxyState → Maker → Option ℕ → ProxyState
with_waiting p (Maker.hart h) tag = record p { harts = slice_set p.harts h tag }
with_waiting p (Maker.line c) tag = record p { lines = slice_set p.lines c tag }

-- with one item more, which nobody waits for
abbrev pub posted : ProxyState → ProxyState
posted p = record p { made = p.made + 1 }

-- with one item more, whose maker waits for its answer
abbrev pub asked : ProxyState → Maker → ProxyState
asked p maker = with_waiting (posted p) maker (Some p.made)

-- with the item of an access: a hart waits for the value of its load, and for nothing after a store
abbrev pub issued : ProxyState → ℕ → Access → ProxyState
issued p h (access.Load width off) = asked p (Maker.hart h)
issued p h (access.Store width off value) = posted p

-- nobody waits for the answer to the item with this tag
abbrev pub NobodyWaits : ProxyState → ℕ → Type 0
NobodyWaits p tag = (maker : Maker) → waits_for p maker ≢ Some tag

-- only this maker waits for the answer to the item with this tag
abbrev pub WaitsAlone : ProxyState → Maker → ℕ → Type 0
WaitsAlone p maker tag = (other : Maker) → waits_for p other ≡ Some tag → other ≡ maker

-- each tag that is waited for is an item's, and its maker alone waits for it
pub record IsProxy (p : ProxyState) : Type 0 where
  pub made : (maker : Maker) (tag : ℕ) → waits_for p maker ≡ Some tag → tag < p.made
  pub alone : (maker : Maker) (tag : ℕ) → waits_for p maker ≡ Some tag → WaitsAlone p maker tag

-- a message that may be accepted: a value, for whose tag no line waits, or an answer, for whose tag no hart does
abbrev pub CanAccept : ProxyState → Msg → Type 0
CanAccept p (msg.Value tag value) = (c : ℕ) → waits_for p (Maker.line c) ≢ Some tag
CanAccept p (msg.Answer tag status other stats) = (h : ℕ) → waits_for p (Maker.hart h) ≢ Some tag
CanAccept p m = ⊥

-- an answer reached the maker that waited for it, and nobody waits for its tag any more
pub record HasLanded (old : ProxyState) (maker : Maker) (tag : ℕ) (new : ProxyState) : Type 0 where
  pub waited : waits_for old maker ≡ Some tag
  pub state : new ≡ with_waiting old maker None
  pub once : NobodyWaits new tag

-- nobody waited for it, and nothing changed
pub record IsPassedOver (old : ProxyState) (tag : ℕ) (new : ProxyState) : Type 0 where
  pub nobody : NobodyWaits old tag
  pub state : new ≡ old

-- what becomes of a value: it is handed to the hart that waits for it, or it is passed over
abbrev pub ValueLandedSo : ProxyState → ℕ → ℕ → ProxyState → Option Landed → Type 0
ValueLandedSo old tag value new (Some (landed.Hart h given)) = (given ≡ value) × HasLanded old (Maker.hart h) tag new
ValueLandedSo old tag value new (Some (landed.Line c verdict)) = ⊥
ValueLandedSo old tag value new None = IsPassedOver old tag new

-- what becomes of a verdict: it is handed to the line that waits for it, or it is passed over
abbrev pub VerdictLandedSo : ProxyState → Verdict → ProxyState → Option Landed → Type 0
VerdictLandedSo old verdict new (Some (landed.Hart h value)) = ⊥
VerdictLandedSo old verdict new (Some (landed.Line c given)) = (given ≡ verdict) × HasLanded old (Maker.line c) verdict.tag new
VerdictLandedSo old verdict new None = IsPassedOver old verdict.tag new

-- what becomes of an accepted message
abbrev pub AcceptedSo : ProxyState → Msg → ProxyState → Option Landed → Type 0
AcceptedSo old (msg.Value tag value) new result = ValueLandedSo old tag value new result
AcceptedSo old (msg.Answer tag status other stats) new result =
    VerdictLandedSo old (record { tag = tag; status = status; other = other; stats = stats }) new result
AcceptedSo old m new result = ⊥
