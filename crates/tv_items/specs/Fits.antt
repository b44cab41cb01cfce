-- Which actions may be asked for, and which replies answer which action.
use Rattle.std.specs.Prelude.{◌≡◌, ℕ, ◌≤◌, length}
use Rattle.tv_items.specs.declared.action.Action.{Action}
use Rattle.tv_items.specs.declared.action.Action.TheVariants as action
use Rattle.tv_items.specs.declared.action.Heard.{Heard}
use Rattle.tv_items.specs.declared.action.Heard.TheVariants as heard
use Rattle.tv_items.specs.declared.action.Way.{Way}
use Rattle.tv_items.specs.declared.action.Way.TheVariants.{Memory, Interrupt, Outside}
use Rattle.tv_base.specs.declared.limits.TheConstants.{PIECE_BYTES}

-- a count of bytes that one action may have
abbrev pub IsPiece : ℕ → Type 0
IsPiece count = (1 ≤ count) × (count ≤ PIECE_BYTES)

-- an action that may be asked for: it is of a piece, and a sector has 512 bytes
abbrev pub IsAction : Action → Type 0
IsAction (action.Read addr len) = IsPiece len
IsAction (action.Write addr bytes) = IsPiece (length bytes)
IsAction (action.DiskWrite sector bytes) = length bytes ≡ 512
IsAction (action.Put bytes) = IsPiece (length bytes)
IsAction (action.Input most) = IsPiece most
IsAction (action.Random len) = IsPiece len
IsAction a = Unit {0}

-- replies by their forms: which of the five there may be, and how many bytes
abbrev pub DoneOrRefused : Heard → Type 0
DoneOrRefused heard.Done = Unit {0}
DoneOrRefused heard.Refused = Unit {0}
DoneOrRefused h = ⊥

abbrev pub DoneOrFailed : Heard → Type 0
DoneOrFailed heard.Done = Unit {0}
DoneOrFailed heard.Failed = Unit {0}
DoneOrFailed h = ⊥

abbrev pub BytesOrRefused : ℕ → Heard → Type 0
BytesOrRefused len (heard.Bytes bytes) = length bytes ≡ len
BytesOrRefused len heard.Refused = Unit {0}
BytesOrRefused len h = ⊥

abbrev pub BytesOrFailed : ℕ → Heard → Type 0
BytesOrFailed len (heard.Bytes bytes) = length bytes ≡ len
BytesOrFailed len heard.Failed = Unit {0}
BytesOrFailed len h = ⊥

abbrev pub FewOrFailed : ℕ → Heard → Type 0
FewOrFailed most (heard.Bytes bytes) = length bytes ≤ most
FewOrFailed most heard.Failed = Unit {0}
FewOrFailed most h = ⊥

abbrev pub DoneOrTaken : ℕ → Heard → Type 0
DoneOrTaken len heard.Done = Unit {0}
DoneOrTaken len (heard.Taken count) = count ≤ len
DoneOrTaken len h = ⊥

-- a reply fits an action
abbrev pub FitsAction : Action → Heard → Type 0
FitsAction (action.Read addr len) h = BytesOrRefused len h
FitsAction (action.Write addr bytes) h = DoneOrRefused h
FitsAction (action.Release page hold) h = DoneOrRefused h
FitsAction (action.Regain page) h = DoneOrRefused h
FitsAction action.Raise h = DoneOrRefused h
FitsAction (action.DiskRead sector) h = BytesOrFailed 512 h
FitsAction (action.DiskWrite sector bytes) h = DoneOrFailed h
FitsAction action.Flush h = DoneOrFailed h
FitsAction (action.SetLen sectors) h = DoneOrFailed h
FitsAction (action.Put bytes) h = DoneOrTaken (length bytes) h
FitsAction (action.Input most) h = FewOrFailed most h
FitsAction (action.Random len) h = BytesOrFailed len h

-- who does it
abbrev pub way_of : Action → Way
way_of (action.Read addr len) = Memory
way_of (action.Write addr bytes) = Memory
way_of (action.Release page hold) = Memory
way_of (action.Regain page) = Memory
way_of action.Raise = Interrupt
way_of a = Outside
