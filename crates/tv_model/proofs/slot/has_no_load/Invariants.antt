use Rattle.std.proofs.Common.{take}
use Rattle.tv_spec.specs.Devices.{NoLoadDue}
use Rattle.tv_model.proofs.slot.has_no_load.Given as goal

-- none of the answers so far is
abbrev pub invariant-loop-answer : goal.invariant-loop-answer
invariant-loop-answer l = NoLoadDue (take l.answer-index l.due)
