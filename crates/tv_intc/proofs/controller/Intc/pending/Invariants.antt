use Rattle.std.proofs.Common.{◌≡◌, ◌<◌, ◌+◌, ◌^◌}
use Rattle.tv_intc.specs.Controller.{pending_word}
use Rattle.tv_intc.proofs.controller.Intc.pending.Given as goal

abbrev pub invariant-loop-place : goal.invariant-loop-place
invariant-loop-place l = record { value : l.word ≡ pending_word l.self l.place; bound : l.word < 2 ^ (l.place + 1) }
