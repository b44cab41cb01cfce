use Rattle.std.proofs.Common.{ap, sym, ◌∙◌}
use Rattle.tv_side.specs.Messages.{MessagesState}
use Rattle.tv_side.proofs.Landing.{later_items}
use Rattle.tv_side.proofs.side.Side.take.Goals as goal

pub invariant_of-self-2 : goal.invariant_of-self-2
invariant_of-self-2 c = record {
  commands = later_items c.self.inside.commands c.pop.new.self c.in_ok-msg.msg c.in_ok-msg.ensures.first c.self.invariant.commands;
  room = ap (λ (t : MessagesState). t.places) (sym c.in_ok-msg.ensures.first) ∙ c.self.invariant.room;
  places = c.self.invariant.places;
  memory = c.self.invariant.memory;
  interrupts = c.self.invariant.interrupts;
}
