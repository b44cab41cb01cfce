use Rattle.std.proofs.Common.{Err}
use Rattle.std.specs.Result.{result_map_both}
use Rattle.tv_top.proofs.Chains.{with-machine, without-machine}
use Rattle.tv_top.specs.Refusals.{refused_by}
use Rattle.tv_words.specs.CommandLine.{asked_by}
use Rattle.tv_top.proofs.PlainOutside.serve.Goals as goal

pub returns-in-Err-clause-answer : goal.returns-in-Err-clause-answer
returns-in-Err-clause-answer g c = record {
  answer = Err (refused_by c.in-Err.refusal);
  served = without-machine (asked_by c.args.command) (g.S.Store.told c.args.self.now.store) (g.S.Store.told c.take_machine.new.store)
      (g.O.Sink.told c.args.self.now.out) (refused_by c.in-Err.refusal) (rw c.origin.ensures at c.in-Err.ensures.takes);
  ended_is = c.end-in-Err.ensures.ended;
  said = c.end-in-Err.ensures.said;
}

pub returns-in-Ok-clause-answer : goal.returns-in-Ok-clause-answer
returns-in-Ok-clause-answer g c = record {
  answer = result_map_both (λ run. run) refused_by c.carry_out-answer.result;
  served = with-machine (asked_by c.args.command) c.in-Ok.machine (g.S.Store.told c.args.self.now.store) (g.S.Store.told c.take_machine.new.store)
      (g.S.Store.told c.carry_out-answer.new.self.store) (g.O.Sink.told c.args.self.now.out) (g.O.Sink.told c.carry_out-answer.new.self.out)
      (result_map_both (λ run. run) refused_by c.carry_out-answer.result) (rw c.origin.ensures at c.in-Ok.ensures.takes) c.carry_out-answer.ensures.does;
  ended_is = c.end.ensures.ended;
  said = rw c.carry_out-answer.ensures.err at c.end.ensures.said;
}
