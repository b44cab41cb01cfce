use Rattle.std.proofs.Common.{rules, ◌≡◌, length, sym, ◌∙◌, take, arith}
use Rattle.tv_core.specs.Calls.{why_of}
use Rattle.tv_core.specs.Seen.{Seen}
use Rattle.tv_out.specs.Told.{IsSteady, appended}
use Rattle.tv_runner.proofs.RoundLoops.{IsHandedOut, ended_so, handed_out, lost_so, only_handed, ready_on, rounds_end, rounds_fall, rounds_first, rounds_more, runs_too, why_none}
use Rattle.tv_runner.proofs.LineAsks.{none_there, some_there}
use Rattle.tv_runner.proofs.Rounds.{went-out}
use Rattle.tv_runner.proofs.engine.Engine.rounds.Goals as goal
use Rattle.tv_runner.proofs.engine.Engine.rounds.Goals.{then-lost-via-then-lost, then-lost-via-else-lost+then-is_some}

pub loop-bytes-init : goal.loop-bytes-init
loop-bytes-init g c = record {
  ready = c.requires.ready;
  at = rounds_first c.args.self.now.line.core c.args.self.now.devices.items c.args.self.now.harts (g.O.Sink.told c.args.out.now) c.requires.ready c.requires.silent;
}

pub round-requires : goal.round-requires
round-requires g c = record { ready = c.loop-bytes.invariant.ready }

pub returns-then-lost-clause-rounds : goal.returns-then-lost-clause-rounds
returns-then-lost-clause-rounds g c =
    let old : Seen = c.loop-bytes.self.line.core in
    let new : Seen = c.round.new.self.line.core in
    let later : Seen = c.debug_take-count.new.self in
    let size : length c.loop-bytes.bytes ≡ 512 = search rules in
    let out : IsHandedOut old later (take c.debug_take-count.result c.debug_take-count.new.out) =
    handed_out old new later c.debug_take-count.new.out (length c.loop-bytes.bytes) c.debug_take-count.result c.loop-bytes.invariant.ready.going.outer c.round.ensures.part
    c.loop-bytes.invariant.ready.handed c.is_legal.ensures.bytes c.round.ensures.bytes size c.debug_take-count.ensures in
    rounds_end c.args.self.now.line.core old new later c.loop-bytes.self.devices.items c.loop-bytes.self.harts (take c.debug_take-count.result c.debug_take-count.new.out)
    c.put_all.result c.is_err-lost.result (g.O.Sink.told c.args.out.now) (g.O.Sink.told c.loop-bytes.out) (g.O.Sink.told c.put_all.new.sink)
    c.loop-bytes.invariant.at c.loop-bytes.invariant.ready c.is_legal.ensures.legal c.round.ensures.part
    (only_handed new later c.debug_take-count.new.out (length c.loop-bytes.bytes) c.debug_take-count.result c.debug_take-count.ensures) out c.is_err-lost.ensures.value
    (elim c.then-lost.branch [
      | then-lost-via-then-lost w ↦ lost_so (why_of later) c.is_err-lost.result w.if-lost.true
      | then-lost-via-else-lost+then-is_some w ↦ ended_so (why_of later) c.is_err-lost.result
          (some_there (why_of later) w.why.result w.is_some.result w.why.ensures w.is_some.ensures w.if-is_some.true)
    ])
    c.put_all.ensures.all c.put_all.ensures.steady c.put_all.ensures.failed c.put_all.ensures.cut

pub returns-then-lost-clause-later : goal.returns-then-lost-clause-later
returns-then-lost-clause-later g c =
    let risen = c.loop-bytes.invariant.at.risen in
    let later = c.put_all.ensures.later in
    omega (arith, risen, later)

pub loop-bytes-smaller : goal.loop-bytes-smaller
loop-bytes-smaller g c =
    let old : Seen = c.loop-bytes.self.line.core in
    let new : Seen = c.round.new.self.line.core in
    let later : Seen = c.debug_take-count.new.self in
    let is = only_handed new later c.debug_take-count.new.out (length c.loop-bytes.bytes) c.debug_take-count.result c.debug_take-count.ensures in
    let none = none_there (why_of later) c.why.result c.is_some.result c.why.ensures c.is_some.ensures c.if-is_some.false in
    rounds_fall c.args.self.now.line.core old new later c.loop-bytes.self.devices.items c.round.new.self.devices.items c.loop-bytes.self.harts (g.O.Sink.told c.args.out.now) (g.O.Sink.told c.loop-bytes.out)
    c.loop-bytes.invariant.at c.loop-bytes.invariant.ready c.is_legal.ensures.legal (c.round.ensures.next (runs_too new later is none)) is

pub loop-bytes-preserved : goal.loop-bytes-preserved
loop-bytes-preserved g c =
    let old : Seen = c.loop-bytes.self.line.core in
    let new : Seen = c.round.new.self.line.core in
    let later : Seen = c.debug_take-count.new.self in
    let size : length c.loop-bytes.bytes ≡ 512 = search rules in
    let is = only_handed new later c.debug_take-count.new.out (length c.loop-bytes.bytes) c.debug_take-count.result c.debug_take-count.ensures in
    let none = none_there (why_of later) c.why.result c.is_some.result c.why.ensures c.is_some.ensures c.if-is_some.false in
    let done = c.round.ensures.next (runs_too new later is none) in
    let well = sym c.is_err-lost.ensures.value ∙ c.if-lost.false in
    let out : IsHandedOut old later (take c.debug_take-count.result c.debug_take-count.new.out) =
    handed_out old new later c.debug_take-count.new.out (length c.loop-bytes.bytes) c.debug_take-count.result c.loop-bytes.invariant.ready.going.outer c.round.ensures.part
    c.loop-bytes.invariant.ready.handed c.is_legal.ensures.bytes c.round.ensures.bytes size c.debug_take-count.ensures in
    record {
      ready = ready_on old new later c.loop-bytes.self.devices.items c.round.new.self.devices.items c.loop-bytes.self.harts c.round.new.self.harts (take c.debug_take-count.result c.debug_take-count.new.out)
          c.loop-bytes.invariant.ready c.round.ensures.part done is out c.round.ensures.harts;
      at = rounds_more c.args.self.now.line.core old new later c.round.new.self.devices.items (take c.debug_take-count.result c.debug_take-count.new.out)
          (g.O.Sink.told c.args.out.now) (g.O.Sink.told c.loop-bytes.out) (g.O.Sink.told c.put_all.new.sink) c.loop-bytes.invariant.at
          (why_none old c.loop-bytes.self.devices.items c.loop-bytes.self.harts c.loop-bytes.invariant.ready) c.round.ensures.part done is out
          (went-out ((g.O.Sink.told c.put_all.new.sink).bytes ≡ appended (g.O.Sink.told c.loop-bytes.out).bytes (take c.debug_take-count.result c.debug_take-count.new.out)) c.put_all.result well c.put_all.ensures.all)
          c.put_all.ensures.later
          (went-out (IsSteady (g.O.Sink.told c.loop-bytes.out) (g.O.Sink.told c.put_all.new.sink)) c.put_all.result well c.put_all.ensures.steady);
    }
