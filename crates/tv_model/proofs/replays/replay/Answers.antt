use Rattle.std.proofs.Common.{◌≡◌, ℕ, ◌+◌, ◌<◌, Option, ap, sym, ◌∙◌, subst, arith}
use Rattle.tv_base.specs.declared.Why.{Why}
use Rattle.tv_journal.specs.Entries.{record_count, records_of}
use Rattle.tv_journal.specs.Journals.{IsOuterEnd}
use Rattle.tv_model.specs.declared.replays.Replayed.TheVariants as replayed
use Rattle.tv_model.specs.Replay.{ReplaysSo}
use Rattle.tv_model.specs.Replaying.{HasLeft, closer, not_due}
use Rattle.tv_model.proofs.Played.{IsPlayed, played-first, played-due, played-record, next-found, left-next, entry-illegal, end-illegal, all-legal, counted}
use Rattle.tv_model.proofs.Stepping.{border-cause}
use Rattle.tv_model.proofs.replays.replay.Goals as goal

pub loop-record-init : goal.loop-record-init
loop-record-init g c = record {
  played =
      subst (IsPlayed c.args.machine.now c.args.image.now c.args.journal.now.entries c.args.journal.now.outer c.in_ok-monitor.monitor 0) (sym c.outer-outer.ensures.outer)
      (played-first c.args.machine.now c.args.image.now c.args.journal.now.entries c.args.journal.now.outer c.in_ok-monitor.monitor c.in_ok-monitor.ensures
      (subst (IsOuterEnd c.args.journal.now.entries) c.outer-outer.ensures.outer c.outer-outer.ensures.line));
  cursor = c.cursor-cursor.ensures;
}

pub end_if_due-requires : goal.end_if_due-requires
end_if_due-requires g c = border-cause _ c.loop-record.outer c.loop-record.invariant.played.border

pub returns-then-not-end_if_due : goal.returns-then-not-end_if_due
returns-then-not-end_if_due g c =
    let within : c.loop-record.record < record_count c.args.journal.now.entries = omega (arith, c.records-records.ensures) in
    end-illegal c.args.machine.now c.args.image.now c.args.journal.now.entries c.args.journal.now.outer c.loop-record.monitor c.loop-record.record c.loop-record.outer
    c.loop-record.invariant.played (omega arith) c.if-not-end_if_due.ensures

pub step_next-requires : goal.step_next-requires
step_next-requires g c =
    let within : c.loop-record.record < record_count c.args.journal.now.entries = omega (arith, c.records-records.ensures) in
    counted c.args.journal.now.entries c.loop-record.cursor (omega (arith, c.loop-record.invariant.cursor))

pub returns-in-Err-Illegal : goal.returns-in-Err-Illegal
returns-in-Err-Illegal g c =
    let entries = c.args.journal.now.entries in
    let found = next-found (records_of entries) c.loop-record.record c.loop-record.cursor c.step_next.new.cursor c.in-Err-Illegal.ensures.entry c.in-Err-Illegal.ensures.count c.in-Err-Illegal.ensures.next c.loop-record.invariant.cursor in
    entry-illegal c.args.machine.now c.args.image.now entries c.args.journal.now.outer c.end_if_due.new.monitor c.loop-record.record c.in-Err-Illegal.ensures.count c.in-Err-Illegal.ensures.entry c.loop-record.outer
    (played-due c.args.machine.now c.args.image.now entries c.args.journal.now.outer c.loop-record.monitor c.end_if_due.new.monitor c.loop-record.record c.loop-record.outer
    c.loop-record.invariant.played c.if-not-end_if_due.ensures.0)
    found.0 (rw c.in-Err-Illegal.field-0-is at c.in-Err-Illegal.ensures.steps)

pub come_closer-outer-requires : goal.come_closer-outer-requires
come_closer-outer-requires g c =
    let entries = c.args.journal.now.entries in
    let found = next-found (records_of entries) c.loop-record.record c.loop-record.cursor c.step_next.new.cursor c.in-Ok.ensures.entry c.in-Ok.ensures.count c.in-Ok.ensures.next c.loop-record.invariant.cursor in
    let played : IsPlayed c.args.machine.now c.args.image.now entries c.args.journal.now.outer c.end_if_due.new.monitor c.loop-record.record (not_due c.loop-record.outer) =
    played-due c.args.machine.now c.args.image.now entries c.args.journal.now.outer c.loop-record.monitor c.end_if_due.new.monitor c.loop-record.record c.loop-record.outer
    c.loop-record.invariant.played c.if-not-end_if_due.ensures.0 in
    rw c.in-Ok.ensures.counted
    (subst (HasLeft c.in-Ok.ensures.count) (sym c.if-not-end_if_due.ensures.1)
    (left-next (records_of entries) c.loop-record.record c.in-Ok.ensures.count c.in-Ok.ensures.entry c.loop-record.outer found.0 played.border))

pub loop-record-preserved : goal.loop-record-preserved
loop-record-preserved g c =
    let entries = c.args.journal.now.entries in
    let found = next-found (records_of entries) c.loop-record.record c.loop-record.cursor c.step_next.new.cursor c.in-Ok.ensures.entry c.in-Ok.ensures.count c.in-Ok.ensures.next c.loop-record.invariant.cursor in
    let played : IsPlayed c.args.machine.now c.args.image.now entries c.args.journal.now.outer c.end_if_due.new.monitor c.loop-record.record (not_due c.loop-record.outer) =
    played-due c.args.machine.now c.args.image.now entries c.args.journal.now.outer c.loop-record.monitor c.end_if_due.new.monitor c.loop-record.record c.loop-record.outer
    c.loop-record.invariant.played c.if-not-end_if_due.ensures.0 in
    let closer_is : c.come_closer-outer.result ≡ closer c.in-Ok.ensures.count (not_due c.loop-record.outer) =
    c.come_closer-outer.ensures ∙ ap (λ (n : ℕ). closer n c.end_if_due.new.outer) c.in-Ok.ensures.counted ∙ ap (λ (left : Option (ℕ × Why)). closer c.in-Ok.ensures.count left) c.if-not-end_if_due.ensures.1 in
    record {
      played =
          subst (IsPlayed c.args.machine.now c.args.image.now entries c.args.journal.now.outer c.step_next.new.monitor (c.loop-record.record + 1)) (sym closer_is)
          (played-record c.args.machine.now c.args.image.now entries c.args.journal.now.outer c.end_if_due.new.monitor c.step_next.new.monitor c.loop-record.record c.in-Ok.ensures.count
          c.in-Ok.ensures.entry c.loop-record.outer played found.0 c.in-Ok.ensures.steps);
      cursor = found.1;
    }

pub returns-then-not-end_if_due-2 : goal.returns-then-not-end_if_due-2
returns-then-not-end_if_due-2 g c =
    let entries = c.args.journal.now.entries in
    let all : c.loop-record.record ≡ c.records-records.result = omega arith in
    end-illegal c.args.machine.now c.args.image.now entries c.args.journal.now.outer c.loop-record.monitor c.records-records.result c.loop-record.outer
    (subst (λ (n : ℕ). IsPlayed c.args.machine.now c.args.image.now entries c.args.journal.now.outer c.loop-record.monitor n c.loop-record.outer) all c.loop-record.invariant.played)
    (omega (arith, c.records-records.ensures)) c.if-not-end_if_due-2.ensures

pub returns : goal.returns
returns g c =
    let entries = c.args.journal.now.entries in
    let all : c.loop-record.record ≡ record_count entries = omega (arith, c.records-records.ensures) in
    let before : IsPlayed c.args.machine.now c.args.image.now entries c.args.journal.now.outer c.loop-record.monitor (record_count entries) c.loop-record.outer =
    subst (λ (n : ℕ). IsPlayed c.args.machine.now c.args.image.now entries c.args.journal.now.outer c.loop-record.monitor n c.loop-record.outer) all c.loop-record.invariant.played in
    subst (λ (status : Option ℕ). ReplaysSo c.args.machine.now c.args.image.now c.args.journal.now (replayed.Legal status)) (sym c.status.ensures)
    (all-legal c.args.machine.now c.args.image.now entries c.args.journal.now.outer c.loop-record.outer c.end_if_due-2.new.monitor
    (subst (IsOuterEnd entries) c.outer-outer.ensures.outer c.outer-outer.ensures.line) before.border
    (played-due c.args.machine.now c.args.image.now entries c.args.journal.now.outer c.loop-record.monitor c.end_if_due-2.new.monitor (record_count entries) c.loop-record.outer
    before c.if-not-end_if_due-2.ensures.0))
