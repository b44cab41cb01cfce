use Rattle.std.proofs.Common.{rules, subst, List}
use Rattle.tv_spec.specs.declared.Due.{Due}
use Rattle.tv_spec.specs.Devices.{NoLoadDue}
use Rattle.tv_spec.specs.State.{DeviceRun}
use Rattle.tv_model.proofs.Taken.{slot_taken}
use Rattle.tv_model.proofs.slot.Slot.take.Goals as goal

pub returns-clause-run : goal.returns-clause-run
returns-clause-run g c =
    let v : DeviceRun = record {
      made = c.self.inside.made.items;
      acted = c.self.inside.acted;
      device = g.D.Device.state c.self.inside.device;
      got = c.self.inside.got.items;
      phase = c.self.inside.phase;
      due = c.self.inside.due.items;
      replied = c.self.inside.replied.items;
    } in
    let free : NoLoadDue c.deref.result.now = c.has_no_load.ensures.0 (search rules) in
    rw (← c.self.view_is)
    (slot_taken v c.index.result.now (g.D.Device.state c.in_ok-device.device) (g.D.Device.state c.act-acted.new.self) c.clear.new.self.items c.answer.new.due.items c.self.inside.acted c.act-acted.result.value c.answer.result
    c.clear.ensures.items (search rules) (search rules) (subst (λ (ws : List Due). NoLoadDue ws) c.deref.ensures.value free) (search rules) (search rules) (search rules) (search rules) (search rules) (search rules) c.answer.ensures.reached)
