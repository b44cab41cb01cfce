use Rattle.std.proofs.Common.{◌≡◌, ◌∙◌, ◌+◌, ◌≤◌, inl, inr, ℕ, List, true, false, arith, ap, length, subst, sym}
use Rattle.tv_journal.specs.Journals.{JournalState}
use Rattle.tv_side.specs.Sides.{SideState, new_side}
use Rattle.tv_spec.proofs.Memory.{IsToDevice}
use Rattle.tv_core.specs.Bursts.{AreGates, is_held_up}
use Rattle.tv_core.specs.Fields.{parts_of}
use Rattle.tv_core.specs.Holds.{Parts, seen}
use Rattle.tv_core.specs.Seen.{Seen, HasHart}
use Rattle.tv_core.proofs.Asking.{IsAsked, asked_none, byte_call, made_call, ready_call, room_call, side_call}
use Rattle.tv_core.proofs.Halting.{full_turn, looked_there, stalls_there}
use Rattle.tv_core.proofs.Room.{entries_few}
use Rattle.tv_core.proofs.proxied.Proxied.burst.Goals as goal
use Rattle.tv_core.proofs.proxied.Proxied.burst.Goals.{then-has_room, else-has_room}

pub is_held_up-requires : goal.is_held_up-requires
is_held_up-requires c =
    let asked : IsAsked (parts_of c.self.inside) c.args.hart c.args.most c.if-has_room.asked c.has_room_for_load-room.result c.gates-closed.result = record {
      ready = ready_call (parts_of c.self.inside) c.args.hart c.get.result c.from.result c.has_ended.result c.self.invariant (subst (λ (p : Seen). HasHart p c.args.hart) (sym c.self.view_is) c.requires.hart)
          c.get.ensures.number c.get.ensures.bound c.from.ensures c.if-has_ended.false c.has_ended.ensures.1 c.if-self-from.false;
      asks = elim c.if-has_room.branch [
        | then-has_room w ↦ inl (w.asked-is ∙ w.from-asked.ensures, sym c.has_room.ensures ∙ w.if-has_room.true)
        | else-has_room w ↦ inr (w.asked-is, sym c.has_room.ensures ∙ w.if-has_room.false)
      ];
      room_is = c.has_room_for_load-room.ensures.room;
      gates = subst (λ (xs : List SideState). AreGates c.self.inside.ring.items xs c.has_room_for_load-room.result c.gates-closed.result) c.deref.ensures.value c.gates-closed.ensures;
    } in
    let none = asked_none (parts_of c.self.inside) c.args.hart c.args.most c.if-has_room.asked c.burst-made.result.0 c.has_room_for_load-room.result c.gates-closed.result c.burst-made.new.self c.burst-made.result.1 c.looks.result
    asked c.requires.some c.burst-made.ensures c.if-made-eq0.true c.looks.ensures in
    subst (λ (xs : List SideState). IsToDevice (length xs) c.looks.result) (sym c.deref-then-made-eq0.ensures.value)
    (looked_there (parts_of c.self.inside) c.args.hart c.if-has_room.asked c.has_room_for_load-room.result c.gates-closed.result c.burst-made.new.self c.looks.result asked.ready none)

pub returns-then-is_held_up : goal.returns-then-is_held_up
returns-then-is_held_up c =
    let asked : IsAsked (parts_of c.self.inside) c.args.hart c.args.most c.if-has_room.asked c.has_room_for_load-room.result c.gates-closed.result = record {
      ready = ready_call (parts_of c.self.inside) c.args.hart c.get.result c.from.result c.has_ended.result c.self.invariant (subst (λ (p : Seen). HasHart p c.args.hart) (sym c.self.view_is) c.requires.hart)
          c.get.ensures.number c.get.ensures.bound c.from.ensures c.if-has_ended.false c.has_ended.ensures.1 c.if-self-from.false;
      asks = elim c.if-has_room.branch [
        | then-has_room w ↦ inl (w.asked-is ∙ w.from-asked.ensures, sym c.has_room.ensures ∙ w.if-has_room.true)
        | else-has_room w ↦ inr (w.asked-is, sym c.has_room.ensures ∙ w.if-has_room.false)
      ];
      room_is = c.has_room_for_load-room.ensures.room;
      gates = subst (λ (xs : List SideState). AreGates c.self.inside.ring.items xs c.has_room_for_load-room.result c.gates-closed.result) c.deref.ensures.value c.gates-closed.ensures;
    } in
    let none = asked_none (parts_of c.self.inside) c.args.hart c.args.most c.if-has_room.asked c.burst-made.result.0 c.has_room_for_load-room.result c.gates-closed.result c.burst-made.new.self c.burst-made.result.1 c.looks.result
    asked c.requires.some c.burst-made.ensures c.if-made-eq0.true c.looks.ensures in
    let held : is_held_up c.self.inside.ring.items c.self.inside.sides.items (new_side 0) c.looks.result ≡ true =
    subst (λ (xs : List SideState). is_held_up c.self.inside.ring.items xs (new_side 0) c.looks.result ≡ true) c.deref-then-made-eq0.ensures.value
    (sym (c.is_held_up.ensures (new_side 0)) ∙ c.if-is_held_up.true) in
    rw (← c.self.view_is) (
      asked.ready.running,
      asked.ready.free,
      stalls_there (parts_of c.self.inside) c.args.hart c.if-has_room.asked c.has_room_for_load-room.result c.gates-closed.result c.burst-made.new.self c.looks.result (new_side 0) asked.ready none held,
      ap (λ (j : JournalState). let p : Parts = record (parts_of c.self.inside) { journal = j } in seen p) c.has_room_for_load-room.ensures.same,
    )

pub invariant_of-self-then-made-eq0 : goal.invariant_of-self-then-made-eq0
invariant_of-self-then-made-eq0 c =
    let asked : IsAsked (parts_of c.self.inside) c.args.hart c.args.most c.if-has_room.asked c.has_room_for_load-room.result c.gates-closed.result = record {
      ready = ready_call (parts_of c.self.inside) c.args.hart c.get.result c.from.result c.has_ended.result c.self.invariant (subst (λ (p : Seen). HasHart p c.args.hart) (sym c.self.view_is) c.requires.hart)
          c.get.ensures.number c.get.ensures.bound c.from.ensures c.if-has_ended.false c.has_ended.ensures.1 c.if-self-from.false;
      asks = elim c.if-has_room.branch [
        | then-has_room w ↦ inl (w.asked-is ∙ w.from-asked.ensures, sym c.has_room.ensures ∙ w.if-has_room.true)
        | else-has_room w ↦ inr (w.asked-is, sym c.has_room.ensures ∙ w.if-has_room.false)
      ];
      room_is = c.has_room_for_load-room.ensures.room;
      gates = subst (λ (xs : List SideState). AreGates c.self.inside.ring.items xs c.has_room_for_load-room.result c.gates-closed.result) c.deref.ensures.value c.gates-closed.ensures;
    } in
    let none = asked_none (parts_of c.self.inside) c.args.hart c.args.most c.if-has_room.asked c.burst-made.result.0 c.has_room_for_load-room.result c.gates-closed.result c.burst-made.new.self c.burst-made.result.1 c.looks.result
    asked c.requires.some c.burst-made.ensures c.if-made-eq0.true c.looks.ensures in
    let held : is_held_up c.self.inside.ring.items c.self.inside.sides.items (new_side 0) c.looks.result ≡ false =
    subst (λ (xs : List SideState). is_held_up c.self.inside.ring.items xs (new_side 0) c.looks.result ≡ false) c.deref-then-made-eq0.ensures.value
    (sym (c.is_held_up.ensures (new_side 0)) ∙ c.if-is_held_up.false) in
    (full_turn (parts_of c.self.inside) c.args.hart c.if-has_room.asked (c.from-then-made-eq0.result + 1) c.has_room_for_load-room.result c.gates-closed.result c.burst-made.new.self c.fill.new.guest c.looks.result (new_side 0)
    c.has_room_for_load-room.new.journal c.fill.new.journal asked.ready none held c.has_room_for_load-room.ensures.same c.fill.ensures.guest c.fill.ensures.journal
    (ap (λ (n : ℕ). n + 1) (c.from-then-made-eq0.ensures ∙ c.get-then-made-eq0.ensures.number))).0

pub returns-then-made-eq0 : goal.returns-then-made-eq0
returns-then-made-eq0 c =
    let asked : IsAsked (parts_of c.self.inside) c.args.hart c.args.most c.if-has_room.asked c.has_room_for_load-room.result c.gates-closed.result = record {
      ready = ready_call (parts_of c.self.inside) c.args.hart c.get.result c.from.result c.has_ended.result c.self.invariant (subst (λ (p : Seen). HasHart p c.args.hart) (sym c.self.view_is) c.requires.hart)
          c.get.ensures.number c.get.ensures.bound c.from.ensures c.if-has_ended.false c.has_ended.ensures.1 c.if-self-from.false;
      asks = elim c.if-has_room.branch [
        | then-has_room w ↦ inl (w.asked-is ∙ w.from-asked.ensures, sym c.has_room.ensures ∙ w.if-has_room.true)
        | else-has_room w ↦ inr (w.asked-is, sym c.has_room.ensures ∙ w.if-has_room.false)
      ];
      room_is = c.has_room_for_load-room.ensures.room;
      gates = subst (λ (xs : List SideState). AreGates c.self.inside.ring.items xs c.has_room_for_load-room.result c.gates-closed.result) c.deref.ensures.value c.gates-closed.ensures;
    } in
    let none = asked_none (parts_of c.self.inside) c.args.hart c.args.most c.if-has_room.asked c.burst-made.result.0 c.has_room_for_load-room.result c.gates-closed.result c.burst-made.new.self c.burst-made.result.1 c.looks.result
    asked c.requires.some c.burst-made.ensures c.if-made-eq0.true c.looks.ensures in
    let held : is_held_up c.self.inside.ring.items c.self.inside.sides.items (new_side 0) c.looks.result ≡ false =
    subst (λ (xs : List SideState). is_held_up c.self.inside.ring.items xs (new_side 0) c.looks.result ≡ false) c.deref-then-made-eq0.ensures.value
    (sym (c.is_held_up.ensures (new_side 0)) ∙ c.if-is_held_up.false) in
    rw (← c.self.view_is)
    (full_turn (parts_of c.self.inside) c.args.hart c.if-has_room.asked (c.from-then-made-eq0.result + 1) c.has_room_for_load-room.result c.gates-closed.result c.burst-made.new.self c.fill.new.guest c.looks.result (new_side 0)
    c.has_room_for_load-room.new.journal c.fill.new.journal asked.ready none held c.has_room_for_load-room.ensures.same c.fill.ensures.guest c.fill.ensures.journal
    (ap (λ (n : ℕ). n + 1) (c.from-then-made-eq0.ensures ∙ c.get-then-made-eq0.ensures.number))).1

pub push_events-added-requires-clause-few : goal.push_events-added-requires-clause-few
push_events-added-requires-clause-few c =
    let few = entries_few (parts_of c.self.inside) c.self.invariant in
    let made = c.burst-made.ensures.few in
    let asked : c.if-has_room.asked ≤ c.args.most =
    elim c.if-has_room.branch [
      | then-has_room w ↦ rw (w.asked-is, w.from-asked.ensures) (omega arith)
      | else-has_room w ↦ rw w.asked-is (omega arith)
    ] in
    let most = c.ranges.most.fits in
    rw c.has_room_for_load-room.ensures.same (omega (arith, few, made, asked, most))

pub show-requires : goal.show-requires
show-requires c =
    let asked : IsAsked (parts_of c.self.inside) c.args.hart c.args.most c.if-has_room.asked c.has_room_for_load-room.result c.gates-closed.result = record {
      ready = ready_call (parts_of c.self.inside) c.args.hart c.get.result c.from.result c.has_ended.result c.self.invariant (subst (λ (p : Seen). HasHart p c.args.hart) (sym c.self.view_is) c.requires.hart)
          c.get.ensures.number c.get.ensures.bound c.from.ensures c.if-has_ended.false c.has_ended.ensures.1 c.if-self-from.false;
      asks = elim c.if-has_room.branch [
        | then-has_room w ↦ inl (w.asked-is ∙ w.from-asked.ensures, sym c.has_room.ensures ∙ w.if-has_room.true)
        | else-has_room w ↦ inr (w.asked-is, sym c.has_room.ensures ∙ w.if-has_room.false)
      ];
      room_is = c.has_room_for_load-room.ensures.room;
      gates = subst (λ (xs : List SideState). AreGates c.self.inside.ring.items xs c.has_room_for_load-room.result c.gates-closed.result) c.deref.ensures.value c.gates-closed.ensures;
    } in
    byte_call (parts_of c.self.inside) c.args.hart c.args.most c.if-has_room.asked c.burst-made.result.0 c.has_room_for_load-room.result c.gates-closed.result c.burst-made.new.self c.burst-made.result.1
    asked c.burst-made.ensures c.if-made-eq0.false

pub issue-requires : goal.issue-requires
issue-requires c =
    let asked : IsAsked (parts_of c.self.inside) c.args.hart c.args.most c.if-has_room.asked c.has_room_for_load-room.result c.gates-closed.result = record {
      ready = ready_call (parts_of c.self.inside) c.args.hart c.get.result c.from.result c.has_ended.result c.self.invariant (subst (λ (p : Seen). HasHart p c.args.hart) (sym c.self.view_is) c.requires.hart)
          c.get.ensures.number c.get.ensures.bound c.from.ensures c.if-has_ended.false c.has_ended.ensures.1 c.if-self-from.false;
      asks = elim c.if-has_room.branch [
        | then-has_room w ↦ inl (w.asked-is ∙ w.from-asked.ensures, sym c.has_room.ensures ∙ w.if-has_room.true)
        | else-has_room w ↦ inr (w.asked-is, sym c.has_room.ensures ∙ w.if-has_room.false)
      ];
      room_is = c.has_room_for_load-room.ensures.room;
      gates = subst (λ (xs : List SideState). AreGates c.self.inside.ring.items xs c.has_room_for_load-room.result c.gates-closed.result) c.deref.ensures.value c.gates-closed.ensures;
    } in
    side_call (parts_of c.self.inside) c.args.hart c.args.most c.if-has_room.asked c.burst-made.result.0 c.has_room_for_load-room.result c.gates-closed.result c.burst-made.new.self c.burst-made.result.1
    asked c.burst-made.ensures c.if-made-eq0.false

pub hold-requires : goal.hold-requires
hold-requires c =
    let asked : IsAsked (parts_of c.self.inside) c.args.hart c.args.most c.if-has_room.asked c.has_room_for_load-room.result c.gates-closed.result = record {
      ready = ready_call (parts_of c.self.inside) c.args.hart c.get.result c.from.result c.has_ended.result c.self.invariant (subst (λ (p : Seen). HasHart p c.args.hart) (sym c.self.view_is) c.requires.hart)
          c.get.ensures.number c.get.ensures.bound c.from.ensures c.if-has_ended.false c.has_ended.ensures.1 c.if-self-from.false;
      asks = elim c.if-has_room.branch [
        | then-has_room w ↦ inl (w.asked-is ∙ w.from-asked.ensures, sym c.has_room.ensures ∙ w.if-has_room.true)
        | else-has_room w ↦ inr (w.asked-is, sym c.has_room.ensures ∙ w.if-has_room.false)
      ];
      room_is = c.has_room_for_load-room.ensures.room;
      gates = subst (λ (xs : List SideState). AreGates c.self.inside.ring.items xs c.has_room_for_load-room.result c.gates-closed.result) c.deref.ensures.value c.gates-closed.ensures;
    } in
    room_call (parts_of c.self.inside) c.args.hart c.args.most c.if-has_room.asked c.burst-made.result.0 c.has_room_for_load-room.result c.gates-closed.result c.burst-made.new.self c.burst-made.result.1
    c.has_room_for_load-room.new.journal c.push_events-added.new.self c.push_events-added.result asked c.burst-made.ensures c.if-made-eq0.false c.has_room_for_load-room.ensures.same c.push_events-added.ensures

pub invariant_of-self-2 : goal.invariant_of-self-2
invariant_of-self-2 c =
    let asked : IsAsked (parts_of c.self.inside) c.args.hart c.args.most c.if-has_room.asked c.has_room_for_load-room.result c.gates-closed.result = record {
      ready = ready_call (parts_of c.self.inside) c.args.hart c.get.result c.from.result c.has_ended.result c.self.invariant (subst (λ (p : Seen). HasHart p c.args.hart) (sym c.self.view_is) c.requires.hart)
          c.get.ensures.number c.get.ensures.bound c.from.ensures c.if-has_ended.false c.has_ended.ensures.1 c.if-self-from.false;
      asks = elim c.if-has_room.branch [
        | then-has_room w ↦ inl (w.asked-is ∙ w.from-asked.ensures, sym c.has_room.ensures ∙ w.if-has_room.true)
        | else-has_room w ↦ inr (w.asked-is, sym c.has_room.ensures ∙ w.if-has_room.false)
      ];
      room_is = c.has_room_for_load-room.ensures.room;
      gates = subst (λ (xs : List SideState). AreGates c.self.inside.ring.items xs c.has_room_for_load-room.result c.gates-closed.result) c.deref.ensures.value c.gates-closed.ensures;
    } in
    (made_call (parts_of c.self.inside) c.args.hart c.args.most c.if-has_room.asked c.burst-made.result.0 c.has_room_for_load-room.result c.gates-closed.result c.burst-made.new.self c.burst-made.result.1
    c.has_room_for_load-room.new.journal c.push_events-added.new.self c.hold.new.journal c.push_events-added.result c.issue.new.sides.items c.hold.new.waits c.show.new.ring
    asked c.burst-made.ensures c.if-made-eq0.false c.has_room_for_load-room.ensures.same c.push_events-added.ensures c.show.ensures c.issue.ensures c.hold.ensures.waits c.hold.ensures.journal).0

pub returns : goal.returns
returns c =
    let asked : IsAsked (parts_of c.self.inside) c.args.hart c.args.most c.if-has_room.asked c.has_room_for_load-room.result c.gates-closed.result = record {
      ready = ready_call (parts_of c.self.inside) c.args.hart c.get.result c.from.result c.has_ended.result c.self.invariant (subst (λ (p : Seen). HasHart p c.args.hart) (sym c.self.view_is) c.requires.hart)
          c.get.ensures.number c.get.ensures.bound c.from.ensures c.if-has_ended.false c.has_ended.ensures.1 c.if-self-from.false;
      asks = elim c.if-has_room.branch [
        | then-has_room w ↦ inl (w.asked-is ∙ w.from-asked.ensures, sym c.has_room.ensures ∙ w.if-has_room.true)
        | else-has_room w ↦ inr (w.asked-is, sym c.has_room.ensures ∙ w.if-has_room.false)
      ];
      room_is = c.has_room_for_load-room.ensures.room;
      gates = subst (λ (xs : List SideState). AreGates c.self.inside.ring.items xs c.has_room_for_load-room.result c.gates-closed.result) c.deref.ensures.value c.gates-closed.ensures;
    } in
    rw (← c.self.view_is)
    (made_call (parts_of c.self.inside) c.args.hart c.args.most c.if-has_room.asked c.burst-made.result.0 c.has_room_for_load-room.result c.gates-closed.result c.burst-made.new.self c.burst-made.result.1
    c.has_room_for_load-room.new.journal c.push_events-added.new.self c.hold.new.journal c.push_events-added.result c.issue.new.sides.items c.hold.new.waits c.show.new.ring
    asked c.burst-made.ensures c.if-made-eq0.false c.has_room_for_load-room.ensures.same c.push_events-added.ensures c.show.ensures c.issue.ensures c.hold.ensures.waits c.hold.ensures.journal).1
