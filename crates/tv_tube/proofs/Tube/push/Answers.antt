use Rattle.std.proofs.Common.{◌<◌, ◌≤◌, length, rules}
use Rattle.tv_tube.proofs.Pieces.{whole, room_for, tube_more, pushed_is, not_pushed}
use Rattle.tv_tube.proofs.Tube.push.Goals as goal

pub invariant_of-self : goal.invariant_of-self
invariant_of-self c =
    let lengths = c.self.inside.lengths in
    let bytes = c.self.inside.bytes in
    let message = c.args.bytes.now in
    let free : length lengths.items < lengths.capacity = search rules in
    let room = room_for lengths bytes (length message) c.self.invariant c.requires free in
    rw (c.in-Ok.ensures.ok, c.fill_from_slice.ensures.items, whole bytes.items message bytes.capacity c.fill_from_slice.result room c.fill_from_slice.ensures.count)
    (tube_more lengths bytes message c.self.invariant c.requires free)

pub returns-in-Ok : goal.returns-in-Ok
returns-in-Ok c =
    let lengths = c.self.inside.lengths in
    let bytes = c.self.inside.bytes in
    let message = c.args.bytes.now in
    let free : length lengths.items < lengths.capacity = search rules in
    let room = room_for lengths bytes (length message) c.self.invariant c.requires free in
    rw (← c.self.view_is, c.in-Ok.ensures.ok, c.fill_from_slice.ensures.items, whole bytes.items message bytes.capacity c.fill_from_slice.result room c.fill_from_slice.ensures.count)
    (pushed_is lengths.items bytes.items message lengths.capacity c.self.invariant.held free)

pub returns-in-Err : goal.returns-in-Err
returns-in-Err c =
    let lengths = c.self.inside.lengths in
    let bytes = c.self.inside.bytes in
    let full : lengths.capacity ≤ length lengths.items = search rules in
    rw (← c.self.view_is, c.in-Err.ensures.err.1)
    (not_pushed lengths.items bytes.items c.args.bytes.now lengths.capacity full)
