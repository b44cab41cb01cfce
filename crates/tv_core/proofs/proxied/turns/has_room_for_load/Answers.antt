use Rattle.tv_core.proofs.Loads.{load_room, no_load_room}
use Rattle.tv_core.proofs.proxied.turns.has_room_for_load.Goals as goal

pub returns-then-not-reserve-clause-room : goal.returns-then-not-reserve-clause-room
returns-then-not-reserve-clause-room c = no_load_room c.args.journal.now c.reserve.new.self c.args.hart c.reserve.result c.if-not-reserve.true c.reserve.ensures

pub returns-clause-room : goal.returns-clause-room
returns-clause-room c =
    load_room c.args.journal.now c.reserve.new.self c.args.hart c.reserve.result c.has_room-room.result c.if-not-reserve.false c.reserve.ensures c.has_room-room.ensures
