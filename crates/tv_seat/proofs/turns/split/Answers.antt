use Rattle.std.proofs.Common.{arith}
use Rattle.tv_seat.proofs.Seating.{splits}
use Rattle.tv_seat.proofs.turns.split.Goals as goal

pub split_seat-requires : goal.split_seat-requires
split_seat-requires g c =
    let sizes = c.requires.board in
    (c.requires.lock, omega arith, splits g.T.Kept.history g.T.Kept.tally _ _ c.requires.live c.requires.first c.requires.room)
