use Rattle.std.proofs.Common.{◌≡◌, length, arith}
use Rattle.tv_journal.specs.Stores.{held}
use Rattle.tv_journal.proofs.Room.{free-yes, free-no, held-length}
use Rattle.tv_journal.proofs.Journal.has_free.Goals as goal

pub returns-then-len-records : goal.returns-then-len-records
returns-then-len-records c =
    let store = c.self.inside.store in
    let size : c.len.result ≡ length store.payload.items = omega (arith, c.len.ensures) in
    rw (← c.self.view_is, size)
    (free-yes (held store) c.self.inside.end c.self.inside.events (length store.payload.items) c.self.inside.record_room c.self.inside.payload_room c.self.inside.reserved_records c.self.inside.reserved_bytes
    c.args.records c.args.bytes c.self.invariant.kept (omega (arith, c.len-2.ensures, held-length store, c.if-len-records.true)))

pub returns-else-len-records : goal.returns-else-len-records
returns-else-len-records c =
    let store = c.self.inside.store in
    rw (← c.self.view_is)
    (free-no (held store) c.self.inside.end c.self.inside.events (length store.payload.items) c.self.inside.record_room c.self.inside.payload_room c.self.inside.reserved_records c.self.inside.reserved_bytes
    c.args.records c.args.bytes c.len-2.result c.self.invariant.kept (omega (arith, c.len-2.ensures, held-length store)) (omega (arith, c.if-len-records.false)))
