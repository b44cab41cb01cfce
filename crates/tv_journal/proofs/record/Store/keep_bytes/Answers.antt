use Rattle.std.proofs.Common.{arith}
use Rattle.tv_journal.proofs.Stored.{bytes-held, bytes-lie}
use Rattle.tv_journal.proofs.record.Store.keep_bytes.Goals as goal

pub returns-clause-kept : goal.returns-clause-kept
returns-clause-kept c =
    rw (c.in_ok-keep.ensures.kept, c.keep.ensures.payload, c.in_ok-extend.ensures.extended, c.extend.ensures.records)
    (bytes-held c.args.self.now.payload.items c.args.bytes.now c.args.self.now.records.items c.args.device _ c.len-at.result (omega (arith, c.requires.few)) (omega (arith, c.len-at.ensures)) c.requires.lies)

pub returns-clause-lies : goal.returns-clause-lies
returns-clause-lies c =
    rw (c.in_ok-keep.ensures.kept, c.keep.ensures.payload, c.in_ok-extend.ensures.extended, c.extend.ensures.records)
    (bytes-lie c.args.self.now.payload.items c.args.bytes.now c.args.self.now.records.items c.args.device _ c.len-at.result (omega (arith, c.requires.few)) (omega (arith, c.len-at.ensures)) c.requires.few c.requires.lies)
