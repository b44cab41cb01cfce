use Rattle.std.proofs.Common.{ℕ, Vec, Global, Ok, Err, ap}
use Rattle.tv_out.specs.declared.LoadFault.TheVariants as load_fault
use Rattle.tv_top.proofs.Loads.{loads-by}
use Rattle.tv_top.proofs.files.load.Goals as goal

pub returns-in-Ok-clause-loads : goal.returns-in-Ok-clause-loads
returns-in-Ok-clause-loads g c =
    loads-by (λ bytes. bytes.items) c.args.name.now c.args.role (g.S.Store.told c.args.store.now) (g.S.Store.told c.load.new.self) (Ok c.in-Ok.bytes)
    (c.in-Ok.ensures.ok, rw c.most.ensures at c.in-Ok.ensures.short) c.in-Ok.ensures.follows
    (record { files = c.in-Ok.ensures.files; later = c.in-Ok.ensures.later; elsewhere = c.in-Ok.ensures.elsewhere }) c.in-Ok.ensures.script

pub returns-in-Err-TooLong-clause-loads : goal.returns-in-Err-TooLong-clause-loads
returns-in-Err-TooLong-clause-loads g c =
    rw c.too_long.ensures
    (loads-by {T = Vec ℕ Global} (λ bytes. bytes.items) c.args.name.now c.args.role (g.S.Store.told c.args.store.now) (g.S.Store.told c.load.new.self) (Err load_fault.TooLong)
    (rw c.most.ensures at c.in-Err-TooLong.ensures.too_long (ap Err c.in-Err-TooLong.field-0-is)) (rw c.in-Err-TooLong.field-0-is at c.in-Err-TooLong.ensures.follows)
    (record { files = c.in-Err-TooLong.ensures.files; later = c.in-Err-TooLong.ensures.later; elsewhere = c.in-Err-TooLong.ensures.elsewhere }) c.in-Err-TooLong.ensures.script)

pub returns-in-Err-Failed-clause-loads : goal.returns-in-Err-Failed-clause-loads
returns-in-Err-Failed-clause-loads g c =
    loads-by {T = Vec ℕ Global} (λ bytes. bytes.items) c.args.name.now c.args.role (g.S.Store.told c.args.store.now) (g.S.Store.told c.load.new.self) (Err load_fault.Failed)
    (record { rose = c.in-Err-Failed.ensures.failed (ap Err c.in-Err-Failed.field-0-is); at_name = c.in-Err-Failed.ensures.at_name (ap Err c.in-Err-Failed.field-0-is) }) (rw c.in-Err-Failed.field-0-is at c.in-Err-Failed.ensures.follows)
    (record { files = c.in-Err-Failed.ensures.files; later = c.in-Err-Failed.ensures.later; elsewhere = c.in-Err-Failed.ensures.elsewhere }) c.in-Err-Failed.ensures.script

pub returns-in-Err-Memory-clause-loads : goal.returns-in-Err-Memory-clause-loads
returns-in-Err-Memory-clause-loads g c =
    loads-by {T = Vec ℕ Global} (λ bytes. bytes.items) c.args.name.now c.args.role (g.S.Store.told c.args.store.now) (g.S.Store.told c.load.new.self) (Err load_fault.Memory)
    tt (rw c.in-Err-Memory.field-0-is at c.in-Err-Memory.ensures.follows)
    (record { files = c.in-Err-Memory.ensures.files; later = c.in-Err-Memory.ensures.later; elsewhere = c.in-Err-Memory.ensures.elsewhere }) c.in-Err-Memory.ensures.script
