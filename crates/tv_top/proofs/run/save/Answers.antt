use Rattle.tv_top.proofs.Saved.{put-to}
use Rattle.tv_top.proofs.run.save.Goals as goal

pub returns : goal.returns
returns g c =
    rw c.in-Some.is
    (put-to (g.K.Sink.told c.in-Some.file) (g.K.Sink.told c.write_file.new.sink) c.args.journal.now c.write_file.result c.is_ok.result
    c.write_file.ensures.saved c.is_ok.ensures.value)
