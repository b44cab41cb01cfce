use Rattle.std.proofs.Common.{codes, ◌++◌}
use Rattle.tv_top.proofs.Said.{gone-cut, gone-on, gone-last, said-long}
use Rattle.tv_top.proofs.report.say_in_parts.Goals as goal

pub returns-in_err-put_all : goal.returns-in_err-put_all
returns-in_err-put_all g c =
    let text = c.args.text.now in
    let more = c.args.more.now in
    let end = c.args.end.now in
    said-long _ _ _ c.requires
    (gone-cut (codes "tv: ") (text ++ (more ++ end)) (g.E.Sink.told c.args.err.now) (g.E.Sink.told c.put_all.new.sink) c.in_err-put_all.ensures.cut c.in_err-put_all.ensures.failed)

pub returns-in_err-put_all-2 : goal.returns-in_err-put_all-2
returns-in_err-put_all-2 g c =
    let text = c.args.text.now in
    let more = c.args.more.now in
    let end = c.args.end.now in
    said-long _ _ _ c.requires
    (gone-on (codes "tv: ") (text ++ (more ++ end)) (g.E.Sink.told c.args.err.now) (g.E.Sink.told c.put_all.new.sink) (g.E.Sink.told c.put_all-2.new.sink)
    c.in_ok-put_all.ensures.all c.in_ok-put_all.ensures.later
    (gone-cut text (more ++ end) (g.E.Sink.told c.put_all.new.sink) (g.E.Sink.told c.put_all-2.new.sink) c.in_err-put_all-2.ensures.cut c.in_err-put_all-2.ensures.failed))

pub returns-in_err-put_all-3 : goal.returns-in_err-put_all-3
returns-in_err-put_all-3 g c =
    let text = c.args.text.now in
    let more = c.args.more.now in
    let end = c.args.end.now in
    said-long _ _ _ c.requires
    (gone-on (codes "tv: ") (text ++ (more ++ end)) (g.E.Sink.told c.args.err.now) (g.E.Sink.told c.put_all.new.sink) (g.E.Sink.told c.put_all-3.new.sink)
    c.in_ok-put_all.ensures.all c.in_ok-put_all.ensures.later
    (gone-on text (more ++ end) (g.E.Sink.told c.put_all.new.sink) (g.E.Sink.told c.put_all-2.new.sink) (g.E.Sink.told c.put_all-3.new.sink)
    c.in_ok-put_all-2.ensures.all c.in_ok-put_all-2.ensures.later
    (gone-cut more end (g.E.Sink.told c.put_all-2.new.sink) (g.E.Sink.told c.put_all-3.new.sink) c.in_err-put_all-3.ensures.cut c.in_err-put_all-3.ensures.failed)))

pub returns : goal.returns
returns g c =
    let text = c.args.text.now in
    let more = c.args.more.now in
    let end = c.args.end.now in
    said-long _ _ _ c.requires
    (gone-on (codes "tv: ") (text ++ (more ++ end)) (g.E.Sink.told c.args.err.now) (g.E.Sink.told c.put_all.new.sink) (g.E.Sink.told c.put_all-4.new.sink)
    c.in_ok-put_all.ensures.all c.in_ok-put_all.ensures.later
    (gone-on text (more ++ end) (g.E.Sink.told c.put_all.new.sink) (g.E.Sink.told c.put_all-2.new.sink) (g.E.Sink.told c.put_all-4.new.sink)
    c.in_ok-put_all-2.ensures.all c.in_ok-put_all-2.ensures.later
    (gone-on more end (g.E.Sink.told c.put_all-2.new.sink) (g.E.Sink.told c.put_all-3.new.sink) (g.E.Sink.told c.put_all-4.new.sink)
    c.in_ok-put_all-3.ensures.all c.in_ok-put_all-3.ensures.later
    (gone-last c.put_all-4.result end (g.E.Sink.told c.put_all-3.new.sink) (g.E.Sink.told c.put_all-4.new.sink)
    c.put_all-4.ensures.all c.put_all-4.ensures.cut c.put_all-4.ensures.failed))))
