use Rattle.std.proofs.Common.{◌≤◌, drop}
use Rattle.tv_script.specs.Scripts.{Reached}
use Rattle.tv_plan.specs.Balloon.{page_numbers, each_page}
use Rattle.tv_balloon.specs.Moving.{moving}
use Rattle.tv_balloon.proofs.moves.move_pages.Given as goal

abbrev pub invariant-loop-n : goal.invariant-loop-n
invariant-loop-n g l =
    Reached g.P.Port.moved l.fn.port (each_page (moving l.to) (page_numbers l.request)) l.port (each_page (moving l.to) (drop l.n (page_numbers l.request)))
    × (g.P.Port.left l.port ≤ g.P.Port.left l.fn.port)
