use Rattle.std.proofs.Common.{rules, ◌∙◌, ◌*◌, ap, refl, arith}
use Rattle.byteorder.specs.Endian.{little_number}
use Rattle.tv_script.proofs.Scripts.{reached_here}
use Rattle.tv_vring.proofs.Runs.{call_awaited, call_leads, call_passed, passed_on}
use Rattle.tv_balloon.specs.Moving.{moving}
use Rattle.tv_balloon.proofs.Pages.{rest_of, each_page_next, each_page_end}
use Rattle.tv_balloon.proofs.moves.move_pages.Goals as goal

pub loop-n-init : goal.loop-n-init
loop-n-init g c = (reached_here _ _ _ (g.met.P.Port.stays _), omega arith)

pub move_page-requires : goal.move_page-requires
move_page-requires g c = record { awaits = call_awaited _ g.P.Port.awaits _ _ _ _ _ _ g.met.P.Port.goes_on c.requires.awaits c.loop-n.invariant.0 (each_page_next (moving c.args.to) c.args.request.now c.loop-n.n c.read_u32-page.result (omega arith) (c.read_u32-page.ensures ∙ ap (little_number 4) (rest_of c.args.request.now (4 * c.loop-n.n)))) }

pub returns-in_err-move_page-clause-ran : goal.returns-in_err-move_page-clause-ran
returns-in_err-move_page-clause-ran g c = call_passed _ _ _ _ _ _ _ _ _ _ _ _ g.met.P.Port.joins c.loop-n.invariant.0 (each_page_next (moving c.args.to) c.args.request.now c.loop-n.n c.read_u32-page.result (omega arith) (c.read_u32-page.ensures ∙ ap (little_number 4) (rest_of c.args.request.now (4 * c.loop-n.n)))) c.in_err-move_page.ensures.ran (passed_on (λ r. r) c.from_residual.result c.in_err-move_page.field-0.0 refl c.from_residual.ensures)

pub loop-n-preserved : goal.loop-n-preserved
loop-n-preserved g c = (call_leads _ _ _ _ _ _ _ _ _ _ g.met.P.Port.joins c.loop-n.invariant.0 (each_page_next (moving c.args.to) c.args.request.now c.loop-n.n c.read_u32-page.result (omega arith) (c.read_u32-page.ensures ∙ ap (little_number 4) (rest_of c.args.request.now (4 * c.loop-n.n)))) c.in_ok-move_page.ensures.ran refl, search rules)

pub returns-clause-ran : goal.returns-clause-ran
returns-clause-ran g c = rw (← each_page_end (moving c.args.to) c.args.request.now c.loop-n.n (omega arith)) c.loop-n.invariant.0
