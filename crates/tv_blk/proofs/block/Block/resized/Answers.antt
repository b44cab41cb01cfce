use Rattle.std.proofs.Common.{subst, sym}
use Rattle.tv_blk.proofs.block.Block.resized.Goals as goal
use Rattle.tv_blk.specs.Parts.{state_of}
use Rattle.tv_plan.specs.Block.{BlockState, resize_told, resize_verdict}
use Rattle.tv_script.proofs.Scripts.{awaits_told}
use Rattle.tv_script.proofs.Turns.{turned_told}
use Rattle.tv_script.specs.Scripts.{AwaitsAll}
use Rattle.tv_script.specs.Services.{TurnedSo}

pub tell_driver-requires : goal.tell_driver-requires
tell_driver-requires g c =
    record {
      awaits = subst (λ (s : BlockState). AwaitsAll (g.P.Port.awaits c.tell.new.self) (resize_told s)) (sym c.change_sectors.ensures)
          (awaits_told _ g.P.Port.awaits _ _ _ _ _ g.met.P.Port.goes_on c.requires.awaits c.tell.ensures.moved c.verdict.ensures);
    }

pub returns : goal.returns
returns g c =
    record {
      turned = turned_told g.P.Port.moved g.P.Port.over g.P.Port.stopped _ _ _ (resize_verdict c.args.tag 0) c.verdict.result _ (state_of c.tell_driver.new.self) c.tell_driver.result g.met.P.Port.joins c.tell.ensures.moved c.verdict.ensures
          (subst (λ (s : BlockState). TurnedSo g.P.Port.moved g.P.Port.over g.P.Port.stopped c.tell.new.self (resize_told s) c.tell_driver.new.port (state_of c.tell_driver.new.self) c.tell_driver.result) c.change_sectors.ensures c.tell_driver.ensures.turned);
    }
