use Rattle.tv_script.specs.Services.{next_after, told_after}
use Rattle.tv_script.proofs.Serving.{awaits_as, served_as}
use Rattle.tv_plan.specs.Devices.{DeviceState, next, told}
use Rattle.tv_plan.specs.Balloon.{balloon_plan}
use Rattle.tv_balloon.specs.Parts.{state_of}
use Rattle.tv_balloon.proofs.balloon.BalloonDevice.serve.Goals as goal

pub serve_rounds-requires : goal.serve_rounds-requires
unfolding next told
serve_rounds-requires g c =
    record {
      awaits = awaits_as (g.P.Port.awaits c.args.port.now) DeviceState.Balloon (next_after balloon_plan (state_of c.args.self.now)) (told_after balloon_plan (state_of c.args.self.now)) c.requires.awaits;
    }

pub returns : goal.returns
unfolding next told
returns g c =
    record {
      served = served_as g.P.Port.moved g.P.Port.over g.P.Port.stopped _ _ DeviceState.Balloon (next_after balloon_plan (state_of c.args.self.now)) (told_after balloon_plan (state_of c.args.self.now)) _ _ c.serve_rounds.ensures;
    }
