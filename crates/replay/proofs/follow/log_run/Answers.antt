use Rattle.std.proofs.Common.{refl}
use Rattle.replay.proofs.Going.{log_of}
use Rattle.replay.proofs.follow.log_run.Goals as goal

pub returns : goal.returns
returns g c =
    log_of _ _ c.args.favoured c.args.machine c.args.steps c.in_ok-steps.steps c.follow.new.kept (record { accesses = c.follow.new.kept.accesses; steps = c.in_ok-steps.steps; ending = c.in_ok-steps.ending })
    c.follow.ensures.logs refl refl c.in_ok-steps.ensures.run
