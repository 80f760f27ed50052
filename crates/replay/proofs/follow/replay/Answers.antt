use Rattle.std.proofs.Common.{refl}
use Rattle.replay.proofs.Going.{trace_of}
use Rattle.replay.proofs.follow.replay.Goals as goal

pub returns : goal.returns
returns g c =
    trace_of _ _ c.args.favoured c.args.machine c.args.steps c.in_ok-ending.field-0-0 c.follow.new.kept (record { lines = c.follow.new.kept.lines; ending = c.in_ok-ending.ending }) c.follow.ensures.logs refl c.in_ok-ending.ensures.run
