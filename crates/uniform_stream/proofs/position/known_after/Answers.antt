use Rattle.std.proofs.Common.{◌∙◌}
use Rattle.uniform_stream.proofs.Restarts.{known_next}
use Rattle.uniform_stream.proofs.position.known_after.Goals as goal

pub returns : goal.returns
returns c =
    c.goes_on.ensures
    ∙ known_next c.args.site.now.code c.args.site.now.at c.args.before c.is_target.result c.is_restart.result c.requires.known c.is_target.ensures c.is_restart.ensures
