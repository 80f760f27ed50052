use Rattle.shader_check.proofs.Positions.{setup_is}
use Rattle.shader_check.proofs.samples.setup_sample.Goals as goal

pub returns : goal.returns
returns c =
    setup_is c.args.known.now.code c.args.known.now.at c.count-last.result c.args.kept.now c.number.result c.number-2.result c.number-3.result c.number-4.result
    c.requires.not_direct c.count-last.ensures c.requires.before c.number.ensures c.number-2.ensures c.number-3.ensures c.number-4.ensures
