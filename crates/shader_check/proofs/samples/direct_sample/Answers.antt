use Rattle.shader_check.proofs.Positions.{direct_is}
use Rattle.shader_check.proofs.samples.direct_sample.Goals as goal

pub returns-clause-value : goal.returns-clause-value
returns-clause-value g c = direct_is c.args.known.now.code c.args.known.now.at c.count.result c.bound-second.result c.requires.direct c.count.ensures c.bound-second.ensures.value
