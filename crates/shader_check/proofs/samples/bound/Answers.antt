use Rattle.std.proofs.Common.{ap, ◌∙◌}
use Rattle.std.specs.Option.{option_to_list}
use Rattle.qpu_isa.specs.Terms.{first_register}
use Rattle.clamp_facts.specs.Readings.{bound_in}
use Rattle.shader_check.proofs.Positions.{bound_some, bound_none}
use Rattle.shader_check.proofs.samples.bound.Goals as goal

pub returns-in-Some-clause-value : goal.returns-in-Some-clause-value
returns-in-Some-clause-value g c =
    ap option_to_list (c.bound.ensures ∙ ap bound_in c.look.ensures.value) ∙ bound_some c.args.known.now.code c.args.known.now.at c.in-Some.reg (c.in-Some.ensures.value ∙ ap first_register c.word.ensures)

pub returns-in-None-clause-value : goal.returns-in-None-clause-value
returns-in-None-clause-value g c = bound_none c.args.known.now.code c.args.known.now.at (c.in-None.ensures.value ∙ ap first_register c.word.ensures)
