use Rattle.std.proofs.Common.{ap, arith, ◌∙◌}
use Rattle.field_words.specs.Questions.{first_of}
use Rattle.shader_flow.specs.Site.{SiteModel}
use Rattle.shader_check.specs.Rules.{fact_questions}
use Rattle.shader_check.proofs.Tables.{index_first}
use Rattle.shader_check.proofs.facts.index_fault.Goals as goal

pub returns-clause-value : goal.returns-clause-value
returns-clause-value g c =
    let all = index_first c.args.code.now c.args.at in
    let fact = c.fact_fault-fact_number.ensures.value ∙ ap (λ (s : SiteModel). first_of (fact_questions s.code s.at)) c.here_at.ensures in
    grind (arith, all, c.lesser-2.ensures, c.lesser.ensures, c.flow_fault-flow_number.ensures, c.stream_fault-stream_number.ensures, fact)
