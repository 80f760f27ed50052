use Rattle.std.proofs.Common.{◌&&◌, sym, ap, ◌∙◌}
use Rattle.qpu_isa.specs.Terms.{passes, first_register, is_min_with_uniform}
use Rattle.shader_flow.specs.Flow.{word}
use Rattle.clamp_facts.specs.{Facts.is_not_negative, Facts.makes_clamp, Readings.is_from_zero}
use Rattle.clamp_facts.proofs.Carriers.{not_negative_is}
use Rattle.clamp_facts.proofs.upkeep.is_clamp.Goals as goal

pub returns-in-Some-clause-value : goal.returns-in-Some-clause-value
unfolding makes_clamp
returns-in-Some-clause-value g c =
    let code = c.args.known.now.code in
    let at = c.args.known.now.at in
    let is = sym (c.is_min_with_uniform.ensures ∙ ap is_min_with_uniform c.word.ensures) ∙ c.if-not-is_min_with_uniform.false in
    let named = sym (c.in-Some.ensures.value ∙ ap first_register c.word-2.ensures) in
    c.is_from_zero.ensures
    ∙ (ap is_from_zero c.look.ensures.value ∙ (not_negative_is code at c.in-Some.reg
    ∙ sym (ap (λ b. b && passes (first_register (word code at)) (is_not_negative code at)) is ∙ ap (λ o. passes o (is_not_negative code at)) named)))
