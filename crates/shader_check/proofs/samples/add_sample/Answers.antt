use Rattle.std.proofs.Common.{◌++◌, [], ◌∷◌, map, sym, ap, ◌∙◌}
use Rattle.shader_flow.specs.Bounded.{indexes}
use Rattle.shader_check.specs.Info.{asks, is_sample, sample_of}
use Rattle.shader_check.proofs.Positions.{samples_more, samples_same}
use Rattle.shader_check.proofs.samples.add_sample.Goals as goal

pub returns-then-not-asks-clause-samples : goal.returns-then-not-asks-clause-samples
returns-then-not-asks-clause-samples g c = c.requires.before ∙ sym (samples_same c.args.here.now.code c.args.here.now.at (sym (c.asks.ensures ∙ ap asks c.word.ensures) ∙ c.if-not-asks.true))

pub returns-clause-samples : goal.returns-clause-samples
returns-clause-samples g c =
    c.in_ok-push.ensures.items
    ∙ ap (λ xs. xs ++ (c.asked_sample-sample.result ∷ [])) c.requires.before
    ∙ ap (λ s. map (sample_of c.args.here.now.code) (indexes c.args.here.now.at (is_sample c.args.here.now.code)) ++ (s ∷ [])) c.asked_sample-sample.ensures.value
    ∙ sym (samples_more c.args.here.now.code c.args.here.now.at c.requires.checked (sym (c.asks.ensures ∙ ap asks c.word.ensures) ∙ c.if-not-asks.false))
