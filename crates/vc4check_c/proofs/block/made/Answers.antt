-- A shader of so few bytes has few samples and few address words.
use Rattle.std.proofs.Common.{◌<◌, ◌^◌, length, sym, ap, subst}
use Rattle.job_check.specs.Shaders.{report_of}
use Rattle.vc4check_c.proofs.Blocks.{samples_fit, addresses_fit}
use Rattle.vc4check_c.proofs.block.made.Goals as goal

pub block_of-requires-clause-samples : goal.block_of-requires-clause-samples
unfolding report_of
block_of-requires-clause-samples c = subst (λ s. length s < 2 ^ 32) (sym (ap (λ m. m.samples) c.in_ok-info.ensures.answers.1)) (samples_fit c.args.code.now c.requires)

pub block_of-requires-clause-address_words : goal.block_of-requires-clause-address_words
unfolding report_of
block_of-requires-clause-address_words c = subst (λ s. length s < 2 ^ 32) (sym (ap (λ m. m.address_words) c.in_ok-info.ensures.answers.1)) (addresses_fit c.args.code.now c.requires)
