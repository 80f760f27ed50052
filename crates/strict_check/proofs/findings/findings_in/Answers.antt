-- The words are no more than a shader may have.
use Rattle.std.proofs.Common.{◌/◌, length, ap, arith, ◌∙◌}
use Rattle.job_check.proofs.Codes.{length_words}
use Rattle.strict_check.proofs.findings.findings_in.Goals as goal

pub flow-requires : goal.flow-requires
flow-requires c =
    let bytes = c.args.bytes.now in
    omega (arith, ap length (c.deref.ensures.value ∙ c.in_ok-code.ensures), length_words bytes (length bytes / 8), c.requires)
