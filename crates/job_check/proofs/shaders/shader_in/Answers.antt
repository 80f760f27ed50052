use Rattle.std.proofs.Common.{◌/◌, length, ap, arith, ◌∙◌}
use Rattle.job_check.proofs.Codes.{length_words}
use Rattle.job_check.proofs.shaders.shader_in.Goals as goal

pub check_code-requires : goal.check_code-requires
check_code-requires c =
    let bytes = c.args.bytes.now in
    omega (arith, ap length (c.deref.ensures.value ∙ c.in_ok-code.ensures), length_words bytes (length bytes / 8), c.requires)
