-- The words are no more than a shader may have.
use Rattle.std.proofs.Common.{◌/◌, length, ap, arith}
use Rattle.job_check.proofs.Codes.{length_words}
use Rattle.commands.proofs.shader.code_in.Goals as goal

pub returns-clause-few : goal.returns-clause-few
returns-clause-few c =
    let bytes = c.args.bytes.now in
    omega (arith, ap length c.in_ok-words_of.ensures, length_words bytes (length bytes / 8), c.requires)
