use Rattle.std.proofs.Common.{false-eqb}
use Rattle.job_session.proofs.Digits.{all_digits}
use Rattle.job_session.proofs.call.is_hex.Goals as goal

pub returns : goal.returns
returns c = all_digits c.args.word.now c.are_digits.result (false-eqb _ 0 c.if-is_empty.ensures) c.if-word-ne0.false c.are_digits.ensures
