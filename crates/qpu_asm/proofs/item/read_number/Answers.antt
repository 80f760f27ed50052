use Rattle.std.proofs.Common.{sym, ◌∙◌}
use Rattle.script.proofs.Digits.{number_digits}
use Rattle.qpu_asm.proofs.item.read_number.Goals as goal

pub number_up_to-value-requires-clause-digits : goal.number_up_to-value-requires-clause-digits
number_up_to-value-requires-clause-digits c = number_digits c.args.text.now (sym c.is_number.ensures ∙ c.if-not-is_number.false)
