use Rattle.std.proofs.{Common.sym, Common.◌∙◌, Common.arith, lemmas.Bool.Decides.nat_tests}
use Rattle.job_make.proofs.WordSteps.{digits_step, digits_done, some_digits, no_digits}
use Rattle.job_make.proofs.words.hex_number.Goals as goal

pub returns-then-is_empty : goal.returns-then-is_empty
returns-then-is_empty c = no_digits c.args.digits.now (grind (arith, nat_tests, c.is_empty.ensures, c.if-is_empty.true))

pub loop-digit-preserved : goal.loop-digit-preserved
loop-digit-preserved c =
    rw (c.with_digit-number.ensures, c.digit_value.ensures.value)
    (digits_step c.loop-digit.number c.args.digits.now c.loop-digit.digit-index _ c.loop-digit-test.true)
    ∙ c.loop-digit.invariant

pub returns : goal.returns
returns c =
    sym (digits_done c.loop-digit.number c.args.digits.now c.loop-digit.digit-index c.loop-digit-test.false)
    ∙ c.loop-digit.invariant
    ∙ sym (some_digits c.args.digits.now (grind (arith, nat_tests, c.is_empty.ensures, c.if-is_empty.false)))
