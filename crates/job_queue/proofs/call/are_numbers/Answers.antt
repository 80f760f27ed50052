use Rattle.std.proofs.Common.{refl, sym, ◌∙◌}
use Rattle.job_queue.specs.Calls.{are_numbers}
use Rattle.job_queue.proofs.Words.{no_number, one_number, more_numbers, more_inside}
use Rattle.job_queue.proofs.call.are_numbers.Goals as goal

pub loop-rest-init : goal.loop-rest-init
unfolding are_numbers
loop-rest-init c = refl

pub returns-then-not-is_number : goal.returns-then-not-is_number
returns-then-not-is_number c =
    no_number c.loop-rest.rest.now c.cut_at-cut.result.first.now (are_numbers c.args.word.now) c.cut_at-cut.ensures.first
    (sym c.is_number.ensures ∙ c.if-not-is_number.true) c.loop-rest.invariant

pub returns-then-cut-rest : goal.returns-then-cut-rest
returns-then-cut-rest c =
    one_number c.loop-rest.rest.now c.cut_at-cut.result.first.now (are_numbers c.args.word.now) c.cut_at-cut.ensures.first
    (sym c.is_number.ensures ∙ c.if-not-is_number.false) c.if-cut-rest.true c.loop-rest.invariant

pub loop-rest-smaller : goal.loop-rest-smaller
loop-rest-smaller c =
    c.cut_at-cut.ensures.shorter (more_inside c.loop-rest.rest.now c.cut_at-cut.result.first.now c.cut_at-cut.ensures.first c.if-cut-rest.false)

pub loop-rest-preserved : goal.loop-rest-preserved
loop-rest-preserved c =
    more_numbers c.loop-rest.rest.now c.cut_at-cut.result.first.now c.cut_at-cut.result.rest.now (are_numbers c.args.word.now) c.cut_at-cut.ensures.first c.cut_at-cut.ensures.rest
    (sym c.is_number.ensures ∙ c.if-not-is_number.false) c.if-cut-rest.false c.loop-rest.invariant
