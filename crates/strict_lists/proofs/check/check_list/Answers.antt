use Rattle.std.proofs.Common.{sym, arith, ◌∙◌}
use Rattle.bin_list.proofs.Walk.{some_left, none_left}
use Rattle.strict_lists.specs.Rules.{list_fault}
use Rattle.strict_lists.proofs.Going.{begins, stops_at, goes_on, through}
use Rattle.strict_lists.proofs.check.check_list.Goals as goal

pub loop-rest-init : goal.loop-rest-init
loop-rest-init c = begins c.args.list.now

pub returns-in-Some : goal.returns-in-Some
unfolding list_fault
returns-in-Some c =
    stops_at _ _ _ _ _ c.loop-rest.invariant (some_left c.loop-rest.rest.now (sym c.is_empty.ensures ∙ c.loop-rest-test.true)) c.split_front.ensures.packet c.in-Some.ensures

pub behind-course-requires-clause-place : goal.behind-course-requires-clause-place
behind-course-requires-clause-place c = omega (arith, c.loop-rest.invariant.inside, c.split_front.ensures.fits, c.requires)

pub loop-rest-preserved : goal.loop-rest-preserved
loop-rest-preserved c =
    goes_on _ _ _ _ _ _ c.loop-rest.invariant (some_left c.loop-rest.rest.now (sym c.is_empty.ensures ∙ c.loop-rest-test.true)) c.split_front.ensures.packet
    c.split_front.ensures.rest c.split_front.ensures.fits c.in_default.ensures c.behind-course.ensures.value c.behind-course.ensures.near

pub returns : goal.returns
returns c = (through _ _ _ c.loop-rest.invariant (none_left c.loop-rest.rest.now (sym c.is_empty.ensures ∙ c.loop-rest-test.false)), tt)
