use Rattle.std.proofs.Common.{◌≤◌, ◌-◌, ◌≡◌, length, sym, ap, arith, ◌∙◌}
use Rattle.field_words.specs.Questions.{first_of, each}
use Rattle.field_words.proofs.Least.{least}
use Rattle.field_words.proofs.Questions.{each_on, each_stop, each_end, answered_none, answered_some}
use Rattle.shader_flow.specs.Flow.{checked_of}
use Rattle.strict_rules.specs.Rules.{strict_at, index_questions, questions_at, strict_questions}
use Rattle.strict_rules.specs.{Least.IsUpTo, declared.rule.StrictRule.TheVariants.SetupAtSwitch}
use Rattle.strict_rules.proofs.Leasts.{order, all_rise}
use Rattle.strict_rules.proofs.Rooms.{no_e3, room_first, room_second}
use Rattle.strict_rules.proofs.check.check_strict.Goals as goal

pub loop-at-init : goal.loop-at-init
loop-at-init c = record {
  none = (let e : checked_of c.args.code.now - 0 ≡ checked_of c.args.code.now = omega arith in ap (λ n. first_of (each (questions_at c.args.code.now) 0 n)) e);
  walked = c.start-walked.ensures;
}

pub returns-in-Some-clause-answers : goal.returns-in-Some-clause-answers
unfolding questions_at strict_at strict_questions
returns-in-Some-clause-answers c =
    let here = answered_some (strict_at c.loop-at.at) (index_questions c.args.code.now c.loop-at.at) c.in-Some.rule (sym c.in-Some.ensures) in
    sym c.loop-at.invariant.none
    ∙ each_stop (questions_at c.args.code.now) c.loop-at.at (checked_of c.args.code.now) (strict_at c.loop-at.at c.in-Some.rule)
    (omega (arith, c.loop-at-test.true, c.checked-last.ensures.value)) here

pub invariant_of-here : goal.invariant_of-here
invariant_of-here c = record {
  inside = omega (arith, c.loop-at-test.true, c.checked-last.ensures.value);
  fits = omega (arith, c.loop-at-test.true, c.checked-last.ensures.inside);
  made = c.requires;
  known = c.loop-at.invariant.walked;
}

pub step-requires-clause-room0 : goal.step-requires-clause-room0
step-requires-clause-room0 c = λ some.
    let room = room_first c.args.code.now c.loop-at.at (no_e3 c.args.code.now c.loop-at.at (sym c.in_default.ensures)) some in
    omega (arith, ap length c.loop-at.invariant.walked.first.requests, room)

pub step-requires-clause-room1 : goal.step-requires-clause-room1
step-requires-clause-room1 c = λ some.
    let room = room_second c.args.code.now c.loop-at.at (no_e3 c.args.code.now c.loop-at.at (sym c.in_default.ensures)) some in
    omega (arith, ap length c.loop-at.invariant.walked.second.requests, room)

pub returns-in-Some-clause-least : goal.returns-in-Some-clause-least
returns-in-Some-clause-least c =
    least IsUpTo (strict_at 0 SetupAtSwitch) _ (strict_questions c.args.code.now) _ order (all_rise c.args.code.now) (returns-in-Some-clause-answers c)

pub loop-at-preserved : goal.loop-at-preserved
unfolding questions_at
loop-at-preserved c =
    let none = answered_none (strict_at c.loop-at.at) (index_questions c.args.code.now c.loop-at.at) (sym c.in_default.ensures) in
    record {
      none =
          each_on (questions_at c.args.code.now) c.loop-at.at (checked_of c.args.code.now) (omega (arith, c.loop-at-test.true, c.checked-last.ensures.value)) none
          ∙ c.loop-at.invariant.none;
      walked = c.step.ensures;
    }

pub returns-clause-answers : goal.returns-clause-answers
unfolding strict_questions
returns-clause-answers c =
    let past : checked_of c.args.code.now ≤ c.loop-at.at = omega (arith, c.loop-at-test.false, c.checked-last.ensures.value) in
    (sym c.loop-at.invariant.none ∙ each_end (questions_at c.args.code.now) c.loop-at.at (checked_of c.args.code.now) past, tt)
