use Rattle.std.proofs.Common.{◌≤◌, ◌-◌, ◌≡◌, length, Some, None, if◌then◌else◌, sym, ap, arith, ◌∙◌}
use Rattle.field_words.specs.Questions.{first_of, each}
use Rattle.field_words.proofs.Questions.{each_on, each_stop, each_end}
use Rattle.shader_flow.specs.Flow.{checked_of}
use Rattle.strict_rules.specs.Rules.{wait_question, wait_questions}
use Rattle.strict_rules.proofs.Rooms.{never_waits, room_first, room_second}
use Rattle.strict_rules.proofs.wait.first_wait.Goals as goal

pub loop-at-init : goal.loop-at-init
loop-at-init c = record {
  none = (let e : checked_of c.args.code.now - 0 ≡ checked_of c.args.code.now = omega arith in ap (λ n. first_of (each (wait_question c.args.code.now) 0 n)) e);
  walked = c.start-walked.ensures;
}

pub invariant_of-here : goal.invariant_of-here
invariant_of-here c = record {
  inside = omega (arith, c.loop-at-test.true, c.checked-last.ensures.value);
  fits = omega (arith, c.loop-at-test.true, c.checked-last.ensures.inside);
  made = c.requires;
  known = c.loop-at.invariant.walked;
}

pub returns-then-waits : goal.returns-then-waits
unfolding wait_question wait_questions
returns-then-waits c =
    let here : first_of (wait_question c.args.code.now c.loop-at.at) ≡ Some c.loop-at.at = ap (λ b. if b then Some c.loop-at.at else None) (sym c.waits.ensures ∙ c.if-waits.true) in
    sym (sym c.loop-at.invariant.none
    ∙ each_stop (wait_question c.args.code.now) c.loop-at.at (checked_of c.args.code.now) c.loop-at.at
    (omega (arith, c.loop-at-test.true, c.checked-last.ensures.value)) here)

pub step-requires-clause-room0 : goal.step-requires-clause-room0
step-requires-clause-room0 c = λ some.
    let room = room_first c.args.code.now c.loop-at.at (never_waits c.args.code.now c.loop-at.at (sym c.waits.ensures ∙ c.if-waits.false)) some in
    omega (arith, ap length c.loop-at.invariant.walked.first.requests, room)

pub step-requires-clause-room1 : goal.step-requires-clause-room1
step-requires-clause-room1 c = λ some.
    let room = room_second c.args.code.now c.loop-at.at (never_waits c.args.code.now c.loop-at.at (sym c.waits.ensures ∙ c.if-waits.false)) some in
    omega (arith, ap length c.loop-at.invariant.walked.second.requests, room)

pub loop-at-preserved : goal.loop-at-preserved
unfolding wait_question
loop-at-preserved c =
    let here : first_of (wait_question c.args.code.now c.loop-at.at) ≡ None = ap (λ b. if b then Some c.loop-at.at else None) (sym c.waits.ensures ∙ c.if-waits.false) in
    record {
      none =
          each_on (wait_question c.args.code.now) c.loop-at.at (checked_of c.args.code.now) (omega (arith, c.loop-at-test.true, c.checked-last.ensures.value)) here
          ∙ c.loop-at.invariant.none;
      walked = c.step.ensures;
    }

pub returns : goal.returns
unfolding wait_questions
returns c =
    let past : checked_of c.args.code.now ≤ c.loop-at.at = omega (arith, c.loop-at-test.false, c.checked-last.ensures.value) in
    sym (sym c.loop-at.invariant.none ∙ each_end (wait_question c.args.code.now) c.loop-at.at (checked_of c.args.code.now) past)
