-- A branch that leads on leaves the answer to those after it; the first that leads back is the answer.
use Rattle.std.proofs.Common.{◌≡◌, ◌<◌, ◌+◌, ◌*◌, Some, None, if◌then◌else◌, sym, ap, arith, ◌∙◌}
use Rattle.field_words.specs.Questions.{first_of}
use Rattle.field_words.proofs.Questions.{each_on, each_stop, each_end}
use Rattle.shader_flow.specs.Flow.{end_of}
use Rattle.shader_flow.proofs.Ends.{end_of-le}
use Rattle.job_bound.specs.Back.{branch_question}
use Rattle.job_bound.proofs.back.first_back.Goals as goal

pub goes_back-requires-clause-inside : goal.goes_back-requires-clause-inside
goes_back-requires-clause-inside c = omega (arith, end_of-le c.args.code.now, c.requires.end, c.loop-at-test.true)

pub returns-then-goes_back : goal.returns-then-goes_back
returns-then-goes_back c =
    let code = c.args.code.now in
    let place = c.args.place in
    let at = c.loop-at.at in
    let below : at < end_of code = omega (arith, c.requires.end, c.loop-at-test.true) in
    let here : first_of (branch_question code place at) ≡ Some (place + 8 * at) = ap (λ b. if b then Some (place + 8 * at) else None) (sym c.goes_back.ensures ∙ c.if-goes_back.true) in
    ap (λ k. Some (place + 8 * k)) c.from.ensures ∙ sym (each_stop (branch_question code place) at (end_of code) (place + 8 * at) below here) ∙ c.loop-at.invariant

pub loop-at-preserved : goal.loop-at-preserved
loop-at-preserved c =
    let code = c.args.code.now in
    let place = c.args.place in
    let at = c.loop-at.at in
    let below : at < end_of code = omega (arith, c.requires.end, c.loop-at-test.true) in
    let here : first_of (branch_question code place at) ≡ None = ap (λ b. if b then Some (place + 8 * at) else None) (sym c.goes_back.ensures ∙ c.if-goes_back.false) in
    each_on (branch_question code place) at (end_of code) below here ∙ c.loop-at.invariant

pub returns : goal.returns
returns c =
    let code = c.args.code.now in
    sym (each_end (branch_question code c.args.place) c.loop-at.at (end_of code) (omega (arith, c.requires.end, c.loop-at-test.false))) ∙ c.loop-at.invariant
