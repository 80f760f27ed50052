use Rattle.std.proofs.Common.{◌<◌, ◌+◌, ◌-◌, length, if◌then◌else◌, sym, ap, arith, ◌∙◌}
use Rattle.qpu_isa.specs.Terms.{writes_s, loads}
use Rattle.shader_flow.specs.Flow.{word, checked_of}
use Rattle.strict_rules.proofs.Requests.{queue_past, count_inside}
use Rattle.strict_rules.proofs.step.next_count.Goals as goal

pub returns-then-at-last-clause-value : goal.returns-then-at-last-clause-value
returns-then-at-last-clause-value c =
    c.requires.counted ∙ sym (ap length (queue_past c.args.code.now c.args.tmu c.args.at (omega (arith, c.if-at-last.true, c.requires.last))))

pub returns-clause-value : goal.returns-clause-value
returns-clause-value c =
    let inside : c.args.at < checked_of c.args.code.now = omega (arith, c.if-at-last.false, c.requires.last) in
    let w = word c.args.code.now c.args.at in
    c.count_after.ensures.value
    ∙ ap (λ n. (if loads w c.args.tmu then n - 1 else n) + (if writes_s w c.args.tmu then 1 else 0)) c.requires.counted
    ∙ sym (count_inside c.args.code.now c.args.tmu c.args.at inside)
