use Rattle.std.proofs.Common.{◌<◌, sym, arith, ◌∙◌}
use Rattle.shader_flow.specs.Flow.{checked_of}
use Rattle.shader_flow.proofs.Counts.{pending_past, pending_sent, pending_kept}
use Rattle.strict_rules.proofs.step.next_pending.Goals as goal

pub returns-then-at-last-clause-value : goal.returns-then-at-last-clause-value
returns-then-at-last-clause-value c =
    c.requires.kept ∙ sym (pending_past c.args.code.now c.args.tmu c.args.at (omega (arith, c.if-at-last.true, c.requires.last)))

pub returns-then-writes_s-clause-value : goal.returns-then-writes_s-clause-value
returns-then-writes_s-clause-value c =
    let inside : c.args.at < checked_of c.args.code.now = omega (arith, c.if-at-last.false, c.requires.last) in
    sym (pending_sent c.args.code.now c.args.tmu c.args.at inside (sym c.writes_s.ensures ∙ c.if-writes_s.true))

pub returns-clause-value : goal.returns-clause-value
returns-clause-value c =
    let inside : c.args.at < checked_of c.args.code.now = omega (arith, c.if-at-last.false, c.requires.last) in
    let kept = pending_kept c.args.code.now c.args.tmu c.args.at inside (sym c.writes_s.ensures ∙ c.if-writes_s.false) in
    omega (arith, kept, c.requires.kept, c.tmu_writes.ensures.value)
