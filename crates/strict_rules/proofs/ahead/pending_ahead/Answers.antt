use Rattle.std.proofs.Common.{◌≡◌, ◌+◌, ap, arith, ◌∙◌}
use Rattle.shader_flow.specs.Pending.{pending_of}
use Rattle.strict_rules.proofs.ahead.pending_ahead.Goals as goal

pub returns : goal.returns
returns c =
    let e : c.args.at + 1 + 1 + 1 ≡ c.args.at + 3 = omega arith in
    c.next_pending.ensures.value ∙ ap (pending_of c.args.code.now c.args.tmu) e
