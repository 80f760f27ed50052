use Rattle.std.proofs.Common.{◌≡◌, ◌+◌, length, ap, arith, ◌∙◌}
use Rattle.strict_rules.specs.Queue.{queue_of}
use Rattle.strict_rules.proofs.ahead.count_ahead.Goals as goal

pub returns-clause-value : goal.returns-clause-value
returns-clause-value c =
    let e : c.args.at + 1 + 1 + 1 ≡ c.args.at + 3 = omega arith in
    c.next_count.ensures.value ∙ ap (λ i. length (queue_of c.args.code.now c.args.tmu i)) e
