use Rattle.std.proofs.Common.{sym, arith, ◌∙◌}
use Rattle.shader_flow.proofs.Counts.{pending_zero}
use Rattle.strict_rules.proofs.Requests.{queue_zero, acted_zero}
use Rattle.strict_rules.proofs.step.start.Goals as goal

pub returns : goal.returns
returns c = record {
  first = record {
    words = c.idle-unit0.ensures.words ∙ sym (pending_zero c.args.code.now 0);
    bound = omega (arith, c.idle-unit0.ensures.words);
    requests = c.idle-unit0.ensures.requests ∙ sym (queue_zero c.args.code.now 0);
  };
  second = record {
    words = c.idle-unit1.ensures.words ∙ sym (pending_zero c.args.code.now 1);
    bound = omega (arith, c.idle-unit1.ensures.words);
    requests = c.idle-unit1.ensures.requests ∙ sym (queue_zero c.args.code.now 1);
  };
  last = sym (acted_zero c.args.code.now);
}
