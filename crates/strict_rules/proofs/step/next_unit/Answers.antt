use Rattle.std.proofs.Common.{arith}
use Rattle.strict_rules.proofs.Requests.{kept_requests}
use Rattle.strict_rules.proofs.step.next_unit.Goals as goal

pub returns : goal.returns
returns c = record {
  words = c.next_pending-unit.ensures.value;
  bound = c.next_pending-unit.ensures.bound;
  requests = kept_requests _ _ _ _ _ _ (omega (arith, c.requires.here, c.requires.last)) c.requires.kept.words c.requires.kept.requests c.next_queue.ensures;
}
