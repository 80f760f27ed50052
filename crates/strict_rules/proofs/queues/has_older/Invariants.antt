use Rattle.std.proofs.Common.{◌≡◌, false, take}
use Rattle.strict_rules.specs.Rules.{has_older}
use Rattle.strict_rules.proofs.queues.has_older.Given as goal

abbrev pub invariant-loop-request : goal.invariant-loop-request
invariant-loop-request l = has_older l.acted (take l.request-index l.queue) ≡ false
