use Rattle.std.proofs.Common.{◌≡◌, ◌≤◌, ◌*◌, map, sum, take}
use Rattle.strict_rules.proofs.queues.slots_in.Given as goal

-- the sum so far, each request's slots below 2^16
abbrev pub invariant-loop-request : goal.invariant-loop-request
invariant-loop-request l = (l.slots ≡ sum (map (λ r. r.slots) (take l.request-index l.queue))) × (l.slots ≤ 65535 * l.request-index)
