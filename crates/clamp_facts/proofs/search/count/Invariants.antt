use Rattle.std.proofs.Common.{◌≡◌, ◌+◌}
use Rattle.clamp_facts.proofs.search.count.Given as goal

abbrev pub invariant-loop : goal.invariant-loop
invariant-loop g l = l.steps ≡ l.fn.steps + l.counter
