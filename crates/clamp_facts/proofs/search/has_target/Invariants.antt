use Rattle.std.proofs.Common.{◌≡◌, ◌≤◌, ◌<◌, ℕ, false}
use Rattle.shader_flow.specs.Flow.{is_target}
use Rattle.clamp_facts.proofs.search.has_target.Given as goal

abbrev pub invariant-loop-at : goal.invariant-loop-at
invariant-loop-at l = record {
  before : (k : ℕ) → l.from ≤ k → k < l.at → is_target l.code k ≡ false;
  from : l.from ≤ l.at;
}
