use Rattle.std.proofs.Common.{◌≡◌, ◌≤◌, ◌<◌, ℕ, false}
use Rattle.qpu_isa.specs.Terms.{names}
use Rattle.shader_flow.specs.Flow.{word}
use Rattle.clamp_facts.proofs.search.last_naming.Given as goal

abbrev pub invariant-loop-j : goal.invariant-loop-j
invariant-loop-j l = record {
  below : l.j ≤ l.at;
  after : (k : ℕ) → l.j ≤ k → k < l.at → names (word l.code k) l.reg ≡ false;
}

abbrev pub decreases-loop-j : goal.decreases-loop-j
decreases-loop-j l = l.j
