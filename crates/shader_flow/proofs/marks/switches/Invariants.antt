use Rattle.std.proofs.Common.{◌≡◌, ◌≤◌, ◌<◌, ℕ, false, length}
use Rattle.qpu_isa.specs.Terms.{is_switch}
use Rattle.shader_flow.specs.Flow.{word, checked_of}
use Rattle.shader_flow.proofs.marks.switches.Given as goal

abbrev pub invariant-loop-at : goal.invariant-loop-at
invariant-loop-at l = record {
  before : (k : ℕ) → k < l.at → is_switch (word l.code k) ≡ false;
  last : l.at-end ≡ checked_of l.code;
  inside : l.at-end ≤ length l.code;
}
