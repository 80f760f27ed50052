use Rattle.std.proofs.Common.{◌≡◌, ◌<◌, ◌+◌, ◌&&◌, nat_le, ℕ, false}
use Rattle.qpu_isa.specs.Terms.{is_switch}
use Rattle.shader_flow.specs.Flow.{word}
use Rattle.clamp_facts.proofs.search.has_switch.Given as goal

abbrev pub invariant-loop-s : goal.invariant-loop-s
invariant-loop-s l = (k : ℕ) → k < l.s → (is_switch (word l.code k) && (nat_le l.j (k + 2) && nat_le (k + 3) l.i)) ≡ false
