-- What was found so far.
use Rattle.std.proofs.Common.{◌≡◌}
use Rattle.qpu_isa.specs.Terms.{is_switch}
use Rattle.shader_flow.specs.{Bounded.last_below, Flow.word}
use Rattle.shader_notes.proofs.check.last_switch.Given as goal

abbrev pub invariant-loop-at : goal.invariant-loop-at
invariant-loop-at l = l.last ≡ last_below l.at (λ k. is_switch (word l.code k))
