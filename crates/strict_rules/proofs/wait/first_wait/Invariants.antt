use Rattle.std.proofs.Common.{◌≡◌, ◌-◌}
use Rattle.field_words.specs.Questions.{first_of, each}
use Rattle.shader_flow.specs.Flow.{checked_of}
use Rattle.strict_rules.specs.{Rules.wait_question, Walk.IsWalked}
use Rattle.strict_rules.proofs.wait.first_wait.Given as goal

abbrev pub invariant-loop-at : goal.invariant-loop-at
invariant-loop-at l = record {
  none : first_of (each (wait_question l.code) l.at (checked_of l.code - l.at)) ≡ first_of (each (wait_question l.code) 0 (checked_of l.code));
  walked : IsWalked l.code l.at l.walked;
}
