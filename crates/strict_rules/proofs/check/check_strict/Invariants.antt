use Rattle.std.proofs.Common.{◌≡◌, ◌-◌}
use Rattle.field_words.specs.Questions.{first_of, each}
use Rattle.shader_flow.specs.Flow.{checked_of}
use Rattle.strict_rules.specs.{Rules.questions_at, Walk.IsWalked}
use Rattle.strict_rules.proofs.check.check_strict.Given as goal

abbrev pub invariant-loop-at : goal.invariant-loop-at
invariant-loop-at l = record {
  none : first_of (each (questions_at l.code) l.at (checked_of l.code - l.at)) ≡ first_of (each (questions_at l.code) 0 (checked_of l.code));
  walked : IsWalked l.code l.at l.walked;
}
