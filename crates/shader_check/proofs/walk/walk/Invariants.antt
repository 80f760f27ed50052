use Rattle.std.proofs.Common.{◌≡◌, ◌≤◌, ◌+◌, ◌-◌, ◌*◌}
use Rattle.field_words.specs.Questions.{first_of, each}
use Rattle.shader_flow.specs.Flow.{checked_of}
use Rattle.clamp_facts.specs.{Facts.maker_of, Upkeep.IsTableOf}
use Rattle.shader_check.specs.{Info.held_words, Info.samples_before, Rules.questions_at}
use Rattle.shader_check.proofs.walk.walk.Given as goal

abbrev pub invariant-loop-at : goal.invariant-loop-at
invariant-loop-at g l = record {
  none : first_of (each (questions_at l.code) l.at (checked_of l.code - l.at)) ≡ first_of (each (questions_at l.code) 0 (checked_of l.code));
  first : l.kept0.items ≡ held_words l.code 0 l.at;
  second : l.kept1.items ≡ held_words l.code 1 l.at;
  made : l.samples.items ≡ samples_before l.code l.at;
  table : IsTableOf l.code (maker_of l.code l.at) l.table;
  steps : l.steps ≤ l.fn.steps + 8 * l.at;
}
