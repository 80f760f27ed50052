-- What is left decides as the whole does.
use Rattle.std.proofs.Common.{◌≡◌, ◌-◌}
use Rattle.field_words.specs.Questions.{first_of, each}
use Rattle.shader_records.specs.Rules.{handle_questions}
use Rattle.shader_records.proofs.record_rules.handles_fault.Given as goal

abbrev pub invariant-loop-t : goal.invariant-loop-t
invariant-loop-t l = first_of (each (handle_questions l.fn.inputs l.fn.at) l.t (l.fn.count - l.t)) ≡ first_of (each (handle_questions l.fn.inputs l.fn.at) 0 l.fn.count)
