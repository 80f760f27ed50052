-- What is left decides as the whole does.
use Rattle.std.proofs.Common.{◌≡◌, ◌-◌}
use Rattle.field_words.specs.Questions.{first_of, each}
use Rattle.shader_records.specs.Rules.{attribute_questions}
use Rattle.shader_records.proofs.record_rules.attributes_fault.Given as goal

abbrev pub invariant-loop-t : goal.invariant-loop-t
invariant-loop-t l = first_of (each (attribute_questions l.fn.inputs l.fn.source.at l.fn.source.state l.fn.source.max_index) l.t (l.fn.count - l.t)) ≡ first_of (each (attribute_questions l.fn.inputs l.fn.source.at l.fn.source.state l.fn.source.max_index) 0 l.fn.count)
