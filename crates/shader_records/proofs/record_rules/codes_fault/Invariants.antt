-- What is left decides as the whole does.
use Rattle.std.proofs.Common.{◌≡◌, ◌-◌}
use Rattle.field_words.specs.Questions.{first_of, each}
use Rattle.shader_records.specs.Rules.{code_questions}
use Rattle.shader_records.proofs.record_rules.codes_fault.Given as goal

abbrev pub invariant-loop-s : goal.invariant-loop-s
invariant-loop-s l = first_of (each (code_questions l.fn.inputs l.fn.at) l.s (3 - l.s)) ≡ first_of (each (code_questions l.fn.inputs l.fn.at) 0 3)
