-- What is left decides as the whole does.
use Rattle.std.proofs.Common.{◌≡◌, ◌-◌}
use Rattle.field_words.specs.Questions.{first_of, each}
use Rattle.qpu_isa.specs.Shader.{shader_view}
use Rattle.shader_records.specs.Rules.{sample_questions}
use Rattle.shader_records.proofs.uniform_rules.samples_fault.Given as goal

abbrev pub invariant-loop-i : goal.invariant-loop-i
invariant-loop-i l =
    first_of (each (sample_questions l.fn.inputs l.fn.from (shader_view l.fn.info)) l.i (l.i-end - l.i))
    ≡ first_of (each (sample_questions l.fn.inputs l.fn.from (shader_view l.fn.info)) 0 l.i-end)
