-- What is left decides as the whole does, and goes on where the shaders so far end.
use Rattle.std.proofs.Common.{◌≡◌, ◌≤◌, ◌-◌, ◌+◌, length}
use Rattle.field_words.specs.Questions.{first_of, each}
use Rattle.shader_records.specs.{Sources.taken_before, Rules.shader_questions}
use Rattle.shader_records.proofs.faults.uses_fault.Given as goal

abbrev pub invariant-loop-s : goal.invariant-loop-s
invariant-loop-s l =
    record {
      left : first_of (each (shader_questions l.fn.inputs l.fn.at l.fn.from) l.s (3 - l.s)) ≡ first_of (each (shader_questions l.fn.inputs l.fn.at l.fn.from) 0 3);
      here : l.here ≡ l.fn.from + taken_before l.fn.inputs l.fn.at l.s;
      inside : l.here ≤ length l.fn.inputs.uniforms;
    }
