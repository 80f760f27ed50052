-- What is left decides as the whole does, and goes on where the states so far end.
use Rattle.std.proofs.Common.{◌≡◌, ◌≤◌, ◌-◌, length}
use Rattle.field_words.specs.Questions.{first_of, each}
use Rattle.shader_records.specs.{Sources.record_source, Sources.uniform_source, Rules.state_questions}
use Rattle.shader_records.proofs.faults.first_fault.Given as goal

abbrev pub invariant-loop-k : goal.invariant-loop-k
invariant-loop-k l =
    record {
      left : first_of (each (state_questions l.fn.inputs) l.k (l.k-end - l.k)) ≡ first_of (each (state_questions l.fn.inputs) 0 l.k-end);
      record_at : l.at ≡ record_source l.fn.inputs l.k;
      uniforms_at : l.from ≡ uniform_source l.fn.inputs l.k;
      record_inside : l.at ≤ length l.fn.inputs.records;
      uniforms_inside : l.from ≤ length l.fn.inputs.uniforms;
    }
