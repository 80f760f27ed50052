-- The first fault of a shader is the first of all.
use Rattle.std.proofs.Common.{ap, sym, ◌∙◌}
use Rattle.field_words.specs.Questions.{first_of}
use Rattle.field_words.proofs.Questions.{each_stop}
use Rattle.shader_records.specs.{Sources.shader_used, Rules.use_questions, Rules.shader_questions}
use Rattle.shader_records.proofs.faults.uses_fault.Goals as goal

pub returns-in-Err : goal.returns-in-Err
unfolding shader_questions
returns-in-Err c =
    sym c.loop-s.invariant.left
    ∙ each_stop (shader_questions c.args.inputs.now c.args.at c.args.from) c.loop-s.s 3 c.in-Err.fault c.loop-s-test.true
    (sym (ap (λ here. first_of (use_questions c.args.inputs.now here (shader_used c.args.inputs.now c.args.at c.loop-s.s))) c.loop-s.invariant.here) ∙ c.in-Err.ensures)
