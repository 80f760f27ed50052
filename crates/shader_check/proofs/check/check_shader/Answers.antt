use Rattle.std.proofs.Common.{length, sym, ◌∙◌}
use Rattle.field_words.specs.Questions.{each, with_answers}
use Rattle.field_words.proofs.{Least.least, Questions.passes, Questions.refuses_front, Questions.answered_none, Questions.answered_some}
use Rattle.shader_flow.specs.Flow.{checked_of}
use Rattle.shader_check.specs.{Rules.questions_at, Rules.fault_at, Rules.whole_questions, Rules.shader_questions, Least.IsUpTo}
use Rattle.shader_check.proofs.{SoundInfo.info_sound, Indexed.sound_shader, Leasts.order, Leasts.all_rise, Leasts.refusal_least}
use Rattle.shader_check.proofs.check.check_shader.Goals as goal

pub returns-in-Err-clause-answers : goal.returns-in-Err-clause-answers
unfolding shader_questions
returns-in-Err-clause-answers g c =
    refuses_front (each (questions_at c.args.code.now) 0 (checked_of c.args.code.now)) (with_answers (fault_at (length c.args.code.now)) (whole_questions c.args.code.now))
    c.in-Err.stop c.in-Err.ensures.answers

pub returns-in-Some-clause-answers : goal.returns-in-Some-clause-answers
unfolding shader_questions fault_at
returns-in-Some-clause-answers g c =
    passes (each (questions_at c.args.code.now) 0 (checked_of c.args.code.now)) (with_answers (fault_at (length c.args.code.now)) (whole_questions c.args.code.now))
    c.in-Ok.ensures.answers.0
    ∙ answered_some (fault_at (length c.args.code.now)) (whole_questions c.args.code.now) c.in-Some.number (sym c.in-Some.ensures)

pub returns-in-Err-clause-least : goal.returns-in-Err-clause-least
returns-in-Err-clause-least g c = refusal_least c.args.code.now c.in-Err.stop (returns-in-Err-clause-answers g c)

pub returns-in-Some-clause-least : goal.returns-in-Some-clause-least
returns-in-Some-clause-least g c = least IsUpTo (fault_at 0 0) _ (shader_questions c.args.code.now) _ order (all_rise c.args.code.now) (returns-in-Some-clause-answers g c)

pub returns-clause-answers : goal.returns-clause-answers
unfolding shader_questions
returns-clause-answers g c = (
  passes (each (questions_at c.args.code.now) 0 (checked_of c.args.code.now)) (with_answers (fault_at (length c.args.code.now)) (whole_questions c.args.code.now))
      c.in-Ok.ensures.answers.0
      ∙ answered_none (fault_at (length c.args.code.now)) (whole_questions c.args.code.now) (sym c.in_default.ensures),
  record {
    uniforms_are = c.uniforms-uniforms.ensures;
    samples_are = c.in-Ok.ensures.answers.1;
    address_words_are = c.in_ok-stream.ensures.address_words_are;
    threaded_is = c.in_ok-flow.ensures.threaded_is;
  },
)

pub returns-clause-sound : goal.returns-clause-sound
unfolding shader_questions
returns-clause-sound g c =
    let none = passes (each (questions_at c.args.code.now) 0 (checked_of c.args.code.now)) (with_answers (fault_at (length c.args.code.now)) (whole_questions c.args.code.now))
    c.in-Ok.ensures.answers.0
    ∙ answered_none (fault_at (length c.args.code.now)) (whole_questions c.args.code.now) (sym c.in_default.ensures) in
    sound_shader _ _ _ _ (info_sound c.args.code.now _ _ _ none c.uniforms-uniforms.ensures c.in-Ok.ensures.answers.1 c.in_ok-stream.ensures.address_words_are)
