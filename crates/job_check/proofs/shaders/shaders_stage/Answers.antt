use Rattle.std.proofs.Common.{◌≡◌, [], ◌∷◌, ◌++◌, length, map, sym, ap, subst, arith, ◌∙◌}
use Rattle.std.proofs.lemmas.List.{map-append}
use Rattle.field_words.proofs.Questions.{each_on, each_end}
use Rattle.job_format.specs.Parts.{parts_view}
use Rattle.shader_records.specs.Inputs.{shader_option, shaders_view}
use Rattle.job_check.specs.{Shaders.shaders_up_to, Faults.shader_stage, Faults.shaders_stage}
use Rattle.job_check.proofs.Codes.{AllSound, sound_more, shaders_more, are_shaders}
use Rattle.job_check.proofs.Wants.{none_before, whole_none, ended}
use Rattle.job_check.proofs.shaders.shaders_stage.Goals as goal

pub loop-b-preserved : goal.loop-b-preserved
loop-b-preserved c =
    let f = parts_view c.args.file.now in
    let b = c.loop-b.b in
    let more = ap (map shader_option) c.in_ok-push-in-Ok.ensures.items ∙ map-append shader_option c.loop-b.shaders.items (c.in-Ok.shader ∷ []) in
    record {
      none = each_on (shader_stage f) b (length f.buffers) (omega (arith, c.loop-b-test.true, c.len-b-end.ensures)) c.in-Ok.ensures.answers.0 ∙ c.loop-b.invariant.none;
      before = none_before (shader_stage f) b c.loop-b.invariant.before c.in-Ok.ensures.answers.0;
      report =
          more
          ∙ ap (λ l. l ++ (shader_option c.in-Ok.shader ∷ [])) c.loop-b.invariant.report
          ∙ ap (λ x. shaders_up_to f b ++ (x ∷ [])) c.in-Ok.ensures.answers.1
          ∙ sym (shaders_more f b);
      sound = subst AllSound (sym more) (sound_more (shaders_view c.loop-b.shaders.items) (shader_option c.in-Ok.shader) c.loop-b.invariant.sound c.in-Ok.ensures.sound);
    }

pub returns-clause-answers : goal.returns-clause-answers
unfolding shaders_stage
returns-clause-answers c =
    let f = parts_view c.args.file.now in
    let b = c.loop-b.b in
    let end : b ≡ length f.buffers = omega (arith, c.loop-b-test.false, c.loop-b.auto.b-end, c.len-b-end.ensures) in (
      sym c.loop-b.invariant.none ∙ each_end (shader_stage f) b (length f.buffers) (omega (arith, end)),
      are_shaders f (shaders_view c.loop-b.shaders.items) (c.loop-b.invariant.report ∙ ap (shaders_up_to f) end) c.loop-b.invariant.sound,
    )

pub returns-in_err-push-in-Ok-clause-memory : goal.returns-in_err-push-in-Ok-clause-memory
returns-in_err-push-in-Ok-clause-memory c =
    let f = parts_view c.args.file.now in
    let b = c.loop-b.b in
    ended f b c.from_residual.result (omega (arith, c.loop-b-test.true, c.len-b-end.ensures)) c.loop-b.invariant.before (whole_none f b c.in-Ok.ensures.answers.0)
