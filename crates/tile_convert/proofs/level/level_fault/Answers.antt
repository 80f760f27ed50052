use Rattle.std.proofs.Common.{◌≡◌, ℕ, Some, None, sym, ap, ◌∙◌}
use Rattle.field_words.specs.Questions.{first_of, with_answers}
use Rattle.field_words.proofs.Questions.{passes, stops, answered_none, answered_some}
use Rattle.texture_layouts.specs.{Setup.texture_of, Fits.texture_questions}
use Rattle.tile_convert.specs.{declared.level.LevelFault.TheVariants.Texture, Level.part_questions, Level.level_questions}
use Rattle.tile_convert.proofs.level.level_fault.Goals as goal

of_texture : (p0 p1 p2 p3 size face level n : ℕ) → first_of (texture_questions p0 p1 p2 p3 size) ≡ Some n
    → first_of (level_questions p0 p1 p2 p3 size face level) ≡ Some (Texture n)
unfolding level_questions
of_texture p0 p1 p2 p3 size face level n some =
    stops (with_answers Texture (texture_questions p0 p1 p2 p3 size)) (part_questions (texture_of p0 p1 p2 p3) face level) (Texture n)
    (answered_some Texture (texture_questions p0 p1 p2 p3 size) n some)

of_part : (p0 p1 p2 p3 size face level : ℕ) → first_of (texture_questions p0 p1 p2 p3 size) ≡ None
    → first_of (level_questions p0 p1 p2 p3 size face level) ≡ first_of (part_questions (texture_of p0 p1 p2 p3) face level)
unfolding level_questions
of_part p0 p1 p2 p3 size face level none =
    passes (with_answers Texture (texture_questions p0 p1 p2 p3 size)) (part_questions (texture_of p0 p1 p2 p3) face level)
    (answered_none Texture (texture_questions p0 p1 p2 p3 size) none)

pub returns-in-Err : goal.returns-in-Err
returns-in-Err c = sym (of_texture _ _ _ _ c.args.size c.args.face c.args.level c.in-Err.number c.in-Err.ensures.first)

pub returns-in-Ok : goal.returns-in-Ok
returns-in-Ok c =
    c.part_fault.ensures
    ∙ ap (λ t. first_of (part_questions t c.args.face c.args.level)) c.of.ensures.decoded
    ∙ sym (of_part _ _ _ _ c.args.size c.args.face c.args.level c.in-Ok.ensures.first.0)
