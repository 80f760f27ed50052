use Rattle.std.proofs.Common.{codes}
use Rattle.texture_layouts.specs.Setup.{faces_of, face_place}
use Rattle.job_text.specs.Uniforms.{named_number, base_text}
use Rattle.job_text.proofs.Texts.{three_parts}
use Rattle.job_text.proofs.uniforms.put_base.Goals as goal

pub returns : goal.returns
unfolding base_text
returns c =
    let t = c.args.texture.now in
    rw (
      c.in_ok-put_named_number-3.ensures,
      c.levels.ensures.value,
      c.in_ok-put_named_number-2.ensures,
      c.faces.ensures.value,
      c.in_ok-put_named_number.ensures,
      c.face_place.ensures.value,
    ) (three_parts c.args.out.now.items (named_number (codes "texture base ") (face_place t 0)) (named_number (codes ", faces ") (faces_of t))
    (named_number (codes ", levels below ") t.levels))
