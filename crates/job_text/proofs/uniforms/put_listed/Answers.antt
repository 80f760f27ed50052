use Rattle.std.proofs.Common.{codes, decimal}
use Rattle.texture_layouts.specs.Setup.{tiling_at}
use Rattle.job_text.specs.{Meanings.tiling_name, Uniforms.listed_text}
use Rattle.job_text.proofs.Texts.{five_parts}
use Rattle.job_text.proofs.uniforms.put_listed.Goals as goal

pub returns : goal.returns
unfolding listed_text
returns c =
    let t = c.args.texture.now in
    rw (
      c.in_ok-extend_from_slice-4.ensures.items,
      c.in_ok-put_number.ensures,
      c.pixel_bytes.ensures.value,
      c.in_ok-extend_from_slice-3.ensures.items,
      c.in_ok-extend_from_slice-2.ensures.items,
      c.as_bytes.ensures.value,
      c.tiling_name.ensures,
      c.level_tiling-tiling.ensures,
      c.in_ok-extend_from_slice.ensures.items,
    ) (five_parts c.args.out.now.items (codes ", ") (tiling_name (tiling_at t 0)) (codes " tiling, ") (decimal t.cpp) (codes " bytes a pixel or block"))
