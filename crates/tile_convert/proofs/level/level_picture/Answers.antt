use Rattle.std.proofs.{Common.length, Common.sym, Common.ap, Common.subst, Common.◌∙◌, lemmas.Result.IfOk-weaker}
use Rattle.texture_layouts.specs.Setup.{TextureModel, tiling_at, size_at, level_width_of, level_height_of, level_place_of}
use Rattle.tile_convert.specs.{declared.order.Order.TheVariants.Rows, declared.order.Order.TheVariants.Surface, Picture.IsCopy}
use Rattle.tile_convert.proofs.Levels.{part_long, computed_bytes, computed_copy, level_of_copy}
use Rattle.tile_convert.proofs.level.level_picture.Goals as goal

pub copied-requires-clause-source : goal.copied-requires-clause-source
copied-requires-clause-source c =
    let t : TextureModel = c.args.texture.now in
    ap (λ l. length l) c.level_part-part.ensures
    ∙ part_long c.args.bytes.now (level_place_of t c.args.face c.args.level) (size_at t c.args.level)
    (c.requires.inside.upto c.args.face c.args.level c.requires.face c.requires.level)
    ∙ sym (computed_bytes t c.args.level c.level_tiling.result c.level_width.result c.level_height.result c.pixel_bytes.result
    c.level_tiling.ensures c.level_width.ensures.value c.level_height.ensures.value c.pixel_bytes.ensures.value)

pub returns : goal.returns
returns c =
    let t : TextureModel = c.args.texture.now in
    IfOk-weaker c.copied.result _ _ (λ raster copy.
    level_of_copy t c.args.face c.args.level c.args.bytes.now raster.items c.requires.inside.pixel
    (subst (λ part. IsCopy (Surface (tiling_at t c.args.level)) Rows (level_width_of t c.args.level) (level_height_of t c.args.level) t.cpp part raster.items)
    c.level_part-part.ensures
    (computed_copy t c.args.level c.level_tiling.result c.level_width.result c.level_height.result c.pixel_bytes.result _ raster.items
    c.level_tiling.ensures c.level_width.ensures.value c.level_height.ensures.value c.pixel_bytes.ensures.value copy))) c.copied.ensures
