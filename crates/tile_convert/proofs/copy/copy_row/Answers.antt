use Rattle.std.proofs.Common.{◌≡◌, ◌+◌, ◌*◌, ◌<◌, ◌≤◌, ℕ, List, length, min, sym, ap, subst, arith, ◌∙◌}
use Rattle.texture_layouts.specs.Surface.{microtile_width_of}
use Rattle.tile_convert.specs.{declared.order.Order.Order, Steps.IsPartCopied, Steps.IsCopied, Steps.HasRow}
use Rattle.tile_convert.specs.Picture.{place_in, part_offset, parts_across, pixels_there}
use Rattle.tile_convert.proofs.Steps.{part_fits, one_more, whole_row, next_row}
use Rattle.tile_convert.proofs.copy.copy_row.Goals as goal

-- the row fits with the values that the code computes
fits : (order : Order) (width cpp mx y size start offset count : ℕ) → HasRow order width cpp y size → mx < parts_across width cpp
    → start ≡ place_in order width cpp 0 y → offset ≡ part_offset order cpp mx → count ≡ pixels_there width cpp mx
    → start + offset + count * cpp ≤ size
fits order width cpp mx y size start offset count row below start_is offset_is count_is =
    let bytes : count * cpp ≡ pixels_there width cpp mx * cpp = ap (λ m. m * cpp) count_is in
    omega (arith, part_fits order width cpp mx y size row below, start_is, offset_is, bytes)

moved : (source mid new : List ℕ) (a b c d m n : ℕ) → a ≡ b → c ≡ d → m ≡ n → IsPartCopied source a mid c m new → IsPartCopied source b mid d n new
moved source mid new a b c d m n first second third copied =
    subst (λ x. IsPartCopied source x mid d n new) first (subst (λ x. IsPartCopied source a mid x n new) second (subst (λ x. IsPartCopied source a mid c x new) third copied))

pub copy_part-requires-clause-source : goal.copy_part-requires-clause-source
copy_part-requires-clause-source c =
    fits c.args.r.from c.args.r.width c.args.r.cpp c.loop-mx.mx c.args.y (length c.args.source.now) c.row_start-source_row.result c.part_offset.result
    c.pixels_there.result c.requires.source (omega (arith, c.parts_across-mx-end.ensures.value)) c.row_start-source_row.ensures.value c.part_offset.ensures.value
    c.pixels_there.ensures.value

pub copy_part-requires-clause-target : goal.copy_part-requires-clause-target
copy_part-requires-clause-target c =
    fits c.args.r.to c.args.r.width c.args.r.cpp c.loop-mx.mx c.args.y (length c.loop-mx.target) c.row_start-target_row.result c.part_offset-in-loop-mx.result
    c.pixels_there.result (subst (λ n. HasRow c.args.r.to c.args.r.width c.args.r.cpp c.args.y n) (sym c.loop-mx.auto.target) c.requires.target)
    (omega (arith, c.parts_across-mx-end.ensures.value)) c.row_start-target_row.ensures.value c.part_offset-in-loop-mx.ensures.value c.pixels_there.ensures.value

pub loop-mx-preserved : goal.loop-mx-preserved
loop-mx-preserved c old before =
    one_more c.args.r.from c.args.r.to c.args.r.width c.args.r.cpp c.loop-mx.mx c.args.y c.args.source.now old c.loop-mx.target c.copy_part.new.target c.requires.within.0
    (omega (arith, c.parts_across-mx-end.ensures.value))
    (moved c.args.source.now c.loop-mx.target c.copy_part.new.target _ _ _ _ _ _
    (omega (arith, c.row_start-source_row.ensures.value, c.part_offset.ensures.value))
    (omega (arith, c.row_start-target_row.ensures.value, c.part_offset-in-loop-mx.ensures.value))
    (ap (λ m. m * c.args.r.cpp) c.pixels_there.ensures.value) c.copy_part.ensures)
    (c.loop-mx.invariant old before)

pub returns : goal.returns
returns c old before =
    let end : c.loop-mx.mx ≡ parts_across c.args.r.width c.args.r.cpp = omega (arith, c.parts_across-mx-end.ensures.value) in
    let all : min (c.loop-mx.mx * microtile_width_of c.args.r.cpp) c.args.r.width ≡ c.args.r.width =
    ap (λ m. min (m * microtile_width_of c.args.r.cpp) c.args.r.width) end ∙ whole_row c.args.r.width c.args.r.cpp in
    next_row c.args.r.from c.args.r.to c.args.r.width c.args.r.cpp c.args.y c.args.source.now old c.loop-mx.target
    (subst (λ x. IsCopied c.args.r.from c.args.r.to c.args.r.width c.args.r.cpp c.args.source.now old c.loop-mx.target x c.args.y) all (c.loop-mx.invariant old before))
