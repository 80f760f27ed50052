-- A level's part of the buffer, and its picture.
use Rattle.std.proofs.Common.{◌≡◌, ℕ, ◌+◌, ◌-◌, ◌*◌, ◌<◌, ◌≤◌, List, not, nat_lt, false, Option, None, length, take, drop, get_or, length-drop, refl, sym, ap, subst, arith, ◌∙◌}
use Rattle.std.proofs.{lemmas.List.get_or-drop, lemmas.List.get_or-take, lemmas.List.length-take-le, lemmas.Bool.ltb-false}
use Rattle.field_words.specs.Questions.{first_of, with_answers}
use Rattle.field_words.proofs.{Questions.none_broken, Nones.front_none, Nones.rest_none, Nones.none_answered}
use Rattle.texture_layouts.specs.Setup.{TextureModel, texture_of, faces_of, level_width_of, level_height_of, tiling_at, size_at, level_place_of}
use Rattle.texture_layouts.specs.{declared.surface.Tiling.Tiling, Surface.IsPixelSize, Level.level_size_of, Level.image_size_of}
use Rattle.texture_layouts.specs.{Place.pixel_place_of, Fits.texture_questions, Fits.is_unlisted, Fits.IsInBuffer}
use Rattle.texture_layouts.proofs.Inside.{in_buffer}
use Rattle.tile_convert.specs.declared.order.Order.TheVariants.{Rows, Surface}
use Rattle.tile_convert.specs.{declared.level.LevelFault.LevelFault, declared.level.LevelFault.TheVariants.Texture}
use Rattle.tile_convert.specs.Picture.{place_in, size_in, IsCopy}
use Rattle.tile_convert.specs.Level.{part_questions, level_questions, IsLevelPicture}
use Rattle.tile_convert.proofs.Places.{pixel_fits}

pub faces_few : (t : TextureModel) → faces_of t ≤ 6
unfolding faces_of
faces_few t = grind arith

pub part_long : (bytes : List ℕ) (place n : ℕ) → place + n ≤ length bytes → length (take n (drop place bytes)) ≡ n
part_long bytes place n fits = length-take-le n (drop place bytes) (let h : n ≤ length (drop place bytes) = omega (arith, length-drop place bytes) in h)

pub level_bytes : (t : TextureModel) (level : ℕ)
    → size_in (Surface (tiling_at t level)) (level_width_of t level) (level_height_of t level) t.cpp ≡ size_at t level
unfolding size_in level_size_of image_size_of
level_bytes t level = refl

rows_size : (width height cpp : ℕ) (raster : List ℕ) → length raster ≡ size_in Rows width height cpp → length raster ≡ width * height * cpp
unfolding size_in
rows_size width height cpp raster size = size

at_place : (tiling : Tiling) (width cpp x y b place : ℕ) → place + (place_in (Surface tiling) width cpp x y + b) ≡ place + pixel_place_of tiling width cpp x y + b
unfolding place_in
at_place tiling width cpp x y b place = omega arith

pub level_of_copy : (t : TextureModel) (face level : ℕ) (bytes raster : List ℕ) → IsPixelSize t.cpp
    → IsCopy (Surface (tiling_at t level)) Rows (level_width_of t level) (level_height_of t level) t.cpp
    (take (size_at t level) (drop (level_place_of t face level) bytes)) raster
    → IsLevelPicture t face level bytes raster
level_of_copy t face level bytes raster pixel copy =
    record {
      size = rows_size (level_width_of t level) (level_height_of t level) t.cpp raster copy.size;
      pixels = λ x y b x_in y_in b_in.
          let fits = pixel_fits (Surface (tiling_at t level)) (level_width_of t level) (level_height_of t level) t.cpp x y pixel x_in y_in in
          let at : ℕ = place_in (Surface (tiling_at t level)) (level_width_of t level) t.cpp x y + b in
          let inside : at < size_at t level = omega (arith, fits, level_bytes t level) in
          copy.pixels x y b x_in y_in b_in
          ∙ get_or-take (size_at t level) (drop (level_place_of t face level) bytes) at 0 inside
          ∙ get_or-drop (level_place_of t face level) bytes at 0
          ∙ ap (λ i. get_or bytes i 0) (at_place (tiling_at t level) (level_width_of t level) t.cpp x y b (level_place_of t face level));
    }

-- After no rule stood.
pub record IsThere (t : TextureModel) (face level size : ℕ) : Type 0 where
  pub listed : is_unlisted t ≡ false
  pub inside : IsInBuffer t size
  pub has_face : face < faces_of t
  pub has_level : level ≤ t.levels

below_not : (m n : ℕ) → not (nat_lt m n) ≡ false → m < n
below_not m n h = grind (arith, h)

pub is_there : (p0 p1 p2 p3 size face level : ℕ) → first_of (level_questions p0 p1 p2 p3 size face level) ≡ None
    → IsThere (texture_of p0 p1 p2 p3) face level size
unfolding level_questions part_questions texture_questions
is_there p0 p1 p2 p3 size face level none =
    let t : TextureModel = texture_of p0 p1 p2 p3 in
    let fine : first_of (texture_questions p0 p1 p2 p3 size) ≡ None =
    none_answered Texture (texture_questions p0 p1 p2 p3 size)
    (front_none (with_answers Texture (texture_questions p0 p1 p2 p3 size)) (part_questions t face level) none) in
    let asked = none_broken (texture_questions p0 p1 p2 p3 size) fine in
    let part = none_broken (part_questions t face level) (rest_none (with_answers Texture (texture_questions p0 p1 p2 p3 size)) (part_questions t face level) none) in
    record {
      listed = asked.1.1.0;
      inside = in_buffer p0 p1 p2 p3 size fine;
      has_face = below_not face (faces_of t) part.0;
      has_level = ltb-false t.levels level part.1.0;
    }

-- a level is there where what the code computes has no fault
pub found_there : (t : TextureModel) (p0 p1 p2 p3 size face level : ℕ) (fault : Option LevelFault) → t ≡ texture_of p0 p1 p2 p3
    → fault ≡ first_of (level_questions p0 p1 p2 p3 size face level) → fault ≡ None → IsThere t face level size
found_there t p0 p1 p2 p3 size face level fault decoded first none =
    subst (λ u. IsThere u face level size) (sym decoded) (is_there p0 p1 p2 p3 size face level (sym first ∙ none))

pub computed_bytes : (t : TextureModel) (level : ℕ) (tiling : Tiling) (width height cpp : ℕ) → tiling ≡ tiling_at t level → width ≡ level_width_of t level
    → height ≡ level_height_of t level → cpp ≡ t.cpp → size_in (Surface tiling) width height cpp ≡ size_at t level
computed_bytes t level tiling width height cpp a b c d =
    ap (λ x. size_in (Surface x) width height cpp) a ∙ ap (λ x. size_in (Surface (tiling_at t level)) x height cpp) b
    ∙ ap (λ x. size_in (Surface (tiling_at t level)) (level_width_of t level) x cpp) c
    ∙ ap (λ x. size_in (Surface (tiling_at t level)) (level_width_of t level) (level_height_of t level) x) d ∙ level_bytes t level

pub computed_copy : (t : TextureModel) (level : ℕ) (tiling : Tiling) (width height cpp : ℕ) (part raster : List ℕ) → tiling ≡ tiling_at t level → width ≡ level_width_of t level
    → height ≡ level_height_of t level → cpp ≡ t.cpp → IsCopy (Surface tiling) Rows width height cpp part raster
    → IsCopy (Surface (tiling_at t level)) Rows (level_width_of t level) (level_height_of t level) t.cpp part raster
computed_copy t level tiling width height cpp part raster a b c d copy =
    subst (λ x. IsCopy (Surface x) Rows (level_width_of t level) (level_height_of t level) t.cpp part raster) a
    (subst (λ x. IsCopy (Surface tiling) Rows x (level_height_of t level) t.cpp part raster) b
    (subst (λ x. IsCopy (Surface tiling) Rows width x t.cpp part raster) c
    (subst (λ x. IsCopy (Surface tiling) Rows width height x part raster) d copy)))

pub same_count : (place n : ℕ) → place + n - place ≡ n
same_count place n = omega arith
