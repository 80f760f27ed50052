-- A texture whose buffer lies elsewhere: the buffer's place is added to the first word, and only the
-- base changes.
use Rattle.std.proofs.Common.{◌≡◌, ℕ, ◌+◌, ◌%◌, ◌^◌, ◌<◌, refl, ap, arith, ◌∙◌, ◌==◌, Bool}
use Rattle.field_words.specs.Words.{bits_of}
use Rattle.texture_layouts.specs.Setup.{TextureModel, base_of, is_cube_word, levels_of, type_of, cube_stride_of, side_of, pixel_bytes_of, texture_of}

base_moves : (word place : ℕ) → place % 4096 ≡ 0 → word + place < 2 ^ 32 → base_of (word + place) ≡ base_of word + place
unfolding base_of
base_moves word place page fits = omega arith

cube_stays : (word place : ℕ) → place % 4096 ≡ 0 → is_cube_word (word + place) ≡ is_cube_word word
unfolding is_cube_word
cube_stays word place page = ap (λ b. b == 1) (omega arith)

levels_stay : (word place : ℕ) → place % 4096 ≡ 0 → levels_of (word + place) ≡ levels_of word
unfolding levels_of
levels_stay word place page = omega arith

type_stays : (word place p1 : ℕ) → place % 4096 ≡ 0 → type_of (word + place) p1 ≡ type_of word p1
unfolding type_of
type_stays word place p1 page = omega arith

abbrev made : ℕ → Bool → ℕ → ℕ → ℕ → ℕ → ℕ → TextureModel
made base cube levels kind p1 p2 p3 =
    record {
      base = base;
      is_cube = cube;
      stride = cube_stride_of p2 p3;
      levels = levels;
      width = side_of kind (bits_of p1 18 8);
      height = side_of kind (bits_of p1 30 20);
      cpp = pixel_bytes_of kind;
      is_raster = kind == 16;
    }

pub texture_moved : (word place p1 p2 p3 : ℕ) → place % 4096 ≡ 0 → word + place < 2 ^ 32
    → texture_of (word + place) p1 p2 p3 ≡ record (texture_of word p1 p2 p3) { base = (texture_of word p1 p2 p3).base + place }
unfolding texture_of
texture_moved word place p1 p2 p3 page fits =
    ap (λ b. made b (is_cube_word (word + place)) (levels_of (word + place)) (type_of (word + place) p1) p1 p2 p3) (base_moves word place page fits)
    ∙ ap (λ c. made (base_of word + place) c (levels_of (word + place)) (type_of (word + place) p1) p1 p2 p3) (cube_stays word place page)
    ∙ ap (λ l. made (base_of word + place) (is_cube_word word) l (type_of (word + place) p1) p1 p2 p3) (levels_stay word place page)
    ∙ ap (λ k. made (base_of word + place) (is_cube_word word) (levels_of word) k p1 p2 p3) (type_stays word place p1 page)
