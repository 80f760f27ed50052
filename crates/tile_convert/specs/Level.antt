-- One level of a texture, and when there is none.
use Rattle.std.specs.Prelude.{◌≡◌, ◌<◌, ℕ, ◌+◌, ◌*◌, not, nat_lt, List, [], ◌∷◌, ◌++◌, length, slice_index}
use Rattle.field_words.specs.Questions.{Question, Ask, with_answers}
use Rattle.texture_layouts.specs.Setup.{TextureModel, texture_of, faces_of, level_width_of, level_height_of, tiling_at, level_place_of}
use Rattle.texture_layouts.specs.{Place.pixel_place_of, Fits.texture_questions}
use Rattle.tile_convert.specs.declared.level.LevelFault.TheVariants.{Texture, Face, Level}
use Rattle.tile_convert.specs.{declared.level.LevelFault.LevelFault, declared.order.Order.TheVariants.Rows, Picture.place_in}

-- the face, and then the level, is one that the texture has
unfoldable pub part_questions : TextureModel → ℕ → ℕ → List (Question LevelFault)
part_questions t face level = Ask (not (nat_lt face (faces_of t))) Face ∷ (Ask (nat_lt t.levels level) Level ∷ [])

-- The rules in their order: those of the texture in a buffer of so many bytes, then the face, then the level.
unfoldable pub level_questions : ℕ → ℕ → ℕ → ℕ → ℕ → ℕ → ℕ → List (Question LevelFault)
level_questions p0 p1 p2 p3 size face level =
    with_answers Texture (texture_questions p0 p1 p2 p3 size) ++ part_questions (texture_of p0 p1 p2 p3) face level

-- the rules of the setup words as a row
abbrev pub level_rules : List ℕ → ℕ → ℕ → ℕ → List (Question LevelFault)
level_rules p size face level = level_questions (slice_index p 0) (slice_index p 1) (slice_index p 2) (slice_index p 3) size face level

-- The raster is the picture of a level: byte b of pixel (x, y), or of a block of ETC1, is the one at the pixel's place in the
-- level, which begins where the texture has that level of that face.
pub record IsLevelPicture (t : TextureModel) (face level : ℕ) (bytes raster : List ℕ) : Type 0 where
  pub size : length raster ≡ level_width_of t level * level_height_of t level * t.cpp
  pub pixels : (x y b : ℕ) → x < level_width_of t level → y < level_height_of t level → b < t.cpp
      → slice_index raster (place_in Rows (level_width_of t level) t.cpp x y + b)
      ≡ slice_index bytes (level_place_of t face level + pixel_place_of (tiling_at t level) (level_width_of t level) t.cpp x y + b)
