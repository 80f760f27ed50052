-- What is fetched of a texture for one pixel: its whole microtile, or in raster the pixel alone.
use Rattle.std.specs.Prelude.{◌≤◌, ◌<◌, ℕ, ◌+◌, ◌-◌, ◌/◌, nat_lt, if◌then◌else◌, Option, Some, None}
use Rattle.texture_layouts.specs.{declared.surface.Tiling.TheVariants.Raster, declared.surface.Tiling.Tiling, Surface.microtile_width_of, Surface.microtile_height_of}
use Rattle.texture_layouts.specs.Setup.{TextureModel, faces_of, face_place, level_width_of, level_height_of, tiling_at, size_below}
use Rattle.texture_layouts.specs.Place.{raster_place, microtile_place_of}

-- where it begins in its image, and how many bytes it has
unfoldable pub fetch_offset_of : Tiling → ℕ → ℕ → ℕ → ℕ → ℕ
fetch_offset_of Raster width cpp x y = raster_place width cpp x y
fetch_offset_of tiling width cpp x y = microtile_place_of tiling width cpp (x / microtile_width_of cpp) (y / microtile_height_of cpp)

unfoldable pub fetch_size_of : Tiling → ℕ → ℕ
fetch_size_of Raster cpp = cpp
fetch_size_of other cpp = 64

-- Where it would begin if the level's pixels stood where the face's own do. The level begins as many
-- bytes below as levels 1 to this one take.
unfoldable pub fetch_reach : TextureModel → ℕ → ℕ → ℕ → ℕ → ℕ
fetch_reach t face level x y = face_place t face + fetch_offset_of (tiling_at t level) (level_width_of t level) t.cpp x y

-- a difference, None where it would be below 0
abbrev pub place_from : ℕ → ℕ → Option ℕ
place_from reach below = if nat_lt reach below then None else Some (reach - below)

unfoldable pub fetch_place_of : TextureModel → ℕ → ℕ → ℕ → ℕ → Option ℕ
fetch_place_of t face level x y = place_from (fetch_reach t face level x y) (size_below t level)

-- Each fetch for a pixel of a level of a face lies in the buffer.
pub record AreFetchesIn (t : TextureModel) (size : ℕ) : Type 0 where
  pub from : (face level x y : ℕ) → face < faces_of t → level ≤ t.levels → x < level_width_of t level → y < level_height_of t level
      → size_below t level ≤ fetch_reach t face level x y
  pub upto : (face level x y : ℕ) → face < faces_of t → level ≤ t.levels → x < level_width_of t level → y < level_height_of t level
      → fetch_reach t face level x y - size_below t level + fetch_size_of (tiling_at t level) t.cpp ≤ size
