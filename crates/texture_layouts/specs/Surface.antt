-- How many bytes a surface takes. A microtile is 64 bytes of pixels in any tiling but raster.
use Rattle.std.specs.Prelude.{◌≡◌, ℕ, ◌*◌, ◌==◌, ◌||◌, if◌then◌else◌, nat_le, ◌⊎◌}
use Rattle.field_words.specs.Words.{rounded_up}
use Rattle.texture_layouts.specs.{declared.surface.Tiling.TheVariants.Raster, declared.surface.Tiling.TheVariants.T, declared.surface.Tiling.TheVariants.Lt, declared.surface.Tiling.Tiling}

-- the bytes that a pixel can take
abbrev pub IsPixelSize : ℕ → Type 0
IsPixelSize cpp = (cpp ≡ 1) ⊎ (cpp ≡ 2) ⊎ (cpp ≡ 4) ⊎ (cpp ≡ 8)

-- 8x8 pixels of 1 byte, 8x4 of 2, 4x4 of 4, 2x4 of 8
unfoldable pub microtile_width_of : ℕ → ℕ
microtile_width_of cpp = if cpp == 8 then 2 else (if cpp == 4 then 4 else 8)

unfoldable pub microtile_height_of : ℕ → ℕ
microtile_height_of cpp = if cpp == 1 then 8 else 4

-- Lt up to four microtiles wide or high, and T above
abbrev pub tiling_for : ℕ → ℕ → ℕ → Tiling
tiling_for width height cpp = if nat_le width (4 * microtile_width_of cpp) || nat_le height (4 * microtile_height_of cpp) then Lt else T

-- what a width is aligned to, in pixels: T to whole tiles of 8x8 microtiles, the others to a microtile
abbrev pub unit_across : Tiling → ℕ → ℕ
unit_across T cpp = 8 * microtile_width_of cpp
unit_across other cpp = microtile_width_of cpp

-- and a height, of which raster aligns none
abbrev pub unit_down : Tiling → ℕ → ℕ
unit_down Raster cpp = 1
unit_down T cpp = 8 * microtile_height_of cpp
unit_down Lt cpp = microtile_height_of cpp

-- aligned width times aligned height times the bytes of a pixel
abbrev pub size_for : Tiling → ℕ → ℕ → ℕ → ℕ
size_for tiling width height cpp = rounded_up width (unit_across tiling cpp) * rounded_up height (unit_down tiling cpp) * cpp
