-- Where microtiles and pixels of a surface lie, counted from its first byte.
use Rattle.std.specs.Prelude.{◌≡◌, ◌≤◌, ◌<◌, ℕ, ◌+◌, ◌*◌, ◌/◌, ◌%◌}
use Rattle.field_words.specs.Words.{rounded_up}
use Rattle.texture_layouts.specs.{declared.surface.Tiling.TheVariants.Raster, declared.surface.Tiling.TheVariants.T, declared.surface.Tiling.Tiling}
use Rattle.texture_layouts.specs.Surface.{microtile_width_of, microtile_height_of, unit_across, unit_down, size_for}

-- the aligned sides, in pixels
abbrev pub aligned_across : Tiling → ℕ → ℕ → ℕ
aligned_across tiling width cpp = rounded_up width (unit_across tiling cpp)

abbrev pub aligned_down : Tiling → ℕ → ℕ → ℕ
aligned_down tiling height cpp = rounded_up height (unit_down tiling cpp)

-- how many microtiles there are in a row of a surface, and how many rows of them
unfoldable pub microtiles_across : Tiling → ℕ → ℕ → ℕ
microtiles_across tiling width cpp = aligned_across tiling width cpp / microtile_width_of cpp

unfoldable pub microtiles_down : Tiling → ℕ → ℕ → ℕ
microtiles_down tiling height cpp = aligned_down tiling height cpp / microtile_height_of cpp

-- The number of the microtile mx across and my down, with so many in a row: by rows in Lt; in T by
-- rows of tiles of 8x8 microtiles, and inside a tile by rows.
unfoldable pub microtile_number : Tiling → ℕ → ℕ → ℕ → ℕ
microtile_number T across mx my = (my / 8 * (across / 8) + mx / 8) * 64 + (my % 8 * 8 + mx % 8)
microtile_number other across mx my = my * across + mx

unfoldable pub microtile_place_of : Tiling → ℕ → ℕ → ℕ → ℕ → ℕ
microtile_place_of tiling width cpp mx my = 64 * microtile_number tiling (microtiles_across tiling width cpp) mx my

-- where a pixel lies inside its microtile: by rows
unfoldable pub place_in_microtile : ℕ → ℕ → ℕ → ℕ
place_in_microtile cpp x y = cpp * (y % microtile_height_of cpp * microtile_width_of cpp + x % microtile_width_of cpp)

unfoldable pub raster_place : ℕ → ℕ → ℕ → ℕ → ℕ
raster_place width cpp x y = cpp * (y * aligned_across Raster width cpp + x)

unfoldable pub tiled_place : Tiling → ℕ → ℕ → ℕ → ℕ → ℕ
tiled_place tiling width cpp x y =
    microtile_place_of tiling width cpp (x / microtile_width_of cpp) (y / microtile_height_of cpp) + place_in_microtile cpp x y

abbrev pub pixel_place_of : Tiling → ℕ → ℕ → ℕ → ℕ → ℕ
pixel_place_of Raster width cpp x y = raster_place width cpp x y
pixel_place_of tiling width cpp x y = tiled_place tiling width cpp x y

-- the microtile's 64 bytes, of those of a surface of this height, lie inside the surface
abbrev pub IsMicrotileInside : Tiling → ℕ → ℕ → ℕ → ℕ → ℕ → Type 0
IsMicrotileInside tiling width cpp mx my place =
    (height : ℕ) → mx < microtiles_across tiling width cpp → my < microtiles_down tiling height cpp → place + 64 ≤ size_for tiling width height cpp

-- and no byte of them is one of another microtile's
abbrev pub IsMicrotileApart : Tiling → ℕ → ℕ → ℕ → ℕ → ℕ → Type 0
IsMicrotileApart tiling width cpp mx my place =
    (x y i j : ℕ) → mx < microtiles_across tiling width cpp → x < microtiles_across tiling width cpp → i < 64 → j < 64
    → place + i ≡ microtile_place_of tiling width cpp x y + j → (mx ≡ x) × (my ≡ y)

-- a pixel's bytes lie in the buffer, and none is another pixel's
abbrev pub IsPixelInside : Tiling → ℕ → ℕ → ℕ → ℕ → ℕ → Type 0
IsPixelInside tiling width cpp x y place =
    (height : ℕ) → x < aligned_across tiling width cpp → y < aligned_down tiling height cpp → place + cpp ≤ size_for tiling width height cpp

abbrev pub IsPixelApart : Tiling → ℕ → ℕ → ℕ → ℕ → ℕ → Type 0
IsPixelApart tiling width cpp x y place =
    (u v i j : ℕ) → x < aligned_across tiling width cpp → u < aligned_across tiling width cpp → i < cpp → j < cpp
    → place + i ≡ pixel_place_of tiling width cpp u v + j → (x ≡ u) × (y ≡ v)
