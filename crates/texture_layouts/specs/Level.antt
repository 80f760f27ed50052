-- The levels of a texture: level 0 is the texture itself, and each further level has half the
-- sides, rounded up to a power of two before they are halved.
use Rattle.std.specs.Prelude.{ℕ, zero, suc, ◌+◌, ◌/◌, ◌^◌, ◌==◌, max, Bool, nat_le, if◌then◌else◌}
use Rattle.texture_layouts.specs.{declared.surface.Tiling.Tiling, declared.surface.Tiling.TheVariants.Raster, Surface.tiling_for, Surface.size_for}

-- the first of 2^k, 2^(k + 1) and so on that is at least n, or the last of them
unfoldable pub power_from : ℕ → ℕ → ℕ → ℕ
power_from n k zero = 2 ^ k
power_from n k (suc left) = if nat_le n (2 ^ k) then 2 ^ k else power_from n (k + 1) left

-- the least power of two that is at least n, for n up to 2^16
unfoldable pub power_above : ℕ → ℕ
power_above n = power_from n 0 16

-- a side of a level: level i of 1 or more has the least power of two, shifted right by i, and at least 1
unfoldable pub level_side_of : ℕ → ℕ → ℕ
level_side_of side level = if level == 0 then side else max 1 (power_above side / 2 ^ level)

-- the tiling of a level of this width and height: a raster texture is raster on each level
unfoldable pub level_tiling_of : Bool → ℕ → ℕ → ℕ → Tiling
level_tiling_of raster width height cpp = if raster then Raster else tiling_for width height cpp

-- the bytes of an image of this width and height
unfoldable pub image_size_of : Bool → ℕ → ℕ → ℕ → ℕ
image_size_of raster width height cpp = size_for (level_tiling_of raster width height cpp) width height cpp

-- the bytes of a level of a texture of this width and height
unfoldable pub level_size_of : Bool → ℕ → ℕ → ℕ → ℕ → ℕ
level_size_of raster width height cpp level = image_size_of raster (level_side_of width level) (level_side_of height level) cpp
