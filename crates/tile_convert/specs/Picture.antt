-- Pictures: width times height pixels of cpp bytes, in the order of rows or in that of a surface.
use Rattle.std.specs.Prelude.{◌≡◌, ◌≤◌, ◌<◌, ℕ, ◌+◌, ◌*◌, ◌/◌, ◌%◌, ◌==◌, ◌-◌, min, not, List, [], ◌∷◌, length, slice_index}
use Rattle.std.specs.Int.{div_ceil}
use Rattle.field_words.specs.Questions.{Question, Ask}
use Rattle.texture_layouts.specs.declared.surface.Tiling.TheVariants.{Raster, T, Lt}
use Rattle.texture_layouts.specs.{Place.pixel_place_of, Surface.microtile_width_of, Surface.size_for, Surface.IsPixelSize}
use Rattle.tile_convert.specs.{declared.order.Picture.Picture, declared.order.Order.Order, declared.order.Order.TheVariants.Rows, declared.order.Order.TheVariants.Surface}

-- Where the bytes of pixel (x, y) begin. In rows no row is aligned.
unfoldable pub place_in : Order → ℕ → ℕ → ℕ → ℕ → ℕ
place_in Rows width cpp x y = (y * width + x) * cpp
place_in (Surface tiling) width cpp x y = pixel_place_of tiling width cpp x y

-- how many bytes a picture takes
unfoldable pub size_in : Order → ℕ → ℕ → ℕ → ℕ
size_in Rows width height cpp = width * height * cpp
size_in (Surface tiling) width height cpp = size_for tiling width height cpp

-- a side has 1 to so many pixels
abbrev pub most_side : ℕ
most_side = 4096

-- the pixels are of 1, 2, 4 or 8 bytes, and no side has too many of them
abbrev pub IsWithin : (width height cpp : ℕ) → Type 0
IsWithin width height cpp = IsPixelSize cpp × (width ≤ most_side) × (height ≤ most_side)

abbrev pub IsPictureWithin : Picture → Type 0
IsPictureWithin p = IsWithin p.width p.height p.cpp

-- how many bytes a picture takes as a surface, and by rows
abbrev pub surface_bytes : Picture → ℕ
surface_bytes p = size_for p.tiling p.width p.height p.cpp

abbrev pub pixel_bytes : Picture → ℕ
pixel_bytes p = p.width * p.height * p.cpp

-- byte i is none of a pixel's
abbrev pub IsOutside : Order → ℕ → ℕ → ℕ → ℕ → Type 0
IsOutside order width height cpp i = (x y b : ℕ) → x < width → y < height → b < cpp → i ≡ place_in order width cpp x y + b → ⊥

-- each byte of no pixel is zero
abbrev pub IsZeroOutside : Order → ℕ → ℕ → ℕ → List ℕ → Type 0
IsZeroOutside order width height cpp bytes = (i : ℕ) → IsOutside order width height cpp i → slice_index bytes i ≡ 0

-- The target holds the source's picture in another order: byte b of each pixel is byte b of that pixel, and all other bytes are zero.
pub record IsCopy (from to : Order) (width height cpp : ℕ) (source target : List ℕ) : Type 0 where
  pub size : length target ≡ size_in to width height cpp
  pub pixels : (x y b : ℕ) → x < width → y < height → b < cpp
      → slice_index target (place_in to width cpp x y + b) ≡ slice_index source (place_in from width cpp x y + b)
  pub blank : IsZeroOutside to width height cpp target

-- the raster is the picture of the surface, and the surface that of the raster
abbrev pub IsPicture : Picture → List ℕ → List ℕ → Type 0
IsPicture p surface raster = IsCopy (Surface p.tiling) Rows p.width p.height p.cpp surface raster

abbrev pub IsSurface : Picture → List ℕ → List ℕ → Type 0
IsSurface p raster surface = IsCopy Rows (Surface p.tiling) p.width p.height p.cpp raster surface

-- the one rule: there are as many bytes as wanted, and else the answer is how many are wanted
abbrev pub length_questions : List ℕ → ℕ → List (Question ℕ)
length_questions bytes wanted = Ask (not (length bytes == wanted)) wanted ∷ []

-- How far behind a row's first pixel those of the microtile mx across begin.
unfoldable pub part_offset : Order → ℕ → ℕ → ℕ
part_offset Rows cpp mx = mx * microtile_width_of cpp * cpp
part_offset (Surface Raster) cpp mx = mx * microtile_width_of cpp * cpp
part_offset (Surface T) cpp mx = mx / 8 * 4096 + mx % 8 * 64
part_offset (Surface Lt) cpp mx = mx * 64

-- how many microtiles a row reaches, and how many pixels of it the one mx across has
unfoldable pub parts_across : ℕ → ℕ → ℕ
parts_across width cpp = div_ceil width (microtile_width_of cpp)

unfoldable pub pixels_there : ℕ → ℕ → ℕ → ℕ
pixels_there width cpp mx = min (microtile_width_of cpp) (width - mx * microtile_width_of cpp)

-- What comes back. A raster that goes to a surface and back is itself, and a surface that goes to a raster and back is itself
-- where it is zero outside its pixels.
abbrev pub UntilesWhatWasTiled : Type 0
UntilesWhatWasTiled = (p : Picture) (raster surface back : List ℕ) → IsPixelSize p.cpp → length raster ≡ pixel_bytes p
    → IsSurface p raster surface → IsPicture p surface back → back ≡ raster

abbrev pub TilesWhatWasUntiled : Type 0
TilesWhatWasUntiled = (p : Picture) (surface raster back : List ℕ) → IsPixelSize p.cpp
    → length surface ≡ surface_bytes p → IsZeroOutside (Surface p.tiling) p.width p.height p.cpp surface
    → IsPicture p surface raster → IsSurface p raster back → back ≡ surface
