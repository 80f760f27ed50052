-- What the surfaces of a frame are: which are present, which are in full resolution, and where a
-- tile of a full-resolution surface lies.
use Rattle.std.specs.Prelude.{◌≡◌, ◌≤◌, ◌<◌, ◌^◌, ℕ, is_some, IsTrue, ◌+◌, ◌*◌, ◌-◌, ◌%◌, ◌==◌, ◌||◌, ◌&&◌, not, Bool, true, false, List, Option, Some, None, if◌then◌else◌, slice_index_or}
use Rattle.std.specs.Int.{div_ceil}
use Rattle.job_format.specs.{declared.file.Frame.Frame, declared.file.Surface.Surface}

-- The surfaces by their place in the frame, which is one less than the item's number in a fault.
abbrev pub color_read : ℕ
color_read = 0

abbrev pub color_write : ℕ
color_write = 1

abbrev pub zs_read : ℕ
zs_read = 2

abbrev pub zs_write : ℕ
zs_write = 3

abbrev pub multisample_color : ℕ
multisample_color = 4

abbrev pub multisample_zs : ℕ
multisample_zs = 5

-- the absolute place of a surface, None where it is absent
abbrev pub place_at : List (Option ℕ) → ℕ → Option ℕ
place_at places k = slice_index_or places k None

-- an absent surface has an index of all ones
abbrev pub no_surface : Surface
no_surface = record { hindex = 4294967295; offset = 0; bits = 0; flags = 0 }

abbrev pub surface_at : Frame → ℕ → Surface
surface_at frame k = slice_index_or frame.surfaces k no_surface

unfoldable pub is_present : Surface → Bool
is_present surface = not (surface.hindex == 4294967295)

-- Bit 0 of colour write's bits means multisample, also where that surface is absent.
unfoldable pub is_multisample : Frame → Bool
is_multisample frame = (surface_at frame color_write).bits % 2 == 1

-- a tile's side in pixels
unfoldable pub tile_side : Frame → ℕ
tile_side frame = if is_multisample frame then 32 else 64

-- Colour write is never in full resolution, and the multisample surfaces always are; for the
-- others bit 0 of the flags says so.
unfoldable pub is_full : ℕ → Surface → Bool
is_full k surface = if k == 1 then false else (if (k == 4) || (k == 5) then true else (surface.flags % 2 == 1))

-- which tile of 16,384 bytes of a full-resolution surface is the one at (x, y): there are as many
-- in a row as 32 pixels go into the width
unfoldable pub full_tile : Frame → ℕ → ℕ → ℕ
full_tile frame x y = div_ceil frame.width 32 * y + x

-- where the tile (x, y) of a full-resolution surface at a place lies
unfoldable pub full_place : Frame → ℕ → ℕ → ℕ → ℕ
full_place frame place x y = place + 16384 * full_tile frame x y

-- the first tile, and the last, of the frame's set
unfoldable pub is_first_tile : Frame → ℕ → ℕ → Bool
is_first_tile frame x y = (x == frame.min_x) && (y == frame.min_y)

unfoldable pub is_last_tile : Frame → ℕ → ℕ → Bool
is_last_tile frame x y = (x == frame.max_x) && (y == frame.max_y)

-- how many tiles the set has in a row, and how many rows
abbrev pub tiles_across : Frame → ℕ
tiles_across frame = frame.max_x + 1 - frame.min_x

abbrev pub tiles_down : Frame → ℕ
tiles_down frame = frame.max_y + 1 - frame.min_y

-- The smallest tile isn't over the largest.
pub record IsTileSet (frame : Frame) : Type 0 where
  pub across : frame.min_x ≤ frame.max_x
  pub down : frame.min_y ≤ frame.max_y

-- The surface's tile at (x, y), where the surface is present and in full resolution, lies below 2^32.
abbrev pub FitsAt : Frame → ℕ → Option ℕ → ℕ → ℕ → Type 0
FitsAt frame k None x y = Unit {0}
FitsAt frame k (Some place) x y = IsTrue (is_full k (surface_at frame k)) → full_place frame place x y < 2 ^ 32

-- so of each surface
abbrev pub TileFits : Frame → List (Option ℕ) → ℕ → ℕ → Type 0
TileFits frame places x y = (k : ℕ) → k < 6 → FitsAt frame k (place_at places k) x y

-- There is a place exactly for each surface that is present.
abbrev pub ArePlacesOf : Frame → List (Option ℕ) → Type 0
ArePlacesOf frame places = (k : ℕ) → k < 6 → is_some (place_at places k) ≡ is_present (surface_at frame k)

-- What a checked frame's places are: there is one exactly for each surface that is present, and each
-- tile of the set lies below 2^32.
pub record IsSetupFor (frame : Frame) (places : List (Option ℕ)) : Type 0 where
  pub tiles : IsTileSet frame
  pub present : ArePlacesOf frame places
  pub largest : TileFits frame places frame.max_x frame.max_y
