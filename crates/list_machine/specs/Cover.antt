-- What a load or store by bits covers of a surface, and the accesses that it does.
use Rattle.std.specs.Prelude.{◌≤◌, ℕ, zero, suc, ◌+◌, ◌*◌, ◌/◌, ◌%◌, ◌^◌, ◌==◌, if◌then◌else◌, List, Option, Some, None}
use Rattle.std.specs.Int.{div_ceil}
use Rattle.texture_layouts.specs.declared.surface.Tiling.TheVariants.{Raster, T, Lt}
use Rattle.texture_layouts.specs.{declared.surface.Tiling.Tiling, declared.format.Style.Style, Place.raster_place, Place.microtile_place_of}
use Rattle.texture_layouts.specs.Surface.{IsPixelSize, microtile_width_of, microtile_height_of}
use Rattle.machine_plan.specs.Plan.{Plan, Reads, Writes}
use Rattle.list_machine.specs.{State.Cover, State.Frame, Store.tile_side, Store.pixels_covered, Store.bytes_chosen}

-- In raster a part is a covered row: its covered pixels, side by side. Without one there are no parts.
unfoldable pub raster_cover : ℕ → Frame → ℕ → ℕ → ℕ → Cover
raster_cover cpp frame base x y =
    let side = tile_side frame.bits in
    let pixels = pixels_covered (x * side) side frame.width in
    record {
      tiling = Raster;
      base = base;
      cpp = cpp;
      wide = frame.width;
      left = x * side;
      top = y * side;
      across = if pixels == 0 then 0 else 1;
      down = pixels_covered (y * side) side frame.height;
      size = cpp * pixels;
    }

-- In T and Lt a part is a microtile that has a covered pixel. A tile's side is a multiple of a
-- microtile's sides, so the first of them begins where the tile does.
unfoldable pub tiled_cover : Tiling → ℕ → Frame → ℕ → ℕ → ℕ → Cover
tiled_cover tiling cpp frame base x y =
    let side = tile_side frame.bits in
    let width = microtile_width_of cpp in
    let height = microtile_height_of cpp in
    record {
      tiling = tiling;
      base = base;
      cpp = cpp;
      wide = frame.width;
      left = x * side / width;
      top = y * side / height;
      across = div_ceil (pixels_covered (x * side) side frame.width) width;
      down = div_ceil (pixels_covered (y * side) side frame.height) height;
      size = 64;
    }

-- What a load or store at tile (x, y) covers, of a surface at this place that is as large as the frame.
-- A tile covers one side's length each way from x and y sides on.
abbrev pub cover_in : Tiling → ℕ → Frame → ℕ → ℕ → ℕ → Cover
cover_in Raster cpp frame base x y = raster_cover cpp frame base x y
cover_in T cpp frame base x y = tiled_cover T cpp frame base x y
cover_in Lt cpp frame base x y = tiled_cover Lt cpp frame base x y

-- the cover by what bits say, None where they name nothing that there is, or before the frame is set
abbrev pub cover_by : Option Style → Frame → ℕ → ℕ → ℕ → Option Cover
cover_by None frame base x y = None
cover_by (Some style) frame base x y = Some (cover_in style.tiling style.cpp frame base x y)

abbrev pub cover_for : Option Style → Option Frame → ℕ → ℕ → ℕ → Option Cover
cover_for style None base x y = None
cover_for style (Some frame) base x y = cover_by style frame base x y

-- how many parts there are
abbrev pub part_count : Cover → ℕ
part_count c = c.across * c.down

-- where the part that stands so far across and down lies in a surface
abbrev pub part_offset : Tiling → ℕ → ℕ → ℕ → ℕ → ℕ
part_offset Raster wide cpp x y = raster_place wide cpp x y
part_offset T wide cpp x y = microtile_place_of T wide cpp x y
part_offset Lt wide cpp x y = microtile_place_of Lt wide cpp x y

-- the place of part i; they count row by row
unfoldable pub part_place : Cover → ℕ → ℕ
part_place c i = c.base + part_offset c.tiling c.wide c.cpp (c.left + i % c.across) (c.top + i / c.across)

-- n parts from part i on, each written with the next chosen bytes
unfoldable pub parts_written : {R : Type 0} → Cover → List ℕ → ℕ → ℕ → Plan R → Plan R
parts_written c words i zero next = next
parts_written c words i (suc n) next =
    Writes (part_place c i) (bytes_chosen words (i * c.size) c.size) (parts_written c words (suc i) n next)

-- n parts from part i on, each read; what the renderer makes of them is its own
unfoldable pub parts_read : {R : Type 0} → Cover → ℕ → ℕ → Plan R → Plan R
parts_read c i zero next = next
parts_read c i (suc n) next = Reads (part_place c i) c.size (λ bytes. parts_read c (suc i) n next)

-- every cover is this small
pub record IsSmall (c : Cover) : Type 0 where
  pub wide : c.wide ≤ 65535
  pub pixel : IsPixelSize c.cpp
  pub left : c.left ≤ 2 ^ 14
  pub top : c.top ≤ 2 ^ 14
  pub across : c.across ≤ 16
  pub down : c.down ≤ 64
  pub few : c.across * c.down ≤ 256
  pub size : c.size ≤ 256
