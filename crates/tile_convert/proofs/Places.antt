-- Where pixels lie in an order: inside, apart, and together in a microtile's row.
use Rattle.std.proofs.Common.{◌≡◌, ℕ, ◌+◌, ◌*◌, ◌/◌, ◌%◌, ◌<◌, ◌≤◌, ap, subst, arith}
use Rattle.std.proofs.Math.Nat.{mul-le-mul_right}
use Rattle.std.proofs.lemmas.Nat.{same_from_place, mul-add-lt, div-mul-add, mod-mul-add}
use Rattle.field_words.proofs.Numbers.{rounded}
use Rattle.texture_layouts.specs.declared.surface.Tiling.TheVariants.{Raster, T, Lt}
use Rattle.texture_layouts.specs.Surface.{IsPixelSize, microtile_width_of, microtile_height_of, unit_across, unit_down}
use Rattle.texture_layouts.specs.Place.{aligned_across, aligned_down, microtiles_across, microtile_number, microtile_place_of, place_in_microtile, raster_place, tiled_place}
use Rattle.texture_layouts.specs.declared.surface.Tiling.{Tiling}
use Rattle.texture_layouts.proofs.Places.{width_some, height_some, pixel_inside, pixel_apart}
use Rattle.tile_convert.specs.{declared.order.Order.Order, declared.order.Order.TheVariants.Rows, declared.order.Order.TheVariants.Surface}
use Rattle.tile_convert.specs.Picture.{place_in, size_in, part_offset}

-- No side is shorter than it was.
across_some : (tiling : Tiling) (cpp : ℕ) → 1 ≤ unit_across tiling cpp
across_some Raster cpp = omega (arith, width_some cpp)
across_some T cpp = omega (arith, width_some cpp)
across_some Lt cpp = omega (arith, width_some cpp)

pub down_some : (tiling : Tiling) (cpp : ℕ) → 1 ≤ unit_down tiling cpp
down_some Raster cpp = omega arith
down_some T cpp = omega (arith, height_some cpp)
down_some Lt cpp = omega (arith, height_some cpp)

across_least : (tiling : Tiling) (width cpp : ℕ) → width ≤ aligned_across tiling width cpp
across_least tiling width cpp = (rounded width (unit_across tiling cpp) (across_some tiling cpp)).least

down_least : (tiling : Tiling) (height cpp : ℕ) → height ≤ aligned_down tiling height cpp
down_least tiling height cpp = (rounded height (unit_down tiling cpp) (down_some tiling cpp)).least

-- A pixel's bytes lie inside.
pub pixel_fits : (order : Order) (width height cpp x y : ℕ) → IsPixelSize cpp → x < width → y < height
    → place_in order width cpp x y + cpp ≤ size_in order width height cpp
unfolding place_in size_in
pixel_fits Rows width height cpp x y pixel x_in y_in =
    let below : y * width + x < width * height = mul-add-lt y width x height y_in x_in in
    let size : (y * width + x + 1) * cpp ≤ width * height * cpp = mul-le-mul_right cpp (let k : y * width + x + 1 ≤ width * height = omega (arith, below) in k) in
    omega (arith, size)
pixel_fits (Surface tiling) width height cpp x y pixel x_in y_in =
    pixel_inside tiling width cpp x y pixel height (omega (arith, across_least tiling width cpp)) (omega (arith, down_least tiling height cpp))

-- Different pixels share no byte.
pub pixels_apart : (order : Order) (width cpp x y u v i j : ℕ) → IsPixelSize cpp → x < width → u < width → i < cpp → j < cpp
    → place_in order width cpp x y + i ≡ place_in order width cpp u v + j → (x ≡ u) × (y ≡ v)
unfolding place_in
pixels_apart Rows width cpp x y u v i j pixel x_in u_in i_in j_in same =
    let rows = same_from_place (y * width + x) i (v * width + u) j cpp i_in j_in same in
    let parts = same_from_place y x v u width x_in u_in rows.0 in
    (parts.1, parts.0)
pixels_apart (Surface tiling) width cpp x y u v i j pixel x_in u_in i_in j_in same =
    let least = across_least tiling width cpp in
    pixel_apart tiling width cpp x y pixel u v i j (omega (arith, least)) (omega (arith, least)) i_in j_in same

no_parts : (n : ℕ) → 0 < n → 0 / n ≡ 0
no_parts n some = subst (λ m. m / n ≡ 0) (let e : 0 * n + 0 ≡ 0 = omega arith in e) (div-mul-add 0 n 0 some)

no_rest : (n : ℕ) → 0 < n → 0 % n ≡ 0
no_rest n some = subst (λ m. m % n ≡ 0) (let e : 0 * n + 0 ≡ 0 = omega arith in e) (mod-mul-add 0 n 0 some)

-- The pixels of a row of a microtile stand together.
together_tiled : (tiling : Tiling) (width cpp mx k y offset : ℕ) → k < microtile_width_of cpp
    → 64 * microtile_number tiling (microtiles_across tiling width cpp) mx (y / microtile_height_of cpp)
    ≡ 64 * microtile_number tiling (microtiles_across tiling width cpp) 0 (y / microtile_height_of cpp) + offset
    → tiled_place tiling width cpp (mx * microtile_width_of cpp + k) y ≡ tiled_place tiling width cpp 0 y + offset + k * cpp
unfolding tiled_place microtile_place_of place_in_microtile
together_tiled tiling width cpp mx k y offset k_in apart =
    let mw : ℕ = microtile_width_of cpp in
    let mh : ℕ = microtile_height_of cpp in
    let w : ℕ = microtiles_across tiling width cpp in
    let some : 0 < mw = width_some cpp in
    let number : (mx * mw + k) / mw ≡ mx = div-mul-add mx mw k k_in in
    let inside : (mx * mw + k) % mw ≡ k = mod-mul-add mx mw k k_in in
    let none : 0 / mw ≡ 0 = no_parts mw some in
    let first : 0 % mw ≡ 0 = no_rest mw some in
    let here : 64 * microtile_number tiling w ((mx * mw + k) / mw) (y / mh) ≡ 64 * microtile_number tiling w mx (y / mh) =
    ap (λ n. 64 * microtile_number tiling w n (y / mh)) number in
    let there : 64 * microtile_number tiling w (0 / mw) (y / mh) ≡ 64 * microtile_number tiling w 0 (y / mh) =
    ap (λ n. 64 * microtile_number tiling w n (y / mh)) none in
    let in_here : cpp * (y % mh * mw + (mx * mw + k) % mw) ≡ cpp * (y % mh * mw + k) = ap (λ n. cpp * (y % mh * mw + n)) inside in
    let in_there : cpp * (y % mh * mw + 0 % mw) ≡ cpp * (y % mh * mw + 0) = ap (λ n. cpp * (y % mh * mw + n)) first in
    omega (arith, here, there, in_here, in_there, apart)

number_on_T : (across mx my : ℕ) → 64 * microtile_number T across mx my ≡ 64 * microtile_number T across 0 my + (mx / 8 * 4096 + mx % 8 * 64)
unfolding microtile_number
number_on_T across mx my = omega arith

number_on_Lt : (across mx my : ℕ) → 64 * microtile_number Lt across mx my ≡ 64 * microtile_number Lt across 0 my + mx * 64
unfolding microtile_number
number_on_Lt across mx my = omega arith

raster_together : (width cpp mx k y : ℕ)
    → raster_place width cpp (mx * microtile_width_of cpp + k) y ≡ raster_place width cpp 0 y + mx * microtile_width_of cpp * cpp + k * cpp
unfolding raster_place
raster_together width cpp mx k y = omega arith

pub stand_together : (order : Order) (width cpp mx k y : ℕ) → k < microtile_width_of cpp
    → place_in order width cpp (mx * microtile_width_of cpp + k) y ≡ place_in order width cpp 0 y + part_offset order cpp mx + k * cpp
unfolding place_in part_offset
stand_together Rows width cpp mx k y k_in = omega arith
stand_together (Surface Raster) width cpp mx k y k_in = raster_together width cpp mx k y
stand_together (Surface T) width cpp mx k y k_in =
    together_tiled T width cpp mx k y (mx / 8 * 4096 + mx % 8 * 64) k_in (number_on_T (microtiles_across T width cpp) mx (y / microtile_height_of cpp))
stand_together (Surface Lt) width cpp mx k y k_in =
    together_tiled Lt width cpp mx k y (mx * 64) k_in (number_on_Lt (microtiles_across Lt width cpp) mx (y / microtile_height_of cpp))
