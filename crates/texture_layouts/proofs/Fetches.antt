-- What is fetched of a texture that breaks no rule lies in its buffer.
use Rattle.std.proofs.Common.{◌≡◌, ℕ, ◌+◌, ◌-◌, ◌/◌, ◌<◌, ◌≤◌, refl, sym, subst, arith, inl, inr, ◌⊎◌}
use Rattle.std.proofs.lemmas.Nat.{div_below}
use Rattle.field_words.proofs.Numbers.{rounded}
use Rattle.texture_layouts.specs.declared.surface.Tiling.TheVariants.{Raster, T, Lt}
use Rattle.texture_layouts.specs.Surface.{IsPixelSize, microtile_width_of, microtile_height_of, unit_across, unit_down, size_for}
use Rattle.texture_layouts.specs.Place.{aligned_across, aligned_down, microtiles_across, microtiles_down, microtile_place_of}
use Rattle.texture_layouts.specs.Setup.{TextureModel, faces_of, level_width_of, level_height_of, tiling_at, size_at, face_place, size_below}
use Rattle.texture_layouts.specs.{declared.surface.Tiling.Tiling, Level.level_size_of, Level.image_size_of, Fits.IsInBuffer}
use Rattle.texture_layouts.specs.Fetch.{fetch_offset_of, fetch_size_of, fetch_reach, AreFetchesIn}
use Rattle.texture_layouts.proofs.Places.{width_some, height_some, across_parts, down_exact, microtile_inside, raster_inside}

-- An aligned side isn't shorter.
units_some : (tiling : Tiling) (cpp : ℕ) → (1 ≤ unit_across tiling cpp) × (1 ≤ unit_down tiling cpp)
units_some Raster cpp = (width_some cpp, omega arith)
units_some T cpp = (let h = width_some cpp in omega arith, let h = height_some cpp in omega arith)
units_some Lt cpp = (width_some cpp, height_some cpp)

in_width : (tiling : Tiling) (width cpp x : ℕ) → x < width → x < aligned_across tiling width cpp
in_width tiling width cpp x inside = omega (arith, (rounded width (unit_across tiling cpp) (units_some tiling cpp).0).least)

in_height : (tiling : Tiling) (height cpp y : ℕ) → y < height → y < aligned_down tiling height cpp
in_height tiling height cpp y inside = omega (arith, (rounded height (unit_down tiling cpp) (units_some tiling cpp).1).least)

-- A pixel's microtile lies in its image.
microtile_of : (tiling : Tiling) (width height cpp x y : ℕ) → IsPixelSize cpp → (tiling ≡ T) ⊎ (tiling ≡ Lt) → x < width → y < height
    → microtile_place_of tiling width cpp (x / microtile_width_of cpp) (y / microtile_height_of cpp) + 64 ≤ size_for tiling width height cpp
microtile_of tiling width height cpp x y pixel tiled x_in y_in =
    microtile_inside tiling width cpp (x / microtile_width_of cpp) (y / microtile_height_of cpp) pixel height
    (div_below x (microtile_width_of cpp) (microtiles_across tiling width cpp) (width_some cpp)
    (subst (λ n. x < n) (sym (across_parts tiling width cpp)) (in_width tiling width cpp x x_in)))
    (div_below y (microtile_height_of cpp) (microtiles_down tiling height cpp) (height_some cpp)
    (subst (λ n. y < n) (sym (down_exact tiling height cpp tiled)) (in_height tiling height cpp y y_in)))

offset_room : (tiling : Tiling) (width height cpp x y : ℕ) → IsPixelSize cpp → x < width → y < height
    → fetch_offset_of tiling width cpp x y + fetch_size_of tiling cpp ≤ size_for tiling width height cpp
unfolding fetch_offset_of fetch_size_of
offset_room Raster width height cpp x y pixel x_in y_in =
    raster_inside width height cpp x y (in_width Raster width cpp x x_in) (in_height Raster height cpp y y_in)
offset_room T width height cpp x y pixel x_in y_in = microtile_of T width height cpp x y pixel (inl refl) x_in y_in
offset_room Lt width height cpp x y pixel x_in y_in = microtile_of Lt width height cpp x y pixel (inr refl) x_in y_in

size_is : (t : TextureModel) (level : ℕ) → size_at t level ≡ size_for (tiling_at t level) (level_width_of t level) (level_height_of t level) t.cpp
unfolding level_size_of image_size_of
size_is t level = refl

-- A level that begins in the buffer and ends in it has its fetches in it.
level_room : (below place offset length size_of size : ℕ) → below ≤ place → place - below + size_of ≤ size → offset + length ≤ size_of
    → (below ≤ place + offset) × (place + offset - below + length ≤ size)
level_room below place offset length size_of size from upto room = (omega arith, omega arith)

pub fetches_in : (t : TextureModel) (size : ℕ) → IsInBuffer t size → AreFetchesIn t size
unfolding fetch_reach
fetches_in t size fits =
    let room : (face level x y : ℕ) → face < faces_of t → level ≤ t.levels → x < level_width_of t level → y < level_height_of t level
    → (size_below t level ≤ face_place t face + fetch_offset_of (tiling_at t level) (level_width_of t level) t.cpp x y)
    × (face_place t face + fetch_offset_of (tiling_at t level) (level_width_of t level) t.cpp x y - size_below t level + fetch_size_of (tiling_at t level) t.cpp ≤ size) =
    λ face level x y face_in level_in x_in y_in.
    level_room (size_below t level) (face_place t face) (fetch_offset_of (tiling_at t level) (level_width_of t level) t.cpp x y)
    (fetch_size_of (tiling_at t level) t.cpp) (size_at t level) size
    (fits.from face level face_in level_in) (fits.upto face level face_in level_in)
    (subst (λ n. fetch_offset_of (tiling_at t level) (level_width_of t level) t.cpp x y + fetch_size_of (tiling_at t level) t.cpp ≤ n) (sym (size_is t level))
    (offset_room (tiling_at t level) (level_width_of t level) (level_height_of t level) t.cpp x y fits.pixel x_in y_in)) in
    record {
      from = λ face level x y face_in level_in x_in y_in. (room face level x y face_in level_in x_in y_in).0;
      upto = λ face level x y face_in level_in x_in y_in. (room face level x y face_in level_in x_in y_in).1;
    }
