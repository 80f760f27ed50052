-- Microtiles and pixels lie inside their surface, and different ones share no byte.
use Rattle.std.proofs.Common.{◌≡◌, ℕ, ◌+◌, ◌*◌, ◌/◌, ◌%◌, ◌<◌, ◌≤◌, refl, sym, ap, subst, arith, ◌∙◌, ◌⊎◌, inl, inr, min}
use Rattle.std.proofs.Math.Nat.{mul-div_cancel, div-mul-le_self, mul-le-mul_left, mul-le-mul_right, mul_assoc, mul_comm}
use Rattle.std.proofs.lemmas.Nat.{same_from_place, mul-add-lt, div_below, div-add-mod'}
use Rattle.field_words.specs.Words.{rounded_up}
use Rattle.texture_layouts.specs.declared.surface.Tiling.TheVariants.{Raster, T, Lt}
use Rattle.texture_layouts.specs.Place.{aligned_across, aligned_down, microtiles_across, microtiles_down, microtile_number, microtile_place_of, place_in_microtile, raster_place, tiled_place, pixel_place_of, IsMicrotileInside, IsMicrotileApart, IsPixelInside, IsPixelApart}
use Rattle.texture_layouts.specs.declared.surface.Tiling.{Tiling}
use Rattle.texture_layouts.specs.Surface.{IsPixelSize, microtile_width_of, microtile_height_of, size_for}

-- A microtile has 64 bytes.
pub microtile_bytes : (cpp : ℕ) → IsPixelSize cpp → microtile_width_of cpp * (microtile_height_of cpp * cpp) ≡ 64
unfolding microtile_width_of microtile_height_of
microtile_bytes cpp (inl e) = subst (λ c. microtile_width_of c * (microtile_height_of c * c) ≡ 64) (sym e) refl
microtile_bytes cpp (inr (inl e)) = subst (λ c. microtile_width_of c * (microtile_height_of c * c) ≡ 64) (sym e) refl
microtile_bytes cpp (inr (inr (inl e))) = subst (λ c. microtile_width_of c * (microtile_height_of c * c) ≡ 64) (sym e) refl
microtile_bytes cpp (inr (inr (inr e))) = subst (λ c. microtile_width_of c * (microtile_height_of c * c) ≡ 64) (sym e) refl

pub width_some : (cpp : ℕ) → 0 < microtile_width_of cpp
unfolding microtile_width_of
width_some cpp = grind arith

pub height_some : (cpp : ℕ) → 0 < microtile_height_of cpp
unfolding microtile_height_of
height_some cpp = grind arith

pub pixel_some : (cpp : ℕ) → IsPixelSize cpp → 0 < cpp
pixel_some cpp pixel = grind (arith, pixel)

-- In T a row has whole tiles of 8 microtiles.
abbrev pub AreWhole : Tiling → ℕ → Type 0
AreWhole Raster n = Unit {0}
AreWhole T n = n % 8 ≡ 0
AreWhole Lt n = Unit {0}

-- Numbers of different microtiles differ.
in_tiles : (w mx my nx ny : ℕ) → w % 8 ≡ 0 → mx < w → nx < w
    → (my / 8 * (w / 8) + mx / 8) * 64 + (my % 8 * 8 + mx % 8) ≡ (ny / 8 * (w / 8) + nx / 8) * 64 + (ny % 8 * 8 + nx % 8)
    → (mx ≡ nx) × (my ≡ ny)
in_tiles w mx my nx ny whole x_in u_in same =
    let parts = same_from_place (my / 8 * (w / 8) + mx / 8) (my % 8 * 8 + mx % 8) (ny / 8 * (w / 8) + nx / 8) (ny % 8 * 8 + nx % 8) 64 (omega arith) (omega arith) same in
    let tiles = same_from_place (my / 8) (mx / 8) (ny / 8) (nx / 8) (w / 8) (omega arith) (omega arith) parts.0 in
    let rest = parts.1 in
    (omega (arith, tiles.0, tiles.1, rest), omega (arith, tiles.0, tiles.1, rest))

in_rows : (w mx my nx ny : ℕ) → mx < w → nx < w → my * w + mx ≡ ny * w + nx → (mx ≡ nx) × (my ≡ ny)
in_rows w mx my nx ny x_in u_in same =
    let parts = same_from_place my mx ny nx w x_in u_in same in
    (parts.1, parts.0)

pub number_same : (tiling : Tiling) (w mx my nx ny : ℕ) → AreWhole tiling w → mx < w → nx < w
    → microtile_number tiling w mx my ≡ microtile_number tiling w nx ny → (mx ≡ nx) × (my ≡ ny)
unfolding microtile_number
number_same Raster w mx my nx ny whole x_in u_in same = in_rows w mx my nx ny x_in u_in same
number_same T w mx my nx ny whole x_in u_in same = in_tiles w mx my nx ny whole x_in u_in same
number_same Lt w mx my nx ny whole x_in u_in same = in_rows w mx my nx ny x_in u_in same

-- The number of a microtile is below that of all.
tiles_below : (w h mx my : ℕ) → w % 8 ≡ 0 → h % 8 ≡ 0 → mx < w → my < h → (my / 8 * (w / 8) + mx / 8) * 64 + (my % 8 * 8 + mx % 8) < w * h
tiles_below w h mx my wide high x_in y_in =
    let a : ℕ = w / 8 in
    let b : ℕ = h / 8 in
    let tile : my / 8 * a + mx / 8 < a * b = mul-add-lt (my / 8) a (mx / 8) b (omega arith) (omega arith) in
    let w_is : w ≡ a * 8 = omega arith in
    let h_is : h ≡ b * 8 = omega arith in
    let all : w * h ≡ (a * b) * 64 = ap (λ n. n * h) w_is ∙ ap (λ n. a * 8 * n) h_is ∙ omega arith in
    omega (arith, tile, all)

pub number_below : (tiling : Tiling) (w h mx my : ℕ) → AreWhole tiling w → AreWhole tiling h → mx < w → my < h → microtile_number tiling w mx my < w * h
unfolding microtile_number
number_below Raster w h mx my wide high x_in y_in = mul-add-lt my w mx h y_in x_in
number_below T w h mx my wide high x_in y_in = tiles_below w h mx my wide high x_in y_in
number_below Lt w h mx my wide high x_in y_in = mul-add-lt my w mx h y_in x_in

-- An aligned side is made of whole microtiles.
rounded_parts : (n m : ℕ) → 0 < m → rounded_up n m / m * m ≡ rounded_up n m
unfolding rounded_up
rounded_parts n m some = ap (λ k. k * m) (mul-div_cancel (n / m + min 1 (n % m)) some)

rounded_tiles : (n m : ℕ) → 0 < m → (rounded_up n (8 * m) / m * m ≡ rounded_up n (8 * m)) × (rounded_up n (8 * m) / m % 8 ≡ 0)
unfolding rounded_up
rounded_tiles n m some =
    let k : ℕ = n / (8 * m) + min 1 (n % (8 * m)) in
    let e : k * (8 * m) ≡ (k * 8) * m = sym (mul_assoc k 8 m) in
    let parts : k * (8 * m) / m ≡ k * 8 = ap (λ p. p / m) e ∙ mul-div_cancel (k * 8) some in
    (ap (λ p. p * m) parts ∙ sym e, ap (λ p. p % 8) parts ∙ omega arith)

pub across_parts : (tiling : Tiling) (width cpp : ℕ) → microtiles_across tiling width cpp * microtile_width_of cpp ≡ aligned_across tiling width cpp
unfolding microtiles_across
across_parts Raster width cpp = rounded_parts width (microtile_width_of cpp) (width_some cpp)
across_parts T width cpp = (rounded_tiles width (microtile_width_of cpp) (width_some cpp)).0
across_parts Lt width cpp = rounded_parts width (microtile_width_of cpp) (width_some cpp)

pub across_whole : (tiling : Tiling) (width cpp : ℕ) → AreWhole tiling (microtiles_across tiling width cpp)
unfolding microtiles_across
across_whole Raster width cpp = tt
across_whole T width cpp = (rounded_tiles width (microtile_width_of cpp) (width_some cpp)).1
across_whole Lt width cpp = tt

pub down_parts : (tiling : Tiling) (height cpp : ℕ) → microtiles_down tiling height cpp * microtile_height_of cpp ≤ aligned_down tiling height cpp
unfolding microtiles_down
down_parts tiling height cpp = div-mul-le_self (aligned_down tiling height cpp) (microtile_height_of cpp)

pub down_exact : (tiling : Tiling) (height cpp : ℕ) → (tiling ≡ T) ⊎ (tiling ≡ Lt) → microtiles_down tiling height cpp * microtile_height_of cpp ≡ aligned_down tiling height cpp
unfolding microtiles_down
down_exact Raster height cpp tiled = elim tiled [ inl e ↦ cc | inr e ↦ cc ]
down_exact T height cpp tiled = (rounded_tiles height (microtile_height_of cpp) (height_some cpp)).0
down_exact Lt height cpp tiled = rounded_parts height (microtile_height_of cpp) (height_some cpp)

pub down_whole : (tiling : Tiling) (height cpp : ℕ) → AreWhole tiling (microtiles_down tiling height cpp)
unfolding microtiles_down
down_whole Raster height cpp = tt
down_whole T height cpp = (rounded_tiles height (microtile_height_of cpp) (height_some cpp)).1
down_whole Lt height cpp = tt

-- All microtiles lie in the surface.
microtiles_fit : (tiling : Tiling) (width height cpp : ℕ) → IsPixelSize cpp
    → microtiles_across tiling width cpp * microtiles_down tiling height cpp * 64 ≤ size_for tiling width height cpp
microtiles_fit tiling width height cpp pixel =
    let a : ℕ = microtiles_across tiling width cpp in
    let b : ℕ = microtiles_down tiling height cpp in
    let mw : ℕ = microtile_width_of cpp in
    let mh : ℕ = microtile_height_of cpp in
    let bytes : mw * (mh * cpp) ≡ 64 = microtile_bytes cpp pixel in
    let wide : a * mw ≡ aligned_across tiling width cpp = across_parts tiling width cpp in
    let high : b * mh ≤ aligned_down tiling height cpp = down_parts tiling height cpp in
    let sides : (a * mw) * (b * mh) ≤ (a * mw) * aligned_down tiling height cpp = mul-le-mul_left (a * mw) high in
    let size : (a * mw) * (b * mh) * cpp ≤ (a * mw) * aligned_down tiling height cpp * cpp = mul-le-mul_right cpp sides in
    let ring : (a * mw) * (b * mh) * cpp ≡ a * b * (mw * (mh * cpp)) = omega arith in
    let same : a * b * (mw * (mh * cpp)) ≡ a * b * 64 = ap (λ n. a * b * n) bytes in
    subst (λ w. a * b * 64 ≤ w * aligned_down tiling height cpp * cpp) wide (omega (arith, size, ring, same))

-- The laws of microtiles.
pub microtile_inside : (tiling : Tiling) (width cpp mx my : ℕ) → IsPixelSize cpp → IsMicrotileInside tiling width cpp mx my (microtile_place_of tiling width cpp mx my)
unfolding microtile_place_of
microtile_inside tiling width cpp mx my pixel height x_in y_in =
    let below = number_below tiling (microtiles_across tiling width cpp) (microtiles_down tiling height cpp) mx my (across_whole tiling width cpp) (down_whole tiling height cpp) x_in y_in in
    let fit = microtiles_fit tiling width height cpp pixel in
    omega (arith, below, fit)

pub microtile_apart : (tiling : Tiling) (width cpp mx my : ℕ) → IsMicrotileApart tiling width cpp mx my (microtile_place_of tiling width cpp mx my)
unfolding microtile_place_of
microtile_apart tiling width cpp mx my x y i j m_in x_in i_in j_in same =
    let w : ℕ = microtiles_across tiling width cpp in
    let parts = same_from_place (microtile_number tiling w mx my) i (microtile_number tiling w x y) j 64 i_in j_in (omega (arith, same)) in
    number_same tiling w mx my x y (across_whole tiling width cpp) m_in x_in parts.0

-- A pixel's bytes lie in its microtile's.
pub pixel_in_microtile : (cpp x y : ℕ) → IsPixelSize cpp → place_in_microtile cpp x y + cpp ≤ 64
unfolding place_in_microtile
pixel_in_microtile cpp x y pixel =
    let mw : ℕ = microtile_width_of cpp in
    let mh : ℕ = microtile_height_of cpp in
    let bytes : mw * (mh * cpp) ≡ 64 = microtile_bytes cpp pixel in
    let wide : 0 < mw = width_some cpp in
    let high : 0 < mh = height_some cpp in
    let below : y % mh * mw + x % mw < mw * mh = mul-add-lt (y % mh) mw (x % mw) mh (omega arith) (omega arith) in
    let size : cpp * (y % mh * mw + x % mw + 1) ≤ cpp * (mw * mh) = mul-le-mul_left cpp (let h : y % mh * mw + x % mw + 1 ≤ mw * mh = omega (arith, below) in h) in
    let ring : cpp * (mw * mh) ≡ mw * (mh * cpp) = omega arith in
    let last : cpp * (y % mh * mw + x % mw + 1) ≡ cpp * (y % mh * mw + x % mw) + cpp = omega arith in
    omega (arith, size, ring, last, bytes)

same_in_microtile : (cpp x y u v i j : ℕ) → i < cpp → j < cpp → place_in_microtile cpp x y + i ≡ place_in_microtile cpp u v + j
    → (x % microtile_width_of cpp ≡ u % microtile_width_of cpp) × (y % microtile_height_of cpp ≡ v % microtile_height_of cpp)
unfolding place_in_microtile
same_in_microtile cpp x y u v i j i_in j_in same =
    let mw : ℕ = microtile_width_of cpp in
    let mh : ℕ = microtile_height_of cpp in
    let wide : 0 < mw = width_some cpp in
    let turned : (n : ℕ) → cpp * n ≡ n * cpp = mul_comm cpp in
    let rows = same_from_place (y % mh * mw + x % mw) i (v % mh * mw + u % mw) j cpp i_in j_in
    (ap (λ n. n + i) (sym (turned (y % mh * mw + x % mw))) ∙ same ∙ ap (λ n. n + j) (turned (v % mh * mw + u % mw))) in
    let parts = same_from_place (y % mh) (x % mw) (v % mh) (u % mw) mw (omega arith) (omega arith) rows.0 in
    (parts.1, parts.0)

-- A number is known by how often another goes into it, and by what is left.
same_number : (n m k : ℕ) → n / k ≡ m / k → n % k ≡ m % k → n ≡ m
same_number n m k parts rest = sym (div-add-mod' n k) ∙ ap (λ q. q * k + n % k) parts ∙ ap (λ r. m / k * k + r) rest ∙ div-add-mod' m k

-- The laws of the pixels of a tiled surface.
pub tiled_inside : (tiling : Tiling) (width height cpp x y : ℕ) → IsPixelSize cpp → x < aligned_across tiling width cpp
    → y < microtiles_down tiling height cpp * microtile_height_of cpp → tiled_place tiling width cpp x y + cpp ≤ size_for tiling width height cpp
unfolding tiled_place
tiled_inside tiling width height cpp x y pixel x_in y_in =
    let mw : ℕ = microtile_width_of cpp in
    let mh : ℕ = microtile_height_of cpp in
    let x_of : x < microtiles_across tiling width cpp * mw = subst (λ n. x < n) (sym (across_parts tiling width cpp)) x_in in
    let inside = microtile_inside tiling width cpp (x / mw) (y / mh) pixel height
    (div_below x mw (microtiles_across tiling width cpp) (width_some cpp) x_of)
    (div_below y mh (microtiles_down tiling height cpp) (height_some cpp) y_in) in
    omega (arith, inside, pixel_in_microtile cpp x y pixel)

pub tiled_apart : (tiling : Tiling) (width cpp x y u v i j : ℕ) → IsPixelSize cpp → x < aligned_across tiling width cpp → u < aligned_across tiling width cpp
    → i < cpp → j < cpp → tiled_place tiling width cpp x y + i ≡ tiled_place tiling width cpp u v + j → (x ≡ u) × (y ≡ v)
unfolding tiled_place
tiled_apart tiling width cpp x y u v i j pixel x_in u_in i_in j_in same =
    let mw : ℕ = microtile_width_of cpp in
    let mh : ℕ = microtile_height_of cpp in
    let w : ℕ = microtiles_across tiling width cpp in
    let one : ℕ = place_in_microtile cpp x y + i in
    let two : ℕ = place_in_microtile cpp u v + j in
    let one_in : one < 64 = omega (arith, pixel_in_microtile cpp x y pixel) in
    let two_in : two < 64 = omega (arith, pixel_in_microtile cpp u v pixel) in
    let x_of : x / mw < w = div_below x mw w (width_some cpp) (subst (λ n. x < n) (sym (across_parts tiling width cpp)) x_in) in
    let u_of : u / mw < w = div_below u mw w (width_some cpp) (subst (λ n. u < n) (sym (across_parts tiling width cpp)) u_in) in
    let tiles = microtile_apart tiling width cpp (x / mw) (y / mh) (u / mw) (v / mh) one two x_of u_of one_in two_in (omega (arith, same)) in
    let place : microtile_place_of tiling width cpp (x / mw) (y / mh) ≡ microtile_place_of tiling width cpp (u / mw) (v / mh) =
    ap (λ m. microtile_place_of tiling width cpp m (y / mh)) tiles.0 ∙ ap (λ m. microtile_place_of tiling width cpp (u / mw) m) tiles.1 in
    let rest = same_in_microtile cpp x y u v i j i_in j_in (omega (arith, same, place)) in
    (same_number x u mw tiles.0 rest.0, same_number y v mh tiles.1 rest.1)

-- The laws of the pixels of a raster surface.
pub raster_inside : (width height cpp x y : ℕ) → x < aligned_across Raster width cpp → y < aligned_down Raster height cpp
    → raster_place width cpp x y + cpp ≤ size_for Raster width height cpp
unfolding raster_place
raster_inside width height cpp x y x_in y_in =
    let w : ℕ = aligned_across Raster width cpp in
    let h : ℕ = aligned_down Raster height cpp in
    let below : y * w + x < w * h = mul-add-lt y w x h y_in x_in in
    let size : cpp * (y * w + x + 1) ≤ cpp * (w * h) = mul-le-mul_left cpp (let k : y * w + x + 1 ≤ w * h = omega (arith, below) in k) in
    let last : cpp * (y * w + x + 1) ≡ cpp * (y * w + x) + cpp = omega arith in
    let turned : cpp * (w * h) ≡ w * h * cpp = mul_comm cpp (w * h) in
    omega (arith, size, last, turned)

raster_apart : (width cpp x y u v i j : ℕ) → x < aligned_across Raster width cpp → u < aligned_across Raster width cpp → i < cpp → j < cpp
    → raster_place width cpp x y + i ≡ raster_place width cpp u v + j → (x ≡ u) × (y ≡ v)
unfolding raster_place
raster_apart width cpp x y u v i j x_in u_in i_in j_in same =
    let w : ℕ = aligned_across Raster width cpp in
    let rows = same_from_place (y * w + x) i (v * w + u) j cpp i_in j_in
    (ap (λ n. n + i) (sym (mul_comm cpp (y * w + x))) ∙ same ∙ ap (λ n. n + j) (mul_comm cpp (v * w + u))) in
    in_rows w x y u v x_in u_in rows.0

-- The laws of pixels, whatever the tiling.
pub pixel_inside : (tiling : Tiling) (width cpp x y : ℕ) → IsPixelSize cpp → IsPixelInside tiling width cpp x y (pixel_place_of tiling width cpp x y)
pixel_inside Raster width cpp x y pixel height x_in y_in = raster_inside width height cpp x y x_in y_in
pixel_inside T width cpp x y pixel height x_in y_in =
    tiled_inside T width height cpp x y pixel x_in (subst (λ n. y < n) (sym (down_exact T height cpp (inl refl))) y_in)
pixel_inside Lt width cpp x y pixel height x_in y_in =
    tiled_inside Lt width height cpp x y pixel x_in (subst (λ n. y < n) (sym (down_exact Lt height cpp (inr refl))) y_in)

pub pixel_apart : (tiling : Tiling) (width cpp x y : ℕ) → IsPixelSize cpp → IsPixelApart tiling width cpp x y (pixel_place_of tiling width cpp x y)
pixel_apart Raster width cpp x y pixel u v i j x_in u_in i_in j_in same = raster_apart width cpp x y u v i j x_in u_in i_in j_in same
pixel_apart T width cpp x y pixel u v i j x_in u_in i_in j_in same = tiled_apart T width cpp x y u v i j pixel x_in u_in i_in j_in same
pixel_apart Lt width cpp x y pixel u v i j x_in u_in i_in j_in same = tiled_apart Lt width cpp x y u v i j pixel x_in u_in i_in j_in same
