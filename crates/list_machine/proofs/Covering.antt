-- How small what a load or store covers is.
use Rattle.std.proofs.Common.{◌≡◌, ◌≤◌, ◌<◌, ℕ, ◌+◌, ◌*◌, ◌/◌, ◌%◌, ◌^◌, inl, inr, arith}
use Rattle.std.proofs.Math.Nat.{mul-le-mul, div-le_self, div-add-mod, le_refl}
use Rattle.std.specs.Int.{div_ceil}
use Rattle.texture_layouts.specs.{Surface.microtile_width_of, Surface.microtile_height_of, Format.IsShort}

pub wide_unit : (cpp : ℕ) → IsShort cpp → 4 ≤ microtile_width_of cpp
unfolding microtile_width_of
wide_unit cpp (inl e) = rw e (omega arith)
wide_unit cpp (inr e) = rw e (omega arith)

pub high_unit : (cpp : ℕ) → IsShort cpp → 4 ≤ microtile_height_of cpp
unfolding microtile_height_of
high_unit cpp (inl e) = rw e (omega arith)
high_unit cpp (inr e) = rw e (omega arith)

pub few_units : (pixels unit : ℕ) → pixels ≤ 64 → 4 ≤ unit → div_ceil pixels unit ≤ 16
few_units pixels unit most least =
    let some : 0 < unit = omega arith in
    let times : 4 * (pixels / unit) ≤ unit * (pixels / unit) = mul-le-mul least (le_refl (pixels / unit)) in
    let all : unit * (pixels / unit) + pixels % unit ≡ pixels = div-add-mod pixels unit in
    omega arith

-- where a tile begins, in microtiles
pub begins : (x side unit : ℕ) → x < 256 → side ≤ 64 → x * side / unit ≤ 2 ^ 14
begins x side unit low few =
    let most : x ≤ 255 = omega arith in
    let all : x * side ≤ 255 * 64 = mul-le-mul most few in
    let less : x * side / unit ≤ x * side = div-le_self (x * side) unit in
    omega arith

pub few_parts : (across down : ℕ) → across ≤ 16 → down ≤ 16 → across * down ≤ 256
few_parts across down wide high = mul-le-mul wide high
