-- A texture that breaks no rule lies in its buffer.
use Rattle.std.proofs.Common.{◌≡◌, ℕ, zero, suc, ◌+◌, ◌-◌, ◌*◌, ◌<◌, ◌≤◌, false, None, sym, subst, arith, ◌∙◌, ◌⊎◌}
use Rattle.std.proofs.{Math.Nat.mul-le-mul_right, lemmas.Bool.ltb-false}
use Rattle.field_words.specs.Questions.{first_of}
use Rattle.field_words.proofs.Questions.{none_broken}
use Rattle.texture_layouts.specs.Setup.{TextureModel, type_of, pixel_bytes_of, texture_of, faces_of, face_place, size_at, size_below, level_place_of}
use Rattle.texture_layouts.specs.{Surface.IsPixelSize, Fits.is_unlisted, Fits.has_level_below, Fits.texture_questions, Fits.IsInBuffer}
use Rattle.texture_layouts.proofs.{Faces.last_decides, Levels.below_none, Levels.below_more}

-- The bytes of a pixel are one of four numbers, or the type isn't listed.
pixel_listed : (kind : ℕ) → (pixel_bytes_of kind ≡ 0) ⊎ IsPixelSize (pixel_bytes_of kind)
unfolding pixel_bytes_of
pixel_listed kind = grind arith

listed : (p0 p1 p2 p3 : ℕ) → is_unlisted (texture_of p0 p1 p2 p3) ≡ false → IsPixelSize (texture_of p0 p1 p2 p3).cpp
unfolding is_unlisted texture_of
listed p0 p1 p2 p3 known = grind (arith, known, pixel_listed (type_of p0 p1))

-- More levels take more bytes.
pub below_grows : (t : TextureModel) (level more : ℕ) → size_below t level ≤ size_below t (level + more)
below_grows t level zero = let e : level + 0 ≡ level = omega arith in subst (λ n. size_below t level ≤ size_below t n) (sym e) (omega arith)
below_grows t level (suc more) =
    let e : level + suc more ≡ level + more + 1 = omega arith in
    let step = below_more t (level + more) in
    let before = below_grows t level more in
    subst (λ n. size_below t level ≤ size_below t n) (sym e) (omega arith)

pub below_upto : (t : TextureModel) (level levels : ℕ) → level ≤ levels → size_below t level ≤ size_below t levels
below_upto t level levels upto =
    let e : level + (levels - level) ≡ levels = omega arith in
    subst (λ n. size_below t level ≤ size_below t n) e (below_grows t level (levels - level))

-- Each level of a face lies below the level before, and so at most where the face's own pixels end.
level_upto : (t : TextureModel) (face level size : ℕ) → size_below t level ≤ face_place t face → face_place t face + size_at t 0 ≤ size
    → level_place_of t face level + size_at t level ≤ size
level_upto t face zero size from upto = omega (arith, below_none t)
level_upto t face (suc n) size from upto =
    let e : n + 1 ≡ suc n = omega arith in
    let step : size_below t (suc n) ≡ size_below t n + size_at t (suc n) = subst (λ m. size_below t m ≡ size_below t n + size_at t m) e (below_more t n) in
    omega (arith, step)

pub in_buffer : (p0 p1 p2 p3 size : ℕ) → first_of (texture_questions p0 p1 p2 p3 size) ≡ None → IsInBuffer (texture_of p0 p1 p2 p3) size
unfolding texture_questions has_level_below
in_buffer p0 p1 p2 p3 size none =
    let t : TextureModel = texture_of p0 p1 p2 p3 in
    let asked = none_broken (texture_questions p0 p1 p2 p3 size) none in
    let last : face_place t (faces_of t - 1) + size_at t 0 ≤ size =
    ltb-false size (face_place t (faces_of t - 1) + size_at t 0) (sym (last_decides t size) ∙ asked.1.1.1.0) in
    let all : size_below t t.levels ≤ t.base = ltb-false t.base (size_below t t.levels) asked.1.1.1.1.0 in
    let faces : (face : ℕ) → face < faces_of t → face_place t face + size_at t 0 ≤ size = λ face below.
    let before : face * t.stride ≤ (faces_of t - 1) * t.stride = mul-le-mul_right t.stride (let h : face ≤ faces_of t - 1 = omega arith in h) in
    omega (arith, before, last) in
    let levels : (face level : ℕ) → level ≤ t.levels → size_below t level ≤ face_place t face = λ face level upto.
    let grows = below_upto t level t.levels upto in
    omega (arith, grows, all) in
    record {
      pixel = listed p0 p1 p2 p3 asked.1.1.0;
      from = λ face level below upto. levels face level upto;
      upto = λ face level below upto. level_upto t face level size (levels face level upto) (faces face below);
    }
