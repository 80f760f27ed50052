-- One part more, and then all.
use Rattle.std.proofs.Common.{◌≡◌, ℕ, ◌+◌, ◌-◌, ◌*◌, ◌/◌, ◌%◌, ◌<◌, ◌≤◌, ◌⊎◌, inl, inr, List, min, get_or, refl, sym, ap, subst, arith, ◌∙◌}
use Rattle.std.proofs.{Math.Nat.mul-le-mul_right, lemmas.Nat.mul-add-lt, lemmas.Nat.div_below, lemmas.Nat.div-add-mod'}
use Rattle.std.proofs.{lemmas.Grind.div_ceil_times, lemmas.Bool.cases_lt}
use Rattle.std.specs.Int.{div_ceil}
use Rattle.texture_layouts.specs.Surface.{IsPixelSize, microtile_width_of}
use Rattle.texture_layouts.proofs.Places.{pixel_some, width_some}
use Rattle.tile_convert.specs.{declared.order.Order.Order, Steps.IsPartCopied, Steps.IsBefore, Steps.IsCopied, Steps.HasRow}
use Rattle.tile_convert.specs.Picture.{place_in, part_offset, pixels_there, parts_across}
use Rattle.tile_convert.proofs.Places.{pixels_apart, stand_together}

-- n pixels from (x, y) on stand together from this place on
abbrev pub Together : Order → ℕ → ℕ → ℕ → ℕ → ℕ → ℕ → Type 0
Together order width cpp x y n place = (k : ℕ) → k < n → place_in order width cpp (x + k) y ≡ place + k * cpp

-- A byte of such a part is a byte of one of its pixels.
in_part : (order : Order) (width cpp x y n place k : ℕ) → 0 < cpp → Together order width cpp x y n place → k < n * cpp
    → (m : ℕ) × ((m < n) × (place_in order width cpp (x + m) y + k % cpp ≡ place + k))
in_part order width cpp x y n place k some together k_in =
    let m : ℕ = k / cpp in
    let m_in : m < n = div_below k cpp n some k_in in
    (m, (m_in, omega (arith, together m m_in, div-add-mod' k cpp)))

-- A byte of a pixel before (x, y) is none of a part from there on.
not_in_part : (order : Order) (width cpp x y n place u v b k : ℕ) → IsPixelSize cpp → x + n ≤ width → Together order width cpp x y n place
    → IsBefore width u v x y → b < cpp → k < n * cpp → place_in order width cpp u v + b ≡ place + k → ⊥
not_in_part order width cpp x y n place u v b k pixel inside together before b_in k_in same =
    let some : 0 < cpp = pixel_some cpp pixel in
    let part = in_part order width cpp x y n place k some together k_in in
    let apart = pixels_apart order width cpp u v (x + part.0) y b (k % cpp) pixel before.0 (omega (arith, part.1.0)) b_in (omega (arith, some)) (same ∙ sym part.1.1) in
    elim before.1 [ inl above ↦ omega (arith, apart.1, above) | inr left ↦ omega (arith, apart.0, left.1) ]

-- The part that was copied holds the pixel (u, y).
of_part : (from to : Order) (width cpp x y n a b u c : ℕ) (source old new : List ℕ) → Together from width cpp x y n a → Together to width cpp x y n b
    → IsPartCopied source a old b (n * cpp) new → x ≤ u → u < x + n → c < cpp
    → get_or new (place_in to width cpp u y + c) 0 ≡ get_or source (place_in from width cpp u y + c) 0
of_part from to width cpp x y n a b u c source old new from_a to_b copied least below c_in =
    let k : ℕ = u - x in
    let k_in : k < n = omega arith in
    let is : x + k ≡ u = omega arith in
    let inside : k * cpp + c < n * cpp = omega (arith, mul-add-lt k cpp c n k_in c_in) in
    let source_at : place_in from width cpp u y ≡ a + k * cpp = subst (λ m. place_in from width cpp m y ≡ a + k * cpp) is (from_a k k_in) in
    let target_at : place_in to width cpp u y ≡ b + k * cpp = subst (λ m. place_in to width cpp m y ≡ b + k * cpp) is (to_b k k_in) in
    ap (λ i. get_or new i 0) (let e : place_in to width cpp u y + c ≡ b + (k * cpp + c) = omega (arith, target_at) in e)
    ∙ copied.part (k * cpp + c) inside
    ∙ ap (λ i. get_or source i 0) (let e : a + (k * cpp + c) ≡ place_in from width cpp u y + c = omega (arith, source_at) in e)

pub one_part : (from to : Order) (width cpp x y n a b : ℕ) (source old mid new : List ℕ) → IsPixelSize cpp → x + n ≤ width
    → Together from width cpp x y n a → Together to width cpp x y n b
    → IsPartCopied source a mid b (n * cpp) new → IsCopied from to width cpp source old mid x y → IsCopied from to width cpp source old new (x + n) y
one_part from to width cpp x y n a b source old mid new pixel inside from_a to_b copied before =
    let earlier : (u v c : ℕ) → IsBefore width u v x y → c < cpp
    → get_or new (place_in to width cpp u v + c) 0 ≡ get_or source (place_in from width cpp u v + c) 0 = λ u v c first c_in.
    copied.rest (place_in to width cpp u v + c) (λ k k_in same. not_in_part to width cpp x y n b u v c k pixel inside to_b first c_in k_in same)
    ∙ before.pixels u v c first c_in in
    record {
      size = copied.size ∙ before.size;
      pixels = λ u v c first c_in.
          elim first.1 [
            | inl above ↦ earlier u v c (first.0, inl above) c_in
            | inr left ↦ elim (cases_lt u x) [
              | inl below ↦ earlier u v c (first.0, inr (left.0, below)) c_in
              | inr least ↦ subst (λ w. get_or new (place_in to width cpp u w + c) 0 ≡ get_or source (place_in from width cpp u w + c) 0) (sym left.0)
                  (of_part from to width cpp x y n a b u c source mid new from_a to_b copied least left.1 c_in)
            ]
          ];
      rest = λ i none.
          copied.rest i (λ k k_in same.
          let part = in_part to width cpp x y n b k (pixel_some cpp pixel) to_b k_in in
          none (x + part.0) y (k % cpp) (omega (arith, part.1.0), inr (refl, omega (arith, part.1.0))) (omega (arith, pixel_some cpp pixel)) (same ∙ sym part.1.1))
          ∙ before.rest i (λ u v c first c_in same.
          none u v c (first.0, elim first.1 [ inl above ↦ inl above | inr left ↦ inr (left.0, omega (arith, left.1)) ]) c_in same);
    }

in_row : (width u v y : ℕ) → IsBefore width u v 0 (y + 1) → (v < y) ⊎ ((v ≡ y) × (u < width))
in_row width u v y first =
    elim (cases_lt v y) [
      | inl above ↦ inl above
      | inr here ↦ inr (elim first.1 [ inl next ↦ (omega (arith, next), first.0) | inr left ↦ absurd (omega (arith, left.1)) ])
    ]

in_next : (u v width y : ℕ) → (v < y) ⊎ ((v ≡ y) × (u < width)) → (v < y + 1) ⊎ ((v ≡ y + 1) × (u < 0))
in_next u v width y (inl above) = inl (omega (arith, above))
in_next u v width y (inr here) = inl (omega (arith, here.0))

-- The end of a row is the start of the next.
pub next_row : (from to : Order) (width cpp y : ℕ) (source old new : List ℕ) → IsCopied from to width cpp source old new width y
    → IsCopied from to width cpp source old new 0 (y + 1)
next_row from to width cpp y source old new copied =
    record {
      size = copied.size;
      pixels = λ u v c first c_in. copied.pixels u v c (first.0, in_row width u v y first) c_in;
      rest = λ i none. copied.rest i (λ u v c first c_in same. none u v c (first.0, in_next u v width y first.1) c_in same);
    }

-- A microtile that a row reaches begins in the row.
pub begins_inside : (width cpp mx : ℕ) → mx < parts_across width cpp → mx * microtile_width_of cpp < width
unfolding parts_across
begins_inside width cpp mx below =
    let across : ℕ = microtile_width_of cpp in
    let bounds = div_ceil_times width across (width_some cpp) in
    let next : (mx + 1) * across ≤ div_ceil width across * across = mul-le-mul_right across (let h : mx + 1 ≤ div_ceil width across = omega arith in h) in
    omega (arith, bounds.1, next)

-- Its pixels in the row stand together.
there_together : (order : Order) (width cpp mx y n : ℕ) → n ≤ microtile_width_of cpp
    → Together order width cpp (mx * microtile_width_of cpp) y n (place_in order width cpp 0 y + part_offset order cpp mx)
there_together order width cpp mx y n few k k_in = stand_together order width cpp mx k y (omega arith)

-- Their bytes lie inside.
pub part_fits : (order : Order) (width cpp mx y size : ℕ) → HasRow order width cpp y size → mx < parts_across width cpp
    → place_in order width cpp 0 y + part_offset order cpp mx + pixels_there width cpp mx * cpp ≤ size
unfolding pixels_there
part_fits order width cpp mx y size row below =
    let across : ℕ = microtile_width_of cpp in
    let x : ℕ = mx * across in
    let inside : x < width = begins_inside width cpp mx below in
    let n : ℕ = min across (width - x) in
    let some : 1 ≤ n = omega (arith, inside, width_some cpp) in
    let within : x + (n - 1) < width = omega (arith, some, inside) in
    let last = row (x + (n - 1)) within in
    let place = stand_together order width cpp mx (n - 1) y (omega (arith, some)) in
    let bytes : n * cpp ≡ (n - 1) * cpp + cpp = (let e : n ≡ (n - 1) + 1 = omega (arith, some) in ap (λ m. m * cpp) e ∙ omega arith) in
    omega (arith, last, place, bytes)

-- One microtile's pixels more.
pub one_more : (from to : Order) (width cpp mx y : ℕ) (source old mid new : List ℕ) → IsPixelSize cpp → mx < parts_across width cpp
    → IsPartCopied source (place_in from width cpp 0 y + part_offset from cpp mx) mid (place_in to width cpp 0 y + part_offset to cpp mx)
    (pixels_there width cpp mx * cpp) new
    → IsCopied from to width cpp source old mid (min (mx * microtile_width_of cpp) width) y
    → IsCopied from to width cpp source old new (min ((mx + 1) * microtile_width_of cpp) width) y
unfolding pixels_there
one_more from to width cpp mx y source old mid new pixel below copied before =
    let across : ℕ = microtile_width_of cpp in
    let x : ℕ = mx * across in
    let inside : x < width = begins_inside width cpp mx below in
    let n : ℕ = min across (width - x) in
    let here : min x width ≡ x = omega (arith, inside) in
    let there : x + n ≡ min ((mx + 1) * across) width = omega (arith, inside) in
    subst (λ u. IsCopied from to width cpp source old new u y) there
    (one_part from to width cpp x y n (place_in from width cpp 0 y + part_offset from cpp mx) (place_in to width cpp 0 y + part_offset to cpp mx)
    source old mid new pixel (omega (arith, inside)) (there_together from width cpp mx y n (omega arith)) (there_together to width cpp mx y n (omega arith))
    copied (subst (λ u. IsCopied from to width cpp source old mid u y) here before))

-- All microtiles that a row reaches are the row.
pub whole_row : (width cpp : ℕ) → min (parts_across width cpp * microtile_width_of cpp) width ≡ width
unfolding parts_across
whole_row width cpp = omega (arith, (div_ceil_times width (microtile_width_of cpp) (width_some cpp)).0)
