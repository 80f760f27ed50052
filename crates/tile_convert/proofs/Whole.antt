-- A whole picture, and what comes back.
use Rattle.std.proofs.Common.{◌≡◌, ℕ, zero, suc, ◌+◌, ◌*◌, ◌/◌, ◌%◌, ◌<◌, inl, inr, List, length, replicate, get_or, sym, ap, subst, arith, ◌∙◌}
use Rattle.std.proofs.{lemmas.Nat.div_below, lemmas.Nat.div-add-mod', lemmas.Bool.cases_lt, lemmas.Bool.cases_eq}
use Rattle.std.proofs.lemmas.List.{places, get_or-replicate, get_or_past, ext_get_or}
use Rattle.texture_layouts.specs.Surface.{IsPixelSize}
use Rattle.texture_layouts.proofs.Places.{pixel_some}
use Rattle.tile_convert.specs.Picture.{place_in, size_in, IsOutside, IsZeroOutside, IsCopy, UntilesWhatWasTiled, TilesWhatWasUntiled}
use Rattle.tile_convert.specs.{declared.order.Order.Order, declared.order.Order.TheVariants.Rows, declared.order.Order.TheVariants.Surface}
use Rattle.tile_convert.specs.Steps.{IsCopied}

abbrev pub zeros : ℕ → List ℕ
zeros n = replicate n 0

pub length_zeros : (n : ℕ) → length (zeros n) ≡ n
length_zeros n = grind (arith, places)

zero_at : (n i : ℕ) → get_or (zeros n) i 0 ≡ 0
zero_at n i = elim (cases_lt i n) [ inl below ↦ get_or-replicate n i 0 0 below | inr past ↦ get_or_past (zeros n) i 0 (omega (arith, length_zeros n)) ]

-- Over zeros, a copy of all rows is the whole picture.
pub copied_whole : (from to : Order) (width height cpp n : ℕ) (source new : List ℕ) → n ≡ size_in to width height cpp
    → IsCopied from to width cpp source (zeros n) new 0 height → IsCopy from to width height cpp source new
copied_whole from to width height cpp n source new size copied =
    record {
      size = copied.size ∙ length_zeros n ∙ size;
      pixels = λ x y b x_in y_in b_in. copied.pixels x y b (x_in, inl y_in) b_in;
      blank = λ i outside. copied.rest i (λ u v b first b_in same.
          elim first.1 [ inl above ↦ outside u v b first.0 above b_in same | inr left ↦ absurd (omega (arith, left.1)) ])
          ∙ zero_at n i;
    }

-- There and back: a byte of a pixel is that byte of that pixel, and all others are zero in both.
back_at : (from to : Order) (width height cpp : ℕ) (source target back : List ℕ) (i : ℕ)
    → IsCopy from to width height cpp source target → IsCopy to from width height cpp target back
    → IsZeroOutside from width height cpp source → get_or back i 0 ≡ get_or source i 0
back_at from to width height cpp source target back i there again clear =
    elim (cases_eq (get_or back i 0) (get_or source i 0)) [
      | inl same ↦ same
      | inr differ ↦
          let outside : IsOutside from width height cpp i = λ x y b x_in y_in b_in is.
          differ (ap (λ j. get_or back j 0) is ∙ again.pixels x y b x_in y_in b_in ∙ there.pixels x y b x_in y_in b_in ∙ sym (ap (λ j. get_or source j 0) is)) in
          again.blank i outside ∙ sym (clear i outside)
    ]

pub comes_back : (from to : Order) (width height cpp : ℕ) (source target back : List ℕ) → length source ≡ size_in from width height cpp
    → IsCopy from to width height cpp source target → IsCopy to from width height cpp target back
    → IsZeroOutside from width height cpp source → back ≡ source
comes_back from to width height cpp source target back size there again clear =
    ext_get_or 0 back source (again.size ∙ sym size) (λ i below. back_at from to width height cpp source target back i there again clear)

wide_some : (width height n : ℕ) → n < width * height → 0 < width
wide_some zero height n below = omega (arith, below)
wide_some (suc width) height n below = omega arith

-- In rows each byte is one of a pixel's.
pub all_inside : (width height cpp : ℕ) (raster : List ℕ) → IsPixelSize cpp → length raster ≡ width * height * cpp → IsZeroOutside Rows width height cpp raster
unfolding place_in
all_inside width height cpp raster pixel size i outside =
    elim (cases_lt i (length raster)) [
      | inr past ↦ get_or_past raster i 0 past
      | inl below ↦ absurd (let some : 0 < cpp = pixel_some cpp pixel in
          let number : ℕ = i / cpp in
          let number_in : number < width * height = div_below i cpp (width * height) some (subst (λ n. i < n) size below) in
          let wide : 0 < width = wide_some width height number number_in in
          let row_in : number / width < height = div_below number width height wide (omega (arith, number_in)) in
          outside (number % width) (number / width) (i % cpp) (omega (arith, wide)) row_in (omega (arith, some))
          (sym (div-add-mod' i cpp) ∙ ap (λ n. n * cpp + i % cpp) (sym (div-add-mod' number width))))
    ]

pub untiles_what_was_tiled : UntilesWhatWasTiled
unfolding size_in
untiles_what_was_tiled p raster surface back pixel size there again =
    comes_back Rows (Surface p.tiling) p.width p.height p.cpp raster surface back size there again (all_inside p.width p.height p.cpp raster pixel size)

pub tiles_what_was_untiled : TilesWhatWasUntiled
unfolding size_in
tiles_what_was_untiled p surface raster back pixel size clear there again =
    comes_back (Surface p.tiling) Rows p.width p.height p.cpp surface raster back size there again clear
