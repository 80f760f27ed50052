-- All tiles measured: what adds up over slots, and is one size for each tile and one more where that waits for the binner.
use Rattle.std.proofs.Common.{◌≡◌, ℕ, zero, suc, ◌+◌, ◌*◌, ◌<◌, ◌≤◌, Bool, true, false, ◌&&◌, ◌==◌, List, [], ◌++◌, Option, is_some, refl, sym, ap, arith, ◌∙◌, eq-eqb, add-zero, zero-mul, suc-mul}
use Rattle.std.specs.List.{flat_map, range_with_len}
use Rattle.job_format.specs.declared.file.Frame.{Frame}
use Rattle.packets.specs.declared.packet.Packet.{Packet}
use Rattle.render_list.specs.Frame.{is_first_tile, tiles_across, tiles_down, IsTileSet}
use Rattle.render_list.specs.Text.{number_where, tile_slots, span_slots, row_slots, all_tile_slots}

abbrev pub Adds : (List (Option Packet) → ℕ) → Type 0
Adds M = (front rest : List (Option Packet)) → M (front ++ rest) ≡ M front + M rest

-- Numbers in a row whose slots are of one size.
span_same : (M : List (Option Packet) → ℕ) → Adds M → (slots : ℕ → List (Option Packet)) (size first n : ℕ) → ((x : ℕ) → first ≤ x → M (slots x) ≡ size) → M (span_slots slots first n) ≡ n * size
unfolding span_slots
span_same M adds slots size first zero same =
    let twice : M [] ≡ M [] + M [] = adds [] [] in
    let none : M [] ≡ 0 = omega (arith, twice) in
    none ∙ sym (zero-mul size)
span_same M adds slots size first (suc n) same =
    let here : M (slots first) ≡ size = same first (omega arith) in
    let rest : M (span_slots slots (first + 1) n) ≡ n * size = span_same M adds slots size (first + 1) n (λ x above. same x (omega arith)) in
    omega (arith, adds (slots first) (flat_map slots (range_with_len (first + 1) n)), here, rest, suc-mul n size)

-- The first of them may be more.
span_some : (M : List (Option Packet) → ℕ) → Adds M → (slots : ℕ → List (Option Packet)) (size more first n : ℕ) → 0 < n → M (slots first) ≡ size + more → ((x : ℕ) → first < x → M (slots x) ≡ size) → M (span_slots slots first n) ≡ n * size + more
unfolding span_slots
span_some M adds slots size more first zero some here same = absurd (omega (arith, some))
span_some M adds slots size more first (suc n) some here same =
    let rest : M (span_slots slots (first + 1) n) ≡ n * size = span_same M adds slots size (first + 1) n (λ x above. same x (omega arith)) in
    omega (arith, adds (slots first) (flat_map slots (range_with_len (first + 1) n)), here, rest, suc-mul n size)

-- The first tile alone waits for the binner.
first_in_row : (frame : Frame) (b : Bool) (y : ℕ) → number_where (b && is_first_tile frame frame.min_x y) 1 ≡ number_where (b && (y == frame.min_y)) 1
unfolding is_first_tile
first_in_row frame b y = ap (λ t. number_where (b && (t && (y == frame.min_y))) 1) (eq-eqb frame.min_x frame.min_x refl)

later_in_row : (frame : Frame) (b : Bool) (x y : ℕ) → frame.min_x < x → number_where (b && is_first_tile frame x y) 1 ≡ 0
unfolding is_first_tile
later_in_row frame true x y above = ap (λ t. number_where (t && (y == frame.min_y)) 1) (let e : (x == frame.min_x) ≡ false = grind (arith, above) in e)
later_in_row frame false x y above = refl

first_row : (frame : Frame) (b : Bool) → number_where (b && (frame.min_y == frame.min_y)) 1 ≡ number_where b 1
first_row frame true = ap (λ t. number_where t 1) (eq-eqb frame.min_y frame.min_y refl)
first_row frame false = refl

later_row : (frame : Frame) (b : Bool) (y : ℕ) → frame.min_y < y → number_where (b && (y == frame.min_y)) 1 ≡ 0
later_row frame true y above = ap (λ t. number_where t 1) (let e : (y == frame.min_y) ≡ false = grind (arith, above) in e)
later_row frame false y above = refl

pub measured_tiles : (M : List (Option Packet) → ℕ) → Adds M → (frame : Frame) (places : List (Option ℕ)) (grid : Option (ℕ × ℕ)) (slot size : ℕ) → IsTileSet frame
    → ((y x : ℕ) → M (tile_slots frame places grid slot y x) ≡ size + number_where (is_some grid && is_first_tile frame x y) 1)
    → M (all_tile_slots frame places grid slot) ≡ tiles_down frame * (tiles_across frame * size) + number_where (is_some grid) 1
measured_tiles M adds frame places grid slot size set tile =
    let b = is_some grid in
    let row : (y : ℕ) → M (row_slots frame places grid slot y) ≡ tiles_across frame * size + number_where (b && (y == frame.min_y)) 1 = λ y.
    span_some M adds (tile_slots frame places grid slot y) size (number_where (b && (y == frame.min_y)) 1) frame.min_x (tiles_across frame) (omega (arith, set.across)) (tile y frame.min_x ∙ ap (λ n. size + n) (first_in_row frame b y))
    (λ x above. tile y x ∙ ap (λ n. size + n) (later_in_row frame b x y above) ∙ add-zero size) in
    let across : ℕ = tiles_across frame * size in
    span_some M adds (row_slots frame places grid slot) across (number_where b 1) frame.min_y (tiles_down frame) (omega (arith, set.down)) (row frame.min_y ∙ ap (λ n. across + n) (first_row frame b))
    (λ y above. row y ∙ ap (λ n. across + n) (later_row frame b y above) ∙ add-zero across)
