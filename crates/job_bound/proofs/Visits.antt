-- A renderer list goes into the own list of each tile once.
use Rattle.std.proofs.Common.{◌≡◌, ℕ, zero, suc, ◌+◌, ◌*◌, ◌<◌, ◌≤◌, Bool, true, false, ◌==◌, List, [], ◌∷◌, ◌++◌, length, Option, Some, None, is_some, refl, sym, ap, subst, arith, ◌∙◌, eq-eqb, length-append}
use Rattle.std.proofs.{lemmas.Bool.Decides.nat_tests, lemmas.Grind.common_steps}
use Rattle.std.specs.List.{flat_map, range_with_len}
use Rattle.job_format.specs.declared.file.Frame.{Frame}
use Rattle.packets.specs.declared.packet.Packet.{Packet}
use Rattle.render_list.specs.Text.{number_where, list_place, front_slots, tile_slots, span_slots, row_slots, all_tile_slots, render_slots}
use Rattle.render_list.specs.Frame.{tiles_across, tiles_down, IsTileSet, ArePlacesOf}
use Rattle.promises.specs.Steps.{one_if, all_entered, times, most_times, most_visits}
use Rattle.job_bound.proofs.Tiles.{quiet_front, entered_two, tile_entered}

-- The numbers rise, from `low` on and below `high`.
abbrev Rises : ℕ → ℕ → List ℕ → Type 0
Rises low high [] = low ≤ high
Rises low high (p ∷ ps) = (low ≤ p) × Rises (p + 1) high ps

rises_from : (low less high : ℕ) (ps : List ℕ) → less ≤ low → Rises low high ps → Rises less high ps
rises_from low less high [] below all = omega (arith, below, all)
rises_from low less high (p ∷ ps) below all = (omega (arith, below, all.0), all.1)

rises_two : (low mid high : ℕ) (ps qs : List ℕ) → Rises low mid ps → Rises mid high qs → Rises low high (ps ++ qs)
rises_two low mid high [] qs front rest = rises_from mid low high qs front rest
rises_two low mid high (p ∷ ps) qs front rest = (front.0, rises_two (p + 1) mid high ps qs front.1 rest)

rises_upto : (low mid high : ℕ) (ps : List ℕ) → mid ≤ high → Rises low mid ps → Rises low high ps
rises_upto low mid high [] more all = omega (arith, more, all)
rises_upto low mid high (p ∷ ps) more all = (all.0, rises_upto (p + 1) mid high ps more all.1)

-- So none is there twice.
other_by : (p one : ℕ) → one < p → one_if (p == one) ≡ 0
other_by p one below = let e : (p == one) ≡ false = grind (arith, below) in ap one_if e

times_none : (low high one : ℕ) (ps : List ℕ) → one < low → Rises low high ps → times one ps ≡ 0
times_none low high one [] below all = refl
times_none low high one (p ∷ ps) below all =
    let here = other_by p one (omega (arith, below, all.0)) in
    let rest = times_none (p + 1) high one ps (omega (arith, below, all.0)) all.1 in
    omega (arith, here, rest)

once_by : (b : Bool) (p high one : ℕ) (ps : List ℕ) → (p == one) ≡ b → Rises (p + 1) high ps → times one ps ≤ 1 → one_if b + times one ps ≤ 1
once_by true p high one ps is all rest =
    let same : p ≡ one = grind (arith, common_steps, nat_tests, is) in
    let none = times_none (p + 1) high one ps (omega (arith, same)) all in
    omega (arith, none)
once_by false p high one ps is all rest = omega (arith, rest)

times_once : (low high one : ℕ) (ps : List ℕ) → Rises low high ps → times one ps ≤ 1
times_once low high one [] all = omega arith
times_once low high one (p ∷ ps) all = once_by (p == one) p high one ps refl all.1 (times_once (p + 1) high one ps all.1)

most_once : (some all : List ℕ) → ((one : ℕ) → times one all ≤ 1) → most_times some all ≤ 1
most_once [] all each = omega arith
most_once (one ∷ others) all each =
    let here = each one in
    let rest = most_once others all each in
    omega (arith, here, rest)

first_there : (p : ℕ) (ps : List ℕ) → 1 ≤ times p (p ∷ ps)
first_there p ps = let here : one_if (p == p) ≡ 1 = ap one_if (eq-eqb p p refl) in omega (arith, here)

most_is_one : (low high : ℕ) (ps : List ℕ) → 1 ≤ length ps → Rises low high ps → most_times ps ps ≡ 1
most_is_one low high [] some all = absurd (omega (arith, some))
most_is_one low high (p ∷ ps) some all =
    let upto = most_once (p ∷ ps) (p ∷ ps) (λ one. times_once low high one (p ∷ ps) all) in
    let here = first_there p ps in
    omega (arith, upto, here)

-- Numbers in a row whose slots go into lists that rise from one place to the next.
span_rises : (slots : ℕ → List (Option Packet)) (place : ℕ → ℕ) (first n : ℕ) → ((x : ℕ) → first ≤ x → x < first + n → Rises (place x) (place (x + 1)) (all_entered (slots x)))
    → Rises (place first) (place (first + n)) (all_entered (span_slots slots first n))
unfolding span_slots
span_rises slots place first zero each = let e : first + 0 ≡ first = omega arith in subst (λ k. place first ≤ place k) (sym e) (omega arith)
span_rises slots place first (suc n) each =
    let e : first + 1 + n ≡ first + suc n = omega arith in
    let rest = span_rises slots place (first + 1) n (λ x from below. each x (omega (arith, from)) (omega (arith, below))) in
    subst (Rises (place first) (place (first + suc n))) (sym (entered_two (slots first) (flat_map slots (range_with_len (first + 1) n))))
    (rises_two (place first) (place (first + 1)) (place (first + suc n)) (all_entered (slots first)) (all_entered (flat_map slots (range_with_len (first + 1) n)))
    (each first (omega arith) (omega arith))
    (subst (λ k. Rises (place (first + 1)) (place k) (all_entered (flat_map slots (range_with_len (first + 1) n)))) e rest))

span_has : (slots : ℕ → List (Option Packet)) (first n : ℕ) → 0 < n → 1 ≤ length (all_entered (slots first)) → 1 ≤ length (all_entered (span_slots slots first n))
unfolding span_slots
span_has slots first zero some here = absurd (omega (arith, some))
span_has slots first (suc n) some here =
    let rest : List (Option Packet) = flat_map slots (range_with_len (first + 1) n) in
    let long : length (all_entered (slots first ++ rest)) ≡ length (all_entered (slots first)) + length (all_entered rest) =
    ap length (entered_two (slots first) rest) ∙ length-append (all_entered (slots first)) (all_entered rest) in
    omega (arith, long, here)

-- The places of the tiles' own lists.
next_place : (grid : ℕ × ℕ) (slot x y : ℕ) → list_place grid slot x y + 1 ≤ list_place grid slot (x + 1) y
unfolding list_place
next_place grid slot x y = omega arith

next_row : (grid : ℕ × ℕ) (slot x low y : ℕ) → x ≤ grid.0 → list_place grid slot x y ≤ list_place grid slot low (y + 1)
unfolding list_place
next_row grid slot x low y inside =
    let more : (y + 1) * grid.0 ≡ y * grid.0 + grid.0 = grind (arith, common_steps) in
    omega (arith, more, inside)

tile_rises : (frame : Frame) (places : List (Option ℕ)) (grid : ℕ × ℕ) (slot y x : ℕ) → ArePlacesOf frame places
    → Rises (list_place grid slot x y) (list_place grid slot (x + 1) y) (all_entered (tile_slots frame places (Some grid) slot y x))
tile_rises frame places grid slot y x agree =
    subst (Rises (list_place grid slot x y) (list_place grid slot (x + 1) y)) (sym (tile_entered frame places (Some grid) slot y x agree))
    (omega arith, next_place grid slot x y)

row_rises : (frame : Frame) (places : List (Option ℕ)) (grid : ℕ × ℕ) (slot y : ℕ) → ArePlacesOf frame places → IsTileSet frame → frame.max_x < grid.0
    → Rises (list_place grid slot frame.min_x y) (list_place grid slot frame.min_x (y + 1)) (all_entered (row_slots frame places (Some grid) slot y))
row_rises frame places grid slot y agree set inside =
    let last : frame.min_x + tiles_across frame ≤ grid.0 = omega (arith, set.across, inside) in
    rises_upto (list_place grid slot frame.min_x y) (list_place grid slot (frame.min_x + tiles_across frame) y) (list_place grid slot frame.min_x (y + 1))
    (all_entered (row_slots frame places (Some grid) slot y)) (next_row grid slot (frame.min_x + tiles_across frame) frame.min_x y last)
    (span_rises (tile_slots frame places (Some grid) slot y) (λ x. list_place grid slot x y) frame.min_x (tiles_across frame) (λ x from below. tile_rises frame places grid slot y x agree))

tiles_rise : (frame : Frame) (places : List (Option ℕ)) (grid : ℕ × ℕ) (slot : ℕ) → ArePlacesOf frame places → IsTileSet frame → frame.max_x < grid.0
    → Rises (list_place grid slot frame.min_x frame.min_y) (list_place grid slot frame.min_x (frame.min_y + tiles_down frame)) (all_entered (all_tile_slots frame places (Some grid) slot))
tiles_rise frame places grid slot agree set inside =
    span_rises (row_slots frame places (Some grid) slot) (λ y. list_place grid slot frame.min_x y) frame.min_y (tiles_down frame) (λ y from below. row_rises frame places grid slot y agree set inside)

tile_has : (frame : Frame) (places : List (Option ℕ)) (grid : ℕ × ℕ) (slot y x : ℕ) → ArePlacesOf frame places → 1 ≤ length (all_entered (tile_slots frame places (Some grid) slot y x))
tile_has frame places grid slot y x agree = let one = ap length (tile_entered frame places (Some grid) slot y x agree) in omega (arith, one)

tiles_have : (frame : Frame) (places : List (Option ℕ)) (grid : ℕ × ℕ) (slot : ℕ) → ArePlacesOf frame places → IsTileSet frame
    → 1 ≤ length (all_entered (all_tile_slots frame places (Some grid) slot))
tiles_have frame places grid slot agree set =
    span_has (row_slots frame places (Some grid) slot) frame.min_y (tiles_down frame) (omega (arith, set.down))
    (span_has (tile_slots frame places (Some grid) slot frame.min_y) frame.min_x (tiles_across frame) (omega (arith, set.across)) (tile_has frame places grid slot frame.min_y frame.min_x agree))

-- Without a grid there are none.
span_none : (slots : ℕ → List (Option Packet)) (first n : ℕ) → ((x : ℕ) → all_entered (slots x) ≡ []) → all_entered (span_slots slots first n) ≡ []
unfolding span_slots
span_none slots first zero each = refl
span_none slots first (suc n) each =
    let rest : List (Option Packet) = flat_map slots (range_with_len (first + 1) n) in
    entered_two (slots first) rest ∙ ap (λ l. l ++ all_entered rest) (each first) ∙ span_none slots (first + 1) n each

tiles_none : (frame : Frame) (places : List (Option ℕ)) (slot : ℕ) → ArePlacesOf frame places → all_entered (all_tile_slots frame places None slot) ≡ []
tiles_none frame places slot agree =
    span_none (row_slots frame places None slot) frame.min_y (tiles_down frame)
    (λ y. span_none (tile_slots frame places None slot y) frame.min_x (tiles_across frame) (λ x. tile_entered frame places None slot y x agree))

-- The whole.
whole_entered : (frame : Frame) (places : List (Option ℕ)) (grid : Option (ℕ × ℕ)) (slot : ℕ) → all_entered (render_slots frame places grid slot) ≡ all_entered (all_tile_slots frame places grid slot)
unfolding render_slots
whole_entered frame places grid slot =
    entered_two (front_slots frame places) (all_tile_slots frame places grid slot)
    ∙ ap (λ l. l ++ all_entered (all_tile_slots frame places grid slot)) (quiet_front frame places).none

abbrev pub IsAcross : Frame → Option (ℕ × ℕ) → Type 0
IsAcross frame None = Unit {0}
IsAcross frame (Some grid) = frame.max_x < grid.0

pub visits_render : (frame : Frame) (places : List (Option ℕ)) (grid : Option (ℕ × ℕ)) (slot : ℕ) → ArePlacesOf frame places → IsTileSet frame → IsAcross frame grid
    → most_visits (render_slots frame places grid slot) ≡ number_where (is_some grid) 1
unfolding most_visits
visits_render frame places None slot agree set inside =
    ap (λ l. most_times l l) (whole_entered frame places None slot ∙ tiles_none frame places slot agree)
visits_render frame places (Some grid) slot agree set inside =
    ap (λ l. most_times l l) (whole_entered frame places (Some grid) slot)
    ∙ most_is_one (list_place grid slot frame.min_x frame.min_y) (list_place grid slot frame.min_x (frame.min_y + tiles_down frame)) (all_entered (all_tile_slots frame places (Some grid) slot))
    (tiles_have frame places grid slot agree set) (tiles_rise frame places grid slot agree set inside)
