-- What holds of a surface and a frame without faults.
use Rattle.std.proofs.Common.{◌≡◌, ℕ, zero, suc, ◌+◌, ◌*◌, ◌<◌, ◌≤◌, Bool, true, false, ◌||◌, nat_lt, List, [], ◌∷◌, ◌++◌, Option, Some, None, is_some, if◌then◌else◌, refl, ap, arith, ◌∙◌, lit<}
use Rattle.field_words.specs.Questions.{Question, first_of, each}
use Rattle.field_words.proofs.{Questions.none_broken, Nones.front_none, Nones.rest_none, Nones.each_none}
use Rattle.buffer_table.specs.{Table.TableModel, Table.buffer_at, Table.most_place, Handles.data_of, Handles.size_in}
use Rattle.job_format.specs.{declared.file.Frame.Frame, declared.file.Surface.Surface}
use Rattle.render_list.specs.Frame.{place_at, surface_at, is_present, is_full, full_tile, full_place, FitsAt, IsTileSet, IsSetupFor}
use Rattle.render_list.specs.Surfaces.{shape_questions, size_questions, surface_questions, buffer_size, has_unlisted_tiling, has_unlisted_format, is_unaligned, is_too_large, is_full_with_bits, is_too_large_full, surface_style, styled_size, plain_end, full_end, is_unnamed, is_reversed, frame_questions, whole_questions, surface_faults, place_in, place_behind}

if_true : {F : Type 0} → (b : Bool) (questions : List (Question F)) → b ≡ true → first_of (if b then questions else []) ≡ None → first_of questions ≡ None
if_true true questions stands none = none
if_true false questions stands none = cc

-- Of a surface that is present and has no fault, no rule is broken.
asked : (frame : Frame) (table : TableModel) (handles : List ℕ) (k : ℕ) → is_present (surface_at frame k) ≡ true
    → first_of (surface_questions frame table handles k) ≡ None
    → first_of (shape_questions k (surface_at frame k) table handles ++ size_questions frame k (surface_at frame k) (buffer_size table handles (surface_at frame k))) ≡ None
unfolding surface_questions
asked frame table handles k present none =
    if_true (is_present (surface_at frame k)) (shape_questions k (surface_at frame k) table handles ++ size_questions frame k (surface_at frame k) (buffer_size table handles (surface_at frame k))) present none

pub record IsChecked (frame : Frame) (k : ℕ) (surface : Surface) (table : TableModel) (handles : List ℕ) : Type 0 where
  pub named : is_unnamed table handles surface ≡ false
  pub tiling : has_unlisted_tiling k surface ≡ false
  pub pixel : has_unlisted_format k surface ≡ false
  pub whole : is_unaligned surface ≡ false
  pub plain : is_too_large frame k surface (buffer_size table handles surface) ≡ false
  pub bits : is_full_with_bits k surface ≡ false
  pub full : is_too_large_full frame k surface (buffer_size table handles surface) ≡ false

pub is_checked : (frame : Frame) (table : TableModel) (handles : List ℕ) (k : ℕ) → is_present (surface_at frame k) ≡ true
    → first_of (surface_questions frame table handles k) ≡ None
    → IsChecked frame k (surface_at frame k) table handles
unfolding shape_questions size_questions
is_checked frame table handles k present none =
    let n = none_broken (shape_questions k (surface_at frame k) table handles ++ size_questions frame k (surface_at frame k) (buffer_size table handles (surface_at frame k))) (asked frame table handles k present none) in
    record {
      named = n.1.1.0;
      tiling = n.1.1.1.0;
      pixel = n.1.1.1.1.0;
      whole = n.1.1.1.1.1.0;
      plain = n.1.1.1.1.1.1.0;
      bits = n.1.1.1.1.1.1.1.0;
      full = n.1.1.1.1.1.1.1.1.0;
    }

pub size_named : (table : TableModel) (handles : List ℕ) (surface : Surface) (number : ℕ) → data_of table handles surface.hindex ≡ Some number
    → buffer_size table handles surface ≡ (buffer_at table.buffers number).size
unfolding buffer_size
size_named table handles surface number named = ap (size_in table) named

pub full_inside : (frame : Frame) (k : ℕ) (surface : Surface) (size : ℕ) → is_full k surface ≡ true → is_too_large_full frame k surface size ≡ false
    → surface.offset + 16384 * (full_tile frame frame.max_x frame.max_y + 1) ≤ size
unfolding is_too_large_full full_end
full_inside frame k surface size full none = grind (arith, full, none)

pub plain_inside : (frame : Frame) (k : ℕ) (surface : Surface) (size : ℕ) → is_full k surface ≡ false → is_too_large frame k surface size ≡ false
    → surface.offset + styled_size frame (surface_style k surface) ≤ size
unfolding is_too_large plain_end
plain_inside frame k surface size full none = grind (arith, full, none)

pub inside_by : (b : Bool) (frame : Frame) (k : ℕ) (surface : Surface) (size : ℕ) → is_full k surface ≡ b → is_too_large frame k surface size ≡ false → is_too_large_full frame k surface size ≡ false
    → surface.offset ≤ size
inside_by true frame k surface size full plain_none full_none = omega (arith, full_inside frame k surface size full full_none)
inside_by false frame k surface size full plain_none full_none = omega (arith, plain_inside frame k surface size full plain_none)

-- Its offset is inside its buffer.
pub offset_inside : (frame : Frame) (table : TableModel) (handles : List ℕ) (k number : ℕ) → is_present (surface_at frame k) ≡ true
    → first_of (surface_questions frame table handles k) ≡ None → data_of table handles (surface_at frame k).hindex ≡ Some number
    → (surface_at frame k).offset ≤ (buffer_at table.buffers number).size
offset_inside frame table handles k number present none named =
    let checked = is_checked frame table handles k present none in
    omega (arith, size_named table handles (surface_at frame k) number named, inside_by (is_full k (surface_at frame k)) frame k (surface_at frame k) (buffer_size table handles (surface_at frame k)) refl checked.plain checked.full)

-- Each tile of one in full resolution lies below 2^32.
pub tiles_inside : (frame : Frame) (table : TableModel) (handles : List ℕ) (k number : ℕ) → is_present (surface_at frame k) ≡ true
    → first_of (surface_questions frame table handles k) ≡ None → data_of table handles (surface_at frame k).hindex ≡ Some number
    → (buffer_at table.buffers number).place + (buffer_at table.buffers number).size ≤ most_place
    → FitsAt frame k (Some ((buffer_at table.buffers number).place + (surface_at frame k).offset)) frame.max_x frame.max_y
unfolding full_place
tiles_inside frame table handles k number present none named inside = λ full.
    let checked = is_checked frame table handles k present none in
    let stands : is_full k (surface_at frame k) ≡ true = grind (arith, full) in
    omega (arith, inside, size_named table handles (surface_at frame k) number named, full_inside frame k (surface_at frame k) (buffer_size table handles (surface_at frame k)) stands checked.full)

-- A frame without faults: its set of tiles isn't reversed, and no surface has a fault.
pub set_of : (frame : Frame) (grid : Option (ℕ × ℕ)) (table : TableModel) (handles : List ℕ) → first_of (surface_faults frame grid table handles) ≡ None → IsTileSet frame
unfolding surface_faults frame_questions is_reversed
set_of frame grid table handles none =
    let n = none_broken (frame_questions frame grid) (front_none (frame_questions frame grid) (each (surface_questions frame table handles) 0 6 ++ whole_questions frame) none) in
    let ordered : (nat_lt frame.max_x frame.min_x || nat_lt frame.max_y frame.min_y) ≡ false = n.0 in
    record { across = grind (arith, ordered); down = grind (arith, ordered) }

pub none_at : (frame : Frame) (grid : Option (ℕ × ℕ)) (table : TableModel) (handles : List ℕ) → first_of (surface_faults frame grid table handles) ≡ None
    → (k : ℕ) → k < 6 → first_of (surface_questions frame table handles k) ≡ None
unfolding surface_faults
none_at frame grid table handles none k below =
    let later = rest_none (frame_questions frame grid) (each (surface_questions frame table handles) 0 6 ++ whole_questions frame) none in
    let all = front_none (each (surface_questions frame table handles) 0 6) (whole_questions frame) later in
    each_none (surface_questions frame table handles) 0 6 k all (omega arith) (omega (arith, below))

-- There is a place exactly where the surface is present.
named_some : (table : TableModel) (offset : ℕ) (found : Option ℕ) → is_some found ≡ true → is_some (place_behind table offset found) ≡ true
named_some table offset None none = none
named_some table offset (Some number) some = refl

place_present : (b : Bool) (frame : Frame) (table : TableModel) (handles : List ℕ) (k : ℕ) → is_present (surface_at frame k) ≡ b
    → first_of (surface_questions frame table handles k) ≡ None
    → is_some (place_in table handles (surface_at frame k)) ≡ b
unfolding place_in is_unnamed
place_present false frame table handles k absent none =
    ap (λ b. is_some (if b then place_behind table (surface_at frame k).offset (data_of table handles (surface_at frame k).hindex) else None)) absent
place_present true frame table handles k present none =
    let checked = is_checked frame table handles k present none in
    let named : is_some (data_of table handles (surface_at frame k).hindex) ≡ true = grind (arith, checked.named) in
    ap (λ b. is_some (if b then place_behind table (surface_at frame k).offset (data_of table handles (surface_at frame k).hindex) else None)) present
    ∙ named_some table (surface_at frame k).offset (data_of table handles (surface_at frame k).hindex) named

below_six : (P : ℕ → Type 0) → P 0 → P 1 → P 2 → P 3 → P 4 → P 5 → (k : ℕ) → k < 6 → P k
below_six P p0 p1 p2 p3 p4 p5 zero below = p0
below_six P p0 p1 p2 p3 p4 p5 (suc zero) below = p1
below_six P p0 p1 p2 p3 p4 p5 (suc (suc zero)) below = p2
below_six P p0 p1 p2 p3 p4 p5 (suc (suc (suc zero))) below = p3
below_six P p0 p1 p2 p3 p4 p5 (suc (suc (suc (suc zero)))) below = p4
below_six P p0 p1 p2 p3 p4 p5 (suc (suc (suc (suc (suc zero))))) below = p5
below_six P p0 p1 p2 p3 p4 p5 (suc (suc (suc (suc (suc (suc k)))))) below = absurd (omega arith)

-- So the places are a setup for the frame.
pub is_setup : (frame : Frame) (table : TableModel) (handles : List ℕ) (r0 r1 r2 r3 r4 r5 : Option ℕ)
    → r0 ≡ place_in table handles (surface_at frame 0) → r1 ≡ place_in table handles (surface_at frame 1)
    → r2 ≡ place_in table handles (surface_at frame 2) → r3 ≡ place_in table handles (surface_at frame 3)
    → r4 ≡ place_in table handles (surface_at frame 4) → r5 ≡ place_in table handles (surface_at frame 5)
    → IsTileSet frame
    → ((k : ℕ) → k < 6 → first_of (surface_questions frame table handles k) ≡ None)
    → FitsAt frame 0 r0 frame.max_x frame.max_y → FitsAt frame 1 r1 frame.max_x frame.max_y → FitsAt frame 2 r2 frame.max_x frame.max_y
    → FitsAt frame 3 r3 frame.max_x frame.max_y → FitsAt frame 4 r4 frame.max_x frame.max_y → FitsAt frame 5 r5 frame.max_x frame.max_y
    → IsSetupFor frame (r0 ∷ r1 ∷ r2 ∷ r3 ∷ r4 ∷ r5 ∷ [])
is_setup frame table handles r0 r1 r2 r3 r4 r5 e0 e1 e2 e3 e4 e5 set none f0 f1 f2 f3 f4 f5 =
    let here : (k : ℕ) → k < 6 → is_some (place_in table handles (surface_at frame k)) ≡ is_present (surface_at frame k) =
    λ k below. place_present (is_present (surface_at frame k)) frame table handles k refl (none k below) in
    record {
      tiles = set;
      present =
          below_six (λ k. is_some (place_at (r0 ∷ r1 ∷ r2 ∷ r3 ∷ r4 ∷ r5 ∷ []) k) ≡ is_present (surface_at frame k))
          (ap is_some e0 ∙ here 0 (lit< tt)) (ap is_some e1 ∙ here 1 (lit< tt)) (ap is_some e2 ∙ here 2 (lit< tt))
          (ap is_some e3 ∙ here 3 (lit< tt)) (ap is_some e4 ∙ here 4 (lit< tt)) (ap is_some e5 ∙ here 5 (lit< tt));
      largest = below_six (λ k. FitsAt frame k (place_at (r0 ∷ r1 ∷ r2 ∷ r3 ∷ r4 ∷ r5 ∷ []) k) frame.max_x frame.max_y) f0 f1 f2 f3 f4 f5;
    }
