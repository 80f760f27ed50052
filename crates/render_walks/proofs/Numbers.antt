-- Each number of a renderer list fits its field.
use Rattle.std.proofs.Common.{◌≡◌, ℕ, zero, suc, ◌+◌, ◌*◌, ◌^◌, ◌<◌, ◌≤◌, Bool, true, false, ◌&&◌, not, List, [], ◌∷◌, ◌++◌, Option, Some, None, IsTrue, if◌then◌else◌, get_or, refl, arith, bit_or, lit<}
use Rattle.std.proofs.lemmas.Nat.{or_of_16, or_of_32}
use Rattle.std.specs.List.{AllByRecursion}
use Rattle.field_words.proofs.Numbers.{rounded}
use Rattle.job_format.specs.{declared.file.Frame.Frame, declared.file.Surface.Surface, File.SurfaceFits, File.FrameFits}
use Rattle.packets.specs.declared.packet.Packet.TheVariants.{WaitOnSemaphore, StoreTileColor, StoreTileColorAndEnd, LoadFullResolution, StoreTileBuffer, LoadTileBuffer, TileCoordinates}
use Rattle.packets.specs.{declared.packet.Packet.Packet, Packet.Fits}
use Rattle.tile_memory.specs.Slots.{alloc_offset}
use Rattle.render_list.specs.Frame.{place_at, surface_at, no_surface, is_full, full_place, is_first_tile, is_last_tile, tiles_across, tiles_down, FitsAt, TileFits, IsSetupFor}
use Rattle.render_list.specs.Text.{number_where, packet_where, idle_store, color_place, color_bits, head_packet, clear_packet, clear_slots, front_slots, load_packet, load_slot, wait_slot, list_place, list_slot, full_store, full_store_slot, zs_store, zs_store_slot, color_store, color_store_slot, is_there, more_after_multisample_color, more_after_multisample_zs, some_before_zs, some_before_color, load_slots, list_slots, write_slots, tile_slots, span_slots, row_slots, all_tile_slots, render_slots}
use Rattle.render_list.proofs.Places.{tile_fits}
use Rattle.render_walks.specs.Walks.{SlotFits, AllFit, PlacesFit, GridFits}
use Rattle.buffer_table.specs.Table.{most_place}

fit_append : (front rest : List (Option Packet)) → AllFit front → AllFit rest → AllFit (front ++ rest)
fit_append [] rest one two = two
fit_append (slot ∷ front) rest one two = (one.0, fit_append front rest one.1 two)

fit_span : (slots : ℕ → List (Option Packet)) (first n : ℕ) → ((x : ℕ) → first ≤ x → x < first + n → AllFit (slots x)) → AllFit (span_slots slots first n)
unfolding span_slots
fit_span slots first zero each = tt
fit_span slots first (suc n) each =
    fit_append (slots first) (span_slots slots (first + 1) n) (each first (omega arith) (omega arith))
    (fit_span slots (first + 1) n (λ x above below. each x (omega arith) (omega arith)))

-- what holds of each holds of the one at a place, or of the default
surface_fits : (surfaces : List Surface) (k : ℕ) → AllByRecursion SurfaceFits surfaces → (get_or surfaces k no_surface).bits < 2 ^ 16
surface_fits [] k all = lit< tt
surface_fits (surface ∷ surfaces) zero all = all.0.bits
surface_fits (surface ∷ surfaces) (suc k) all = surface_fits surfaces k all.1

color_fits : (colors : List ℕ) (k : ℕ) → AllByRecursion (λ c. c < 2 ^ 32) colors → get_or colors k 0 < 2 ^ 32
color_fits [] k all = lit< tt
color_fits (color ∷ colors) zero all = all.0
color_fits (color ∷ colors) (suc k) all = color_fits colors k all.1

fit_where : (test : Bool) (packet : Packet) → Fits packet → SlotFits (packet_where test packet)
fit_where true packet fits = fits
fit_where false packet fits = tt

pub small_where : (test : Bool) (n : ℕ) → number_where test n ≤ n
small_where true n = omega arith
small_where false n = omega arith

-- The loads.
fit_load_by : (full : Bool) (far bits place : ℕ) → (IsTrue full → far < 2 ^ 32) → bits < 2 ^ 16 → place < 2 ^ 32
    → Fits (if full then LoadFullResolution far else LoadTileBuffer bits place)
fit_load_by true far bits place far_fits bits_fit place_fits = far_fits refl
fit_load_by false far bits place far_fits bits_fit place_fits = (bits_fit, place_fits)

fit_load : (frame : Frame) (k left_out : ℕ) (place : Option ℕ) (x y : ℕ) → FrameFits frame → left_out ≤ 2 → ((p : ℕ) → place ≡ Some p → p < 2 ^ 32) → FitsAt frame k place x y
    → SlotFits (load_slot frame k left_out place x y)
unfolding load_packet
fit_load frame k left_out None x y numbers small places fits = tt
fit_load frame k left_out (Some place) x y numbers small places fits =
    fit_load_by (is_full k (surface_at frame k)) (bit_or (full_place frame place x y) left_out) (surface_at frame k).bits place
    (λ full. or_of_32 (full_place frame place x y) left_out (fits full) (omega (arith, small)))
    (surface_fits frame.surfaces k numbers.surfaces) (places place refl)

-- The sub-list.
place_limit : (a b x y : ℕ) → a < 256 → b < 256 → x < 256 → y < 256 → (a * b ≤ 65025) × (y * a + x ≤ 65280)
place_limit a b x y ha hb hx hy = (grind arith, grind arith)

fit_list : (grid : Option (ℕ × ℕ)) (slot x y : ℕ) → GridFits grid → slot ≤ most_place → x < 256 → y < 256 → SlotFits (list_slot grid slot x y)
unfolding list_place alloc_offset
fit_list None slot x y fits low hx hy = tt
fit_list (Some grid) slot x y fits low hx hy =
    let limits = place_limit grid.0 grid.1 x y fits.0 fits.1 hx hy in
    let near = rounded (48 * (grid.0 * grid.1)) 4096 (omega arith) in
    omega (arith, limits.0, limits.1, near.near, low)

-- The writes.
fit_full_store : (frame : Frame) (k : ℕ) (place : Option ℕ) (left_out : ℕ) (more : Bool) (x y : ℕ) → left_out ≤ 2 → is_full k (surface_at frame k) ≡ true → FitsAt frame k place x y
    → SlotFits (full_store_slot frame place left_out more x y)
unfolding full_store
fit_full_store frame k None left_out more x y small full fits = tt
fit_full_store frame k (Some place) left_out more x y small full fits =
    or_of_32 (full_place frame place x y) (left_out + number_where more 4 + number_where (not more && is_last_tile frame x y) 8) (fits full)
    (omega (arith, small, small_where more 4, small_where (not more && is_last_tile frame x y) 8))

fit_zs_store : (frame : Frame) (place : Option ℕ) (more : Bool) (x y : ℕ) → FrameFits frame → ((p : ℕ) → place ≡ Some p → p < 2 ^ 32) → SlotFits (zs_store_slot frame place more x y)
unfolding zs_store
fit_zs_store frame None more x y numbers places = tt
fit_zs_store frame (Some place) more x y numbers places = (
  or_of_16 (surface_at frame 3).bits (number_where more 8192) (surface_fits frame.surfaces 3 numbers.surfaces) (omega (arith, small_where more 8192)),
  or_of_32 place (number_where (not more && is_last_tile frame x y) 8) (places place refl) (omega (arith, small_where (not more && is_last_tile frame x y) 8)),
)

fit_color_by : (last : Bool) → Fits (if last then StoreTileColorAndEnd else StoreTileColor)
fit_color_by true = tt
fit_color_by false = tt

fit_color : (frame : Frame) (place : Option ℕ) (x y : ℕ) → SlotFits (color_store_slot frame place x y)
unfolding color_store
fit_color frame None x y = tt
fit_color frame (Some place) x y = fit_color_by (is_last_tile frame x y)

fit_wait : (frame : Frame) (grid : Option (ℕ × ℕ)) (x y : ℕ) → SlotFits (wait_slot frame grid x y)
fit_wait frame None x y = tt
fit_wait frame (Some grid) x y = fit_where (is_first_tile frame x y) WaitOnSemaphore tt

-- A tile, slot by slot.
pair : {A B : Type 0} → A → B → A × B
pair a b = (a, b)

fit_tile : (frame : Frame) (places : List (Option ℕ)) (grid : Option (ℕ × ℕ)) (slot y x : ℕ) → FrameFits frame → PlacesFit places → GridFits grid → slot ≤ most_place
    → TileFits frame places x y → x < 256 → y < 256 → AllFit (tile_slots frame places grid slot y x)
unfolding tile_slots load_slots list_slots write_slots is_full
fit_tile frame places grid slot y x numbers fits grid_fits low tile hx hy =
    let at : Fits (TileCoordinates x y) = (hx, hy) in
    let both : Bool = is_there places 0 && is_there places 2 in
    pair (fit_load frame 0 2 (place_at places 0) x y numbers (omega arith) (fits 0) (tile 0 (lit< tt)))
    (pair (fit_where both (TileCoordinates x y) at)
    (pair (fit_where both idle_store (lit< tt, lit< tt))
    (pair (fit_load frame 2 1 (place_at places 2) x y numbers (omega arith) (fits 2) (tile 2 (lit< tt)))
    (pair at
    (pair (fit_wait frame grid x y)
    (pair (fit_list grid slot x y grid_fits low hx hy)
    (pair (fit_full_store frame 4 (place_at places 4) 2 (more_after_multisample_color places) x y (omega arith) refl (tile 4 (lit< tt)))
    (pair (fit_where (is_there places 5 && is_there places 4) (TileCoordinates x y) at)
    (pair (fit_full_store frame 5 (place_at places 5) 1 (more_after_multisample_zs places) x y (omega arith) refl (tile 5 (lit< tt)))
    (pair (fit_where (is_there places 3 && some_before_zs places) (TileCoordinates x y) at)
    (pair (fit_zs_store frame (place_at places 3) (is_there places 1) x y numbers (fits 3))
    (pair (fit_where (is_there places 1 && some_before_color places) (TileCoordinates x y) at)
    (pair (fit_color frame (place_at places 1) x y) tt)))))))))))))

-- The head and what clears.
fit_color_place : (color : Option ℕ) → ((p : ℕ) → color ≡ Some p → p < 2 ^ 32) → color_place color < 2 ^ 32
fit_color_place None places = lit< tt
fit_color_place (Some place) places = places place refl

fit_color_bits : (frame : Frame) (color : Option ℕ) → FrameFits frame → color_bits frame color < 2 ^ 16
fit_color_bits frame None numbers = omega arith
fit_color_bits frame (Some place) numbers = surface_fits frame.surfaces 1 numbers.surfaces

fit_front : (frame : Frame) (places : List (Option ℕ)) → FrameFits frame → PlacesFit places → AllFit (front_slots frame places)
unfolding front_slots head_packet clear_slots clear_packet
fit_front frame places numbers fits =
    pair (fit_color_place (place_at places 1) (fits 1), numbers.width, numbers.height, fit_color_bits frame (place_at places 1) numbers)
    (pair (fit_where frame.clear (clear_packet frame)
    (color_fits frame.clear_color 0 numbers.clear_color, color_fits frame.clear_color 1 numbers.clear_color, numbers.clear_z, numbers.clear_s))
    (pair (fit_where frame.clear (TileCoordinates 0 0) (lit< tt, lit< tt))
    (pair (fit_where frame.clear (StoreTileBuffer 0 0) (lit< tt, lit< tt)) tt)))

-- The whole.
pub render_fits : (frame : Frame) (places : List (Option ℕ)) (grid : Option (ℕ × ℕ)) (slot : ℕ) → FrameFits frame → IsSetupFor frame places → PlacesFit places → GridFits grid → slot ≤ most_place
    → AllFit (render_slots frame places grid slot)
unfolding render_slots
render_fits frame places grid slot numbers setup fits grid_fits low =
    fit_append (front_slots frame places) (all_tile_slots frame places grid slot) (fit_front frame places numbers fits)
    (fit_span (row_slots frame places grid slot) frame.min_y (tiles_down frame)
    (λ y down up. fit_span (tile_slots frame places grid slot y) frame.min_x (tiles_across frame)
    (λ x right left. fit_tile frame places grid slot y x numbers fits grid_fits low
    (tile_fits frame places x y (omega (arith, left, setup.tiles.across)) (omega (arith, up, setup.tiles.down)) setup)
    (omega (arith, left, setup.tiles.across, numbers.max_x)) (omega (arith, up, setup.tiles.down, numbers.max_y)))))
