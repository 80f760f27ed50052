-- How long a renderer list is.
use Rattle.std.proofs.Common.{◌≡◌, ℕ, ◌+◌, ◌*◌, ◌<◌, ◌≤◌, Bool, true, false, ◌&&◌, ◌||◌, List, [], ◌∷◌, ◌++◌, length, Option, Some, None, is_some, if◌then◌else◌, refl, sym, ap, arith, ◌∙◌, length-append, lit<, bit_or}
use Rattle.job_format.specs.declared.file.Frame.{Frame}
use Rattle.packets.specs.declared.packet.Packet.TheVariants.{LoadFullResolution, LoadTileBuffer, StoreTileColor, StoreTileColorAndEnd, TileCoordinates, StoreTileBuffer, WaitOnSemaphore}
use Rattle.packets.specs.{declared.packet.Packet.Packet, Packet.packet_text, Packet.slots_text}
use Rattle.render_list.specs.Frame.{place_at, surface_at, is_full, full_place, is_first_tile, is_last_tile, tiles_across, tiles_down, IsTileSet, ArePlacesOf, IsSetupFor}
use Rattle.render_list.specs.Text.{number_where, packet_where, idle_store, head_packet, clear_packet, clear_slots, front_slots, load_packet, load_slot, wait_slot, list_slot, full_store, full_store_slot, zs_store, zs_store_slot, color_store, color_store_slot, is_there, some_before_zs, some_before_color, more_after_multisample_zs, more_after_multisample_color, load_slots, list_slots, write_slots, tile_slots, all_tile_slots, render_text}
use Rattle.render_list.specs.Length.{load_size, loads_size, write_size, writes_size, frame_loads, frame_writes, tile_size, render_length}
use Rattle.render_list.proofs.{Puts.length_two, Rows.length_parts, Spans.measured_tiles}

-- How long the packet of a slot is; together they are as long as the text.
abbrev slot_size : Option Packet → ℕ
slot_size None = 0
slot_size (Some packet) = length (packet_text packet)

abbrev slots_size : List (Option Packet) → ℕ
slots_size [] = 0
slots_size (slot ∷ slots) = slot_size slot + slots_size slots

length_slots : (slots : List (Option Packet)) → length (slots_text slots) ≡ slots_size slots
length_slots [] = refl
length_slots (None ∷ slots) = omega (arith, length_slots slots)
length_slots (Some packet ∷ slots) = length-append (packet_text packet) (slots_text slots) ∙ ap (λ n. length (packet_text packet) + n) (length_slots slots)

-- A packet that stands where a test is true has its length there.
size_where : (test : Bool) (packet : Packet) (n : ℕ) → length (packet_text packet) ≡ n → slot_size (packet_where test packet) ≡ number_where test n
size_where true packet n size = size
size_where false packet n size = refl

size_coordinates : (x y : ℕ) → length (packet_text (TileCoordinates x y)) ≡ 3
unfolding packet_text
size_coordinates x y = refl

size_store : (bits address : ℕ) → length (packet_text (StoreTileBuffer bits address)) ≡ 7
unfolding packet_text
size_store bits address = refl

-- the head and what clears
size_head : (frame : Frame) (places : List (Option ℕ)) → length (packet_text (head_packet frame places)) ≡ 11
unfolding head_packet packet_text
size_head frame places = refl

size_clear : (frame : Frame) → length (packet_text (clear_packet frame)) ≡ 14
unfolding clear_packet packet_text
size_clear frame = refl

clear_sum : (clear : Bool) → number_where clear 14 + (number_where clear 3 + (number_where clear 7 + 0)) ≡ number_where clear 24
clear_sum true = refl
clear_sum false = refl

length_front : (frame : Frame) (places : List (Option ℕ)) → length (slots_text (front_slots frame places)) ≡ 11 + number_where frame.clear 24
unfolding front_slots clear_slots
length_front frame places =
    omega (
      arith,
      length_slots (Some (head_packet frame places) ∷ clear_slots frame),
      size_head frame places,
      size_where frame.clear (clear_packet frame) 14 (size_clear frame),
      size_where frame.clear (TileCoordinates 0 0) 3 (size_coordinates 0 0),
      size_where frame.clear (StoreTileBuffer 0 0) 7 (size_store 0 0),
      clear_sum frame.clear,
    )

-- The loads.
size_load_by : (full : Bool) (place bits far : ℕ) → length (packet_text (if full then LoadFullResolution far else LoadTileBuffer bits place)) ≡ (if full then 5 else 7)
unfolding packet_text
size_load_by true place bits far = refl
size_load_by false place bits far = refl

size_load : (frame : Frame) (k left_out : ℕ) (place : Option ℕ) (x y : ℕ) → slot_size (load_slot frame k left_out place x y) ≡ number_where (is_some place) (load_size frame k)
unfolding load_packet load_size
size_load frame k left_out None x y = refl
size_load frame k left_out (Some place) x y = size_load_by (is_full k (surface_at frame k)) place (surface_at frame k).bits (bit_or (full_place frame place x y) left_out)

loads_sum : (color zs : Bool) (m n : ℕ)
    → number_where color m + (number_where (color && zs) 3 + (number_where (color && zs) 7 + (number_where zs n + 0))) ≡ number_where color m + number_where zs (number_where color 10 + n)
loads_sum true true m n = omega arith
loads_sum true false m n = omega arith
loads_sum false true m n = omega arith
loads_sum false false m n = omega arith

size_loads : (frame : Frame) (places : List (Option ℕ)) (x y : ℕ) → slots_size (load_slots frame places x y) ≡ loads_size frame (is_there places 0) (is_there places 2)
unfolding load_slots loads_size
size_loads frame places x y =
    let both = is_there places 0 && is_there places 2 in
    omega (
      arith,
      size_load frame 0 2 (place_at places 0) x y,
      size_load frame 2 1 (place_at places 2) x y,
      size_where both (TileCoordinates x y) 3 (size_coordinates x y),
      size_where both idle_store 7 (size_store 57344 0),
      loads_sum (is_there places 0) (is_there places 2) (load_size frame 0) (load_size frame 2),
    )

-- The coordinates, and the list.
size_wait : (frame : Frame) (grid : Option (ℕ × ℕ)) (x y : ℕ) → slot_size (wait_slot frame grid x y) ≡ number_where (is_some grid && is_first_tile frame x y) 1
unfolding packet_text
size_wait frame None x y = refl
size_wait frame (Some grid) x y = size_where (is_first_tile frame x y) WaitOnSemaphore 1 refl

size_list : (grid : Option (ℕ × ℕ)) (slot x y : ℕ) → slot_size (list_slot grid slot x y) ≡ number_where (is_some grid) 5
unfolding packet_text
size_list None slot x y = refl
size_list (Some grid) slot x y = refl

size_lists : (frame : Frame) (grid : Option (ℕ × ℕ)) (slot x y : ℕ) → slots_size (list_slots frame grid slot x y)
    ≡ 3 + (number_where (is_some grid) 5 + number_where (is_some grid && is_first_tile frame x y) 1)
unfolding list_slots
size_lists frame grid slot x y = omega (arith, size_coordinates x y, size_wait frame grid x y, size_list grid slot x y)

-- The writes.
size_full_store : (frame : Frame) (place : Option ℕ) (left_out : ℕ) (more : Bool) (x y : ℕ) → slot_size (full_store_slot frame place left_out more x y) ≡ number_where (is_some place) 5
unfolding full_store packet_text
size_full_store frame None left_out more x y = refl
size_full_store frame (Some place) left_out more x y = refl

size_zs_store : (frame : Frame) (place : Option ℕ) (more : Bool) (x y : ℕ) → slot_size (zs_store_slot frame place more x y) ≡ number_where (is_some place) 7
unfolding zs_store packet_text
size_zs_store frame None more x y = refl
size_zs_store frame (Some place) more x y = refl

size_color_by : (last : Bool) → length (packet_text (if last then StoreTileColorAndEnd else StoreTileColor)) ≡ 1
unfolding packet_text
size_color_by true = refl
size_color_by false = refl

size_color_store : (frame : Frame) (place : Option ℕ) (x y : ℕ) → slot_size (color_store_slot frame place x y) ≡ number_where (is_some place) 1
unfolding color_store
size_color_store frame None x y = refl
size_color_store frame (Some place) x y = size_color_by (is_last_tile frame x y)

write_sum : (present before : Bool) (n : ℕ) → number_where (present && before) 3 + number_where present n ≡ write_size present before n
write_sum true true n = refl
write_sum true false n = omega arith
write_sum false before n = refl

first_sum : (present : Bool) (n : ℕ) → number_where present n ≡ write_size present false n
first_sum true n = omega arith
first_sum false n = refl

size_writes : (frame : Frame) (places : List (Option ℕ)) (x y : ℕ) → slots_size (write_slots frame places x y)
    ≡ writes_size (is_there places 4) (is_there places 5) (is_there places 3) (is_there places 1)
unfolding write_slots writes_size some_before_zs some_before_color
size_writes frame places x y =
    let one = is_there places 4 in
    let two = is_there places 4 || is_there places 5 in
    let three = (is_there places 4 || is_there places 5) || is_there places 3 in
    omega (
      arith,
      size_full_store frame (place_at places 4) 2 (more_after_multisample_color places) x y,
      first_sum (is_there places 4) 5,
      size_where (is_there places 5 && one) (TileCoordinates x y) 3 (size_coordinates x y),
      size_full_store frame (place_at places 5) 1 (more_after_multisample_zs places) x y,
      write_sum (is_there places 5) one 5,
      size_where (is_there places 3 && two) (TileCoordinates x y) 3 (size_coordinates x y),
      size_zs_store frame (place_at places 3) (is_there places 1) x y,
      write_sum (is_there places 3) two 7,
      size_where (is_there places 1 && three) (TileCoordinates x y) 3 (size_coordinates x y),
      size_color_store frame (place_at places 1) x y,
      write_sum (is_there places 1) three 1,
    )

-- The loads by the frame, whose surfaces the places are.
loads_of : (frame : Frame) (places : List (Option ℕ)) (x y : ℕ) → ArePlacesOf frame places
    → slots_size (load_slots frame places x y) ≡ frame_loads frame
loads_of frame places x y agree = rw (sym (agree 0 (lit< tt)), sym (agree 2 (lit< tt))) (size_loads frame places x y)

writes_of : (frame : Frame) (places : List (Option ℕ)) (x y : ℕ) → ArePlacesOf frame places
    → slots_size (write_slots frame places x y) ≡ frame_writes frame
writes_of frame places x y agree =
    rw (sym (agree 4 (lit< tt)), sym (agree 5 (lit< tt)), sym (agree 3 (lit< tt)), sym (agree 1 (lit< tt))) (size_writes frame places x y)

length_tile : (frame : Frame) (places : List (Option ℕ)) (grid : Option (ℕ × ℕ)) (slot y x : ℕ) → ArePlacesOf frame places
    → length (slots_text (tile_slots frame places grid slot y x)) ≡ tile_size frame (is_some grid) + number_where (is_some grid && is_first_tile frame x y) 1
unfolding tile_slots tile_size
length_tile frame places grid slot y x agree =
    let loads = load_slots frame places x y in
    let lists = list_slots frame grid slot x y in
    let writes = write_slots frame places x y in
    omega (
      arith,
      length_two loads (lists ++ writes),
      length_two lists writes,
      length_slots loads,
      length_slots lists,
      length_slots writes,
      loads_of frame places x y agree,
      size_lists frame grid slot x y,
      writes_of frame places x y agree,
    )

length_tiles : (frame : Frame) (places : List (Option ℕ)) (grid : Option (ℕ × ℕ)) (slot : ℕ) → ArePlacesOf frame places → IsTileSet frame
    → length (slots_text (all_tile_slots frame places grid slot)) ≡ tiles_down frame * (tiles_across frame * tile_size frame (is_some grid)) + number_where (is_some grid) 1
length_tiles frame places grid slot agree set =
    measured_tiles (λ slots. length (slots_text slots)) length_two frame places grid slot (tile_size frame (is_some grid)) set (λ y x. length_tile frame places grid slot y x agree)

-- The whole.
pub length_render : (frame : Frame) (places : List (Option ℕ)) (grid : Option (ℕ × ℕ)) (slot : ℕ) → ArePlacesOf frame places → IsTileSet frame
    → length (render_text frame places grid slot) ≡ render_length frame (is_some grid)
unfolding render_length render_text
length_render frame places grid slot agree set =
    omega (arith, length_parts frame places grid slot, length_front frame places, length_tiles frame places grid slot agree set)

-- So a window with room for this length has room for the text.
pub render_fits : (frame : Frame) (places : List (Option ℕ)) (grid : Option (ℕ × ℕ)) (slot at n : ℕ) → IsSetupFor frame places → at + render_length frame (is_some grid) ≤ n
    → at + length (render_text frame places grid slot) ≤ n
render_fits frame places grid slot at n setup room = omega (arith, room, length_render frame places grid slot setup.present setup.tiles)
