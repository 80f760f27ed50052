-- How many steps a renderer list takes, and which tiles' own lists it goes into, slot by slot.
use Rattle.std.proofs.Common.{◌≡◌, ℕ, ◌+◌, ◌*◌, ◌<◌, ◌≤◌, Bool, true, false, ◌&&◌, ◌||◌, List, [], ◌∷◌, ◌++◌, length, Option, Some, None, is_some, if◌then◌else◌, refl, sym, ap, arith, ◌∙◌, lit<, bit_or}
use Rattle.std.proofs.lemmas.List.{append_assoc, append-nil}
use Rattle.job_format.specs.declared.file.Frame.{Frame}
use Rattle.packets.specs.declared.packet.Packet.TheVariants.{LoadFullResolution, LoadTileBuffer, StoreTileColor, StoreTileColorAndEnd, TileCoordinates, StoreTileBuffer, WaitOnSemaphore}
use Rattle.packets.specs.declared.packet.Packet.{Packet}
use Rattle.render_list.specs.Frame.{place_at, surface_at, is_full, full_place, is_first_tile, is_last_tile, tiles_across, tiles_down, IsTileSet, ArePlacesOf}
use Rattle.render_list.specs.Text.{number_where, packet_where, idle_store, head_packet, clear_packet, clear_slots, front_slots, load_packet, load_slot, wait_slot, list_place, list_slot, full_store, full_store_slot, zs_store, zs_store_slot, color_store, color_store_slot, is_there, some_before_zs, some_before_color, more_after_multisample_zs, more_after_multisample_color, load_slots, list_slots, write_slots, tile_slots, all_tile_slots, render_slots}
use Rattle.render_list.proofs.Spans.{measured_tiles}
use Rattle.promises.specs.Steps.{list_entered, all_entered, render_steps}
use Rattle.job_bound.specs.Frames.{loads_steps, write_steps, writes_steps, frame_loads, frame_writes, tile_steps, frame_steps}

-- All tiles of a set take less than a million steps.
pub tiles_limit : (down across size : ℕ) → down ≤ 256 → across ≤ 256 → size ≤ 15 → down * (across * size) ≤ 983040
tiles_limit down across size h k l = grind arith

-- The steps of the packet of a slot, and the tile's own list that it goes into.
abbrev slot_steps : Option Packet → ℕ
slot_steps None = 0
slot_steps (Some packet) = 1 + length (list_entered packet)

abbrev pub slot_entered : Option Packet → List ℕ
slot_entered None = []
slot_entered (Some packet) = list_entered packet

steps_more : (slot : Option Packet) (slots : List (Option Packet)) → render_steps (slot ∷ slots) ≡ slot_steps slot + render_steps slots
steps_more None slots = omega arith
steps_more (Some packet) slots = omega arith

entered_more : (slot : Option Packet) (slots : List (Option Packet)) → all_entered (slot ∷ slots) ≡ slot_entered slot ++ all_entered slots
entered_more None slots = refl
entered_more (Some packet) slots = refl

pub steps_two : (front rest : List (Option Packet)) → render_steps (front ++ rest) ≡ render_steps front + render_steps rest
steps_two [] rest = omega arith
steps_two (None ∷ front) rest = steps_two front rest
steps_two (Some packet ∷ front) rest = let later = steps_two front rest in omega (arith, later)

-- The slot has a packet where the test is true, which takes one step and goes into no list.
pub record IsQuiet (slot : Option Packet) (test : Bool) : Type 0 where
  pub steps : slot_steps slot ≡ number_where test 1
  pub none : slot_entered slot ≡ []

quiet_where : (test : Bool) (packet : Packet) → list_entered packet ≡ [] → IsQuiet (packet_where test packet) test
quiet_where true packet none = record { steps = ap (λ l. 1 + length l) none; none = none }
quiet_where false packet none = record { steps = refl; none = refl }

quiet_some : (packet : Packet) → list_entered packet ≡ [] → IsQuiet (Some packet) true
quiet_some packet none = record { steps = ap (λ l. 1 + length l) none; none = none }

-- the loads
load_by : (full : Bool) (place bits far : ℕ) → IsQuiet (Some (if full then LoadFullResolution far else LoadTileBuffer bits place)) true
load_by true place bits far = quiet_some (LoadFullResolution far) refl
load_by false place bits far = quiet_some (LoadTileBuffer bits place) refl

quiet_load : (frame : Frame) (k left_out : ℕ) (place : Option ℕ) (x y : ℕ) → IsQuiet (load_slot frame k left_out place x y) (is_some place)
unfolding load_packet
quiet_load frame k left_out None x y = record { steps = refl; none = refl }
quiet_load frame k left_out (Some place) x y = load_by (is_full k (surface_at frame k)) place (surface_at frame k).bits (bit_or (full_place frame place x y) left_out)

-- the writes
quiet_full : (frame : Frame) (place : Option ℕ) (left_out : ℕ) (more : Bool) (x y : ℕ) → IsQuiet (full_store_slot frame place left_out more x y) (is_some place)
unfolding full_store
quiet_full frame None left_out more x y = record { steps = refl; none = refl }
quiet_full frame (Some place) left_out more x y = record { steps = refl; none = refl }

quiet_zs : (frame : Frame) (place : Option ℕ) (more : Bool) (x y : ℕ) → IsQuiet (zs_store_slot frame place more x y) (is_some place)
unfolding zs_store
quiet_zs frame None more x y = record { steps = refl; none = refl }
quiet_zs frame (Some place) more x y = record { steps = refl; none = refl }

color_by : (last : Bool) → IsQuiet (Some (if last then StoreTileColorAndEnd else StoreTileColor)) true
color_by true = quiet_some StoreTileColorAndEnd refl
color_by false = quiet_some StoreTileColor refl

quiet_color : (frame : Frame) (place : Option ℕ) (x y : ℕ) → IsQuiet (color_store_slot frame place x y) (is_some place)
unfolding color_store
quiet_color frame None x y = record { steps = refl; none = refl }
quiet_color frame (Some place) x y = color_by (is_last_tile frame x y)

-- the wait, and the tile's own list
quiet_wait : (frame : Frame) (grid : Option (ℕ × ℕ)) (x y : ℕ) → IsQuiet (wait_slot frame grid x y) (is_some grid && is_first_tile frame x y)
quiet_wait frame None x y = record { steps = refl; none = refl }
quiet_wait frame (Some grid) x y = quiet_where (is_first_tile frame x y) WaitOnSemaphore refl

list_steps : (grid : Option (ℕ × ℕ)) (slot x y : ℕ) → slot_steps (list_slot grid slot x y) ≡ number_where (is_some grid) 2
list_steps None slot x y = refl
list_steps (Some grid) slot x y = refl

-- Slots of which each is quiet.
pub record AreQuiet (slots : List (Option Packet)) (n : ℕ) : Type 0 where
  pub steps : render_steps slots ≡ n
  pub none : all_entered slots ≡ []

quiet_end : AreQuiet [] 0
quiet_end = record { steps = refl; none = refl }

quiet_more : (slot : Option Packet) (test : Bool) (slots : List (Option Packet)) (n : ℕ) → IsQuiet slot test → AreQuiet slots n → AreQuiet (slot ∷ slots) (number_where test 1 + n)
quiet_more slot test slots n one rest = record {
  steps = steps_more slot slots ∙ ap (λ k. k + render_steps slots) one.steps ∙ ap (λ k. number_where test 1 + k) rest.steps;
  none = entered_more slot slots ∙ ap (λ l. l ++ all_entered slots) one.none ∙ rest.none;
}

quiet_as : (slots : List (Option Packet)) (n k : ℕ) → n ≡ k → AreQuiet slots n → AreQuiet slots k
quiet_as slots n k same are = record { steps = are.steps ∙ same; none = are.none }

-- what clears
clear_sum : (clear : Bool) → number_where clear 1 + (number_where clear 1 + (number_where clear 1 + 0)) ≡ number_where clear 3
clear_sum true = refl
clear_sum false = refl

quiet_clear : (frame : Frame) → AreQuiet (clear_slots frame) (number_where frame.clear 3)
unfolding clear_slots clear_packet
quiet_clear frame =
    quiet_as (clear_slots frame) _ _ (clear_sum frame.clear)
    (quiet_more _ frame.clear _ _ (quiet_where frame.clear (clear_packet frame) refl)
    (quiet_more _ frame.clear _ _ (quiet_where frame.clear (TileCoordinates 0 0) refl)
    (quiet_more _ frame.clear [] 0 (quiet_where frame.clear (StoreTileBuffer 0 0) refl) quiet_end)))

pub quiet_front : (frame : Frame) (places : List (Option ℕ)) → AreQuiet (front_slots frame places) (1 + number_where frame.clear 3)
unfolding front_slots head_packet
quiet_front frame places = quiet_more _ true (clear_slots frame) (number_where frame.clear 3) (quiet_some (head_packet frame places) refl) (quiet_clear frame)

-- the loads of a tile
loads_sum : (color zs : Bool) → number_where color 1 + (number_where (color && zs) 1 + (number_where (color && zs) 1 + (number_where zs 1 + 0))) ≡ loads_steps color zs
unfolding loads_steps
loads_sum true true = refl
loads_sum true false = refl
loads_sum false true = refl
loads_sum false false = refl

quiet_loads : (frame : Frame) (places : List (Option ℕ)) (x y : ℕ) → AreQuiet (load_slots frame places x y) (loads_steps (is_there places 0) (is_there places 2))
unfolding load_slots
quiet_loads frame places x y =
    let both = is_there places 0 && is_there places 2 in
    quiet_as (load_slots frame places x y) _ _ (loads_sum (is_there places 0) (is_there places 2))
    (quiet_more _ (is_there places 0) _ _ (quiet_load frame 0 2 (place_at places 0) x y)
    (quiet_more _ both _ _ (quiet_where both (TileCoordinates x y) refl)
    (quiet_more _ both _ _ (quiet_where both idle_store refl)
    (quiet_more _ (is_there places 2) [] 0 (quiet_load frame 2 1 (place_at places 2) x y) quiet_end))))

-- its writes
write_sum : (present before : Bool) → number_where (present && before) 1 + number_where present 1 ≡ write_steps present before
write_sum true true = refl
write_sum true false = refl
write_sum false before = refl

first_sum : (present : Bool) → number_where present 1 ≡ write_steps present false
first_sum true = refl
first_sum false = refl

writes_sum : (mc mz zs color : Bool)
    → number_where mc 1 + (number_where (mz && mc) 1 + (number_where mz 1 + (number_where (zs && (mc || mz)) 1 + (number_where zs 1 + (number_where (color && ((mc || mz) || zs)) 1 + (number_where color 1 + 0))))))
    ≡ writes_steps mc mz zs color
unfolding writes_steps
writes_sum mc mz zs color =
    omega (arith, first_sum mc, write_sum mz mc, write_sum zs (mc || mz), write_sum color ((mc || mz) || zs))

quiet_writes : (frame : Frame) (places : List (Option ℕ)) (x y : ℕ)
    → AreQuiet (write_slots frame places x y) (writes_steps (is_there places 4) (is_there places 5) (is_there places 3) (is_there places 1))
unfolding write_slots some_before_zs some_before_color
quiet_writes frame places x y =
    let one = is_there places 4 in
    let two = is_there places 4 || is_there places 5 in
    let three = (is_there places 4 || is_there places 5) || is_there places 3 in
    quiet_as (write_slots frame places x y) _ _ (writes_sum (is_there places 4) (is_there places 5) (is_there places 3) (is_there places 1))
    (quiet_more _ one _ _ (quiet_full frame (place_at places 4) 2 (more_after_multisample_color places) x y)
    (quiet_more _ (is_there places 5 && one) _ _ (quiet_where (is_there places 5 && one) (TileCoordinates x y) refl)
    (quiet_more _ (is_there places 5) _ _ (quiet_full frame (place_at places 5) 1 (more_after_multisample_zs places) x y)
    (quiet_more _ (is_there places 3 && two) _ _ (quiet_where (is_there places 3 && two) (TileCoordinates x y) refl)
    (quiet_more _ (is_there places 3) _ _ (quiet_zs frame (place_at places 3) (is_there places 1) x y)
    (quiet_more _ (is_there places 1 && three) _ _ (quiet_where (is_there places 1 && three) (TileCoordinates x y) refl)
    (quiet_more _ (is_there places 1) [] 0 (quiet_color frame (place_at places 1) x y) quiet_end)))))))

-- Loads by the frame, whose surfaces the places are.
pub loads_of : (frame : Frame) (places : List (Option ℕ)) (x y : ℕ) → ArePlacesOf frame places → AreQuiet (load_slots frame places x y) (frame_loads frame)
loads_of frame places x y agree =
    let same : loads_steps (is_there places 0) (is_there places 2) ≡ frame_loads frame = rw (sym (agree 0 (lit< tt)), sym (agree 2 (lit< tt))) refl in
    quiet_as (load_slots frame places x y) _ _ same (quiet_loads frame places x y)

pub writes_of : (frame : Frame) (places : List (Option ℕ)) (x y : ℕ) → ArePlacesOf frame places → AreQuiet (write_slots frame places x y) (frame_writes frame)
writes_of frame places x y agree =
    let same : writes_steps (is_there places 4) (is_there places 5) (is_there places 3) (is_there places 1) ≡ frame_writes frame =
    rw (sym (agree 4 (lit< tt)), sym (agree 5 (lit< tt)), sym (agree 3 (lit< tt)), sym (agree 1 (lit< tt))) refl in
    quiet_as (write_slots frame places x y) _ _ same (quiet_writes frame places x y)

-- the coordinates and the tile's own list
lists_of : (frame : Frame) (grid : Option (ℕ × ℕ)) (slot x y : ℕ)
    → render_steps (list_slots frame grid slot x y) ≡ 1 + (number_where (is_some grid) 2 + number_where (is_some grid && is_first_tile frame x y) 1)
unfolding list_slots
lists_of frame grid slot x y =
    omega (
      arith,
      steps_more (wait_slot frame grid x y) (list_slot grid slot x y ∷ []),
      steps_more (list_slot grid slot x y) [],
      (quiet_wait frame grid x y).steps,
      list_steps grid slot x y,
    )

tile_of : (frame : Frame) (places : List (Option ℕ)) (grid : Option (ℕ × ℕ)) (slot y x : ℕ) → ArePlacesOf frame places
    → render_steps (tile_slots frame places grid slot y x) ≡ tile_steps frame (is_some grid) + number_where (is_some grid && is_first_tile frame x y) 1
unfolding tile_slots tile_steps
tile_of frame places grid slot y x agree =
    let loads = load_slots frame places x y in
    let lists = list_slots frame grid slot x y in
    let writes = write_slots frame places x y in
    omega (
      arith,
      steps_two loads (lists ++ writes),
      steps_two lists writes,
      (loads_of frame places x y agree).steps,
      lists_of frame grid slot x y,
      (writes_of frame places x y agree).steps,
    )

tiles_of : (frame : Frame) (places : List (Option ℕ)) (grid : Option (ℕ × ℕ)) (slot : ℕ) → ArePlacesOf frame places → IsTileSet frame
    → render_steps (all_tile_slots frame places grid slot) ≡ tiles_down frame * (tiles_across frame * tile_steps frame (is_some grid)) + number_where (is_some grid) 1
tiles_of frame places grid slot agree set = measured_tiles render_steps steps_two frame places grid slot (tile_steps frame (is_some grid)) set (λ y x. tile_of frame places grid slot y x agree)

-- The whole.
pub steps_render : (frame : Frame) (places : List (Option ℕ)) (grid : Option (ℕ × ℕ)) (slot : ℕ) → ArePlacesOf frame places → IsTileSet frame
    → render_steps (render_slots frame places grid slot) ≡ frame_steps frame (is_some grid)
unfolding frame_steps render_slots
steps_render frame places grid slot agree set =
    omega (arith, steps_two (front_slots frame places) (all_tile_slots frame places grid slot), (quiet_front frame places).steps, tiles_of frame places grid slot agree set)

-- The tiles' own lists that the slots of a tile go into: the one of the tile, where there is a grid.
pub entered_two : (front rest : List (Option Packet)) → all_entered (front ++ rest) ≡ all_entered front ++ all_entered rest
entered_two [] rest = refl
entered_two (None ∷ front) rest = entered_two front rest
entered_two (Some packet ∷ front) rest = ap (λ l. list_entered packet ++ l) (entered_two front rest) ∙ sym (append_assoc (list_entered packet) (all_entered front) (all_entered rest))

abbrev pub own_list : Option (ℕ × ℕ) → ℕ → ℕ → ℕ → List ℕ
own_list None slot x y = []
own_list (Some grid) slot x y = list_place grid slot x y ∷ []

own_entered : (grid : Option (ℕ × ℕ)) (slot x y : ℕ) → all_entered (list_slot grid slot x y ∷ []) ≡ own_list grid slot x y
own_entered None slot x y = refl
own_entered (Some grid) slot x y = refl

pub tile_entered : (frame : Frame) (places : List (Option ℕ)) (grid : Option (ℕ × ℕ)) (slot y x : ℕ) → ArePlacesOf frame places
    → all_entered (tile_slots frame places grid slot y x) ≡ own_list grid slot x y
unfolding tile_slots list_slots
tile_entered frame places grid slot y x agree =
    let loads = load_slots frame places x y in
    let lists = list_slots frame grid slot x y in
    let writes = write_slots frame places x y in
    entered_two loads (lists ++ writes)
    ∙ ap (λ l. l ++ all_entered (lists ++ writes)) (loads_of frame places x y agree).none
    ∙ entered_two lists writes
    ∙ ap (λ l. all_entered lists ++ l) (writes_of frame places x y agree).none
    ∙ append-nil (all_entered lists)
    ∙ entered_more (wait_slot frame grid x y) (list_slot grid slot x y ∷ [])
    ∙ ap (λ l. l ++ all_entered (list_slot grid slot x y ∷ [])) (quiet_wait frame grid x y).none
    ∙ own_entered grid slot x y
