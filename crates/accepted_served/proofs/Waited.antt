-- A renderer list waits for the semaphore once at most, and only with a binner list.
use Rattle.std.proofs.Common.{◌≡◌, ◌≤◌, ◌<◌, ℕ, zero, suc, ◌+◌, ◌==◌, ◌&&◌, Bool, true, false, List, [], ◌∷◌, ◌++◌, Option, Some, None, if◌then◌else◌, refl, ap, arith}
use Rattle.std.proofs.{lemmas.Grind.common_steps, lemmas.List.Concat.flat_map-cons, lemmas.Bool.Decides.nat_tests}
use Rattle.std.specs.{Prelude.bit_or, Prelude.is_some, List.flat_map, List.range_with_len}
use Rattle.job_format.specs.declared.file.Frame.{Frame}
use Rattle.packets.specs.declared.packet.Packet.TheVariants.{WaitOnSemaphore, StoreTileColor, StoreTileColorAndEnd, StoreTileBuffer, LoadFullResolution, LoadTileBuffer, TileCoordinates}
use Rattle.packets.specs.declared.packet.Packet.{Packet}
use Rattle.render_list.specs.Frame.{color_read, zs_read, zs_write, multisample_color, multisample_zs, color_write, place_at, is_full, surface_at, full_place, is_first_tile, is_last_tile, tiles_across, tiles_down}
use Rattle.render_list.specs.Text.{packet_where, head_packet, clear_packet, clear_slots, front_slots, without_color, without_zs, load_packet, load_slot, idle_store, wait_slot, list_slot, full_store, full_store_slot, zs_store, zs_store_slot, color_store, color_store_slot, is_there, more_after_multisample_zs, more_after_multisample_color, some_before_zs, some_before_color, load_slots, list_slots, write_slots, tile_slots, span_slots, row_slots, all_tile_slots, render_slots}
use Rattle.machine_plan.specs.Regions.{Every}
use Rattle.promises.specs.Steps.{one_if}
use Rattle.served_law.specs.Raises.{waits_of, waits_in}

waits_both : (slots others : List (Option Packet)) → waits_in (slots ++ others) ≡ waits_in slots + waits_in others
waits_both [] others = omega arith
waits_both (None ∷ slots) others = waits_both slots others
waits_both (Some packet ∷ slots) others = let rest = waits_both slots others in omega (arith, rest)

-- what one slot adds
abbrev waits_at : Option Packet → ℕ
waits_at None = 0
waits_at (Some packet) = waits_of packet

waits_cons : (slot : Option Packet) (slots : List (Option Packet)) → waits_in (slot ∷ slots) ≡ waits_at slot + waits_in slots
waits_cons None slots = omega arith
waits_cons (Some packet) slots = refl

none_wait : (slots : List (Option Packet)) → Every (λ slot. waits_at slot ≡ 0) slots → waits_in slots ≡ 0
none_wait [] none = refl
none_wait (slot ∷ slots) none =
    let here = none.0 in
    let later = none_wait slots none.1 in
    let both = waits_cons slot slots in
    omega (arith, here, later, both)

where_none : (b : Bool) (packet : Packet) → waits_of packet ≡ 0 → waits_at (packet_where b packet) ≡ 0
where_none true packet none = none
where_none false packet none = refl

load_by : (b : Bool) (full general : Packet) → waits_of full ≡ 0 → waits_of general ≡ 0 → waits_of (if b then full else general) ≡ 0
load_by true full general one two = one
load_by false full general one two = two

load_none : (frame : Frame) (k left_out : ℕ) (place : Option ℕ) (x y : ℕ) → waits_at (load_slot frame k left_out place x y) ≡ 0
unfolding load_packet
load_none frame k left_out None x y = refl
load_none frame k left_out (Some place) x y = load_by (is_full k (surface_at frame k)) (LoadFullResolution (bit_or (full_place frame place x y) left_out)) (LoadTileBuffer (surface_at frame k).bits place) refl refl

full_none : (frame : Frame) (place : Option ℕ) (left_out : ℕ) (more : Bool) (x y : ℕ) → waits_at (full_store_slot frame place left_out more x y) ≡ 0
unfolding full_store
full_none frame None left_out more x y = refl
full_none frame (Some place) left_out more x y = refl

zs_none : (frame : Frame) (place : Option ℕ) (more : Bool) (x y : ℕ) → waits_at (zs_store_slot frame place more x y) ≡ 0
unfolding zs_store
zs_none frame None more x y = refl
zs_none frame (Some place) more x y = refl

color_none : (frame : Frame) (place : Option ℕ) (x y : ℕ) → waits_at (color_store_slot frame place x y) ≡ 0
unfolding color_store
color_none frame None x y = refl
color_none frame (Some place) x y = load_by (is_last_tile frame x y) StoreTileColorAndEnd StoreTileColor refl refl

front_none : (frame : Frame) (places : List (Option ℕ)) → waits_in (front_slots frame places) ≡ 0
unfolding front_slots clear_slots head_packet clear_packet
front_none frame places =
    none_wait (front_slots frame places) (refl, (where_none frame.clear (clear_packet frame) refl, (where_none frame.clear (TileCoordinates 0 0) refl, (where_none frame.clear (StoreTileBuffer 0 0) refl, tt))))

loads_none : (frame : Frame) (places : List (Option ℕ)) (x y : ℕ) → waits_in (load_slots frame places x y) ≡ 0
unfolding load_slots
loads_none frame places x y =
    let both : Bool = is_there places color_read && is_there places zs_read in
    none_wait (load_slots frame places x y)
    (load_none frame color_read without_zs (place_at places color_read) x y, (where_none both (TileCoordinates x y) refl, (where_none both idle_store refl, (load_none frame zs_read without_color (place_at places zs_read) x y, tt))))

writes_none : (frame : Frame) (places : List (Option ℕ)) (x y : ℕ) → waits_in (write_slots frame places x y) ≡ 0
unfolding write_slots
writes_none frame places x y =
    none_wait (write_slots frame places x y) (
      full_none frame (place_at places multisample_color) without_zs (more_after_multisample_color places) x y,
      (
        where_none (is_there places multisample_zs && is_there places multisample_color) (TileCoordinates x y) refl,
        (
          full_none frame (place_at places multisample_zs) without_color (more_after_multisample_zs places) x y,
          (
            where_none (is_there places zs_write && some_before_zs places) (TileCoordinates x y) refl,
            (
              zs_none frame (place_at places zs_write) (is_there places color_write) x y,
              (
                where_none (is_there places color_write && some_before_color places) (TileCoordinates x y) refl,
                (color_none frame (place_at places color_write) x y, tt),
              ),
            ),
          ),
        ),
      ),
    )

-- with a binner list the first tile waits
list_none : (grid : Option (ℕ × ℕ)) (slot x y : ℕ) → waits_at (list_slot grid slot x y) ≡ 0
list_none None slot x y = refl
list_none (Some grid) slot x y = refl

with_true : (a b : Bool) → one_if (a && b) ≡ one_if (a && (b && true))
with_true true true = refl
with_true true false = refl
with_true false b = refl

first_waits : (b : Bool) → waits_at (packet_where b WaitOnSemaphore) ≡ one_if b
first_waits true = refl
first_waits false = refl

wait_few : (frame : Frame) (grid : Option (ℕ × ℕ)) (x y : ℕ) → waits_at (wait_slot frame grid x y) ≤ one_if ((x == frame.min_x) && ((y == frame.min_y) && is_some grid))
unfolding is_first_tile
wait_few frame None x y = omega arith
wait_few frame (Some grid) x y =
    let e = first_waits ((x == frame.min_x) && (y == frame.min_y)) in
    let f = with_true (x == frame.min_x) (y == frame.min_y) in
    omega (arith, e, f)

tile_few : (frame : Frame) (places : List (Option ℕ)) (grid : Option (ℕ × ℕ)) (slot y x : ℕ) → waits_in (tile_slots frame places grid slot y x) ≤ one_if ((x == frame.min_x) && ((y == frame.min_y) && is_some grid))
unfolding tile_slots list_slots
tile_few frame places grid slot y x =
    let loads : List (Option Packet) = load_slots frame places x y in
    let lists : List (Option Packet) = Some (TileCoordinates x y) ∷ wait_slot frame grid x y ∷ list_slot grid slot x y ∷ [] in
    let writes : List (Option Packet) = write_slots frame places x y in
    let one = loads_none frame places x y in
    let two = writes_none frame places x y in
    let a = waits_both loads (lists ++ writes) in
    let b = waits_both lists writes in
    let c = waits_cons (wait_slot frame grid x y) (list_slot grid slot x y ∷ []) in
    let d = waits_cons (list_slot grid slot x y) [] in
    let e = list_none grid slot x y in
    let f = wait_few frame grid x y in
    omega (arith, one, two, a, b, c, d, e, f)

-- Of numbers in a row only the first may wait.
not_first : (k first : ℕ) (most : Bool) → first < k → one_if ((k == first) && most) ≡ 0
not_first k first most behind =
    let off : (k == first) ≡ false = grind (arith, common_steps, nat_tests, behind) in
    ap (λ b. one_if (b && most)) off

none_behind : (slots : ℕ → List (Option Packet)) (most : Bool) (first from n : ℕ) → ((k : ℕ) → waits_in (slots k) ≤ one_if ((k == first) && most)) → first < from → waits_in (flat_map slots (range_with_len from n)) ≡ 0
none_behind slots most first from zero few behind = refl
none_behind slots most first from (suc n) few behind =
    let rest = none_behind slots most first (from + 1) n few (omega (arith, behind)) in
    let both = waits_both (slots from) (flat_map slots (range_with_len (from + 1) n)) in
    let one = few from in
    let none = not_first from first most behind in
    let is : waits_in (flat_map slots (range_with_len from (suc n))) ≡ waits_in (slots from ++ flat_map slots (range_with_len (from + 1) n)) = ap waits_in (flat_map-cons slots from (range_with_len (from + 1) n)) in
    omega (arith, rest, both, one, none, is)

here_most : (b most : Bool) → one_if (b && most) ≤ one_if most
here_most true most = omega arith
here_most false most = omega arith

span_few : (slots : ℕ → List (Option Packet)) (most : Bool) (first n : ℕ) → ((k : ℕ) → waits_in (slots k) ≤ one_if ((k == first) && most)) → waits_in (span_slots slots first n) ≤ one_if most
unfolding span_slots
span_few slots most first zero few = omega arith
span_few slots most first (suc n) few =
    let rest = none_behind slots most first (first + 1) n few (omega arith) in
    let both = waits_both (slots first) (flat_map slots (range_with_len (first + 1) n)) in
    let one = few first in
    let less = here_most (first == first) most in
    let is : waits_in (flat_map slots (range_with_len first (suc n))) ≡ waits_in (slots first ++ flat_map slots (range_with_len (first + 1) n)) = ap waits_in (flat_map-cons slots first (range_with_len (first + 1) n)) in
    omega (arith, rest, both, one, less, is)

row_few : (frame : Frame) (places : List (Option ℕ)) (grid : Option (ℕ × ℕ)) (slot y : ℕ) → waits_in (row_slots frame places grid slot y) ≤ one_if ((y == frame.min_y) && is_some grid)
row_few frame places grid slot y = span_few (tile_slots frame places grid slot y) ((y == frame.min_y) && is_some grid) frame.min_x (tiles_across frame) (λ x. tile_few frame places grid slot y x)

pub render_few : (frame : Frame) (places : List (Option ℕ)) (grid : Option (ℕ × ℕ)) (slot : ℕ) → waits_in (render_slots frame places grid slot) ≤ one_if (is_some grid)
unfolding render_slots
render_few frame places grid slot =
    let front = front_none frame places in
    let both = waits_both (front_slots frame places) (all_tile_slots frame places grid slot) in
    let tiles = span_few (row_slots frame places grid slot) (is_some grid) frame.min_y (tiles_down frame) (λ y. row_few frame places grid slot y) in
    omega (arith, front, both, tiles)
