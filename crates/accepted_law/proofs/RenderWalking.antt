-- The renderer list of a file in which no rule is broken walks: its places are a setup for its frame, and its numbers fit their fields.
use Rattle.std.proofs.Common.{◌≡◌, ℕ, zero, suc, ◌+◌, ◌<◌, ◌≤◌, ◌^◌, Bool, true, false, if◌then◌else◌, List, Option, Some, None, refl, arith, lit<, inl, rules}
use Rattle.std.proofs.lemmas.{Grind.common_steps, Bool.Decides.nat_tests}
use Rattle.field_words.specs.{Questions.first_of, Questions.each, Words.IsBytes}
use Rattle.field_words.proofs.{Questions.none_broken, Nones.front_none}
use Rattle.buffer_table.specs.{Table.TableModel, Table.buffer_at, Table.most_place, Handles.data_of}
use Rattle.job_format.specs.{declared.file.Frame.Frame, Model.FileModel}
use Rattle.packets.specs.{Opcode.tile_binning_mode, Packet.slots_text, declared.config.Config.Config}
use Rattle.bin_list.specs.{Packets.packets_passed, Seen.seen_before}
use Rattle.render_list.specs.Surfaces.{surface_questions, surface_faults, place_behind, place_in, places_of, is_outside_grid, frame_questions}
use Rattle.render_list.specs.Frame.{place_at, surface_at, is_present, FitsAt, IsSetupFor, IsTileSet}
use Rattle.render_list.specs.Text.{render_slots, render_text}
use Rattle.render_list.proofs.Checked.{offset_inside, tiles_inside, set_of, none_at, is_setup}
use Rattle.render_walks.specs.Walks.{AllFit, PlacesFit, GridFits, WalksTo, OwesFine, at_start}
use Rattle.render_walks.proofs.{Numbers.render_fits, Walking.render_walks}
use Rattle.job_check.specs.Shaders.{table_of}
use Rattle.job_check.specs.Jobs.{job_of, has_bin, grid_from, grid_of, slot_of, places_in, render_list_of}
use Rattle.machine_plan.specs.Regions.{Rights}
use Rattle.promises.specs.{Rights.IsOneOf, Holdings.plain_of, Holdings.rights_at}
use Rattle.qpu_law.proofs.Reading.{one_inside}
use Rattle.list_law.specs.{May.MayWrite, Start.frame_of, Rendering.MayDo, Rendering.NoMatter, Rendering.AllSet}
use Rattle.list_law.proofs.Start.{walks_to_weaker, head_sets}
use Rattle.accepted_law.specs.Holdings.{across_of, down_of, config_for, frame_for}
use Rattle.accepted_law.specs.{Settled.Settled, Settled.Grounds, Parts.RendersWalk}
use Rattle.accepted_law.proofs.{Tables.buffer_low, Tables.slot_inside, ByteTexts.bytes_passed, ByteTexts.byte_of_latest}
use Rattle.accepted_law.proofs.Frames.{HasRoom, IsSurfaceAt, AreSurfacesAt, surface_is}
use Rattle.accepted_law.proofs.Tiles.{HasGridFor, names_none_at, tile_fine}

-- buffers end inside the greatest memory
abbrev AreLow : TableModel → Type 0
AreLow table = (number : ℕ) → (buffer_at table.buffers number).place + (buffer_at table.buffers number).size ≤ most_place

-- Where a surface is in full resolution, its last tile lies below 2^32.
fits_named : (frame : Frame) (table : TableModel) (handles : List ℕ) (k : ℕ) (found : Option ℕ) → AreLow table → is_present (surface_at frame k) ≡ true
    → first_of (surface_questions frame table handles k) ≡ None → data_of table handles (surface_at frame k).hindex ≡ found
    → FitsAt frame k (place_behind table (surface_at frame k).offset found) frame.max_x frame.max_y
fits_named frame table handles k found low present none named = search (rules, arith, tiles_inside)

fits_by : (b : Bool) (frame : Frame) (table : TableModel) (handles : List ℕ) (k : ℕ) → AreLow table → is_present (surface_at frame k) ≡ b
    → first_of (surface_questions frame table handles k) ≡ None
    → FitsAt frame k (if b then place_behind table (surface_at frame k).offset (data_of table handles (surface_at frame k).hindex) else None) frame.max_x frame.max_y
fits_by b frame table handles k low present none = search (rules, arith, fits_named)

fits_in : (frame : Frame) (table : TableModel) (handles : List ℕ) (k : ℕ) → AreLow table → first_of (surface_questions frame table handles k) ≡ None
    → FitsAt frame k (place_in table handles (surface_at frame k)) frame.max_x frame.max_y
unfolding place_in
fits_in frame table handles k low none = fits_by (is_present (surface_at frame k)) frame table handles k low refl none

pub setup_of : (frame : Frame) (grid : Option (ℕ × ℕ)) (table : TableModel) (handles : List ℕ) → AreLow table → first_of (surface_faults frame grid table handles) ≡ None
    → IsSetupFor frame (places_of frame table handles)
setup_of frame grid table handles low none =
    let at : ℕ → Option ℕ = λ k. place_in table handles (surface_at frame k) in
    let each : (k : ℕ) → k < 6 → first_of (surface_questions frame table handles k) ≡ None = none_at frame grid table handles none in
    let fits : (k : ℕ) → k < 6 → FitsAt frame k (at k) frame.max_x frame.max_y = λ k below. fits_in frame table handles k low (each k below) in
    is_setup frame table handles (at 0) (at 1) (at 2) (at 3) (at 4) (at 5) refl refl refl refl refl refl (set_of frame grid table handles none) each
    (fits 0 (lit< tt)) (fits 1 (lit< tt)) (fits 2 (lit< tt)) (fits 3 (lit< tt)) (fits 4 (lit< tt)) (fits 5 (lit< tt))

-- Each place is a number of four bytes.
small_named : (frame : Frame) (table : TableModel) (handles : List ℕ) (k : ℕ) (found : Option ℕ) (place : ℕ) → AreLow table → is_present (surface_at frame k) ≡ true
    → first_of (surface_questions frame table handles k) ≡ None → data_of table handles (surface_at frame k).hindex ≡ found
    → place_behind table (surface_at frame k).offset found ≡ Some place → place < 2 ^ 32
small_named frame table handles k found place low present none named is = search (rules, arith, offset_inside)

small_by : (b : Bool) (frame : Frame) (table : TableModel) (handles : List ℕ) (k place : ℕ) → AreLow table → is_present (surface_at frame k) ≡ b
    → first_of (surface_questions frame table handles k) ≡ None
    → (if b then place_behind table (surface_at frame k).offset (data_of table handles (surface_at frame k).hindex) else None) ≡ Some place → place < 2 ^ 32
small_by b frame table handles k place low present none is = search (rules, arith, small_named)

small_in : (frame : Frame) (table : TableModel) (handles : List ℕ) (k place : ℕ) → AreLow table → first_of (surface_questions frame table handles k) ≡ None
    → place_in table handles (surface_at frame k) ≡ Some place → place < 2 ^ 32
unfolding place_in
small_in frame table handles k place low none is = small_by (is_present (surface_at frame k)) frame table handles k place low refl none is

-- Each of the six places is its surface's, and there are no others.
pub places_are : (P : ℕ → ℕ → Type 0) (frame : Frame) (table : TableModel) (handles : List ℕ)
    → ((k base : ℕ) → k < 6 → place_in table handles (surface_at frame k) ≡ Some base → P k base)
    → (k base : ℕ) → place_at (places_of frame table handles) k ≡ Some base → P k base
places_are P frame table handles each zero base is = each 0 base (lit< tt) is
places_are P frame table handles each (suc zero) base is = each 1 base (lit< tt) is
places_are P frame table handles each (suc (suc zero)) base is = each 2 base (lit< tt) is
places_are P frame table handles each (suc (suc (suc zero))) base is = each 3 base (lit< tt) is
places_are P frame table handles each (suc (suc (suc (suc zero)))) base is = each 4 base (lit< tt) is
places_are P frame table handles each (suc (suc (suc (suc (suc zero))))) base is = each 5 base (lit< tt) is
places_are P frame table handles each (suc (suc (suc (suc (suc (suc k)))))) base is = cc

places_small : (frame : Frame) (table : TableModel) (handles : List ℕ) → AreLow table → ((k : ℕ) → k < 6 → first_of (surface_questions frame table handles k) ≡ None)
    → (k place : ℕ) → place_at (places_of frame table handles) k ≡ Some place → place < 2 ^ 32
places_small frame table handles low each = places_are (λ k place. place < 2 ^ 32) frame table handles (λ k place below is. small_in frame table handles k place low (each k below) is)

-- So is the binner's grid of one.
grid_if : (b : Bool) (grid : ℕ × ℕ) → (grid.0 < 256) × (grid.1 < 256) → GridFits (if b then Some grid else None)
grid_if b grid small = search (rules, arith)

pub sides_small : (list : List ℕ) → IsBytes list → ((seen_before (packets_passed list)).tiles_x < 256) × ((seen_before (packets_passed list)).tiles_y < 256)
unfolding seen_before
sides_small list all = (byte_of_latest tile_binning_mode 13 (packets_passed list) (bytes_passed list all), byte_of_latest tile_binning_mode 14 (packets_passed list) (bytes_passed list all))

grid_small : (f : FileModel) (j : ℕ) → IsBytes (job_of f j).bin → GridFits (grid_of f j)
unfolding grid_of
grid_small f j all = grid_if (has_bin f j) (grid_from (seen_before (packets_passed (job_of f j).bin))) (sides_small (job_of f j).bin all)

slot_low : (f : FileModel) (j : ℕ) → Settled f j → slot_of f j ≤ most_place
slot_low f j s =
    omega (arith, (slot_inside f j s.well_formed s.sound s.inside).upto, (s.sound.each_item 1 (omega arith)).inside, s.sound.limit)

-- The table's buffers end below the greatest place.
low_of : (f : FileModel) (j : ℕ) → Settled f j → AreLow (table_of f)
low_of f j s = buffer_low f.mem_size f.regions f.buffers s.sound

pub frame_setup : (f : FileModel) (j : ℕ) → Settled f j → IsSetupFor (job_of f j).frame (places_in f j)
unfolding places_in
frame_setup f j s = setup_of (job_of f j).frame (grid_of f j) (table_of f) (job_of f j).handles (low_of f j s) s.surfaces

frame_places : (f : FileModel) (j : ℕ) → Settled f j → PlacesFit (places_in f j)
unfolding places_in
frame_places f j s = places_small (job_of f j).frame (table_of f) (job_of f j).handles (low_of f j s) (none_at (job_of f j).frame (grid_of f j) (table_of f) (job_of f j).handles s.surfaces)

pub frame_fits : (f : FileModel) (j : ℕ) → Settled f j → AllFit (render_slots (job_of f j).frame (places_in f j) (grid_of f j) (slot_of f j))
frame_fits f j s = search (arith, render_fits, frame_setup, frame_places, grid_small, slot_low)

-- The job may write each part of a data buffer that its handles name.
may_write : (f : FileModel) (j : ℕ) (m : List ℕ) (place size p n : ℕ) → Grounds f j m → IsOneOf (plain_of f j) place size → place ≤ p → p + n ≤ place + size → MayWrite (rights_at f j) p n
may_write f j m place size p n grounds one from upto = search (rules, arith, one_inside)

has_room : (f : FileModel) (j : ℕ) (m : List ℕ) → Grounds f j m → HasRoom (rights_at f j) (table_of f) (job_of f j).handles
has_room f j m grounds place size named =
    let one : IsOneOf (plain_of f j) place size = grounds.named_data place size named in
    record { page = grounds.data_page place size one; low = grounds.data_low place size one; writes = λ p n from upto. may_write f j m place size p n grounds one from upto }

surfaces_at : (r : Rights) (frame : Frame) (grid : Option (ℕ × ℕ)) (table : TableModel) (handles : List ℕ) → HasRoom r table handles
    → first_of (surface_faults frame grid table handles) ≡ None → AreSurfacesAt r frame (places_of frame table handles)
surfaces_at r frame grid table handles rooms none =
    places_are (IsSurfaceAt r frame) frame table handles (λ k base below is. surface_is r frame table handles k base rooms (none_at frame grid table handles none k below) is)

-- The tiles of the set are in the binner's grid.
pub in_grid : (frame : Frame) (grid : Option (ℕ × ℕ)) (table : TableModel) (handles : List ℕ) → first_of (surface_faults frame grid table handles) ≡ None → is_outside_grid frame grid ≡ false
unfolding surface_faults frame_questions
in_grid frame grid table handles none = grind (arith, common_steps, nat_tests, none_broken, front_none)

tiles_below : (frame : Frame) (across down : ℕ) → is_outside_grid frame (Some (across, down)) ≡ false → (frame.max_x < across) × (frame.max_y < down)
unfolding is_outside_grid
tiles_below frame across down none = (grind (arith, none), grind (arith, none))

has_grid : (b : Bool) (f : FileModel) (j : ℕ) (frame : Frame) → is_outside_grid frame (if b then Some (across_of f j, down_of f j) else None) ≡ false
    → HasGridFor (config_for f j) frame (slot_of f j) (if b then Some (across_of f j, down_of f j) else None)
unfolding config_for
has_grid b f j frame none = search (rules, arith, tiles_below)

has_grid_for : (f : FileModel) (j : ℕ) → Settled f j → HasGridFor (config_for f j) (job_of f j).frame (slot_of f j) (grid_of f j)
unfolding grid_of
has_grid_for f j settled = search (rules, arith, has_grid, in_grid)

-- Each tile is fine, and so is the store that clears.
owes_fine : (r : Rights) (c : Config) (frame : Frame) (places : List (Option ℕ)) (grid : Option (ℕ × ℕ)) (slot : ℕ) → AreSurfacesAt r frame places → HasGridFor c frame slot grid
    → OwesFine (MayDo r c (frame_of frame places)) frame places grid slot
owes_fine r c frame places grid slot surfaces is = record {
  tiles = λ x y left right up down. tile_fine r c frame places grid slot y x surfaces is right down;
  clears = inl (names_none_at 0 refl);
}

walks_by : (r : Rights) (c : Config) (frame : Frame) (places : List (Option ℕ)) (grid : Option (ℕ × ℕ)) (slot : ℕ) → IsTileSet frame → AreSurfacesAt r frame places → HasGridFor c frame slot grid
    → WalksTo (MayDo r c (frame_of frame places)) NoMatter at_start (render_slots frame places grid slot)
walks_by r c frame places grid slot set surfaces is =
    let Fine = MayDo r c (frame_of frame places) in
    walks_to_weaker Fine Fine _ (λ p x y fine. fine) at_start (render_slots frame places grid slot)
    (render_walks Fine frame places grid slot set (owes_fine r c frame places grid slot surfaces is))

list_text : (f : FileModel) (j : ℕ) → render_list_of f j ≡ slots_text (render_slots (job_of f j).frame (places_in f j) (grid_of f j) (slot_of f j))
unfolding render_list_of render_text
list_text f j = refl

surfaces_in : (f : FileModel) (j : ℕ) (m : List ℕ) → Grounds f j m → AreSurfacesAt (rights_at f j) (job_of f j).frame (places_in f j)
unfolding places_in
surfaces_in f j m grounds = surfaces_at (rights_at f j) (job_of f j).frame (grid_of f j) (table_of f) (job_of f j).handles (has_room f j m grounds) grounds.settled.surfaces

sets_in : (f : FileModel) (j : ℕ) → AllSet (frame_for f j) (render_slots (job_of f j).frame (places_in f j) (grid_of f j) (slot_of f j))
unfolding frame_for
sets_in f j = head_sets (job_of f j).frame (places_in f j) (grid_of f j) (slot_of f j)

walks_in : (f : FileModel) (j : ℕ) (m : List ℕ) → Grounds f j m
    → WalksTo (MayDo (rights_at f j) (config_for f j) (frame_for f j)) NoMatter at_start (render_slots (job_of f j).frame (places_in f j) (grid_of f j) (slot_of f j))
unfolding frame_for
walks_in f j m grounds = search (arith, walks_by, set_of, surfaces_in, has_grid_for)

pub renders_walk_law : RendersWalk
renders_walk_law f j m grounds = record { text = list_text f j; walks = walks_in f j m grounds; fits = frame_fits f j grounds.settled; sets = sets_in f j }
