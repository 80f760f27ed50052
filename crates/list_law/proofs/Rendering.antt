-- One step of the renderer keeps all that stands.
use Rattle.std.proofs.Common.{◌≡◌, ◌≢◌, ◌≤◌, ◌<◌, ◌⊎◌, ℕ, zero, suc, ◌+◌, ◌*◌, ◌-◌, ◌/◌, ◌%◌, ◌==◌, Bool, true, false, min, Option, Some, if◌then◌else◌, refl, sym, subst, arith, List, [], ◌∷◌, length, drop, slice_index, None, IfSome, ◌∙◌, ap, rules}
use Rattle.std.proofs.Math.Nat.{mul-le-mul_right, div-add-mod, mod-lt, mul_comm}
use Rattle.std.proofs.lemmas.{Nat.div_below, Grind.common_steps, Bool.Decides.nat_tests}
use Rattle.std.specs.{Int.div_ceil, Prelude.option_map, Prelude.is_some}
use Rattle.field_words.specs.{Words.bits_of}
use Rattle.field_words.proofs.Numbers.{rounded}
use Rattle.texture_layouts.specs.declared.surface.Tiling.{Tiling, TheVariants.Raster, TheVariants.T, TheVariants.Lt}
use Rattle.texture_layouts.specs.Surface.{microtile_width_of, microtile_height_of, unit_across, unit_down, size_for}
use Rattle.texture_layouts.specs.Place.{aligned_across, aligned_down, microtiles_across, microtiles_down, microtile_place_of, raster_place}
use Rattle.texture_layouts.specs.{declared.format.Style.Style, Format.IsShort, Format.general_style, Format.frame_style}
use Rattle.texture_layouts.proofs.Places.{width_some, height_some, across_parts, down_exact, microtile_inside}
use Rattle.texture_layouts.proofs.Styles.{short_pixel}
use Rattle.machine_plan.specs.{Regions.Inside, Regions.Rights, Regions.Every, Regions.IsSafeIn, World.plan_mapped}
use Rattle.machine_plan.specs.declared.{who.Who.Who, launch.Free.Free, launch.Launch.Launch}
use Rattle.machine_plan.specs.{Choice.word_at, Memory.bytes_at, Plan.Done, Plan.Wilds, Plan.Keeps}
use Rattle.machine_plan.specs.Glance.{Glance, Now, At, glance_result, GlancesIn}
use Rattle.machine_plan.proofs.{Memory.inside_part, Safe.read_safe, Plans.keeps_weaker, Worlds.keeps_mapped}
use Rattle.list_machine.specs.declared.state.{Frame.Frame, Item.Item, Renderer.Renderer, Found.Found, SubList.SubList}
use Rattle.list_machine.specs.Cover.{raster_cover, tiled_cover, cover_in, cover_for, part_count, part_offset, part_place}
use Rattle.list_machine.specs.declared.{state.Load.Load, state.Load.TheVariants.Full, state.Load.TheVariants.General, surface.Cover.Cover}
use Rattle.list_machine.specs.declared.state.Program.{Program}
use Rattle.list_machine.specs.Surfaces.{cover_written, cover_read, aligned_address, names_none, general_written, general_read, frame_written, whole_size, whole_written, whole_read, waiting_read}
use Rattle.list_machine.specs.Renderer.{beyond, with_load, with_inside, wait_plan, tile_named, enter_plan, tile_by, branch_plan, tile_plan, act, first_of_tile, item_at, vertex_plan, program_plan, choice_plan, found_plan, renderer_plan, may_pass, ready_in, renderer_ready}
use Rattle.list_machine.specs.{Store.tile_side, Store.pixels_covered, Blocks.tiles_of, Start.start_plan}
use Rattle.list_machine.specs.Lists.{Lists, Turned, turned_to, quiet, with_renderer, with_taken}
use Rattle.list_machine.specs.{Fetch.fetch_plan, Renderer.at_tile, Renderer.item_fetched, Renderer.plan_in}
use Rattle.list_law.specs.Rendering.{surface_size, StoresSurface, LoadsSurface, PartsMeet, IsTileList, MayDo, SetsOnly, AllSet, load_packet, view_of, NoMatter, RenderWay}
use Rattle.list_law.specs.{May.MayWrite, Binning.ItemFine, Lists.ListsFine, Lists.TurnedFine}
use Rattle.list_law.proofs.Bytes.{none_left, bytes_front, bytes_behind, byte_front, front_inside, behind_inside, behind_ends}
use Rattle.list_law.proofs.{Logs.not_same, Safe.write_safe, Safe.keeps_if, Fetching.AnyEnd, Fetching.fetch_keeps, Fetching.start_fine}
use Rattle.list_law.proofs.Binning.{items_set}
use Rattle.packets.specs.declared.packet.Packet.TheVariants.{WaitOnSemaphore, BranchToSubList, StoreTileColor, StoreTileColorAndEnd, StoreFullResolution, LoadFullResolution, StoreTileBuffer, LoadTileBuffer, TileRenderingMode, ClearColors, TileCoordinates}
use Rattle.packets.specs.declared.{packet.Packet.Packet, config.Config.Config}
use Rattle.packets.specs.{Length.render_taken, Packet.packet_text, Packet.slots_text}
use Rattle.packets.proofs.Laws.{decoded_text, taken_text}
use Rattle.render_walks.specs.Walks.{View, pass, IsDoneAt, Tame, WalksTo, AllFit}
use Rattle.list_machine.proofs.{Storing.chosen_size, Items.ready_below, Keeping.packet_keeps, Keeping.written_keep, Keeping.read_keep}

-- What a load or store covers lies in its surface.

-- Raster: the covered pixels of a row lie in the row.
row_room : (cpp across down row left pixels : ℕ) → left + pixels ≤ across → row < down → cpp * (row * across + left) + cpp * pixels ≤ across * down * cpp
row_room cpp across down row left pixels wide high =
    let next : row + 1 ≤ down = omega (arith, high) in
    let rows : (row + 1) * across ≤ down * across = mul-le-mul_right across next in
    let sum : row * across + left + pixels ≤ down * across = omega (arith, rows, wide) in
    let all : (row * across + left + pixels) * cpp ≤ down * across * cpp = mul-le-mul_right cpp sum in
    omega (arith, all)

raster_by : (cpp wide high left top side i : ℕ) (b : Bool) → (min side (wide - left) == 0) ≡ b
    → i < (if b then 0 else 1) * min side (high - top)
    → raster_place wide cpp (left + i % (if b then 0 else 1)) (top + i / (if b then 0 else 1)) + cpp * min side (wide - left) ≤ size_for Raster wide high cpp
unfolding raster_place
raster_by cpp wide high left top side i true e below = absurd (omega (arith, below))
raster_by cpp wide high left top side i false e below =
    let some : min side (wide - left) ≢ 0 = not_same (min side (wide - left)) 0 e in
    let across : ℕ = aligned_across Raster wide cpp in
    let down : ℕ = aligned_down Raster high cpp in
    let least : wide ≤ across = (rounded wide (microtile_width_of cpp) (width_some cpp)).least in
    let tall : high ≤ down = (rounded high 1 (omega arith)).least in
    let first : i % 1 ≡ 0 = omega arith in
    let row : i / 1 ≡ i = omega arith in
    let inside : left + min side (wide - left) ≤ across = omega (arith, some, least) in
    let under : top + i < down = omega (arith, below, tall) in
    let Goal : ℕ → ℕ → Type 0 = λ p q. cpp * ((top + q) * across + (left + p)) + cpp * min side (wide - left) ≤ across * down * cpp in
    let plain : left + 0 ≡ left = omega arith in
    let there : Goal 0 i = subst (λ n. cpp * ((top + i) * across + n) + cpp * min side (wide - left) ≤ across * down * cpp) (sym plain) (row_room cpp across down (top + i) left (min side (wide - left)) inside under) in
    subst (λ p. Goal p (i / 1)) (sym first) (subst (Goal 0) (sym row) there)

-- Microtiles: one that begins in the surface lies in it.
side_by : (b : Bool) (side : ℕ) → side ≡ (if b then 32 else 64) → (side ≡ 32) ⊎ (side ≡ 64)
side_by b side e = search (rules, arith)

side_is : (bits : ℕ) → (tile_side bits ≡ 32) ⊎ (tile_side bits ≡ 64)
unfolding tile_side
side_is bits = side_by (bits_of bits 0 0 == 1) (tile_side bits) refl

whole_across : (cpp x side : ℕ) → IsShort cpp → (side ≡ 32) ⊎ (side ≡ 64) → x * side / microtile_width_of cpp * microtile_width_of cpp ≡ x * side
unfolding microtile_width_of
whole_across cpp x side h3 h4 = search (rules, arith)

whole_down : (cpp y side : ℕ) → IsShort cpp → (side ≡ 32) ⊎ (side ≡ 64) → y * side / microtile_height_of cpp * microtile_height_of cpp ≡ y * side
unfolding microtile_height_of
whole_down cpp y side h3 h4 = search (rules, arith)

unit_by : (n unit k whole rest : ℕ) → 0 < unit → unit * whole + rest ≡ n → k < whole + min 1 rest → k * unit < n
unit_by n unit k whole rest some all below = grind (arith, common_steps, nat_tests, mul-le-mul_right)

lower : (a b unit : ℕ) → a * unit < b * unit → a < b
lower a b unit below = grind (arith, below)

some_across : (across down i : ℕ) → i < across * down → 0 < across
some_across across down i below = search (rules, arith)

-- a unit that counts for a length begins in it
unit_begins : (n unit k : ℕ) → 0 < unit → k < div_ceil n unit → k * unit < n
unit_begins n unit k some below = unit_by n unit k (n / unit) (n % unit) some (div-add-mod n unit) below

-- so a unit of a tile that begins in a length is one of the whole units that cover the length
unit_inside : (length side start unit k first units aligned : ℕ) → 0 < unit → first * unit ≡ start → k < div_ceil (min side (length - start)) unit
    → units * unit ≡ aligned → length ≤ aligned → first + k < units
unit_inside length side start unit k first units aligned some whole below parts long =
    let begins : k * unit < min side (length - start) = unit_begins (min side (length - start)) unit k some below in
    let sum : (first + k) * unit < units * unit = omega (arith, begins, whole, parts, long) in
    lower (first + k) units unit sum

tiled_inside : (tiling : Tiling) → (tiling ≡ T) ⊎ (tiling ≡ Lt) → (cpp wide high x y side i : ℕ) → IsShort cpp → (side ≡ 32) ⊎ (side ≡ 64)
    → (0 < unit_across tiling cpp) → (0 < unit_down tiling cpp)
    → i < div_ceil (min side (wide - x * side)) (microtile_width_of cpp) * div_ceil (min side (high - y * side)) (microtile_height_of cpp)
    → microtile_place_of tiling wide cpp (x * side / microtile_width_of cpp + i % div_ceil (min side (wide - x * side)) (microtile_width_of cpp)) (y * side / microtile_height_of cpp + i / div_ceil (min side (wide - x * side)) (microtile_width_of cpp)) + 64
    ≤ size_for tiling wide high cpp
tiled_inside tiling tiled cpp wide high x y side i short sides unit_wide unit_high below =
    let mw : ℕ = microtile_width_of cpp in
    let mh : ℕ = microtile_height_of cpp in
    let across : ℕ = div_ceil (min side (wide - x * side)) mw in
    let down : ℕ = div_ceil (min side (high - y * side)) mh in
    let some : 0 < across = some_across across down i below in
    let column : i % across < across = mod-lt i some in
    let row : i / across < down = div_below i across down some (subst (λ n. i < n) (mul_comm across down) below) in
    let wide_in : x * side / mw + i % across < microtiles_across tiling wide cpp =
    unit_inside wide side (x * side) mw (i % across) (x * side / mw) (microtiles_across tiling wide cpp) (aligned_across tiling wide cpp) (width_some cpp) (whole_across cpp x side short sides) column (across_parts tiling wide cpp) (rounded wide (unit_across tiling cpp) unit_wide).least in
    let high_in : y * side / mh + i / across < microtiles_down tiling high cpp =
    unit_inside high side (y * side) mh (i / across) (y * side / mh) (microtiles_down tiling high cpp) (aligned_down tiling high cpp) (height_some cpp) (whole_down cpp y side short sides) row (down_exact tiling high cpp tiled) (rounded high (unit_down tiling cpp) unit_high).least in
    microtile_inside tiling wide cpp (x * side / mw + i % across) (y * side / mh + i / across) (short_pixel cpp short) high wide_in high_in

eight : (n : ℕ) → 0 < n → 0 < 8 * n
eight n some = omega (arith, some)

-- Each part lies in the surface.
part_inside : (tiling : Tiling) (cpp : ℕ) (f : Frame) (base x y i : ℕ) → IsShort cpp → i < part_count (cover_in tiling cpp f base x y)
    → part_offset (cover_in tiling cpp f base x y).tiling f.width cpp ((cover_in tiling cpp f base x y).left + i % (cover_in tiling cpp f base x y).across) ((cover_in tiling cpp f base x y).top + i / (cover_in tiling cpp f base x y).across) + (cover_in tiling cpp f base x y).size ≤ size_for tiling f.width f.height cpp
unfolding raster_cover tiled_cover pixels_covered
part_inside tiling cpp f base x y i short below = grind (arith, common_steps, nat_tests, raster_by, tiled_inside, side_is, eight, width_some, height_some)

record PlaceIs (tiling : Tiling) (cpp : ℕ) (f : Frame) (base x y i : ℕ) : Type 0 where
  pub from : base ≤ part_place (cover_in tiling cpp f base x y) i
  pub upto : part_place (cover_in tiling cpp f base x y) i + (cover_in tiling cpp f base x y).size ≤ base + size_for tiling f.width f.height cpp

place_is : (tiling : Tiling) (cpp : ℕ) (f : Frame) (base x y i : ℕ) → IsShort cpp → i < part_count (cover_in tiling cpp f base x y) → PlaceIs tiling cpp f base x y i
unfolding part_place raster_cover tiled_cover
place_is tiling cpp f base x y i short below = search (rules, arith, part_inside)

parts_styled : (M : ℕ → ℕ → Type 0) (style : Option Style) (one : Style) (f : Frame) (base x y : ℕ) → style ≡ Some one → IsShort one.cpp
    → ((p n : ℕ) → base ≤ p → p + n ≤ base + surface_size one f → M p n) → PartsMeet M (cover_for style (Some f) base x y)
parts_styled M style one f base x y is short lies = search (rules, arith, place_is)

pub store_fine : (r : Rights) (style : Option Style) (f : Frame) (base x y : ℕ) → StoresSurface r style f base → PartsMeet (MayWrite r) (cover_for style (Some f) base x y)
store_fine r style f base x y stores = search (rules, arith, parts_styled, inside_part)

pub load_fine : (r : Rights) (style : Option Style) (f : Frame) (base x y : ℕ) → LoadsSurface r style f base → PartsMeet (Inside r.region) (cover_for style (Some f) base x y)
load_fine r style f base x y loads = search (rules, arith, parts_styled, inside_part)

-- All is kept with another renderer.
pub render_set : (r : Rights) (K : List ℕ → Type 0) (O : Launch → Type 0) (c : Config) (f : Frame) (s : Lists) (renderer : Renderer) (waited : Bool) → ListsFine r K O c f s
    → RenderWay r K c f renderer waited → (waited ≡ true → s.closed ≡ true) → ListsFine r K O c f (with_renderer s renderer)
render_set r K O c f s renderer waited fine way passed = search (rules, arith)

-- one less on the semaphore
less : (n : ℕ) (b : Bool) → (n ≡ 0) ⊎ (b ≡ true) → (n - 1 ≡ 0) ⊎ (b ≡ true)
less n b h2 = search (rules, arith)

taken_fine : (r : Rights) (K : List ℕ → Type 0) (O : Launch → Type 0) (c : Config) (f : Frame) (s : Lists) → ListsFine r K O c f s → ListsFine r K O c f (with_taken s)
taken_fine r K O c f s fine = search (rules, arith, items_set, less)

still : (r : Rights) (K : List ℕ → Type 0) (O : Launch → Type 0) (c : Config) (f : Frame) (s : Lists) → ListsFine r K O c f s → TurnedFine r K O c f (quiet s)
still r K O c f s fine = record { lists = fine; launch = tt }

-- Loads and stores.
covered_written : (who : Who) (r : Rights) (L : ℕ → ℕ → Type 0) (P : List ℕ → Lists → Type 0) (cover : Option Cover) (words : List ℕ) (s : Lists) (m : List ℕ)
    → PartsMeet (MayWrite r) cover → ((k : List ℕ) → P k s) → Keeps who L (IsSafeIn r) P (cover_written cover words (Done s)) m
unfolding cover_written
covered_written who r L P cover words s m parts ends = search (rules, arith, written_keep, write_safe)

covered_read : (who : Who) (r : Rights) (L : ℕ → ℕ → Type 0) (P : List ℕ → Lists → Type 0) (cover : Option Cover) (s : Lists) (m : List ℕ)
    → PartsMeet (Inside r.region) cover → P m s → Keeps who L (IsSafeIn r) P (cover_read cover (Done s)) m
unfolding cover_read
covered_read who r L P cover s m parts ends = search (rules, arith, read_keep, read_safe)

whole_stored : (who : Who) (r : Rights) (L : ℕ → ℕ → Type 0) (P : List ℕ → Lists → Type 0) (address : ℕ) (words : List ℕ) (s : Lists) (m : List ℕ)
    → MayWrite r (aligned_address address) whole_size → ((k : List ℕ) → P k s) → Keeps who L (IsSafeIn r) P (whole_written address words (Done s)) m
unfolding whole_written
whole_stored who r L P address words s m may ends = search (rules, arith, chosen_size, write_safe)

-- the frame that is set is the job's one
frame_is : (f : Frame) (frame : Option Frame) → is_some frame ≡ true → IfSome frame (λ one. one ≡ f) → frame ≡ Some f
frame_is f frame framed only = search (rules, arith)

frame_stored : (who : Who) (r : Rights) (L : ℕ → ℕ → Type 0) (P : List ℕ → Lists → Type 0) (f : Frame) (frame : Option Frame) (x y : ℕ) (words : List ℕ) (s : Lists) (m : List ℕ)
    → frame ≡ Some f → StoresSurface r (frame_style f.bits) f f.address → ((k : List ℕ) → P k s) → Keeps who L (IsSafeIn r) P (frame_written frame x y words (Done s)) m
unfolding frame_written
frame_stored who r L P f frame x y words s m is stores ends =
    subst (λ (one : Option Frame). Keeps who L (IsSafeIn r) P (frame_written one x y words (Done s)) m) (sym is)
    (covered_written who r L P (cover_for (frame_style f.bits) (Some f) f.address x y) words s m (store_fine r (frame_style f.bits) f f.address x y stores) ends)

off_surface : (A : Type 0) (b : Bool) → (b ≡ true) ⊎ A → b ≡ false → A
off_surface A b h2 off = search (rules, arith)

general_stored : (who : Who) (r : Rights) (L : ℕ → ℕ → Type 0) (P : List ℕ → Lists → Type 0) (f : Frame) (frame : Option Frame) (bits address x y : ℕ) (words : List ℕ) (s : Lists) (m : List ℕ)
    → frame ≡ Some f → (names_none bits ≡ true) ⊎ StoresSurface r (general_style bits) f (aligned_address address) → ((k : List ℕ) → P k s)
    → Keeps who L (IsSafeIn r) P (general_written bits address frame x y words (Done s)) m
unfolding general_written
general_stored who r L P f frame bits address x y words s m is stores ends =
    keeps_if who L (IsSafeIn r) P m (names_none bits) (Done s) (cover_written (cover_for (general_style bits) frame (aligned_address address) x y) words (Done s))
    (λ on. ends m)
    (λ off. covered_written who r L P (cover_for (general_style bits) frame (aligned_address address) x y) words s m
    (subst (λ (one : Option Frame). PartsMeet (MayWrite r) (cover_for (general_style bits) one (aligned_address address) x y)) (sym is)
    (store_fine r (general_style bits) f (aligned_address address) x y (off_surface (StoresSurface r (general_style bits) f (aligned_address address)) (names_none bits) stores off))) ends)

general_loaded : (who : Who) (r : Rights) (L : ℕ → ℕ → Type 0) (P : List ℕ → Lists → Type 0) (f : Frame) (frame : Option Frame) (bits address x y : ℕ) (s : Lists) (m : List ℕ)
    → frame ≡ Some f → (names_none bits ≡ true) ⊎ LoadsSurface r (general_style bits) f (aligned_address address) → P m s
    → Keeps who L (IsSafeIn r) P (general_read bits address frame x y (Done s)) m
unfolding general_read
general_loaded who r L P f frame bits address x y s m is loads ends =
    keeps_if who L (IsSafeIn r) P m (names_none bits) (Done s) (cover_read (cover_for (general_style bits) frame (aligned_address address) x y) (Done s))
    (λ on. ends)
    (λ off. covered_read who r L P (cover_for (general_style bits) frame (aligned_address address) x y) s m
    (subst (λ (one : Option Frame). PartsMeet (Inside r.region) (cover_for (general_style bits) one (aligned_address address) x y)) (sym is)
    (load_fine r (general_style bits) f (aligned_address address) x y (off_surface (LoadsSurface r (general_style bits) f (aligned_address address)) (names_none bits) loads off))) ends)

-- the load that waits is done
waiting_loaded : (who : Who) (r : Rights) (c : Config) (f : Frame) (L : ℕ → ℕ → Type 0) (P : List ℕ → Lists → Type 0) (frame : Option Frame) (waiting : Option Load) (x y : ℕ) (s : Lists) (m : List ℕ)
    → frame ≡ Some f → IsDoneAt (MayDo r c f) (option_map load_packet waiting) x y → P m s
    → Keeps who L (IsSafeIn r) P (waiting_read waiting frame x y (Done s)) m
unfolding whole_read
waiting_loaded who r c f L P frame waiting x y s m is may ends = search (rules, arith, read_safe, general_loaded)

-- no load waits
idle : (waiting : Option Load) → option_map load_packet waiting ≡ None → waiting ≡ None
idle waiting e = search (rules, arith)

tile_is : (c : Config) (address tile : ℕ) → address ≡ c.address + 32 * tile → tile < tiles_of c → tile_named c address ≡ Some tile
unfolding tile_named
tile_is c address tile is below = grind (arith, common_steps, nat_tests)

branch_keeps : (who : Who) (r : Rights) (L : ℕ → ℕ → Type 0) (P : List ℕ → Lists → Type 0) (c : Config) (s : Lists) (address : ℕ) (m : List ℕ) (config : Option Config) (closed : Bool) (list : IsTileList c address)
    → closed ≡ true → config ≡ Some c → P m (with_inside s (Some (record { tile = list.tile; at = 0 })))
    → Keeps who L (IsSafeIn r) P (if closed then enter_plan s (tile_by config address) else Wilds) m
branch_keeps who r L P c s address m config closed list on is ends =
    let Q : Option Config → Type 0 = λ (one : Option Config). Keeps who L (IsSafeIn r) P (enter_plan s (tile_by one address)) m in
    let R : Option ℕ → Type 0 = λ (one : Option ℕ). Keeps who L (IsSafeIn r) P (enter_plan s one) m in
    let there : Q (Some c) = subst R (sym (tile_is c address list.tile list.is list.below)) ends in
    subst (λ (b : Bool). Keeps who L (IsSafeIn r) P (if b then enter_plan s (tile_by config address) else Wilds) m) (sym on) (subst Q (sym is) there)

-- The renderer behind a packet, with what it keeps then.
abbrev behind : Renderer → ℕ → Option Frame → (x y : ℕ) → Option Load → Option SubList → Renderer
behind renderer len frame x y waiting inside = record { place = renderer.place + len; end = renderer.end; frame = frame; x = x; y = y; waiting = waiting; inside = inside }

-- What is known of the list behind a packet.
record Ahead (r : Rights) (K : List ℕ → Type 0) (c : Config) (f : Frame) (place end : ℕ) (view : View) (rest : List (Option Packet)) : Type 0 where
  pub ends : place + length (slots_text rest) ≡ end
  pub walks : WalksTo (MayDo r c f) NoMatter view rest
  pub fit : AllFit rest
  pub sets : AllSet f rest
  pub stands : (m : List ℕ) → K m → bytes_at m place (length (slots_text rest)) ≡ slots_text rest
  pub reads : Inside r.region place (length (slots_text rest))

way_on : (r : Rights) (K : List ℕ → Type 0) (c : Config) (f : Frame) (renderer : Renderer) (waited : Bool) (rest : List (Option Packet))
    → Ahead r K c f renderer.place renderer.end (view_of renderer waited) rest → IfSome renderer.frame (λ one. one ≡ f) → IfSome renderer.inside (λ sub. (sub.tile < tiles_of c) × (waited ≡ true))
    → RenderWay r K c f renderer waited
way_on r K c f renderer waited rest ahead frame inside = search (rules, arith)

-- so all stands again, behind a packet
still_on : (r : Rights) (K : List ℕ → Type 0) (O : Launch → Type 0) (c : Config) (f : Frame) (s : Lists) (fine : ListsFine r K O c f s) (renderer : Renderer) (rest : List (Option Packet))
    → Ahead r K c f renderer.place renderer.end (view_of renderer fine.waited) rest → IfSome renderer.frame (λ one. one ≡ f) → IfSome renderer.inside (λ sub. (sub.tile < tiles_of c) × (fine.waited ≡ true))
    → TurnedFine r K O c f (quiet (with_renderer s renderer))
still_on r K O c f s fine renderer rest ahead frame inside = search (rules, arith, still, render_set, way_on)

raised_when : (n : ℕ) (b : Bool) → (n ≡ 0) ⊎ (b ≡ true) → n ≢ 0 → b ≡ true
raised_when n b h2 some = search (rules, arith)

inside_again : (c : Config) (inside : Option SubList) (waited : Bool) → inside ≡ None → IfSome inside (λ sub. (sub.tile < tiles_of c) × (waited ≡ true))
inside_again c inside waited e = search (rules, arith)

wait_keeps : (who : Who) (r : Rights) (L : ℕ → ℕ → Type 0) (P : List ℕ → Lists → Type 0) (s : Lists) (waiting : Option Load) (load : Load) (m : List ℕ)
    → waiting ≡ None → P m (with_load s load) → Keeps who L (IsSafeIn r) P (wait_plan s waiting load) m
wait_keeps who r L P s waiting load m is ends = search (rules, arith)

-- What a packet of the list says is done safely, and all stands again.
act_keeps : (who : Who) (r : Rights) (K : List ℕ → Type 0) (O : Launch → Type 0) (c : Config) (f : Frame) (L : ℕ → ℕ → Type 0) (s : Lists) (words m : List ℕ) (packet : Packet) (rest : List (Option Packet))
    → (fine : ListsFine r K O c f s) → s.renderer.inside ≡ None → (packet ≡ WaitOnSemaphore → s.semaphore ≢ 0)
    → Tame (MayDo r c f) (view_of s.renderer fine.waited) packet → SetsOnly f packet
    → Ahead r K c f (s.renderer.place + length (packet_text packet)) s.renderer.end (pass (view_of s.renderer fine.waited) packet) rest
    → Keeps who L (IsSafeIn r) (λ k next. TurnedFine r K O c f (quiet next)) (act (beyond s (length (packet_text packet))) words packet) m
unfolding branch_plan tile_plan packet_text
act_keeps who r K O c f L s words m WaitOnSemaphore rest fine outside raised tame sets ahead =
    let renderer : Renderer = behind s.renderer 1 s.renderer.frame s.renderer.x s.renderer.y s.renderer.waiting s.renderer.inside in
    let closed : s.closed ≡ true = raised_when s.semaphore s.closed fine.counted (raised refl) in
    let way : RenderWay r K c f renderer true = way_on r K c f renderer true rest ahead fine.renderer.frame (inside_again c s.renderer.inside true outside) in
    let next : Lists = with_renderer s renderer in
    still r K O c f (with_taken next) (taken_fine r K O c f next (render_set r K O c f s renderer true fine way (λ waited. closed)))
act_keeps who r K O c f L s words m (BranchToSubList address) rest fine outside raised tame sets ahead =
    let next : Lists = beyond s 5 in
    let closed : s.closed ≡ true = fine.passed tame.0 in
    let list : IsTileList c address = tame.1 in
    let sub : SubList = record { tile = list.tile; at = 0 } in
    let renderer : Renderer = behind s.renderer 5 s.renderer.frame s.renderer.x s.renderer.y s.renderer.waiting (Some sub) in
    branch_keeps who r L (λ k next. TurnedFine r K O c f (quiet next)) c next address m s.binner.kept.config s.closed list closed (fine.closed closed)
    (still_on r K O c f s fine renderer rest ahead fine.renderer.frame (list.below, tame.0))
act_keeps who r K O c f L s words m StoreTileColor rest fine outside raised tame sets ahead =
    let next : Lists = beyond s 1 in
    frame_stored who r L (λ k next. TurnedFine r K O c f (quiet next)) f s.renderer.frame s.renderer.x s.renderer.y words next m (frame_is f s.renderer.frame tame.0 fine.renderer.frame) tame.1
    (λ k. still_on r K O c f s fine next.renderer rest ahead fine.renderer.frame fine.renderer.inside)
act_keeps who r K O c f L s words m StoreTileColorAndEnd rest fine outside raised tame sets ahead =
    let next : Lists = beyond s 1 in
    frame_stored who r L (λ k next. TurnedFine r K O c f (quiet next)) f s.renderer.frame s.renderer.x s.renderer.y words next m (frame_is f s.renderer.frame tame.0 fine.renderer.frame) tame.1
    (λ k. still_on r K O c f s fine next.renderer rest ahead fine.renderer.frame fine.renderer.inside)
act_keeps who r K O c f L s words m (StoreFullResolution address) rest fine outside raised tame sets ahead =
    let next : Lists = beyond s 5 in
    whole_stored who r L (λ k next. TurnedFine r K O c f (quiet next)) address words next m tame.1
    (λ k. still_on r K O c f s fine next.renderer rest ahead fine.renderer.frame fine.renderer.inside)
act_keeps who r K O c f L s words m (LoadFullResolution address) rest fine outside raised tame sets ahead =
    let next : Lists = beyond s 5 in
    let load : Load = Full address in
    let renderer : Renderer = behind s.renderer 5 s.renderer.frame s.renderer.x s.renderer.y (Some load) s.renderer.inside in
    wait_keeps who r L (λ k next. TurnedFine r K O c f (quiet next)) next s.renderer.waiting load m (idle s.renderer.waiting tame)
    (still_on r K O c f s fine renderer rest ahead fine.renderer.frame fine.renderer.inside)
act_keeps who r K O c f L s words m (StoreTileBuffer bits address) rest fine outside raised tame sets ahead =
    let next : Lists = beyond s 7 in
    general_stored who r L (λ k next. TurnedFine r K O c f (quiet next)) f s.renderer.frame bits address s.renderer.x s.renderer.y words next m (frame_is f s.renderer.frame tame.0 fine.renderer.frame) tame.1
    (λ k. still_on r K O c f s fine next.renderer rest ahead fine.renderer.frame fine.renderer.inside)
act_keeps who r K O c f L s words m (LoadTileBuffer bits address) rest fine outside raised tame sets ahead =
    let next : Lists = beyond s 7 in
    let load : Load = General bits address in
    let renderer : Renderer = behind s.renderer 7 s.renderer.frame s.renderer.x s.renderer.y (Some load) s.renderer.inside in
    wait_keeps who r L (λ k next. TurnedFine r K O c f (quiet next)) next s.renderer.waiting load m (idle s.renderer.waiting tame)
    (still_on r K O c f s fine renderer rest ahead fine.renderer.frame fine.renderer.inside)
act_keeps who r K O c f L s words m (TileRenderingMode address width height bits) rest fine outside raised tame sets ahead =
    let one : Frame = record { address = address; width = width; height = height; bits = bits } in
    let renderer : Renderer = behind s.renderer 11 (Some one) s.renderer.x s.renderer.y s.renderer.waiting s.renderer.inside in
    still_on r K O c f s fine renderer rest ahead sets fine.renderer.inside
act_keeps who r K O c f L s words m (ClearColors first second z stencil) rest fine outside raised tame sets ahead =
    let next : Lists = beyond s 14 in
    still_on r K O c f s fine next.renderer rest ahead fine.renderer.frame fine.renderer.inside
act_keeps who r K O c f L s words m (TileCoordinates x y) rest fine outside raised tame sets ahead =
    let next : Lists = beyond s 3 in
    let renderer : Renderer = behind s.renderer 3 s.renderer.frame x y None s.renderer.inside in
    waiting_loaded who r c f L (λ k next. TurnedFine r K O c f (quiet next)) s.renderer.frame s.renderer.waiting x y (at_tile next x y) m (frame_is f s.renderer.frame tame.0 fine.renderer.frame) tame.1
    (still_on r K O c f s fine renderer rest ahead fine.renderer.frame fine.renderer.inside)

-- The renderer reads its next packet.
waits : (s : Lists) (packet : Packet) → may_pass s (slice_index (packet_text packet) 0) ≡ true → packet ≡ WaitOnSemaphore → s.semaphore ≢ 0
unfolding may_pass packet_text
waits s packet passes is none = search (rules, arith)

pub some_text : (packet : Packet) → 1 ≤ length (packet_text packet)
unfolding packet_text
some_text packet = search (rules, arith)

packet_step : (who : Who) (r : Rights) (K : List ℕ → Type 0) (O : Launch → Type 0) (c : Config) (f : Frame) (s : Lists) (free : Free) (words m : List ℕ) (rest : List (Option Packet))
    → K m → (fine : ListsFine r K O c f s) → s.renderer.inside ≡ None → s.renderer.place < s.renderer.end → may_pass s (slice_index m s.renderer.place) ≡ true
    → Ahead r K c f s.renderer.place s.renderer.end (view_of s.renderer fine.waited) rest
    → Keeps who (Inside r.region) (IsSafeIn r) (λ k turned. TurnedFine r K O c f turned) (renderer_plan s free words) m
packet_step who r K O c f s free words m [] here fine outside below passes ahead = absurd (none_left s.renderer.place s.renderer.end ahead.ends below)
packet_step who r K O c f s free words m (None ∷ slots) here fine outside below passes ahead =
    packet_step who r K O c f s free words m slots here fine outside below passes
    (record { ends = ahead.ends; walks = ahead.walks; fit = ahead.fit.1; sets = ahead.sets; stands = ahead.stands; reads = ahead.reads })
packet_step who r K O c f s free words m (Some packet ∷ slots) here fine outside below passes ahead =
    let place = s.renderer.place in
    let text : List ℕ = packet_text packet in
    let later : List ℕ = slots_text slots in
    let some : 1 ≤ length text = some_text packet in
    let bytes : bytes_at m place (length text) ≡ text = bytes_front m place text later (ahead.stands m here) in
    let first : slice_index m place ≡ slice_index text 0 = byte_front m place text some bytes in
    let inside : Inside r.region place (length text) = front_inside r.region place text later ahead.reads in
    let walks = ahead.walks in
    let fit = ahead.fit in
    let sets = ahead.sets in
    packet_keeps who (Inside r.region) (IsSafeIn r) (λ k turned. TurnedFine r K O c f turned) s free words m (length text) text packet outside
    (ap render_taken first ∙ taken_text packet) bytes (decoded_text packet fit.0)
    (inside_part r.region place (length text) place 1 inside (omega arith) (omega (arith, some))) (read_safe r who place (length text) inside)
    (act_keeps who r K O c f (Inside r.region) s words m packet slots fine outside (waits s packet (ap (may_pass s) (sym first) ∙ passes)) walks.0 sets.0
    (record {
      ends = behind_ends place s.renderer.end text later ahead.ends;
      walks = walks.1;
      fit = fit.1;
      sets = sets.1;
      stands = λ n there. bytes_behind n place text later (ahead.stands n there);
      reads = behind_inside r.region place text later ahead.reads;
    }))

-- In a tile's list.
pub every_drop : (P : Item → Type 0) (n : ℕ) (items : List Item) → Every P items → Every P (drop n items)
every_drop P zero items all = all
every_drop P (suc n) [] all = tt
every_drop P (suc n) (item ∷ items) all = every_drop P n items all.1

found_by : (P : Item → Type 0) (tile n : ℕ) (item : Item) (later : Option Found) (b : Bool) → P item → IfSome later (λ found. P found.item)
    → IfSome (if b then Some (record { number = n; item = item }) else later) (λ found. P found.item)
found_by P tile n item later b one rest = search (rules, arith)

found_fine : (P : Item → Type 0) (tile n : ℕ) (items : List Item) → Every P items → IfSome (first_of_tile tile n items) (λ found. P found.item)
found_fine P tile n [] all = tt
found_fine P tile n (item ∷ items) all = found_by P tile n item (first_of_tile tile (n + 1) items) (item.tile == tile) all.0 (found_fine P tile (n + 1) items all.1)

item_fine : (P : Item → Type 0) (sub : SubList) (items : List Item) → Every P items → IfSome (item_at sub items) (λ found. P found.item)
unfolding item_at
item_fine P sub items all = found_fine P sub.tile sub.at (drop sub.at items) (every_drop P sub.at items all)

-- the renderer stands elsewhere in the same tile's list, or has left it
moved_fine : (r : Rights) (K : List ℕ → Type 0) (O : Launch → Type 0) (c : Config) (f : Frame) (s : Lists) (inside : Option SubList) → (fine : ListsFine r K O c f s)
    → IfSome inside (λ sub. (sub.tile < tiles_of c) × (fine.waited ≡ true)) → ListsFine r K O c f (with_inside s inside)
moved_fine r K O c f s inside fine there = search (rules, arith, render_set)

vertex_keeps : (who : Who) (r : Rights) (K : List ℕ → Type 0) (O : Launch → Type 0) (c : Config) (f : Frame) (s : Lists) (item : Item) (words m : List ℕ)
    → K m → ListsFine r K O c f s → ItemFine r K O item
    → Keeps who (Inside r.region) (IsSafeIn r) (λ k turned. TurnedFine r K O c f turned) (vertex_plan s item words) m
unfolding vertex_plan
vertex_keeps who r K O c f s item words m here fine one =
    let L = Inside r.region in
    let G = IsSafeIn r in
    let P = λ (k : List ℕ) (turned : Turned). TurnedFine r K O c f turned in
    let p = item.primitive in
    let k : ℕ = word_at words 1 % p.length in
    keeps_if who L G P m (p.length == 0) (Done (quiet s)) (plan_mapped (item_fetched s) (fetch_plan p item.word k))
    (λ on. still r K O c f s fine)
    (λ off.
    let differs = not_same p.length 0 off in
    keeps_mapped (item_fetched s) who L G P (fetch_plan p item.word k) m
    (keeps_weaker who L L G G AnyEnd (λ n index. P n (item_fetched s index)) (λ p n h. h) (λ a h. h) (λ n index any. still r K O c f s fine)
    (fetch_plan p item.word k) m (fetch_keeps who r m item.word p k (one.uses.fetches m here) (mod-lt (word_at words 1) (omega (arith, differs))))))

program_keeps : (who : Who) (r : Rights) (K : List ℕ → Type 0) (O : Launch → Type 0) (c : Config) (f : Frame) (s : Lists) (program : Program) (free : Free) (item : Item) (m : List ℕ)
    → K m → ListsFine r K O c f s → ItemFine r K O item
    → Keeps who (Inside r.region) (IsSafeIn r) (λ k turned. TurnedFine r K O c f turned) (program_plan s program free item) m
unfolding program_plan
program_keeps who r K O c f s program free item m here fine one =
    let L = Inside r.region in
    let G = IsSafeIn r in
    let P = λ (k : List ℕ) (turned : Turned). TurnedFine r K O c f turned in
    keeps_mapped (turned_to s) who L G P (start_plan program free item.word) m
    (keeps_weaker who L L G G (λ n launch. IfSome launch O) (λ n launch. P n (turned_to s launch)) (λ p n h. h) (λ a h. h) (λ n launch may. record { lists = fine; launch = may })
    (start_plan program free item.word) m (start_fine who r O m program free item.word (one.uses.programs m here)))

choice_keeps : (who : Who) (r : Rights) (K : List ℕ → Type 0) (O : Launch → Type 0) (c : Config) (f : Frame) (s : Lists) (free : Free) (words m : List ℕ) (sub : SubList) (found : Found)
    → K m → (fine : ListsFine r K O c f s) → (sub.tile < tiles_of c) × (fine.waited ≡ true) → ItemFine r K O found.item
    → Keeps who (Inside r.region) (IsSafeIn r) (λ k turned. TurnedFine r K O c f turned) (choice_plan s free words sub found) m
unfolding choice_plan
choice_keeps who r K O c f s free words m sub found here fine tile one = search (rules, arith, moved_fine, keeps_if, vertex_keeps, program_keeps, still)

found_keeps : (who : Who) (r : Rights) (K : List ℕ → Type 0) (O : Launch → Type 0) (c : Config) (f : Frame) (s : Lists) (free : Free) (words m : List ℕ) (sub : SubList) (found : Option Found)
    → K m → (fine : ListsFine r K O c f s) → (sub.tile < tiles_of c) × (fine.waited ≡ true) → IfSome found (λ one. ItemFine r K O one.item)
    → Keeps who (Inside r.region) (IsSafeIn r) (λ k turned. TurnedFine r K O c f turned) (found_plan s free words sub found) m
found_keeps who r K O c f s free words m sub None here fine tile one = still r K O c f (with_inside s None) (moved_fine r K O c f s None fine tt)
found_keeps who r K O c f s free words m sub (Some found) here fine tile one =
    (read_safe r who found.item.place 16 one.lies, choice_keeps who r K O c f s free words m sub found here fine tile one)

-- Where the renderer may step.
pass_by : (below : Bool) (s : Lists) (m : List ℕ) → glance_result (if below then At s.renderer.place 1 (λ head. Now (may_pass s (slice_index head 0))) else Now false) m ≡ true → may_pass s (slice_index m s.renderer.place) ≡ true
unfolding bytes_at
pass_by below s m ready = search (rules, arith)

ready_pass : (s : Lists) (m : List ℕ) → s.renderer.inside ≡ None → glance_result (renderer_ready s) m ≡ true → may_pass s (slice_index m s.renderer.place) ≡ true
unfolding renderer_ready bytes_at
ready_pass s m outside ready = grind (arith, common_steps, nat_tests, pass_by)

renderer_keeps_by : (who : Who) (r : Rights) (K : List ℕ → Type 0) (O : Launch → Type 0) (c : Config) (f : Frame) (s : Lists) (free : Free) (words m : List ℕ) (inside : Option SubList)
    → K m → ListsFine r K O c f s → glance_result (renderer_ready s) m ≡ true → s.renderer.inside ≡ inside
    → Keeps who (Inside r.region) (IsSafeIn r) (λ k turned. TurnedFine r K O c f turned) (renderer_plan s free words) m
unfolding renderer_plan
renderer_keeps_by who r K O c f s free words m None here fine ready outside =
    let way = fine.renderer in
    packet_step who r K O c f s free words m way.rest here fine outside (ready_below s m outside ready) (ready_pass s m outside ready)
    (record { ends = way.ends; walks = way.walks; fit = way.fit; sets = way.sets; stands = way.stands; reads = way.reads })
renderer_keeps_by who r K O c f s free words m (Some sub) here fine ready is =
    let there : IfSome (Some sub) (λ one. (one.tile < tiles_of c) × (fine.waited ≡ true)) = subst (λ (inside : Option SubList). IfSome inside (λ one. (one.tile < tiles_of c) × (fine.waited ≡ true))) is fine.renderer.inside in
    subst (λ (inside : Option SubList). Keeps who (Inside r.region) (IsSafeIn r) (λ k turned. TurnedFine r K O c f turned) (plan_in s free words inside) m) (sym is)
    (found_keeps who r K O c f s free words m sub (item_at sub s.items) here fine there (item_fine (ItemFine r K O) sub s.items fine.log.items))

-- One step of the renderer.
pub renderer_keeps : (who : Who) (r : Rights) (K : List ℕ → Type 0) (O : Launch → Type 0) (c : Config) (f : Frame) (s : Lists) (free : Free) (words m : List ℕ)
    → K m → ListsFine r K O c f s → glance_result (renderer_ready s) m ≡ true
    → Keeps who (Inside r.region) (IsSafeIn r) (λ k turned. TurnedFine r K O c f turned) (renderer_plan s free words) m
renderer_keeps who r K O c f s free words m here fine ready = renderer_keeps_by who r K O c f s free words m s.renderer.inside here fine ready refl

-- By which look it sees whether it may.
looks_by : (L : ℕ → ℕ → Type 0) (place : ℕ) (next : List ℕ → Glance Bool) (m : List ℕ) (below : Bool) → ((bytes : List ℕ) → GlancesIn L (next bytes) m) → (below ≡ true → L place 1) → GlancesIn L (if below then At place 1 next else Now false) m
looks_by L place next m below later look = search (rules, arith)

looks_in : (r : Rights) (s : Lists) (m : List ℕ) (inside : Option SubList) → (s.renderer.place < s.renderer.end → Inside r.region s.renderer.place 1) → GlancesIn (Inside r.region) (ready_in s inside) m
looks_in r s m inside look = search (rules, arith, looks_by)

pub renderer_looks : (r : Rights) (K : List ℕ → Type 0) (O : Launch → Type 0) (c : Config) (f : Frame) (s : Lists) (m : List ℕ) → ListsFine r K O c f s → GlancesIn (Inside r.region) (renderer_ready s) m
unfolding renderer_ready
renderer_looks r K O c f s m fine = search (arith, looks_in, inside_part)
