-- What a step of a list unit does to the items of its job: the renderer leaves them, and the binner puts one more, where there is room.
use Rattle.std.proofs.Common.{Bool, ◌≡◌, ◌≢◌, ◌≤◌, ◌<◌, ℕ, ◌+◌, ◌%◌, ◌==◌, ◌||◌, true, false, List, [], ◌∷◌, ◌++◌, length, slice_index, Option, Some, None, if◌then◌else◌, refl, ◌∙◌, ap, subst, arith}
use Rattle.std.proofs.{lemmas.Grind.common_steps, lemmas.Bool.and_parts, lemmas.Bool.Decides.nat_tests, lemmas.List.length-append}
use Rattle.std.specs.Prelude.{nat_lt, max}
use Rattle.field_words.specs.Pieces.{joined_texts}
use Rattle.packets.specs.declared.packet.Packet.TheVariants.{WaitOnSemaphore, BranchToSubList, StoreTileColor, StoreTileColorAndEnd, StoreFullResolution, LoadFullResolution, StoreTileBuffer, LoadTileBuffer, TileRenderingMode, ClearColors, TileCoordinates}
use Rattle.packets.specs.Opcode.{halt, flush, start_tile_binning, increment_semaphore, indexed_primitive_list, array_primitive_list, gl_shader_state, tile_binning_mode}
use Rattle.packets.specs.{declared.config.Config.Config, declared.packet.Packet.Packet, Length.bin_length, Length.bin_taken, Config.config_in}
use Rattle.bin_list.specs.Packets.{opcode}
use Rattle.machine_plan.specs.{declared.who.Who.Who, declared.launch.Free.Free, Choice.word_at, Glance.glance_result, World.plan_mapped}
use Rattle.machine_plan.specs.{Memory.bytes_at, Memory.bytes_stored, Plan.Plan, Plan.Done, Plan.Wilds, Plan.Reads, Plan.Looks, Plan.Writes}
use Rattle.machine_plan.proofs.Worlds.{keeps_mapped}
use Rattle.list_machine.specs.Lists.{Lists, Turned, turned_to, quiet, past, after_increment, after_flush, with_work, with_block, most_items}
use Rattle.list_machine.specs.Blocks.{tiles_of, has_room, spot_of, item_of, zeros, is_full, block_place, next_place, link_place, put_here, put_plan}
use Rattle.list_machine.specs.Binner.{config_set, with_word, after_start, begin_plan, work_of, plan_of_draw, draw_plan, after_halt, is_unknown, packet_plan, read_plan, fetched_with, started_with, chosen_tile, tile_plan, item_plan, work_plan, binner_by, binner_plan, item_may, work_may, binner_may, binner_ready}
use Rattle.list_machine.specs.Renderer.{beyond, enter_plan, tile_by, branch_plan, tile_plan as at_tile_plan, at_tile, act, plan_of_packet, packet_plan as render_packet_plan, item_at, at_item, item_fetched, vertex_plan, program_plan, choice_plan, found_plan, plan_in, renderer_plan}
use Rattle.list_machine.specs.{declared.state.Found.Found, declared.state.Item.Item, declared.state.SubList.SubList, declared.state.Work.Work}
use Rattle.list_machine.specs.declared.state.Load.TheVariants.{Full, General}
use Rattle.list_machine.specs.declared.state.{Program.Program, Program.TheVariants.Coordinate, Program.TheVariants.Fragment, Program.TheVariants.Vertex}
use Rattle.list_machine.specs.{Fetch.fetch_plan, Start.start_plan, Start.can_start, Surfaces.whole_written}
use Rattle.list_law.specs.Binning.{IsOnly}
use Rattle.list_law.proofs.Binning.{read_keeps, taken_is, ready_item, plan_flush, plan_raise, plan_draw, plan_word, plan_start, plan_config, plan_halt, tile_below}
use Rattle.list_law.proofs.{Bytes.none_left, Bytes.bytes_front, Bytes.bytes_behind, Bytes.byte_front, Bytes.behind_ends}
use Rattle.list_law.proofs.Safe.{keeps_if}
use Rattle.ends_law.specs.Left.{AllWhole}
use Rattle.ends_law.specs.Room.{room_by, Counted}
use Rattle.promises.specs.Steps.{items_within, room_in, room_of}
use Rattle.ends_law.proofs.Plans.{AnyLook, AnyAccess, Comes, comes_any}
use Rattle.ends_law.proofs.Renderer.{frame_stored, general_stored, waiting_loaded, wait_goes}
use Rattle.ends_law.proofs.Rooms.{counted_here, counted_further, only_is, few_within}
use Rattle.ends_law.proofs.Rests.{begin_goes}
use Rattle.ends_law.proofs.Binner.{room_set}

-- A plan comes to what is so of anything.
pub all_come : {R : Type 0} (who : Who) (P : R → Type 0) → ((r : R) → P r) → (plan : Plan R) (m : List ℕ) → Comes who P plan m
all_come who P all (Done r) m = all r
all_come who P all Wilds m = tt
all_come who P all (Reads p n next) m = (tt, all_come who P all (next (bytes_at m p n)) m)
all_come who P all (Looks p n next) m = (tt, all_come who P all (next (bytes_at m p n)) m)
all_come who P all (Writes p bs next) m = (tt, all_come who P all next (bytes_stored m p bs))

-- The binner stands at packets that make room for no more items than `most`; so does the configuration that is kept; and there are no more.
pub record RoomLeft (K : List ℕ → Type 0) (c : Config) (most place end : ℕ) (config : Option Config) (blocks : ℕ) (items : List Item) : Type 0 where
  pub packets : List (List ℕ)
  pub ends : place + length (joined_texts packets) ≡ end
  pub stands : (m : List ℕ) → K m → bytes_at m place (length (joined_texts packets)) ≡ joined_texts packets
  pub whole : AllWhole packets
  pub counted : Counted c blocks items
  pub few : length items ≤ most
  pub kept_room : room_by config ≤ most
  pub rest_room : room_of packets ≤ most

abbrev pub JobRoom : (List ℕ → Type 0) → Config → ℕ → Lists → Type 0
JobRoom K c most s = RoomLeft K c most s.binner.place s.binner.end s.binner.kept.config s.blocks s.items

abbrev pub TurnedRoom : (List ℕ → Type 0) → Config → ℕ → Turned → Type 0
TurnedRoom K c most turned = JobRoom K c most turned.lists

-- Behind a packet, and at the list's end.
behind : (K : List ℕ → Type 0) (c : Config) (most place end : ℕ) (config after : Option Config) (blocks : ℕ) (items : List Item) (packet : List ℕ) (packets : List (List ℕ))
    → (left : RoomLeft K c most place end config blocks items) → left.packets ≡ packet ∷ packets → room_by after ≤ max (room_by config) (room_in packet) → RoomLeft K c most (place + length packet) end after blocks items
behind K c most place end config after blocks items packet packets left is room =
    let whole : AllWhole (packet ∷ packets) = subst AllWhole is left.whole in
    let rooms : max (room_in packet) (room_of packets) ≤ most = subst (λ (ps : List (List ℕ)). room_of ps ≤ most) is left.rest_room in
    let kept = left.kept_room in
    record {
      packets = packets;
      ends = behind_ends place end packet (joined_texts packets) (subst (λ (ps : List (List ℕ)). place + length (joined_texts ps) ≡ end) is left.ends);
      stands = λ m here. bytes_behind m place packet (joined_texts packets) (subst (λ (ps : List (List ℕ)). bytes_at m place (length (joined_texts ps)) ≡ joined_texts ps) is (left.stands m here));
      whole = whole.1;
      counted = left.counted;
      few = left.few;
      kept_room = omega (arith, room, rooms, kept);
      rest_room = omega (arith, rooms);
    }

at_end : (K : List ℕ → Type 0) (c : Config) (most place end : ℕ) (config : Option Config) (blocks : ℕ) (items : List Item) → RoomLeft K c most place end config blocks items → RoomLeft K c most end end config blocks items
unfolding bytes_at
at_end K c most place end config blocks items left =
    record { packets = []; ends = omega arith; stands = λ m here. refl; whole = tt; counted = left.counted; few = left.few; kept_room = left.kept_room; rest_room = omega arith }

drawn_goes : (who : Who) (P : Lists → Type 0) (s : Lists) (packet m : List ℕ) (on : Bool) (kept : Option ℕ) → ((word : ℕ) → P (with_work s (Some (work_of word packet)))) → Comes who P (if on then plan_of_draw s kept packet else Wilds) m
drawn_goes who P s packet m false kept draw = tt
drawn_goes who P s packet m true None draw = tt
drawn_goes who P s packet m true (Some word) draw = draw word

-- What a packet says.
packet_goes : (who : Who) (K : List ℕ → Type 0) (c : Config) (most : ℕ) (s : Lists) (packet m : List ℕ) → JobRoom K c most (past s (length packet))
    → ((opcode packet == tile_binning_mode) ≡ true → JobRoom K c most (config_set (past s (length packet)) packet)) → JobRoom K c most (after_halt (past s (length packet)))
    → Comes who (JobRoom K c most) (packet_plan (past s (length packet)) packet) m
unfolding packet_plan config_set with_word after_start after_halt draw_plan
packet_goes who K c most s packet m left config end =
    let P = λ (k : List ℕ) (next : Lists). JobRoom K c most next in
    let after : Lists = past s (length packet) in
    let o : ℕ = slice_index packet 0 in
    let L = AnyLook in
    let G = AnyAccess in
    keeps_if who L G P m (is_unknown o) Wilds (plan_halt after packet) (λ on. tt)
    (λ known. keeps_if who L G P m (o == halt) (Done (after_halt after)) (plan_config after packet) (λ on. end)
    (λ no_halt. keeps_if who L G P m (o == tile_binning_mode) (Done (config_set after packet)) (plan_start after packet) (λ on. config on)
    (λ no_config. keeps_if who L G P m (o == start_tile_binning) (begin_plan after after.binner.kept.config) (plan_word after packet)
    (λ on. begin_goes who (JobRoom K c most) after m after.binner.kept.config left)
    (λ no_start. keeps_if who L G P m (o == gl_shader_state) (Done (with_word after packet)) (plan_draw after packet) (λ on. left)
    (λ no_word. keeps_if who L G P m (o == indexed_primitive_list || o == array_primitive_list) (draw_plan after packet) (plan_raise after packet)
    (λ on. drawn_goes who (JobRoom K c most) after packet m after.binner.kept.started after.binner.kept.word (λ word. left))
    (λ no_draw. keeps_if who L G P m (o == increment_semaphore) (Done (after_increment after)) (plan_flush after packet) (λ on. left)
    (λ no_raise. keeps_if who L G P m (o == flush) (Done (after_flush after)) (Done after) (λ on. left) (λ off. left))))))))

-- The binner reads its next packet.
read_goes : (who : Who) (K : List ℕ → Type 0) (c : Config) (most : ℕ) (s : Lists) (m : List ℕ) (packets : List (List ℕ)) → K m → (left : JobRoom K c most s) → left.packets ≡ packets → s.binner.place < s.binner.end
    → Comes who (JobRoom K c most) (read_plan s) m
unfolding after_halt config_set
read_goes who K c most s m [] here left is below =
    absurd (none_left s.binner.place s.binner.end (subst (λ (ps : List (List ℕ)). s.binner.place + length (joined_texts ps) ≡ s.binner.end) is left.ends) below)
read_goes who K c most s m (packet ∷ packets) here left is below =
    let place : ℕ = s.binner.place in
    let end : ℕ = s.binner.end in
    let kept : Option Config = s.binner.kept.config in
    let whole : AllWhole (packet ∷ packets) = subst AllWhole is left.whole in
    let all : bytes_at m place (length (packet ++ joined_texts packets)) ≡ packet ++ joined_texts packets = subst (λ (ps : List (List ℕ)). bytes_at m place (length (joined_texts ps)) ≡ joined_texts ps) is (left.stands m here) in
    let bytes : bytes_at m place (length packet) ≡ packet = bytes_front m place packet (joined_texts packets) all in
    let long : length packet ≡ bin_length (opcode packet) = whole.0.whole in
    let known : bin_length (opcode packet) ≢ 0 = whole.0.known in
    let some : 1 ≤ length packet = omega (arith, long, known) in
    let first : slice_index m place ≡ opcode packet = byte_front m place packet some bytes in
    let goes : (config : Option Config) → room_by config ≤ max (room_by kept) (room_in packet) → RoomLeft K c most (place + length packet) end config s.blocks s.items =
    λ config room. behind K c most place end kept config s.blocks s.items packet packets left is room in
    read_keeps who AnyLook AnyAccess (λ k next. JobRoom K c most next) s m (length packet) packet (ap bin_taken first ∙ taken_is packet long known) bytes tt tt
    (packet_goes who K c most s packet m (goes kept (omega arith))
    (λ on. let room = room_set packet on in goes (Some (config_in packet)) (omega (arith, room)))
    (at_end K c most place end kept s.blocks s.items left))

-- An item is put on a tile.
item_put : (K : List ℕ → Type 0) (c : Config) (most place end : ℕ) (config : Option Config) (blocks after : ℕ) (items : List Item) (item : Item) → RoomLeft K c most place end config blocks items → length items < most
    → Counted c after (items ++ item ∷ []) → RoomLeft K c most place end config after (items ++ item ∷ [])
item_put K c most place end config blocks after items item left few counted =
    let long : length (items ++ item ∷ []) ≡ length items + 1 = length-append items (item ∷ []) in
    record { packets = left.packets; ends = left.ends; stands = left.stands; whole = left.whole; counted = counted; few = omega (arith, long, few); kept_room = left.kept_room; rest_room = left.rest_room }

put_goes : (who : Who) (K : List ℕ → Type 0) (c kept : Config) (most : ℕ) (s : Lists) (k : Work) (tile : ℕ) (m : List ℕ) → JobRoom K c most s → length s.items < most → tile < tiles_of c
    → Comes who (JobRoom K c most) (put_plan s kept k tile (spot_of tile s.items)) m
unfolding put_plan put_here
put_goes who K c kept most s k tile m left few inside =
    let spot = spot_of tile s.items in
    let put : (after place : ℕ) → Counted c after (s.items ++ item_of k tile place ∷ []) → RoomLeft K c most s.binner.place s.binner.end s.binner.kept.config after (s.items ++ item_of k tile place ∷ []) =
    λ after place counted. item_put K c most s.binner.place s.binner.end s.binner.kept.config s.blocks after s.items (item_of k tile place) left few counted in
    keeps_if who AnyLook AnyAccess (λ i next. JobRoom K c most next) m (is_full spot) (Writes (link_place spot) (zeros 16) (put_here (with_block s) k tile (block_place kept s.blocks))) (put_here s k tile (next_place kept tile spot))
    (λ on. (tt, (tt, put (s.blocks + 1) (block_place kept s.blocks) (counted_further c s.blocks s.items (item_of k tile (block_place kept s.blocks)) left.counted inside))))
    (λ off. (tt, put s.blocks (next_place kept tile spot) (counted_here c s.blocks s.items (item_of k tile (next_place kept tile spot)) left.counted inside off)))

few_items : (s : Lists) (c kept : Config) (most : ℕ) → IsOnly c (Some kept) → Counted c s.blocks s.items → items_within kept ≤ most → item_may s (Some kept) ≡ true → length s.items < most
few_items s c kept most only counted room may =
    let both = and_parts (has_room kept s.blocks) (nat_lt (length s.items) most_items) may in
    let few : nat_lt (length s.items) most_items ≡ true = both.1 in
    few_within c kept s.blocks most s.items only counted room both.0 (grind (arith, common_steps, nat_tests, few))

item_goes : (who : Who) (K : List ℕ → Type 0) (c : Config) (most : ℕ) (s : Lists) (config : Option Config) (k : Work) (words m : List ℕ) → IsOnly c config → JobRoom K c most s → room_by config ≤ most → item_may s config ≡ true
    → Comes who (JobRoom K c most) (item_plan s config k words) m
unfolding tile_plan
item_goes who K c most s None k words m only left room may = absurd cc
item_goes who K c most s (Some kept) k words m only left room may =
    let tile : ℕ = chosen_tile kept words in
    let as_many : tiles_of kept ≡ tiles_of c = ap tiles_of (only_is c kept only) in
    keeps_if who AnyLook AnyAccess (λ i next. JobRoom K c most next) m (tile == tiles_of kept) (Done (with_work s None)) (put_plan s kept k tile (spot_of tile s.items)) (λ on. left)
    (λ off. let below = tile_below kept words off in put_goes who K c kept most s k tile m left (few_items s c kept most only left.counted room may) (omega (arith, below, as_many)))

work_goes : (who : Who) (K : List ℕ → Type 0) (c : Config) (most : ℕ) (s : Lists) (k : Work) (free : Free) (words m : List ℕ) → IsOnly c s.binner.kept.config → JobRoom K c most s → work_may s k free ≡ true
    → Comes who (TurnedRoom K c most) (work_plan s k free words) m
unfolding work_plan work_may
work_goes who K c most s k free words m only left ready =
    let P = λ (i : List ℕ) (turned : Turned). TurnedRoom K c most turned in
    let L = AnyLook in
    let G = AnyAccess in
    let item : Plan Turned = plan_mapped quiet (item_plan s s.binner.kept.config k words) in
    let fetch : Plan Turned = plan_mapped (fetched_with s k) (fetch_plan k.primitive k.word k.done) in
    keeps_if who L G P m k.due (plan_mapped (started_with s k) (start_plan Coordinate free k.word)) (if nat_lt k.done k.primitive.length then fetch else item)
    (λ due. keeps_mapped (started_with s k) who L G P (start_plan Coordinate free k.word) m (all_come who (λ launch. TurnedRoom K c most (started_with s k launch)) (λ launch. left) (start_plan Coordinate free k.word) m))
    (λ off. keeps_if who L G P m (nat_lt k.done k.primitive.length) fetch item
    (λ more. keeps_mapped (fetched_with s k) who L G P (fetch_plan k.primitive k.word k.done) m (all_come who (λ index. TurnedRoom K c most (fetched_with s k index)) (λ index. left) (fetch_plan k.primitive k.word k.done) m))
    (λ all.
    let may : item_may s s.binner.kept.config ≡ true = ready_item k.due (nat_lt k.done k.primitive.length) (can_start false free) (item_may s s.binner.kept.config) off all ready in
    keeps_mapped quiet who L G P (item_plan s s.binner.kept.config k words) m (item_goes who K c most s s.binner.kept.config k words m only left left.kept_room may)))

binner_by_goes : (who : Who) (K : List ℕ → Type 0) (c : Config) (most : ℕ) (s : Lists) (work : Option Work) (free : Free) (words m : List ℕ) → K m → IsOnly c s.binner.kept.config → JobRoom K c most s → binner_may s work free ≡ true
    → Comes who (TurnedRoom K c most) (binner_by s work free words) m
binner_by_goes who K c most s None free words m here only left ready =
    let below : s.binner.place < s.binner.end = grind (arith, common_steps, nat_tests, ready) in
    keeps_mapped quiet who AnyLook AnyAccess (λ k turned. TurnedRoom K c most turned) (read_plan s) m (read_goes who K c most s m left.packets here left refl below)
binner_by_goes who K c most s (Some k) free words m here only left ready = work_goes who K c most s k free words m only left ready

-- One step of the binner.
pub binner_goes : (who : Who) (K : List ℕ → Type 0) (c : Config) (most : ℕ) (s : Lists) (free : Free) (words m : List ℕ) → K m → IsOnly c s.binner.kept.config → JobRoom K c most s → glance_result (binner_ready s free) m ≡ true
    → Comes who (TurnedRoom K c most) (binner_plan s free words) m
unfolding binner_plan binner_ready
binner_goes who K c most s free words m here only left ready = binner_by_goes who K c most s s.binner.work free words m here only left ready

-- What a packet of the renderer's list says.
entered : (who : Who) (K : List ℕ → Type 0) (c : Config) (most : ℕ) (s : Lists) (named : Option ℕ) (m : List ℕ) → JobRoom K c most s → Comes who (JobRoom K c most) (enter_plan s named) m
entered who K c most s None m left = tt
entered who K c most s (Some tile) m left = left

act_goes : (who : Who) (K : List ℕ → Type 0) (c : Config) (most : ℕ) (s : Lists) (len : ℕ) (words m : List ℕ) (packet : Packet) → JobRoom K c most s → Comes who (JobRoom K c most) (act (beyond s len) words packet) m
unfolding branch_plan at_tile_plan whole_written
act_goes who K c most s len words m WaitOnSemaphore left = left
act_goes who K c most s len words m (BranchToSubList address) left =
    keeps_if who AnyLook AnyAccess (λ k next. JobRoom K c most next) m s.closed (enter_plan (beyond s len) (tile_by s.binner.kept.config address)) Wilds
    (λ on. entered who K c most (beyond s len) (tile_by s.binner.kept.config address) m left) (λ off. tt)
act_goes who K c most s len words m StoreTileColor left = frame_stored who (JobRoom K c most) s.renderer.frame s.renderer.x s.renderer.y words (beyond s len) m left
act_goes who K c most s len words m StoreTileColorAndEnd left = frame_stored who (JobRoom K c most) s.renderer.frame s.renderer.x s.renderer.y words (beyond s len) m left
act_goes who K c most s len words m (StoreFullResolution address) left = (tt, left)
act_goes who K c most s len words m (LoadFullResolution address) left = wait_goes who (JobRoom K c most) (beyond s len) s.renderer.waiting (Full address) m left
act_goes who K c most s len words m (StoreTileBuffer bits address) left = general_stored who (JobRoom K c most) bits address s.renderer.frame s.renderer.x s.renderer.y words (beyond s len) m left
act_goes who K c most s len words m (LoadTileBuffer bits address) left = wait_goes who (JobRoom K c most) (beyond s len) s.renderer.waiting (General bits address) m left
act_goes who K c most s len words m (TileRenderingMode address width height bits) left = left
act_goes who K c most s len words m (ClearColors first second z stencil) left = left
act_goes who K c most s len words m (TileCoordinates x y) left = waiting_loaded who (JobRoom K c most) s.renderer.waiting s.renderer.frame x y (at_tile (beyond s len) x y) m left

acted_goes : (who : Who) (K : List ℕ → Type 0) (c : Config) (most : ℕ) (s : Lists) (len : ℕ) (words m : List ℕ) (packet : Option Packet) → JobRoom K c most s → Comes who (JobRoom K c most) (plan_of_packet (beyond s len) words packet) m
acted_goes who K c most s len words m None left = tt
acted_goes who K c most s len words m (Some packet) left = act_goes who K c most s len words m packet left

render_packet_goes : (who : Who) (K : List ℕ → Type 0) (c : Config) (most : ℕ) (s : Lists) (words m : List ℕ) → JobRoom K c most s → Comes who (JobRoom K c most) (render_packet_plan s words) m
unfolding render_packet_plan
render_packet_goes who K c most s words m left = (tt, (tt, acted_goes who K c most s _ words m _ left))

-- At an item.
vertex_goes : (who : Who) (K : List ℕ → Type 0) (c : Config) (most : ℕ) (s : Lists) (item : Item) (words m : List ℕ) → JobRoom K c most s → Comes who (TurnedRoom K c most) (vertex_plan s item words) m
unfolding vertex_plan
vertex_goes who K c most s item words m left =
    let plan = fetch_plan item.primitive item.word (word_at words 1 % item.primitive.length) in
    keeps_if who AnyLook AnyAccess (λ k turned. TurnedRoom K c most turned) m (item.primitive.length == 0) (Done (quiet s)) (plan_mapped (item_fetched s) plan) (λ on. left) (λ off. comes_any who (TurnedRoom K c most) (item_fetched s) (λ index. left) plan m)

program_goes : (who : Who) (K : List ℕ → Type 0) (c : Config) (most : ℕ) (s : Lists) (program : Program) (free : Free) (item : Item) (m : List ℕ) → JobRoom K c most s → Comes who (TurnedRoom K c most) (program_plan s program free item) m
unfolding program_plan
program_goes who K c most s program free item m left = comes_any who (TurnedRoom K c most) (turned_to s) (λ launch. left) (start_plan program free item.word) m

choice_goes : (who : Who) (K : List ℕ → Type 0) (c : Config) (most : ℕ) (s : Lists) (free : Free) (words m : List ℕ) (sub : SubList) (found : Found) → JobRoom K c most s → Comes who (TurnedRoom K c most) (choice_plan s free words sub found) m
unfolding choice_plan
choice_goes who K c most s free words m sub found left =
    let P = λ (k : List ℕ) (turned : Turned). TurnedRoom K c most turned in
    let choice : ℕ = word_at words 0 % 4 in
    let here : Lists = at_item s sub.tile found.number in
    let next : Plan Turned = Done (quiet (at_item s sub.tile (found.number + 1))) in
    let fragment : Plan Turned = if choice == 2 then program_plan here Fragment free found.item else next in
    let vertex : Plan Turned = if choice == 1 then program_plan here Vertex free found.item else fragment in
    keeps_if who AnyLook AnyAccess P m (choice == 0) (vertex_plan here found.item words) vertex (λ on. vertex_goes who K c most here found.item words m left)
    (λ off. keeps_if who AnyLook AnyAccess P m (choice == 1) (program_plan here Vertex free found.item) fragment (λ on. program_goes who K c most here Vertex free found.item m left)
    (λ off. keeps_if who AnyLook AnyAccess P m (choice == 2) (program_plan here Fragment free found.item) next (λ on. program_goes who K c most here Fragment free found.item m left) (λ off. left)))

found_goes : (who : Who) (K : List ℕ → Type 0) (c : Config) (most : ℕ) (s : Lists) (free : Free) (words m : List ℕ) (sub : SubList) (found : Option Found) → JobRoom K c most s → Comes who (TurnedRoom K c most) (found_plan s free words sub found) m
found_goes who K c most s free words m sub None left = left
found_goes who K c most s free words m sub (Some found) left = (tt, choice_goes who K c most s free words m sub found left)

renderer_by : (who : Who) (K : List ℕ → Type 0) (c : Config) (most : ℕ) (s : Lists) (free : Free) (words m : List ℕ) (inside : Option SubList) → JobRoom K c most s → Comes who (TurnedRoom K c most) (plan_in s free words inside) m
renderer_by who K c most s free words m None left = keeps_mapped quiet who AnyLook AnyAccess (λ k turned. TurnedRoom K c most turned) (render_packet_plan s words) m (render_packet_goes who K c most s words m left)
renderer_by who K c most s free words m (Some sub) left = found_goes who K c most s free words m sub (item_at sub s.items) left

-- One step of the renderer.
pub renderer_goes : (who : Who) (K : List ℕ → Type 0) (c : Config) (most : ℕ) (s : Lists) (free : Free) (words m : List ℕ) → JobRoom K c most s → Comes who (TurnedRoom K c most) (renderer_plan s free words) m
unfolding renderer_plan
renderer_goes who K c most s free words m left = renderer_by who K c most s free words m s.renderer.inside left
