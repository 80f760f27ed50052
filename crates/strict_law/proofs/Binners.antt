-- One step of a list unit keeps what is known of the binner: it executes the next packet of a strict list, or stays where it is.
use Rattle.std.proofs.Common.{◌≡◌, ◌≢◌, ◌≤◌, ◌<◌, ℕ, ◌+◌, ◌%◌, ◌==◌, true, false, List, [], ◌∷◌, length, slice_index, Option, Some, None, if◌then◌else◌, refl, sym, ◌∙◌, ap, subst, arith}
use Rattle.std.proofs.{lemmas.Grind.common_steps, lemmas.Bool.Decides.nat_tests}
use Rattle.std.specs.Prelude.{nat_lt}
use Rattle.field_words.specs.{Pieces.joined_texts, Questions.first_of}
use Rattle.packets.specs.declared.packet.Packet.TheVariants.{WaitOnSemaphore, BranchToSubList, StoreTileColor, StoreTileColorAndEnd, StoreFullResolution, LoadFullResolution, StoreTileBuffer, LoadTileBuffer, TileRenderingMode, ClearColors, TileCoordinates}
use Rattle.packets.specs.{declared.config.Config.Config, declared.packet.Packet.Packet, Length.bin_length, Length.bin_taken, Length.render_taken, Packet.packet_decoded}
use Rattle.bin_list.specs.Packets.{opcode}
use Rattle.bin_walks.specs.Walks.{Walks}
use Rattle.machine_plan.specs.{declared.who.Who.Who, declared.launch.Free.Free, Choice.word_at, Glance.glance_result, Memory.bytes_at, Plan.Done, World.plan_mapped}
use Rattle.list_machine.specs.Lists.{Lists, Turned, turned_to, quiet, past, with_work}
use Rattle.list_machine.specs.Blocks.{tiles_of, spot_of, put_plan}
use Rattle.list_machine.specs.Binner.{config_set, with_word, after_start, after_halt, read_plan, fetched_with, started_with, chosen_tile, tile_plan, item_plan, work_plan, binner_by, binner_plan, binner_may, binner_ready}
use Rattle.list_machine.specs.Renderer.{beyond, tile_plan as render_tile_plan, at_tile, act, plan_of_packet, packet_plan, item_at, at_item, item_fetched, vertex_plan, program_plan, choice_plan, found_plan, plan_in, renderer_plan}
use Rattle.list_machine.specs.{declared.state.Found.Found, declared.state.Item.Item, declared.state.Program.Program, declared.state.SubList.SubList, declared.state.Work.Work, Fetch.fetch_plan, Start.start_plan}
use Rattle.list_machine.specs.declared.state.{Load.TheVariants.Full, Load.TheVariants.General, Program.TheVariants.Coordinate, Program.TheVariants.Fragment, Program.TheVariants.Vertex}
use Rattle.list_machine.specs.Surfaces.{whole_written}
use Rattle.list_law.proofs.{Binning.taken_is, Bytes.byte_front, Bytes.bytes_front, Bytes.none_left, Safe.keeps_if}
use Rattle.ends_law.specs.Left.{BinRest}
use Rattle.ends_law.proofs.{Binner.put_goes, Rests.bin_behind, Rests.bin_done, Rests.packet_read, Rests.packet_comes}
use Rattle.ends_law.proofs.Plans.{AnyLook, AnyAccess, Comes, comes_any, comes_into}
use Rattle.ends_law.proofs.Renderer.{frame_stored, general_stored, waiting_loaded, wait_goes}
use Rattle.strict_lists.specs.Rules.{primitives_in, asked_from}
use Rattle.strict_law.specs.{Lists.packet_at, Lists.executed_by, Records.selects_missing}
use Rattle.strict_law.proofs.Packets.{breaks_none, rest_strict, count_next, kept_before}
use Rattle.served_law.proofs.Renderer.{branch_meets}

-- A record that a word names selects what is there, in each memory of K.
abbrev pub Selects : (List ℕ → Type 0) → ℕ → List ℕ → Type 0
Selects K word packet = (m : List ℕ) → K m → selects_missing m word ≡ false

-- These packets are the rest of a binner's list, from this place to its end. Behind those that it executed they break no strict rule.
pub record BinLeft (K : List ℕ → Type 0) (executed : List (List ℕ)) (place end : ℕ) (rest : List (List ℕ)) : Type 0 where
  pub bin : BinRest K place end rest
  pub few : primitives_in executed ≤ 7920
  pub strict : first_of (asked_from executed rest) ≡ None
  pub config : Config
  pub selects : Walks config (Selects K) (kept_before executed) rest

abbrev pub BinGoes : (List ℕ → Type 0) → List (List ℕ) → ℕ → ℕ → Type 0
BinGoes K executed place end = (rest : List (List ℕ)) × BinLeft K executed place end rest

-- so it is of a job's lists
abbrev pub ListsGo : (List ℕ → Type 0) → List (List ℕ) → Lists → Type 0
ListsGo K executed s = BinGoes K executed s.binner.place s.binner.end

-- It reads its next packet.
pub packet_is : (K : List ℕ → Type 0) (place end : ℕ) (m packet : List ℕ) (packets : List (List ℕ)) → K m → BinRest K place end (packet ∷ packets) → packet ≡ packet_at m place
packet_is K place end m packet packets here rest =
    let whole = rest.whole in
    let long : length packet ≡ bin_length (opcode packet) = whole.0.whole in
    let known : bin_length (opcode packet) ≢ 0 = whole.0.known in
    let bytes : bytes_at m place (length packet) ≡ packet = bytes_front m place packet (joined_texts packets) (rest.stands m here) in
    let some = taken_is packet long known in
    let first : slice_index m place ≡ opcode packet = byte_front m place packet (omega (arith, long, known)) bytes in
    sym (ap (λ n. bytes_at m place n) (ap bin_taken first ∙ some) ∙ bytes)

pub behind_packet : (K : List ℕ → Type 0) (executed : List (List ℕ)) (place end : ℕ) (packet : List ℕ) (packets : List (List ℕ)) → BinLeft K executed place end (packet ∷ packets) → BinGoes K (packet ∷ executed) (place + length packet) end
behind_packet K executed place end packet packets left =
    let none = breaks_none executed packet packets left.strict in
    (packets, record { bin = bin_behind K place end packet packets left.bin; few = count_next executed packet left.few none; strict = rest_strict executed packet packets left.strict; config = left.config; selects = (let walks = left.selects in walks.1) })

list_done : (K : List ℕ → Type 0) (executed : List (List ℕ)) (place end : ℕ) (packet : List ℕ) (packets : List (List ℕ)) → BinLeft K executed place end (packet ∷ packets) → BinGoes K (packet ∷ executed) end end
list_done K executed place end packet packets left =
    let none = breaks_none executed packet packets left.strict in
    ([], record { bin = bin_done K end; few = count_next executed packet left.few none; strict = refl; config = left.config; selects = tt })

read_goes : (who : Who) (K : List ℕ → Type 0) (executed : List (List ℕ)) (s : Lists) (m : List ℕ) (rest : List (List ℕ)) → K m → BinLeft K executed s.binner.place s.binner.end rest → s.binner.place < s.binner.end
    → Comes who (ListsGo K (packet_at m s.binner.place ∷ executed)) (read_plan s) m
unfolding config_set with_word after_start after_halt
read_goes who K executed s m [] here left below = absurd (none_left s.binner.place s.binner.end left.bin.ends below)
read_goes who K executed s m (packet ∷ packets) here left below =
    let place : ℕ = s.binner.place in
    let end : ℕ = s.binner.end in
    let goes : BinGoes K (packet ∷ executed) (place + length packet) end = behind_packet K executed place end packet packets left in
    subst (λ p. Comes who (ListsGo K (p ∷ executed)) (read_plan s) m) (packet_is K place end m packet packets here left.bin)
    (packet_read who K (ListsGo K (packet ∷ executed)) s m packet packets here left.bin
    (packet_comes who (ListsGo K (packet ∷ executed)) (past s (length packet)) packet m (λ on. list_done K executed place end packet packets left) (λ on. goes) (λ on. goes) (λ on. goes) (λ on word. goes) (λ on. goes) (λ no_raise on. goes) (λ no_raise off. goes)))

-- With a primitive in work it stays where it is, of which B is so.
item_stays : (who : Who) (B : ℕ → ℕ → Type 0) (s : Lists) (config : Option Config) (k : Work) (words m : List ℕ) → B s.binner.place s.binner.end → Comes who (λ next. B next.binner.place next.binner.end) (item_plan s config k words) m
unfolding tile_plan
item_stays who B s None k words m here = here
item_stays who B s (Some c) k words m here =
    let P : Lists → Type 0 = λ next. B next.binner.place next.binner.end in
    let tile : ℕ = chosen_tile c words in
    keeps_if who AnyLook AnyAccess (λ i next. P next) m (tile == tiles_of c) (Done (with_work s None)) (put_plan s c k tile (spot_of tile s.items))
    (λ on. here) (λ off. put_goes who P s c k tile (spot_of tile s.items) m (λ room item is. here) (λ item is. here))

work_stays : (who : Who) (B : ℕ → ℕ → Type 0) (s : Lists) (k : Work) (free : Free) (words m : List ℕ) → B s.binner.place s.binner.end → Comes who (λ turned. B turned.lists.binner.place turned.lists.binner.end) (work_plan s k free words) m
unfolding work_plan
work_stays who B s k free words m here =
    let P : Lists → Type 0 = λ next. B next.binner.place next.binner.end in
    let Q : Turned → Type 0 = λ turned. P turned.lists in
    let L = AnyLook in
    let G = AnyAccess in
    keeps_if who L G (λ i turned. Q turned) m k.due (plan_mapped (started_with s k) (start_plan Coordinate free k.word)) (if nat_lt k.done k.primitive.length then plan_mapped (fetched_with s k) (fetch_plan k.primitive k.word k.done) else plan_mapped quiet (item_plan s s.binner.kept.config k words))
    (λ due. comes_any who Q (started_with s k) (λ launch. here) (start_plan Coordinate free k.word) m)
    (λ off. keeps_if who L G (λ i turned. Q turned) m (nat_lt k.done k.primitive.length) (plan_mapped (fetched_with s k) (fetch_plan k.primitive k.word k.done)) (plan_mapped quiet (item_plan s s.binner.kept.config k words))
    (λ more. comes_any who Q (fetched_with s k) (λ index. here) (fetch_plan k.primitive k.word k.done) m)
    (λ all. comes_into who quiet P Q (λ next same. same) (item_plan s s.binner.kept.config k words) m (item_stays who B s s.binner.kept.config k words m here)))

binner_by_goes : (who : Who) (K : List ℕ → Type 0) (executed : List (List ℕ)) (s : Lists) (work : Option Work) (free : Free) (words m : List ℕ) → K m → ListsGo K executed s → binner_may s work free ≡ true
    → Comes who (λ turned. ListsGo K (executed_by work s.binner.place m executed) turned.lists) (binner_by s work free words) m
binner_by_goes who K executed s None free words m here left ready =
    let after : List (List ℕ) = packet_at m s.binner.place ∷ executed in
    let below : s.binner.place < s.binner.end = grind (arith, common_steps, nat_tests, ready) in
    comes_into who quiet (ListsGo K after) (λ turned. ListsGo K after turned.lists) (λ next goes. goes) (read_plan s) m (read_goes who K executed s m left.0 here left.1 below)
binner_by_goes who K executed s (Some k) free words m here left ready = work_stays who (BinGoes K executed) s k free words m left

pub binner_goes : (who : Who) (K : List ℕ → Type 0) (executed : List (List ℕ)) (s : Lists) (free : Free) (words m : List ℕ) → K m → ListsGo K executed s → glance_result (binner_ready s free) m ≡ true
    → Comes who (λ turned. ListsGo K (executed_by s.binner.work s.binner.place m executed) turned.lists) (binner_plan s free words) m
unfolding binner_plan binner_ready
binner_goes who K executed s free words m here left ready = binner_by_goes who K executed s s.binner.work free words m here left ready

-- So it does where the renderer steps.
act_stays : (who : Who) (B : ℕ → ℕ → Type 0) (s : Lists) (words m : List ℕ) (packet : Packet) → B s.binner.place s.binner.end → Comes who (λ next. B next.binner.place next.binner.end) (act s words packet) m
unfolding render_tile_plan whole_written
act_stays who B s words m WaitOnSemaphore here = here
act_stays who B s words m (BranchToSubList address) here = branch_meets who (λ next. B next.binner.place next.binner.end) s address m (λ inside. here)
act_stays who B s words m StoreTileColor here = frame_stored who (λ next. B next.binner.place next.binner.end) s.renderer.frame s.renderer.x s.renderer.y words s m here
act_stays who B s words m StoreTileColorAndEnd here = frame_stored who (λ next. B next.binner.place next.binner.end) s.renderer.frame s.renderer.x s.renderer.y words s m here
act_stays who B s words m (StoreFullResolution address) here = (tt, here)
act_stays who B s words m (LoadFullResolution address) here = wait_goes who (λ next. B next.binner.place next.binner.end) s s.renderer.waiting (Full address) m here
act_stays who B s words m (StoreTileBuffer bits address) here = general_stored who (λ next. B next.binner.place next.binner.end) bits address s.renderer.frame s.renderer.x s.renderer.y words s m here
act_stays who B s words m (LoadTileBuffer bits address) here = wait_goes who (λ next. B next.binner.place next.binner.end) s s.renderer.waiting (General bits address) m here
act_stays who B s words m (TileRenderingMode address width height bits) here = here
act_stays who B s words m (ClearColors first second z stencil) here = here
act_stays who B s words m (TileCoordinates x y) here = waiting_loaded who (λ next. B next.binner.place next.binner.end) s.renderer.waiting s.renderer.frame x y (at_tile s x y) m here

acted_stays : (who : Who) (B : ℕ → ℕ → Type 0) (s : Lists) (words m : List ℕ) (packet : Option Packet) → B s.binner.place s.binner.end → Comes who (λ next. B next.binner.place next.binner.end) (plan_of_packet s words packet) m
acted_stays who B s words m None here = tt
acted_stays who B s words m (Some packet) here = act_stays who B s words m packet here

slot_stays : (who : Who) (B : ℕ → ℕ → Type 0) (s : Lists) (words m : List ℕ) → B s.binner.place s.binner.end → Comes who (λ next. B next.binner.place next.binner.end) (packet_plan s words) m
unfolding packet_plan
slot_stays who B s words m here =
    let len : ℕ = render_taken (slice_index (bytes_at m s.renderer.place 1) 0) in
    (tt, (tt, acted_stays who B (beyond s len) words m (packet_decoded (bytes_at m s.renderer.place len)) here))

program_stays : (who : Who) (B : ℕ → ℕ → Type 0) (s : Lists) (program : Program) (free : Free) (item : Item) (m : List ℕ) → B s.binner.place s.binner.end → Comes who (λ turned. B turned.lists.binner.place turned.lists.binner.end) (program_plan s program free item) m
unfolding program_plan
program_stays who B s program free item m here = comes_any who (λ turned. B turned.lists.binner.place turned.lists.binner.end) (turned_to s) (λ launch. here) (start_plan program free item.word) m

vertex_stays : (who : Who) (B : ℕ → ℕ → Type 0) (s : Lists) (item : Item) (words m : List ℕ) → B s.binner.place s.binner.end → Comes who (λ turned. B turned.lists.binner.place turned.lists.binner.end) (vertex_plan s item words) m
unfolding vertex_plan
vertex_stays who B s item words m here =
    let Q : Turned → Type 0 = λ turned. B turned.lists.binner.place turned.lists.binner.end in
    let plan = fetch_plan item.primitive item.word (word_at words 1 % item.primitive.length) in
    keeps_if who AnyLook AnyAccess (λ k turned. Q turned) m (item.primitive.length == 0) (Done (quiet s)) (plan_mapped (item_fetched s) plan) (λ on. here) (λ off. comes_any who Q (item_fetched s) (λ index. here) plan m)

choice_stays : (who : Who) (B : ℕ → ℕ → Type 0) (s : Lists) (free : Free) (words m : List ℕ) (sub : SubList) (found : Found) → B s.binner.place s.binner.end
    → Comes who (λ turned. B turned.lists.binner.place turned.lists.binner.end) (choice_plan s free words sub found) m
unfolding choice_plan
choice_stays who B s free words m sub found here =
    let P = λ (k : List ℕ) (turned : Turned). B turned.lists.binner.place turned.lists.binner.end in
    let L = AnyLook in
    let G = AnyAccess in
    let choice : ℕ = word_at words 0 % 4 in
    let at : Lists = at_item s sub.tile found.number in
    let next : Lists = at_item s sub.tile (found.number + 1) in
    keeps_if who L G P m (choice == 0) (vertex_plan at found.item words) (if choice == 1 then program_plan at Vertex free found.item else (if choice == 2 then program_plan at Fragment free found.item else Done (quiet next)))
    (λ on. vertex_stays who B at found.item words m here)
    (λ off. keeps_if who L G P m (choice == 1) (program_plan at Vertex free found.item) (if choice == 2 then program_plan at Fragment free found.item else Done (quiet next))
    (λ on. program_stays who B at Vertex free found.item m here)
    (λ off. keeps_if who L G P m (choice == 2) (program_plan at Fragment free found.item) (Done (quiet next)) (λ on. program_stays who B at Fragment free found.item m here) (λ off. here)))

found_stays : (who : Who) (B : ℕ → ℕ → Type 0) (s : Lists) (free : Free) (words m : List ℕ) (sub : SubList) (found : Option Found) → B s.binner.place s.binner.end
    → Comes who (λ turned. B turned.lists.binner.place turned.lists.binner.end) (found_plan s free words sub found) m
found_stays who B s free words m sub None here = here
found_stays who B s free words m sub (Some found) here = (tt, choice_stays who B s free words m sub found here)

renderer_by : (who : Who) (B : ℕ → ℕ → Type 0) (s : Lists) (free : Free) (words m : List ℕ) (inside : Option SubList) → B s.binner.place s.binner.end
    → Comes who (λ turned. B turned.lists.binner.place turned.lists.binner.end) (plan_in s free words inside) m
renderer_by who B s free words m None here =
    comes_into who quiet (λ next. B next.binner.place next.binner.end) (λ turned. B turned.lists.binner.place turned.lists.binner.end) (λ next same. same) (packet_plan s words) m (slot_stays who B s words m here)
renderer_by who B s free words m (Some sub) here = found_stays who B s free words m sub (item_at sub s.items) here

pub renderer_stays : (who : Who) (B : ℕ → ℕ → Type 0) (s : Lists) (free : Free) (words m : List ℕ) → B s.binner.place s.binner.end
    → Comes who (λ turned. B turned.lists.binner.place turned.lists.binner.end) (renderer_plan s free words) m
unfolding renderer_plan
renderer_stays who B s free words m here = renderer_by who B s free words m s.renderer.inside here
