-- The programs that a job's list units start: what is known of each, by its kind, along the packets of the binner's list, the primitive in
-- work and the items of the tile lists.
use Rattle.std.proofs.Common.{◌≡◌, ◌<◌, inl, inr, ℕ, ◌+◌, ◌-◌, ◌%◌, ◌==◌, ◌||◌, Bool, true, false, nat_lt, List, [], ◌∷◌, ◌++◌, length, drop, slice_index, Option, Some, None, IfSome, if◌then◌else◌, refl, sym, subst, arith}
use Rattle.std.proofs.lemmas.Bool.{or_cases}
use Rattle.std.proofs.{lemmas.Grind.common_steps, lemmas.Bool.Decides.nat_tests}
use Rattle.field_words.specs.{Words.u32_at}
use Rattle.packets.specs.Opcode.{halt, flush, start_tile_binning, increment_semaphore, indexed_primitive_list, array_primitive_list, gl_shader_state, tile_binning_mode}
use Rattle.packets.specs.{declared.config.Config.Config, declared.packet.Packet.Packet, Length.render_taken}
use Rattle.packets.specs.declared.packet.Packet.TheVariants.{WaitOnSemaphore, BranchToSubList, StoreTileColor, StoreTileColorAndEnd, StoreFullResolution, LoadFullResolution, StoreTileBuffer, LoadTileBuffer, TileRenderingMode, ClearColors, TileCoordinates}
use Rattle.packets.specs.Packet.{packet_decoded}
use Rattle.bin_list.specs.Packets.{opcode, draws}
use Rattle.bin_walks.specs.Walks.{Kept as Passed, kept_after, Drawing, Walks}
use Rattle.shader_flow.specs.Flow.{is_threaded}
use Rattle.machine_plan.specs.{declared.launch.Free.Free, declared.launch.Launch.Launch, declared.who.Who.Who}
use Rattle.machine_plan.specs.{Choice.word_at, Memory.bytes_at, Glance.glance_result, Regions.Every, World.plan_mapped}
use Rattle.machine_plan.specs.Plan.{Done, Wilds, Writes}
use Rattle.machine_plan.proofs.Runs.{every-append}
use Rattle.list_machine.specs.declared.state.{Found.Found, Item.Item, Load.TheVariants.Full, Load.TheVariants.General, Renderer.Renderer, Spot.Spot, SubList.SubList, Work.Work}
use Rattle.list_machine.specs.declared.state.Program.{Program, TheVariants.Fragment, TheVariants.Vertex, TheVariants.Coordinate}
use Rattle.list_machine.specs.Lists.{Lists, Turned, turned_to, quiet, past, after_increment, after_flush, with_work, with_block}
use Rattle.list_machine.specs.Blocks.{tiles_of, is_full, link_place, next_place, block_place, spot_of, item_of, zeros, put_here, put_plan}
use Rattle.list_machine.specs.Binner.{config_set, with_word, after_start, begin_plan, work_of, plan_of_draw, draw_plan, after_halt, is_unknown, packet_plan, read_plan, fetched_with, started_with, chosen_tile, tile_plan, item_plan, work_plan, binner_by, binner_plan, binner_may, binner_ready, one_done, not_due}
use Rattle.list_machine.specs.{Fetch.fetch_plan, Start.start_plan, Start.start_as, Start.launch_plan, Start.can_start}
use Rattle.list_machine.specs.Renderer as renderer
use Rattle.list_machine.specs.Surfaces.{whole_written}
use Rattle.list_law.specs.Uses.{program_launched, threaded_by}
use Rattle.list_law.proofs.{Bytes.none_left, Logs.same, Safe.keeps_if}
use Rattle.list_law.proofs.Binning.{plan_flush, plan_raise, plan_draw, plan_word, plan_start, plan_config, plan_halt}
use Rattle.qpu_law.specs.Home.{Home}
use Rattle.ends_law.specs.Left.{BinRest}
use Rattle.ends_law.proofs.Rests.{bin_behind, bin_done, packet_read, begin_goes}
use Rattle.ends_law.proofs.Renderer.{frame_stored, general_stored, waiting_loaded, wait_goes}
use Rattle.ends_law.proofs.Plans.{AnyLook, AnyAccess, Comes, comes_any, comes_into}
use Rattle.strict_rules.specs.Rules.{has_vpm_part, has_tile_part}
use Rattle.strict_law.specs.Roles.{program_by}
use Rattle.list_law.proofs.Rendering.{every_drop}
use Rattle.served_law.proofs.Binner.{other_than}

-- The shader has what programs of another kind alone may use.
abbrev pub has_foreign : Program → List ℕ → Bool
has_foreign Fragment code = has_vpm_part code
has_foreign Vertex code = has_tile_part code
has_foreign Coordinate code = has_tile_part code

-- The program is that of a shader of which this is known, and which has nothing foreign to the program's kind.
pub record LaunchFits (IsOwn : Home → Type 0) (program : Program) (launch : Launch) : Type 0 where
  pub home : Home
  pub fits : has_foreign program home.code ≡ false
  pub stands : IsOwn home
  pub code : launch.code ≡ home.place
  pub uniforms : launch.uniforms ≡ home.stream
  pub threaded : launch.threaded ≡ is_threaded home.code

-- so are the three programs of a state word in this memory
pub record ProgramsFit (IsOwn : Home → Type 0) (m : List ℕ) (word : ℕ) : Type 0 where
  pub fragment : LaunchFits IsOwn Fragment (program_launched m Fragment (threaded_by m word) word)
  pub vertex : LaunchFits IsOwn Vertex (program_launched m Vertex false word)
  pub coordinate : LaunchFits IsOwn Coordinate (program_launched m Coordinate false word)

-- in each memory of K
abbrev pub WordFits : (List ℕ → Type 0) → (Home → Type 0) → ℕ → Type 0
WordFits K IsOwn word = (m : List ℕ) → K m → ProgramsFit IsOwn m word

-- the state word behind a packet, and that W is so of those under which these packets draw
abbrev pub word_after : Option ℕ → List ℕ → Option ℕ
word_after word packet = if opcode packet == gl_shader_state then Some (u32_at packet 1) else word

abbrev pub DrawUnder : (ℕ → Type 0) → Option ℕ → List (List ℕ) → Type 0
DrawUnder W word [] = Unit {0}
DrawUnder W word (packet ∷ packets) = (draws packet ≡ true → IfSome word W) × DrawUnder W (word_after word packet) packets

-- The rest of a binner's list, and that it draws under such words alone.
pub record DrawsOn (K : List ℕ → Type 0) (W : ℕ → Type 0) (place end : ℕ) (word : Option ℕ) (packets : List (List ℕ)) : Type 0 where
  pub bin : BinRest K place end packets
  pub draws : DrawUnder W word packets

-- So it is of all that a job's list units keep.
pub record WordsFit (K : List ℕ → Type 0) (W : ℕ → Type 0) (s : Lists) : Type 0 where
  pub packets : List (List ℕ)
  pub rest : DrawsOn K W s.binner.place s.binner.end s.binner.kept.word packets
  pub work : IfSome s.binner.work (λ w. W w.word)
  pub items : Every (λ item. W item.word) s.items

-- what a step came to, with a program of this kind, where it starts one
abbrev pub TurnedFits : (List ℕ → Type 0) → (Home → Type 0) → Program → Turned → Type 0
TurnedFits K IsOwn program turned = WordsFit K (WordFits K IsOwn) turned.lists × IfSome turned.launch (LaunchFits IsOwn program)

-- The start of a program.
start_as_fits : (who : Who) (IsOwn : Home → Type 0) (m : List ℕ) (program : Program) (threaded : Bool) (free : Free) (word : ℕ) → LaunchFits IsOwn program (program_launched m program threaded word)
    → Comes who (λ launch. IfSome launch (LaunchFits IsOwn program)) (start_as program threaded free word) m
unfolding start_as launch_plan
start_as_fits who IsOwn m program threaded free word one =
    keeps_if who AnyLook AnyAccess (λ k launch. IfSome launch (LaunchFits IsOwn program)) m (can_start threaded free) (launch_plan program threaded word) (Done None) (λ on. (tt, (tt, (tt, one)))) (λ off. tt)

start_fits : (who : Who) (IsOwn : Home → Type 0) (m : List ℕ) (program : Program) (free : Free) (word : ℕ) → ProgramsFit IsOwn m word → Comes who (λ launch. IfSome launch (LaunchFits IsOwn program)) (start_plan program free word) m
unfolding start_plan
start_fits who IsOwn m Fragment free word all = (tt, start_as_fits who IsOwn m Fragment (threaded_by m word) free word all.fragment)
start_fits who IsOwn m Vertex free word all = start_as_fits who IsOwn m Vertex false free word all.vertex
start_fits who IsOwn m Coordinate free word all = start_as_fits who IsOwn m Coordinate false free word all.coordinate

-- The binner does what a packet says, and stands behind it.
word_stays : (W : ℕ → Type 0) (word : Option ℕ) (packet : List ℕ) (packets : List (List ℕ)) → (opcode packet == gl_shader_state) ≡ false → DrawUnder W (word_after word packet) packets → DrawUnder W word packets
word_stays W word packet packets off all = subst (λ b. DrawUnder W (if b then Some (u32_at packet 1) else word) packets) off all

word_comes : (W : ℕ → Type 0) (word : Option ℕ) (packet : List ℕ) (packets : List (List ℕ)) → (opcode packet == gl_shader_state) ≡ true → DrawUnder W (word_after word packet) packets → DrawUnder W (Some (u32_at packet 1)) packets
word_comes W word packet packets on all = subst (λ b. DrawUnder W (if b then Some (u32_at packet 1) else word) packets) on all

drawn_fits : (who : Who) (K : List ℕ → Type 0) (W : ℕ → Type 0) (s : Lists) (packet m : List ℕ) (kept : Option ℕ) → WordsFit K W s → IfSome kept W → Comes who (WordsFit K W) (plan_of_draw s kept packet) m
unfolding work_of
drawn_fits who K W s packet m None all fits = tt
drawn_fits who K W s packet m (Some word) all fits = record { packets = all.packets; rest = all.rest; work = fits; items = all.items }

packet_fits : (who : Who) (K : List ℕ → Type 0) (W : ℕ → Type 0) (s : Lists) (packet m : List ℕ) (packets : List (List ℕ)) → BinRest K s.binner.place s.binner.end packets → DrawUnder W (word_after s.binner.kept.word packet) packets
    → (draws packet ≡ true → IfSome s.binner.kept.word W) → IfSome s.binner.work (λ w. W w.word) → Every (λ item. W item.word) s.items → Comes who (WordsFit K W) (packet_plan s packet) m
unfolding packet_plan draw_plan config_set with_word after_start after_halt draws
packet_fits who K W s packet m packets bin under draw work items =
    let P = λ (k : List ℕ) (next : Lists). WordsFit K W next in
    let o : ℕ = opcode packet in
    let L = AnyLook in
    let G = AnyAccess in
    let word : Option ℕ = s.binner.kept.word in
    let same_word : (o == gl_shader_state) ≡ false → DrawsOn K W s.binner.place s.binner.end word packets = λ off. record { bin = bin; draws = word_stays W word packet packets off under } in
    keeps_if who L G P m (is_unknown o) Wilds (plan_halt s packet) (λ on. tt)
    (λ known. keeps_if who L G P m (o == halt) (Done (after_halt s)) (plan_config s packet)
    (λ on. record { packets = []; rest = record { bin = bin_done K s.binner.end; draws = tt }; work = work; items = items })
    (λ no_halt. keeps_if who L G P m (o == tile_binning_mode) (Done (config_set s packet)) (plan_start s packet)
    (λ on. record { packets = packets; rest = same_word (other_than o tile_binning_mode gl_shader_state on refl); work = work; items = items })
    (λ no_config. keeps_if who L G P m (o == start_tile_binning) (begin_plan s s.binner.kept.config) (plan_word s packet)
    (λ on. begin_goes who (WordsFit K W) s m s.binner.kept.config (record { packets = packets; rest = same_word (other_than o start_tile_binning gl_shader_state on refl); work = work; items = items }))
    (λ no_start. keeps_if who L G P m (o == gl_shader_state) (Done (with_word s packet)) (plan_draw s packet)
    (λ on. record { packets = packets; rest = record { bin = bin; draws = word_comes W word packet packets on under }; work = work; items = items })
    (λ no_word.
    let all : WordsFit K W s = record { packets = packets; rest = same_word no_word; work = work; items = items } in
    keeps_if who L G P m (o == indexed_primitive_list || o == array_primitive_list) (draw_plan s packet) (plan_raise s packet)
    (λ on. keeps_if who L G P m s.binner.kept.started (plan_of_draw s word packet) Wilds (λ begun. drawn_fits who K W s packet m word all (draw on)) (λ off. tt))
    (λ no_draw. keeps_if who L G P m (o == increment_semaphore) (Done (after_increment s)) (plan_flush s packet)
    (λ on. record { packets = packets; rest = all.rest; work = work; items = items })
    (λ no_raise. keeps_if who L G P m (o == flush) (Done (after_flush s)) (Done s)
    (λ on. record { packets = packets; rest = all.rest; work = work; items = items })
    (λ no_flush. all))))))))

read_fits : (who : Who) (K : List ℕ → Type 0) (W : ℕ → Type 0) (s : Lists) (m : List ℕ) (packets : List (List ℕ)) → K m → DrawsOn K W s.binner.place s.binner.end s.binner.kept.word packets → IfSome s.binner.work (λ w. W w.word)
    → Every (λ item. W item.word) s.items → s.binner.place < s.binner.end → Comes who (WordsFit K W) (read_plan s) m
read_fits who K W s m [] here rest work items below = absurd (none_left s.binner.place s.binner.end rest.bin.ends below)
read_fits who K W s m (packet ∷ packets) here rest work items below =
    let under = rest.draws in
    packet_read who K (WordsFit K W) s m packet packets here rest.bin
    (packet_fits who K W (past s (length packet)) packet m packets (bin_behind K s.binner.place s.binner.end packet packets rest.bin) under.1 under.0 work items)

-- An item of the primitive in work is put on a tile.
put_fits : (who : Who) (K : List ℕ → Type 0) (W : ℕ → Type 0) (s : Lists) (c : Config) (w : Work) (tile : ℕ) (spot : Spot) (m : List ℕ) → WordsFit K W s → W w.word → Comes who (WordsFit K W) (put_plan s c w tile spot) m
unfolding put_plan put_here
put_fits who K W s c w tile spot m all fits =
    let more : (place : ℕ) → Every (λ item. W item.word) (s.items ++ item_of w tile place ∷ []) = λ place. every-append (λ (item : Item). W item.word) s.items (item_of w tile place ∷ []) all.items (fits, tt) in
    keeps_if who AnyLook AnyAccess (λ i next. WordsFit K W next) m (is_full spot) (Writes (link_place spot) (zeros 16) (put_here (with_block s) w tile (block_place c s.blocks))) (put_here s w tile (next_place c tile spot))
    (λ on. (tt, (tt, record { packets = all.packets; rest = all.rest; work = all.work; items = more (block_place c s.blocks) })))
    (λ off. (tt, record { packets = all.packets; rest = all.rest; work = all.work; items = more (next_place c tile spot) }))

item_fits : (who : Who) (K : List ℕ → Type 0) (W : ℕ → Type 0) (s : Lists) (config : Option Config) (w : Work) (words m : List ℕ) → WordsFit K W s → W w.word → Comes who (WordsFit K W) (item_plan s config w words) m
unfolding tile_plan
item_fits who K W s None w words m all fits = all
item_fits who K W s (Some c) w words m all fits =
    let tile : ℕ = chosen_tile c words in
    keeps_if who AnyLook AnyAccess (λ i next. WordsFit K W next) m (tile == tiles_of c) (Done (with_work s None)) (put_plan s c w tile (spot_of tile s.items))
    (λ on. record { packets = all.packets; rest = all.rest; work = tt; items = all.items }) (λ off. put_fits who K W s c w tile (spot_of tile s.items) m all fits)

work_fits : (who : Who) (K : List ℕ → Type 0) (IsOwn : Home → Type 0) (s : Lists) (w : Work) (free : Free) (words m : List ℕ) → K m → WordsFit K (WordFits K IsOwn) s → WordFits K IsOwn w.word
    → Comes who (TurnedFits K IsOwn Coordinate) (work_plan s w free words) m
unfolding work_plan one_done not_due
work_fits who K IsOwn s w free words m here all fits =
    let W : ℕ → Type 0 = WordFits K IsOwn in
    let P = TurnedFits K IsOwn Coordinate in
    let Q = λ (i : List ℕ) (turned : Turned). TurnedFits K IsOwn Coordinate turned in
    let L = AnyLook in
    let G = AnyAccess in
    keeps_if who L G Q m w.due (plan_mapped (started_with s w) (start_plan Coordinate free w.word)) (if nat_lt w.done w.primitive.length then plan_mapped (fetched_with s w) (fetch_plan w.primitive w.word w.done) else plan_mapped quiet (item_plan s s.binner.kept.config w words))
    (λ due. comes_into who (started_with s w) (λ launch. IfSome launch (LaunchFits IsOwn Coordinate)) P
    (λ launch one. (record { packets = all.packets; rest = all.rest; work = fits; items = all.items }, one)) (start_plan Coordinate free w.word) m (start_fits who IsOwn m Coordinate free w.word (fits m here)))
    (λ off. keeps_if who L G Q m (nat_lt w.done w.primitive.length) (plan_mapped (fetched_with s w) (fetch_plan w.primitive w.word w.done)) (plan_mapped quiet (item_plan s s.binner.kept.config w words))
    (λ more. comes_any who P (fetched_with s w) (λ index. (record { packets = all.packets; rest = all.rest; work = fits; items = all.items }, tt)) (fetch_plan w.primitive w.word w.done) m)
    (λ last. comes_into who quiet (WordsFit K W) P (λ next one. (one, tt)) (item_plan s s.binner.kept.config w words) m (item_fits who K W s s.binner.kept.config w words m all fits)))

binner_by_fits : (who : Who) (K : List ℕ → Type 0) (IsOwn : Home → Type 0) (s : Lists) (work : Option Work) (free : Free) (words m : List ℕ) → K m → WordsFit K (WordFits K IsOwn) s → IfSome work (λ w. WordFits K IsOwn w.word) → binner_may s work free ≡ true
    → Comes who (TurnedFits K IsOwn Coordinate) (binner_by s work free words) m
binner_by_fits who K IsOwn s None free words m here all fits ready =
    let below : s.binner.place < s.binner.end = grind (arith, common_steps, nat_tests, ready) in
    comes_into who quiet (WordsFit K (WordFits K IsOwn)) (TurnedFits K IsOwn Coordinate) (λ next one. (one, tt)) (read_plan s) m (read_fits who K (WordFits K IsOwn) s m all.packets here all.rest all.work all.items below)
binner_by_fits who K IsOwn s (Some w) free words m here all fits ready = work_fits who K IsOwn s w free words m here all fits

-- One step of the binner: a program that it starts is a coordinate program.
pub binner_fits : (who : Who) (K : List ℕ → Type 0) (IsOwn : Home → Type 0) (s : Lists) (free : Free) (words m : List ℕ) → K m → WordsFit K (WordFits K IsOwn) s → glance_result (binner_ready s free) m ≡ true
    → Comes who (TurnedFits K IsOwn Coordinate) (binner_plan s free words) m
unfolding binner_plan binner_ready
binner_fits who K IsOwn s free words m here all ready = binner_by_fits who K IsOwn s s.binner.work free words m here all all.work ready

-- A packet of the renderer's list changes nothing of the binner, nor an item.
enters : (who : Who) (P : Lists → Type 0) (s : Lists) (named : Option ℕ) (m : List ℕ) → ((inside : Option SubList) → P (renderer.with_inside s inside)) → Comes who P (renderer.enter_plan s named) m
enters who P s None m enter = tt
enters who P s (Some tile) m enter = enter (Some (record { tile = tile; at = 0 }))

branches : (who : Who) (P : Lists → Type 0) (s : Lists) (address : ℕ) (m : List ℕ) → ((inside : Option SubList) → P (renderer.with_inside s inside)) → Comes who P (renderer.branch_plan s address) m
unfolding renderer.branch_plan
branches who P s address m enter =
    keeps_if who AnyLook AnyAccess (λ k next. P next) m s.closed (renderer.enter_plan s (renderer.tile_by s.binner.kept.config address)) Wilds
    (λ on. enters who P s (renderer.tile_by s.binner.kept.config address) m enter) (λ off. tt)

-- what is so of a job's lists with any renderer and any count of the semaphore
abbrev Stays : (Lists → Type 0) → Lists → Type 0
Stays P s = (one : Renderer) (semaphore : ℕ) → P (record s { renderer = one; semaphore = semaphore })

act_stays : (who : Who) (P : Lists → Type 0) (s : Lists) (words m : List ℕ) (packet : Packet) → Stays P s → Comes who P (renderer.act s words packet) m
unfolding renderer.tile_plan whole_written
act_stays who P s words m WaitOnSemaphore all = all s.renderer (s.semaphore - 1)
act_stays who P s words m (BranchToSubList address) all = branches who P s address m (λ inside. all (record (s.renderer) { inside = inside }) s.semaphore)
act_stays who P s words m StoreTileColor all = frame_stored who P s.renderer.frame s.renderer.x s.renderer.y words s m (all s.renderer s.semaphore)
act_stays who P s words m StoreTileColorAndEnd all = frame_stored who P s.renderer.frame s.renderer.x s.renderer.y words s m (all s.renderer s.semaphore)
act_stays who P s words m (StoreFullResolution address) all = (tt, all s.renderer s.semaphore)
act_stays who P s words m (LoadFullResolution address) all = wait_goes who P s s.renderer.waiting (Full address) m (all (record (s.renderer) { waiting = Some (Full address) }) s.semaphore)
act_stays who P s words m (StoreTileBuffer bits address) all = general_stored who P bits address s.renderer.frame s.renderer.x s.renderer.y words s m (all s.renderer s.semaphore)
act_stays who P s words m (LoadTileBuffer bits address) all = wait_goes who P s s.renderer.waiting (General bits address) m (all (record (s.renderer) { waiting = Some (General bits address) }) s.semaphore)
act_stays who P s words m (TileRenderingMode address width height bits) all = all (record (s.renderer) { frame = Some (record { address = address; width = width; height = height; bits = bits }) }) s.semaphore
act_stays who P s words m (ClearColors first second z stencil) all = all s.renderer s.semaphore
act_stays who P s words m (TileCoordinates x y) all = waiting_loaded who P s.renderer.waiting s.renderer.frame x y (renderer.at_tile s x y) m (all (record (s.renderer) { x = x; y = y; waiting = None }) s.semaphore)

acted_stays : (who : Who) (P : Lists → Type 0) (s : Lists) (words m : List ℕ) (packet : Option Packet) → Stays P s → Comes who P (renderer.plan_of_packet s words packet) m
acted_stays who P s words m None all = tt
acted_stays who P s words m (Some packet) all = act_stays who P s words m packet all

packet_stays : (who : Who) (P : Lists → Type 0) (s : Lists) (words m : List ℕ) → Stays P s → Comes who P (renderer.packet_plan s words) m
unfolding renderer.packet_plan
packet_stays who P s words m all =
    let len : ℕ = render_taken (slice_index (bytes_at m s.renderer.place 1) 0) in
    (tt, (tt, acted_stays who P (renderer.beyond s len) words m (packet_decoded (bytes_at m s.renderer.place len)) all))

-- At an item: a program that is started there is of the kind that the first choice word says.
words_stay : (K : List ℕ → Type 0) (W : ℕ → Type 0) (s : Lists) → WordsFit K W s → Stays (WordsFit K W) s
words_stay K W s all one semaphore = record { packets = all.packets; rest = all.rest; work = all.work; items = all.items }

moved : (K : List ℕ → Type 0) (W : ℕ → Type 0) (s : Lists) (inside : Option SubList) → WordsFit K W s → WordsFit K W (renderer.with_inside s inside)
moved K W s inside all = record { packets = all.packets; rest = all.rest; work = all.work; items = all.items }

program_fits : (who : Who) (K : List ℕ → Type 0) (IsOwn : Home → Type 0) (s : Lists) (program : Program) (free : Free) (item : Item) (m : List ℕ) → K m → WordsFit K (WordFits K IsOwn) s → WordFits K IsOwn item.word
    → Comes who (TurnedFits K IsOwn program) (renderer.program_plan s program free item) m
unfolding renderer.program_plan
program_fits who K IsOwn s program free item m here all fits =
    comes_into who (turned_to s) (λ launch. IfSome launch (LaunchFits IsOwn program)) (TurnedFits K IsOwn program) (λ launch one. (all, one)) (start_plan program free item.word) m (start_fits who IsOwn m program free item.word (fits m here))

vertex_fits : (who : Who) (K : List ℕ → Type 0) (IsOwn : Home → Type 0) (program : Program) (s : Lists) (item : Item) (words m : List ℕ) → WordsFit K (WordFits K IsOwn) s → Comes who (TurnedFits K IsOwn program) (renderer.vertex_plan s item words) m
unfolding renderer.vertex_plan
vertex_fits who K IsOwn program s item words m all =
    let plan = fetch_plan item.primitive item.word (word_at words 1 % item.primitive.length) in
    keeps_if who AnyLook AnyAccess (λ k turned. TurnedFits K IsOwn program turned) m (item.primitive.length == 0) (Done (quiet s)) (plan_mapped (renderer.item_fetched s) plan) (λ on. (all, tt))
    (λ off. comes_any who (TurnedFits K IsOwn program) (renderer.item_fetched s) (λ index. (all, tt)) plan m)

choice_fits : (who : Who) (K : List ℕ → Type 0) (IsOwn : Home → Type 0) (s : Lists) (free : Free) (words m : List ℕ) (sub : SubList) (found : Found) → K m → WordsFit K (WordFits K IsOwn) s → WordFits K IsOwn found.item.word
    → Comes who (TurnedFits K IsOwn (program_by words)) (renderer.choice_plan s free words sub found) m
unfolding renderer.choice_plan program_by
choice_fits who K IsOwn s free words m sub found here all fits =
    let W : ℕ → Type 0 = WordFits K IsOwn in
    let L = AnyLook in
    let G = AnyAccess in
    let choice : ℕ = word_at words 0 % 4 in
    let started : Bool → Program = λ on. if on then Vertex else Fragment in
    let P = λ (k : List ℕ) (turned : Turned). TurnedFits K IsOwn (started (choice == 1)) turned in
    let at : Lists = renderer.at_item s sub.tile found.number in
    let next : Lists = renderer.at_item s sub.tile (found.number + 1) in
    let here_fits : WordsFit K W at = moved K W s (Some (record { tile = sub.tile; at = found.number })) all in
    let beyond_fits : WordsFit K W next = moved K W s (Some (record { tile = sub.tile; at = found.number + 1 })) all in
    keeps_if who L G P m (choice == 0) (renderer.vertex_plan at found.item words) (if choice == 1 then renderer.program_plan at Vertex free found.item else (if choice == 2 then renderer.program_plan at Fragment free found.item else Done (quiet next)))
    (λ on. vertex_fits who K IsOwn (started (choice == 1)) at found.item words m here_fits)
    (λ off. keeps_if who L G P m (choice == 1) (renderer.program_plan at Vertex free found.item) (if choice == 2 then renderer.program_plan at Fragment free found.item else Done (quiet next))
    (λ on. subst (λ b. Comes who (TurnedFits K IsOwn (started b)) (renderer.program_plan at Vertex free found.item) m) (sym on) (program_fits who K IsOwn at Vertex free found.item m here here_fits fits))
    (λ other. keeps_if who L G P m (choice == 2) (renderer.program_plan at Fragment free found.item) (Done (quiet next))
    (λ on. subst (λ b. Comes who (TurnedFits K IsOwn (started b)) (renderer.program_plan at Fragment free found.item) m) (sym other) (program_fits who K IsOwn at Fragment free found.item m here here_fits fits))
    (λ none. (beyond_fits, tt))))

found_by : (P : Item → Type 0) (n : ℕ) (item : Item) (later : Option Found) (b : Bool) → P item → IfSome later (λ found. P found.item) → IfSome (if b then Some (record { number = n; item = item }) else later) (λ found. P found.item)
found_by P n item later true one rest = one
found_by P n item later false one rest = rest

found_of : (P : Item → Type 0) (tile n : ℕ) (items : List Item) → Every P items → IfSome (renderer.first_of_tile tile n items) (λ found. P found.item)
found_of P tile n [] all = tt
found_of P tile n (item ∷ items) all = found_by P n item (renderer.first_of_tile tile (n + 1) items) (item.tile == tile) all.0 (found_of P tile (n + 1) items all.1)

found_fits : (P : Item → Type 0) (sub : SubList) (items : List Item) → Every P items → IfSome (renderer.item_at sub items) (λ found. P found.item)
unfolding renderer.item_at
found_fits P sub items all = found_of P sub.tile sub.at (drop sub.at items) (every_drop P sub.at items all)

listed_fits : (who : Who) (K : List ℕ → Type 0) (IsOwn : Home → Type 0) (s : Lists) (free : Free) (words m : List ℕ) (sub : SubList) (found : Option Found) → K m → WordsFit K (WordFits K IsOwn) s → IfSome found (λ one. WordFits K IsOwn one.item.word)
    → Comes who (TurnedFits K IsOwn (program_by words)) (renderer.found_plan s free words sub found) m
listed_fits who K IsOwn s free words m sub None here all fits = (moved K (WordFits K IsOwn) s None all, tt)
listed_fits who K IsOwn s free words m sub (Some found) here all fits = (tt, choice_fits who K IsOwn s free words m sub found here all fits)

renderer_in : (who : Who) (K : List ℕ → Type 0) (IsOwn : Home → Type 0) (s : Lists) (free : Free) (words m : List ℕ) (inside : Option SubList) → K m → WordsFit K (WordFits K IsOwn) s
    → Comes who (TurnedFits K IsOwn (program_by words)) (renderer.plan_in s free words inside) m
renderer_in who K IsOwn s free words m None here all =
    comes_into who quiet (WordsFit K (WordFits K IsOwn)) (TurnedFits K IsOwn (program_by words)) (λ next one. (one, tt)) (renderer.packet_plan s words) m (packet_stays who (WordsFit K (WordFits K IsOwn)) s words m (words_stay K (WordFits K IsOwn) s all))
renderer_in who K IsOwn s free words m (Some sub) here all =
    listed_fits who K IsOwn s free words m sub (renderer.item_at sub s.items) here all (found_fits (λ item. WordFits K IsOwn item.word) sub s.items all.items)

-- One step of the renderer.
pub renderer_fits : (who : Who) (K : List ℕ → Type 0) (IsOwn : Home → Type 0) (s : Lists) (free : Free) (words m : List ℕ) → K m → WordsFit K (WordFits K IsOwn) s → Comes who (TurnedFits K IsOwn (program_by words)) (renderer.renderer_plan s free words) m
unfolding renderer.renderer_plan
renderer_fits who K IsOwn s free words m here all = renderer_in who K IsOwn s free words m s.renderer.inside here all

-- A binner's list at its beginning.
under_walks : (c : Config) (R : ℕ → List ℕ → Type 0) (W : ℕ → Type 0) → ((word : ℕ) (packet : List ℕ) → R word packet → W word) → (kept : Passed) (packets : List (List ℕ)) → Walks c R kept packets → DrawUnder W kept.word packets
unfolding draws kept_after
under_walks c R W goes kept [] walks = tt
under_walks c R W goes kept (packet ∷ packets) walks =
    let known : Drawing R kept packet → IfSome kept.word W = λ one. subst (λ (word : Option ℕ). IfSome word W) (sym one.kept_word) (goes one.word packet one.allowed) in (
      λ on. elim (or_cases (opcode packet == indexed_primitive_list) (opcode packet == array_primitive_list) on) [
        | inl e ↦ known (walks.0.indexed (same (opcode packet) indexed_primitive_list e))
        | inr e ↦ known (walks.0.array (same (opcode packet) array_primitive_list e))
      ],
      under_walks c R W goes (kept_after kept packet) packets walks.1,
    )

pub words_begin : (K : List ℕ → Type 0) (W : ℕ → Type 0) (s : Lists) (c : Config) (R : ℕ → List ℕ → Type 0) (kept : Passed) (packets : List (List ℕ)) → ((word : ℕ) (packet : List ℕ) → R word packet → W word) → Walks c R kept packets
    → s.binner.kept.word ≡ kept.word → s.binner.work ≡ None → s.items ≡ [] → BinRest K s.binner.place s.binner.end packets → WordsFit K W s
words_begin K W s c R kept packets goes walks word work items bin = record {
  packets = packets;
  rest = record { bin = bin; draws = subst (λ (one : Option ℕ). DrawUnder W one packets) (sym word) (under_walks c R W goes kept packets walks) };
  work = subst (λ (one : Option Work). IfSome one (λ w. W w.word)) (sym work) tt;
  items = subst (λ (all : List Item). Every (λ item. W item.word) all) (sym items) tt;
}
