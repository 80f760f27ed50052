-- One step of the renderer leaves less, unless it stays at an item.
use Rattle.std.proofs.Common.{◌≡◌, ◌≤◌, ◌<◌, ℕ, ◌+◌, ◌-◌, ◌*◌, ◌/◌, ◌%◌, ◌==◌, ◌&&◌, not, Bool, true, false, List, [], ◌∷◌, ◌++◌, length, Option, Some, None, if◌then◌else◌, refl, sym, ◌∙◌, ap, subst, arith}
use Rattle.std.proofs.{lemmas.Grind.common_steps, lemmas.Bool.Decides.nat_tests}
use Rattle.std.specs.Prelude.{nat_lt, nat_le, is_some, unwrap_or}
use Rattle.packets.specs.declared.packet.Packet.TheVariants.{WaitOnSemaphore, BranchToSubList, StoreTileColor, StoreTileColorAndEnd, StoreFullResolution, LoadFullResolution, StoreTileBuffer, LoadTileBuffer, TileRenderingMode, ClearColors, TileCoordinates}
use Rattle.packets.specs.{declared.config.Config.Config, declared.packet.Packet.Packet, Packet.packet_text}
use Rattle.machine_plan.specs.{declared.who.Who.Who, declared.launch.Free.Free, Choice.word_at, Glance.glance_result}
use Rattle.machine_plan.specs.{Plan.Done, Plan.Wilds, World.plan_mapped}
use Rattle.texture_layouts.specs.Format.{general_style, frame_style}
use Rattle.list_machine.specs.Surfaces.{cover_written, cover_read, aligned_address, names_none, general_written, general_read, frame_written, whole_written, whole_read, waiting_read}
use Rattle.list_machine.specs.Renderer.{beyond, with_inside, wait_plan, tile_named, enter_plan, tile_by, branch_plan, tile_plan, at_tile, with_load, act, item_at, at_item, item_fetched, vertex_plan, program_plan, choice_plan, found_plan, plan_in, renderer_plan, renderer_ready}
use Rattle.list_machine.specs.{declared.state.Found.Found, declared.state.Frame.Frame, declared.state.Item.Item, declared.state.Load.Load}
use Rattle.list_machine.specs.{declared.state.Load.TheVariants.Full, declared.state.Load.TheVariants.General}
use Rattle.list_machine.specs.{declared.state.Program.Program, declared.state.SubList.SubList, declared.surface.Cover.Cover}
use Rattle.list_machine.specs.{declared.state.Program.TheVariants.Fragment, declared.state.Program.TheVariants.Vertex, Blocks.tiles_of}
use Rattle.list_machine.specs.{Lists.Lists, Lists.Turned, Lists.turned_to, Lists.quiet, Cover.cover_for, Cover.part_count, Fetch.fetch_plan}
use Rattle.list_machine.specs.Start.{start_plan}
use Rattle.list_machine.proofs.{Items.ready_below, Keeping.written_keep, Keeping.read_keep}
use Rattle.list_law.proofs.{Bytes.none_left, Logs.same, Safe.keeps_if}
use Rattle.ends_law.specs.Steps.{work_left}
use Rattle.promises.specs.Steps.{one_if, bin_steps, render_steps, times, list_entered, all_entered, is_at_item, stays}
use Rattle.ends_law.specs.Left.{is_inside, visits, ListsLeft, StandLeft, JobLeft}
use Rattle.ends_law.proofs.Visits.{stands_at, visits_left, visits_on, visits_past, visits_entered, entered_often}
use Rattle.ends_law.proofs.Binner.{ListsLess, quiet_less, launch_at_most}
use Rattle.ends_law.proofs.{Plans.AnyLook, Plans.AnyAccess, Plans.Comes, Plans.comes_any, Plans.weaker, Rests.render_behind, Rests.render_skip, Rests.slot_read}

-- Loads and stores come to what the renderer then keeps.
cover_stored : (who : Who) (P : Lists → Type 0) (cover : Option Cover) (words : List ℕ) (s : Lists) (m : List ℕ) → P s → Comes who P (cover_written cover words (Done s)) m
unfolding cover_written
cover_stored who P None words s m here = tt
cover_stored who P (Some cover) words s m here = written_keep who AnyLook AnyAccess (λ k next. P next) cover words s 0 (part_count cover) m (λ k low high. tt) (λ k. here)

cover_loaded : (who : Who) (P : Lists → Type 0) (cover : Option Cover) (s : Lists) (m : List ℕ) → P s → Comes who P (cover_read cover (Done s)) m
unfolding cover_read
cover_loaded who P None s m here = tt
cover_loaded who P (Some cover) s m here = read_keep who AnyLook AnyAccess (λ k next. P next) cover s 0 (part_count cover) m (λ k low high. tt) here

pub frame_stored : (who : Who) (P : Lists → Type 0) (frame : Option Frame) (x y : ℕ) (words : List ℕ) (s : Lists) (m : List ℕ) → P s → Comes who P (frame_written frame x y words (Done s)) m
unfolding frame_written
frame_stored who P None x y words s m here = tt
frame_stored who P (Some frame) x y words s m here = cover_stored who P (cover_for (frame_style frame.bits) (Some frame) frame.address x y) words s m here

pub general_stored : (who : Who) (P : Lists → Type 0) (bits address : ℕ) (frame : Option Frame) (x y : ℕ) (words : List ℕ) (s : Lists) (m : List ℕ) → P s → Comes who P (general_written bits address frame x y words (Done s)) m
unfolding general_written
general_stored who P bits address frame x y words s m here =
    let cover = cover_for (general_style bits) frame (aligned_address address) x y in
    keeps_if who AnyLook AnyAccess (λ k next. P next) m (names_none bits) (Done s) (cover_written cover words (Done s)) (λ on. here) (λ off. cover_stored who P cover words s m here)

general_loaded : (who : Who) (P : Lists → Type 0) (bits address : ℕ) (frame : Option Frame) (x y : ℕ) (s : Lists) (m : List ℕ) → P s → Comes who P (general_read bits address frame x y (Done s)) m
unfolding general_read
general_loaded who P bits address frame x y s m here =
    let cover = cover_for (general_style bits) frame (aligned_address address) x y in
    keeps_if who AnyLook AnyAccess (λ k next. P next) m (names_none bits) (Done s) (cover_read cover (Done s)) (λ on. here) (λ off. cover_loaded who P cover s m here)

pub waiting_loaded : (who : Who) (P : Lists → Type 0) (waiting : Option Load) (frame : Option Frame) (x y : ℕ) (s : Lists) (m : List ℕ) → P s → Comes who P (waiting_read waiting frame x y (Done s)) m
unfolding whole_read
waiting_loaded who P None frame x y s m here = here
waiting_loaded who P (Some (Full address)) frame x y s m here = (tt, here)
waiting_loaded who P (Some (General bits address)) frame x y s m here = general_loaded who P bits address frame x y s m here

pub wait_goes : (who : Who) (P : Lists → Type 0) (s : Lists) (waiting : Option Load) (load : Load) (m : List ℕ) → P (with_load s load) → Comes who P (wait_plan s waiting load) m
wait_goes who P s None load m here = here
wait_goes who P s (Some other) load m here = tt

-- A tile's list that begins at a place.
tile_from : (c : Config) (address tile : ℕ) (low whole few : Bool) → nat_le c.address address ≡ low → ((address - c.address) % 32 == 0) ≡ whole
    → (if (low && whole) && few then Some ((address - c.address) / 32) else None) ≡ Some tile → address ≡ c.address + 32 * tile
tile_from c address tile true true true low whole is =
    let number : (address - c.address) / 32 ≡ tile = ap (λ o. unwrap_or o tile) is in
    let below : c.address ≤ address = grind (arith, common_steps, nat_tests, low) in
    let even : (address - c.address) % 32 ≡ 0 = same ((address - c.address) % 32) 0 whole in
    omega (arith, number, below, even)
tile_from c address tile true true false low whole is = absurd cc
tile_from c address tile true false few low whole is = absurd cc
tile_from c address tile false whole few low whole_is is = absurd cc

tile_there : (c : Config) (address tile : ℕ) → tile_named c address ≡ Some tile → address ≡ c.address + 32 * tile
unfolding tile_named
tile_there c address tile is = tile_from c address tile (nat_le c.address address) ((address - c.address) % 32 == 0) (nat_lt ((address - c.address) / 32) (tiles_of c)) refl refl is

enters : (who : Who) (P : Lists → Type 0) (s : Lists) (c : Config) (address : ℕ) (named : Option ℕ) (m : List ℕ) → tile_named c address ≡ named
    → ((tile : ℕ) → address ≡ c.address + 32 * tile → P (with_inside s (Some (record { tile = tile; at = 0 })))) → Comes who P (enter_plan s named) m
enters who P s c address None m is enter = tt
enters who P s c address (Some tile) m is enter = enter tile (tile_there c address tile is)

branch_goes : (who : Who) (P : Lists → Type 0) (s : Lists) (c : Config) (address : ℕ) (m : List ℕ) (closed : Bool) (config : Option Config) → (closed ≡ true → config ≡ Some c)
    → ((tile : ℕ) → address ≡ c.address + 32 * tile → P (with_inside s (Some (record { tile = tile; at = 0 })))) → Comes who P (if closed then enter_plan s (tile_by config address) else Wilds) m
branch_goes who P s c address m false config only enter = tt
branch_goes who P s c address m true config only enter =
    subst (λ (one : Option Config). Comes who P (enter_plan s (tile_by one address)) m) (sym (only refl)) (enters who P s c address (tile_named c address) m refl enter)

-- Behind a packet the renderer is in no tile's list; or in the one that the packet goes into.
passed : (K : List ℕ → Type 0) (c : Config) (w d n : ℕ) (s : Lists) (packet : Packet) (packets : List (List ℕ)) (slots : List (Option Packet)) → s.renderer.inside ≡ None → list_entered packet ≡ []
    → StandLeft K c w d n s None packets (Some packet ∷ slots) → JobLeft K c w d (n - 1) (beyond s (length (packet_text packet)))
passed K c w d n s packet packets slots outside none left =
    let before : ℕ = bin_steps w packets + work_left w s.binner.work + (left.most - length s.items) * (1 + d) in
    let all : before + (1 + length {A = ℕ} [] + render_steps slots + 0) + visits c ([] ++ all_entered slots) None 0 s.items ≤ n =
    subst (λ (es : List ℕ). before + (1 + length es + render_steps slots + 0) + visits c (es ++ all_entered slots) None 0 s.items ≤ n) none left.sum in
    let behind : ListsLeft K c w d (n - 1) s.binner.place s.binner.end s.binner.work (s.renderer.place + length (packet_text packet)) s.renderer.end None s.binner.kept.config s.blocks s.items packets slots = record {
      bin = left.bin;
      render = render_behind K s.renderer.place s.renderer.end packet slots left.render;
      most = left.most;
      room = left.room;
      often = λ tile. subst (λ (es : List ℕ). times (c.address + 32 * tile) (es ++ all_entered slots) + 0 ≤ d) none (left.often tile);
      sum = omega (arith, all);
    } in
    (packets, slots, subst (λ (inside : Option SubList). ListsLeft K c w d (n - 1) s.binner.place s.binner.end s.binner.work (s.renderer.place + length (packet_text packet)) s.renderer.end inside s.binner.kept.config s.blocks s.items packets slots) (sym outside) behind)

gone_in : (K : List ℕ → Type 0) (c : Config) (w d n : ℕ) (s : Lists) (address tile : ℕ) (packets : List (List ℕ)) (slots : List (Option Packet)) → address ≡ c.address + 32 * tile
    → StandLeft K c w d n s None packets (Some (BranchToSubList address) ∷ slots) → JobLeft K c w d (n - 1) (with_inside (beyond s (length (packet_text (BranchToSubList address)))) (stands_at tile 0))
gone_in K c w d n s address tile packets slots is left =
    let sum = left.sum in
    let fewer = visits_entered c address tile (all_entered slots) 0 s.items is in (
      packets,
      slots,
      record {
        bin = left.bin;
        render = render_behind K s.renderer.place s.renderer.end (BranchToSubList address) slots left.render;
        most = left.most;
        room = left.room;
        often = λ one. entered_often c address tile (all_entered slots) one d is (left.often one);
        sum = omega (arith, sum, fewer);
      },
    )

-- What a packet says.
act_goes : (who : Who) (K : List ℕ → Type 0) (c : Config) (w d n : ℕ) (s : Lists) (words m : List ℕ) (packet : Packet) (packets : List (List ℕ)) (slots : List (Option Packet)) → s.renderer.inside ≡ None → (s.closed ≡ true → s.binner.kept.config ≡ Some c)
    → StandLeft K c w d n s None packets (Some packet ∷ slots) → Comes who (JobLeft K c w d (n - 1)) (act (beyond s (length (packet_text packet))) words packet) m
unfolding branch_plan tile_plan whole_written
act_goes who K c w d n s words m WaitOnSemaphore packets slots outside only left = passed K c w d n s WaitOnSemaphore packets slots outside refl left
act_goes who K c w d n s words m (BranchToSubList address) packets slots outside only left =
    branch_goes who (JobLeft K c w d (n - 1)) (beyond s (length (packet_text (BranchToSubList address)))) c address m s.closed s.binner.kept.config only
    (λ tile is. gone_in K c w d n s address tile packets slots is left)
act_goes who K c w d n s words m StoreTileColor packets slots outside only left = frame_stored who (JobLeft K c w d (n - 1)) s.renderer.frame s.renderer.x s.renderer.y words (beyond s (length (packet_text StoreTileColor))) m (passed K c w d n s StoreTileColor packets slots outside refl left)
act_goes who K c w d n s words m StoreTileColorAndEnd packets slots outside only left = frame_stored who (JobLeft K c w d (n - 1)) s.renderer.frame s.renderer.x s.renderer.y words (beyond s (length (packet_text StoreTileColorAndEnd))) m (passed K c w d n s StoreTileColorAndEnd packets slots outside refl left)
act_goes who K c w d n s words m (StoreFullResolution address) packets slots outside only left = (tt, passed K c w d n s (StoreFullResolution address) packets slots outside refl left)
act_goes who K c w d n s words m (LoadFullResolution address) packets slots outside only left = wait_goes who (JobLeft K c w d (n - 1)) (beyond s (length (packet_text (LoadFullResolution address)))) s.renderer.waiting (Full address) m (passed K c w d n s (LoadFullResolution address) packets slots outside refl left)
act_goes who K c w d n s words m (StoreTileBuffer bits address) packets slots outside only left = general_stored who (JobLeft K c w d (n - 1)) bits address s.renderer.frame s.renderer.x s.renderer.y words (beyond s (length (packet_text (StoreTileBuffer bits address)))) m (passed K c w d n s (StoreTileBuffer bits address) packets slots outside refl left)
act_goes who K c w d n s words m (LoadTileBuffer bits address) packets slots outside only left = wait_goes who (JobLeft K c w d (n - 1)) (beyond s (length (packet_text (LoadTileBuffer bits address)))) s.renderer.waiting (General bits address) m (passed K c w d n s (LoadTileBuffer bits address) packets slots outside refl left)
act_goes who K c w d n s words m (TileRenderingMode address width height bits) packets slots outside only left = passed K c w d n s (TileRenderingMode address width height bits) packets slots outside refl left
act_goes who K c w d n s words m (ClearColors first second z stencil) packets slots outside only left = passed K c w d n s (ClearColors first second z stencil) packets slots outside refl left
act_goes who K c w d n s words m (TileCoordinates x y) packets slots outside only left = waiting_loaded who (JobLeft K c w d (n - 1)) s.renderer.waiting s.renderer.frame x y (at_tile (beyond s (length (packet_text (TileCoordinates x y)))) x y) m (passed K c w d n s (TileCoordinates x y) packets slots outside refl left)

-- The renderer reads its next packet.
slots_go : (who : Who) (K : List ℕ → Type 0) (c : Config) (w d n : ℕ) (s : Lists) (free : Free) (words m : List ℕ) (packets : List (List ℕ)) (slots : List (Option Packet)) → K m → s.renderer.inside ≡ None → (s.closed ≡ true → s.binner.kept.config ≡ Some c)
    → s.renderer.place < s.renderer.end → StandLeft K c w d n s None packets slots → Comes who (ListsLess K c w d n 0) (renderer_plan s free words) m
slots_go who K c w d n s free words m packets [] here outside only below left = absurd (none_left s.renderer.place s.renderer.end left.render.ends below)
slots_go who K c w d n s free words m packets (None ∷ slots) here outside only below left =
    slots_go who K c w d n s free words m packets slots here outside only below
    (record { bin = left.bin; render = render_skip K s.renderer.place s.renderer.end slots left.render; most = left.most; room = left.room; often = left.often; sum = left.sum })
slots_go who K c w d n s free words m packets (Some packet ∷ slots) here outside only below left =
    let one : 1 ≤ n = (let sum = left.sum in omega (arith, sum)) in
    slot_read who K (ListsLess K c w d n 0) s free words m packet slots here outside left.render
    (weaker who (JobLeft K c w d (n - 1)) (λ next. ListsLess K c w d n 0 (quiet next)) (λ next less. quiet_less K c w d n 0 next one less) (act (beyond s (length (packet_text packet))) words packet) m
    (act_goes who K c w d n s words m packet packets slots outside only left))

-- In a tile's list the renderer stands elsewhere, or has left it.
moved : (K : List ℕ → Type 0) (c : Config) (w d n rest : ℕ) (s : Lists) (inside : Option SubList) → (left : JobLeft K c w d n s) → ((tile : ℕ) → one_if (is_inside inside tile) ≤ one_if (is_inside s.renderer.inside tile))
    → one_if (is_some inside) + visits c (all_entered left.1) inside 0 s.items + n ≤ one_if (is_some s.renderer.inside) + visits c (all_entered left.1) s.renderer.inside 0 s.items + rest
    → JobLeft K c w d rest (with_inside s inside)
moved K c w d n rest s inside left fewer less =
    let stands : StandLeft K c w d n s s.renderer.inside left.0 left.1 = left.2 in
    let sum = stands.sum in (
      left.0,
      left.1,
      record {
        bin = stands.bin;
        render = stands.render;
        most = stands.most;
        room = stands.room;
        often = λ tile. (let often = stands.often tile in let here = fewer tile in omega (arith, often, here));
        sum = omega (arith, sum, less);
      },
    )

inside_some : (K : List ℕ → Type 0) (c : Config) (w d n : ℕ) (s : Lists) (sub : SubList) → JobLeft K c w d n s → s.renderer.inside ≡ Some sub → 1 ≤ n
inside_some K c w d n s sub left is =
    let stands : StandLeft K c w d n s s.renderer.inside left.0 left.1 = left.2 in
    let sum = stands.sum in
    let one : one_if (is_some s.renderer.inside) ≡ 1 = ap (λ (o : Option SubList). one_if (is_some o)) is in
    omega (arith, sum, one)

left_list : (K : List ℕ → Type 0) (c : Config) (w d n : ℕ) (s : Lists) (sub : SubList) → JobLeft K c w d n s → s.renderer.inside ≡ Some sub → JobLeft K c w d (n - 1) (with_inside s None)
left_list K c w d n s sub left is =
    let one : one_if (is_some s.renderer.inside) ≡ 1 = ap (λ (o : Option SubList). one_if (is_some o)) is in
    let some = inside_some K c w d n s sub left is in
    let fewer = visits_left c (all_entered left.1) s.renderer.inside s.items in
    moved K c w d n (n - 1) s None left (λ tile. omega arith) (omega (arith, one, some, fewer))

at_same : (K : List ℕ → Type 0) (c : Config) (w d n rest : ℕ) (s : Lists) (sub : SubList) (at : ℕ) (left : JobLeft K c w d n s) → s.renderer.inside ≡ Some sub
    → visits c (all_entered left.1) (stands_at sub.tile at) 0 s.items + n ≤ visits c (all_entered left.1) (Some sub) 0 s.items + rest → JobLeft K c w d rest (at_item s sub.tile at)
at_same K c w d n rest s sub at left is less =
    let one : one_if (is_some s.renderer.inside) ≡ 1 = ap (λ (o : Option SubList). one_if (is_some o)) is in
    let same_visits : visits c (all_entered left.1) s.renderer.inside 0 s.items ≡ visits c (all_entered left.1) (Some sub) 0 s.items = ap (λ (o : Option SubList). visits c (all_entered left.1) o 0 s.items) is in
    moved K c w d n rest s (stands_at sub.tile at) left
    (λ tile. let same_inside : one_if (is_inside s.renderer.inside tile) ≡ one_if (tile == sub.tile) = ap (λ (o : Option SubList). one_if (is_inside o tile)) is in omega (arith, same_inside))
    (omega (arith, one, same_visits, less))

-- At an item the renderer stays, or goes past it.
stay_is : (s : Lists) (words : List ℕ) (sub : SubList) (found : Found) → s.renderer.inside ≡ Some sub → item_at sub s.items ≡ Some found → (word_at words 0 % 4 == 3) ≡ false → one_if (stays s words) ≡ 1
unfolding stays
stay_is s words sub found is here other =
    ap (λ (o : Option SubList). one_if (is_at_item s o && not (word_at words 0 % 4 == 3))) is
    ∙ ap (λ (o : Option Found). one_if (is_some o && not (word_at words 0 % 4 == 3))) here
    ∙ ap (λ b. one_if (true && not b)) other

not_three : (choice k : ℕ) → (choice == k) ≡ true → (k == 3) ≡ false → (choice == 3) ≡ false
not_three choice k is other = let e : choice ≡ k = same choice k is in ap (λ x. x == 3) e ∙ other

-- which adds at most the steps of a program, and its own
stay_more : (w stay : ℕ) → stay ≡ 1 → (1 + w) * stay ≡ 1 + w
stay_more w stay one = ap (λ x. (1 + w) * x) one ∙ omega arith

program_stays : (who : Who) (K : List ℕ → Type 0) (c : Config) (w d n stay : ℕ) (s : Lists) (program : Program) (free : Free) (item : Item) (m : List ℕ) → JobLeft K c w d n s → stay ≡ 1
    → Comes who (ListsLess K c w d n stay) (program_plan s program free item) m
unfolding program_plan
program_stays who K c w d n stay s program free item m left one =
    let more = stay_more w stay one in
    comes_any who (ListsLess K c w d n stay) (turned_to s) (λ launch. let cost = launch_at_most w launch in record { rest = n; left = left; less = omega (arith, cost, more) }) (start_plan program free item.word) m

vertex_stays : (who : Who) (K : List ℕ → Type 0) (c : Config) (w d n stay : ℕ) (s : Lists) (item : Item) (words m : List ℕ) → JobLeft K c w d n s → stay ≡ 1
    → Comes who (ListsLess K c w d n stay) (vertex_plan s item words) m
unfolding vertex_plan
vertex_stays who K c w d n stay s item words m left one =
    let P = λ (k : List ℕ) (turned : Turned). ListsLess K c w d n stay turned in
    let plan = fetch_plan item.primitive item.word (word_at words 1 % item.primitive.length) in
    let more = stay_more w stay one in
    let here : ListsLess K c w d n stay (quiet s) = record { rest = n; left = left; less = omega (arith, more) } in
    keeps_if who AnyLook AnyAccess P m (item.primitive.length == 0) (Done (quiet s)) (plan_mapped (item_fetched s) plan) (λ on. here)
    (λ off. comes_any who (ListsLess K c w d n stay) (item_fetched s) (λ index. here) plan m)

choice_goes : (who : Who) (K : List ℕ → Type 0) (c : Config) (w d n : ℕ) (s : Lists) (free : Free) (words m : List ℕ) (sub : SubList) (found : Found) → JobLeft K c w d n s → s.renderer.inside ≡ Some sub → item_at sub s.items ≡ Some found
    → Comes who (ListsLess K c w d n (one_if (stays s words))) (choice_plan s free words sub found) m
unfolding choice_plan
choice_goes who K c w d n s free words m sub found left is here =
    let stay : ℕ = one_if (stays s words) in
    let P = λ (k : List ℕ) (turned : Turned). ListsLess K c w d n stay turned in
    let L = AnyLook in
    let G = AnyAccess in
    let choice : ℕ = word_at words 0 % 4 in
    let at : Lists = at_item s sub.tile found.number in
    let next : Lists = at_item s sub.tile (found.number + 1) in
    let past = visits_past c (all_entered left.1) sub s.items found here in
    let fewer = visits_on c (all_entered left.1) sub.tile sub.at found.number 0 s.items past.0 in
    let stands : JobLeft K c w d n at = at_same K c w d n n s sub found.number left is (omega (arith, fewer)) in
    let some = inside_some K c w d n s sub left is in
    let goes : JobLeft K c w d (n - 1) next = at_same K c w d n (n - 1) s sub (found.number + 1) left is (let less = past.1 in omega (arith, less, some)) in
    let one : (k : ℕ) → (choice == k) ≡ true → (k == 3) ≡ false → stay ≡ 1 = λ k on other. stay_is s words sub found is here (not_three choice k on other) in
    keeps_if who L G P m (choice == 0) (vertex_plan at found.item words) (if choice == 1 then program_plan at Vertex free found.item else (if choice == 2 then program_plan at Fragment free found.item else Done (quiet next)))
    (λ on. vertex_stays who K c w d n stay at found.item words m stands (one 0 on refl))
    (λ off. keeps_if who L G P m (choice == 1) (program_plan at Vertex free found.item) (if choice == 2 then program_plan at Fragment free found.item else Done (quiet next))
    (λ on. program_stays who K c w d n stay at Vertex free found.item m stands (one 1 on refl))
    (λ off. keeps_if who L G P m (choice == 2) (program_plan at Fragment free found.item) (Done (quiet next))
    (λ on. program_stays who K c w d n stay at Fragment free found.item m stands (one 2 on refl))
    (λ off. quiet_less K c w d n stay next some goes)))

found_goes : (who : Who) (K : List ℕ → Type 0) (c : Config) (w d n : ℕ) (s : Lists) (free : Free) (words m : List ℕ) (sub : SubList) (found : Option Found) → JobLeft K c w d n s → s.renderer.inside ≡ Some sub → item_at sub s.items ≡ found
    → Comes who (ListsLess K c w d n (one_if (stays s words))) (found_plan s free words sub found) m
found_goes who K c w d n s free words m sub None left is here =
    quiet_less K c w d n (one_if (stays s words)) (with_inside s None) (inside_some K c w d n s sub left is) (left_list K c w d n s sub left is)
found_goes who K c w d n s free words m sub (Some found) left is here = (tt, choice_goes who K c w d n s free words m sub found left is here)

more_stays : (K : List ℕ → Type 0) (c : Config) (w d n stay : ℕ) (turned : Turned) → ListsLess K c w d n 0 turned → ListsLess K c w d n stay turned
more_stays K c w d n stay turned less = let fewer = less.less in record { rest = less.rest; left = less.left; less = omega (arith, fewer) }

renderer_by : (who : Who) (K : List ℕ → Type 0) (c : Config) (w d n : ℕ) (s : Lists) (free : Free) (words m : List ℕ) (inside : Option SubList) → K m → JobLeft K c w d n s → (s.closed ≡ true → s.binner.kept.config ≡ Some c)
    → glance_result (renderer_ready s) m ≡ true → s.renderer.inside ≡ inside → Comes who (ListsLess K c w d n (one_if (stays s words))) (renderer_plan s free words) m
unfolding renderer_plan
renderer_by who K c w d n s free words m None here left only ready is =
    let stay : ℕ = one_if (stays s words) in
    weaker who (ListsLess K c w d n 0) (ListsLess K c w d n stay) (λ turned less. more_stays K c w d n stay turned less) (renderer_plan s free words) m
    (slots_go who K c w d n s free words m left.0 left.1 here is only (ready_below s m is ready) (subst (λ (inside : Option SubList). StandLeft K c w d n s inside left.0 left.1) is left.2))
renderer_by who K c w d n s free words m (Some sub) here left only ready is =
    subst (λ (inside : Option SubList). Comes who (ListsLess K c w d n (one_if (stays s words))) (plan_in s free words inside) m) (sym is)
    (found_goes who K c w d n s free words m sub (item_at sub s.items) left is refl)

-- One step of the renderer.
pub renderer_goes : (who : Who) (K : List ℕ → Type 0) (c : Config) (w d n : ℕ) (s : Lists) (free : Free) (words m : List ℕ) → K m → JobLeft K c w d n s → (s.closed ≡ true → s.binner.kept.config ≡ Some c)
    → glance_result (renderer_ready s) m ≡ true → Comes who (ListsLess K c w d n (one_if (stays s words))) (renderer_plan s free words) m
renderer_goes who K c w d n s free words m here left only ready = renderer_by who K c w d n s free words m s.renderer.inside here left only ready refl
