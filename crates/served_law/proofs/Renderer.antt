-- One step of the renderer keeps how often it waits for the semaphore.
use Rattle.std.proofs.Common.{◌≡◌, ◌≤◌, ◌<◌, ℕ, ◌+◌, ◌-◌, ◌%◌, ◌==◌, ◌&&◌, not, Bool, true, false, List, [], ◌∷◌, length, slice_index, Option, Some, None, if◌then◌else◌, refl, sym, ◌∙◌, ap, subst, arith}
use Rattle.std.proofs.{lemmas.Grind.common_steps, lemmas.Bool.true≢false, lemmas.Bool.Decides.nat_tests}
use Rattle.std.specs.Prelude.{nat_lt}
use Rattle.packets.specs.declared.packet.Packet.TheVariants.{WaitOnSemaphore, BranchToSubList, StoreTileColor, StoreTileColorAndEnd, StoreFullResolution, LoadFullResolution, StoreTileBuffer, LoadTileBuffer, TileRenderingMode, ClearColors, TileCoordinates}
use Rattle.packets.specs.{declared.packet.Packet.Packet, Opcode.wait_on_semaphore, Packet.packet_text}
use Rattle.machine_plan.specs.{declared.who.Who.Who, declared.launch.Free.Free, Choice.word_at, Glance.Now, Glance.At, Glance.glance_result}
use Rattle.machine_plan.specs.{Memory.bytes_at, Plan.Done, Plan.Wilds, World.plan_mapped}
use Rattle.list_machine.specs.Renderer.{beyond, with_inside, enter_plan, tile_by, branch_plan, tile_plan, at_tile, act, item_at, at_item, item_fetched, vertex_plan, program_plan, choice_plan, found_plan, plan_in, renderer_plan, may_pass, ready_in, renderer_ready}
use Rattle.list_machine.specs.{declared.state.Found.Found, declared.state.Item.Item, declared.state.Program.Program, Fetch.fetch_plan}
use Rattle.list_machine.specs.{declared.state.Load.TheVariants.Full, declared.state.Load.TheVariants.General, Start.start_plan}
use Rattle.list_machine.specs.declared.state.Program.TheVariants.{Fragment, Vertex}
use Rattle.list_machine.specs.{declared.state.SubList.SubList, Lists.Lists, Lists.Turned, Lists.turned_to, Lists.quiet, Lists.with_taken}
use Rattle.list_machine.specs.Surfaces.{whole_written}
use Rattle.list_machine.proofs.Items.{ready_below}
use Rattle.list_law.proofs.{Bytes.none_left, Logs.same, Safe.keeps_if}
use Rattle.ends_law.proofs.Plans.{AnyLook, AnyAccess, Comes, comes_any}
use Rattle.ends_law.proofs.Renderer.{frame_stored, general_stored, waiting_loaded, wait_goes}
use Rattle.ends_law.proofs.Rests.{render_behind, render_skip, slot_first, slot_read}
use Rattle.served_law.specs.{Known.ListsMeet, Known.JobMeets, Raises.waits_of, Raises.waits_in, Raises.raised_by}
use Rattle.served_law.proofs.Binner.{TurnedMeets}

-- The renderer goes into a tile's list.
pub enters : (who : Who) (P : Lists → Type 0) (s : Lists) (named : Option ℕ) (m : List ℕ) → ((inside : Option SubList) → P (with_inside s inside)) → Comes who P (enter_plan s named) m
enters who P s None m enter = tt
enters who P s (Some tile) m enter = enter (Some (record { tile = tile; at = 0 }))

pub branch_meets : (who : Who) (P : Lists → Type 0) (s : Lists) (address : ℕ) (m : List ℕ) → ((inside : Option SubList) → P (with_inside s inside)) → Comes who P (branch_plan s address) m
unfolding branch_plan
branch_meets who P s address m enter =
    keeps_if who AnyLook AnyAccess (λ k next. P next) m s.closed (enter_plan s (tile_by s.binner.kept.config address)) Wilds (λ on. enters who P s (tile_by s.binner.kept.config address) m enter) (λ off. tt)

-- What a packet says: a wait takes one from the semaphore, any other leaves it.
act_meets : (who : Who) (K : List ℕ → Type 0) (s : Lists) (len : ℕ) (words m : List ℕ) (packet : Packet) → (waits_of packet ≡ 0 → JobMeets K (beyond s len)) → (waits_of packet ≡ 1 → JobMeets K (with_taken (beyond s len)))
    → Comes who (JobMeets K) (act (beyond s len) words packet) m
unfolding tile_plan whole_written
act_meets who K s len words m WaitOnSemaphore on taken = taken refl
act_meets who K s len words m (BranchToSubList address) on taken = branch_meets who (JobMeets K) (beyond s len) address m (λ inside. on refl)
act_meets who K s len words m StoreTileColor on taken = frame_stored who (JobMeets K) s.renderer.frame s.renderer.x s.renderer.y words (beyond s len) m (on refl)
act_meets who K s len words m StoreTileColorAndEnd on taken = frame_stored who (JobMeets K) s.renderer.frame s.renderer.x s.renderer.y words (beyond s len) m (on refl)
act_meets who K s len words m (StoreFullResolution address) on taken = (tt, on refl)
act_meets who K s len words m (LoadFullResolution address) on taken = wait_goes who (JobMeets K) (beyond s len) s.renderer.waiting (Full address) m (on refl)
act_meets who K s len words m (StoreTileBuffer bits address) on taken = general_stored who (JobMeets K) bits address s.renderer.frame s.renderer.x s.renderer.y words (beyond s len) m (on refl)
act_meets who K s len words m (LoadTileBuffer bits address) on taken = wait_goes who (JobMeets K) (beyond s len) s.renderer.waiting (General bits address) m (on refl)
act_meets who K s len words m (TileRenderingMode address width height bits) on taken = on refl
act_meets who K s len words m (ClearColors first second z stencil) on taken = on refl
act_meets who K s len words m (TileCoordinates x y) on taken = waiting_loaded who (JobMeets K) s.renderer.waiting s.renderer.frame x y (at_tile (beyond s len) x y) m (on refl)

-- A wait's byte is opcode 8, and no other packet's is.
wait_is : (packet : Packet) → (slice_index (packet_text packet) 0 == wait_on_semaphore) ≡ (waits_of packet == 1)
unfolding packet_text
wait_is WaitOnSemaphore = refl
wait_is (BranchToSubList address) = refl
wait_is StoreTileColor = refl
wait_is StoreTileColorAndEnd = refl
wait_is (StoreFullResolution address) = refl
wait_is (LoadFullResolution address) = refl
wait_is (StoreTileBuffer bits address) = refl
wait_is (LoadTileBuffer bits address) = refl
wait_is (TileRenderingMode address width height bits) = refl
wait_is (ClearColors first second z stencil) = refl
wait_is (TileCoordinates x y) = refl

wait_byte : (packet : Packet) → waits_of packet ≡ 1 → slice_index (packet_text packet) 0 ≡ wait_on_semaphore
wait_byte packet is = same (slice_index (packet_text packet) 0) wait_on_semaphore (wait_is packet ∙ ap (λ n. n == 1) is)

pub byte_waits : (packet : Packet) → (slice_index (packet_text packet) 0 == wait_on_semaphore) ≡ true → waits_of packet ≡ 1
byte_waits packet is = same (waits_of packet) 1 (sym (wait_is packet) ∙ is)

-- where the renderer may step below its list's end, it may pass the opcode there
passes_by : (s : Lists) (m : List ℕ) (below : Bool) → below ≡ true → glance_result (if below then At s.renderer.place 1 (λ head. Now (may_pass s (slice_index head 0))) else Now false) m ≡ true → may_pass s (slice_index m s.renderer.place) ≡ true
unfolding bytes_at
passes_by s m true below here = here
passes_by s m false below here = absurd (true≢false (sym below))

passes_at : (s : Lists) (m : List ℕ) → s.renderer.inside ≡ None → glance_result (renderer_ready s) m ≡ true → s.renderer.place < s.renderer.end → may_pass s (slice_index m s.renderer.place) ≡ true
unfolding renderer_ready bytes_at
passes_at s m outside ready below =
    let here : glance_result (ready_in s None) m ≡ true = subst (λ (inside : Option SubList). glance_result (ready_in s inside) m ≡ true) outside ready in
    passes_by s m (nat_lt s.renderer.place s.renderer.end) (grind (arith, common_steps, nat_tests, below)) here

-- and there the semaphore isn't zero at a wait
some_by : (at : Bool) (semaphore : ℕ) → not (at && semaphore == 0) ≡ true → at ≡ true → 1 ≤ semaphore
some_by true semaphore passes on = grind (arith, common_steps, nat_tests, passes)
some_by false semaphore passes on = absurd (true≢false (sym on))

some_semaphore : (s : Lists) (o : ℕ) → may_pass s o ≡ true → o ≡ wait_on_semaphore → 1 ≤ s.semaphore
unfolding may_pass
some_semaphore s o passes is = some_by (o == wait_on_semaphore) s.semaphore passes (ap (λ x. x == wait_on_semaphore) is ∙ refl)

-- The renderer stands before these slots, and then behind the first of them.
behind_slot : (K : List ℕ → Type 0) (s : Lists) (after : ℕ) (packet : Packet) (packets : List (List ℕ)) (slots : List (Option Packet)) → ListsMeet K s.binner.place s.binner.end s.pending s.semaphore s.renderer.place s.renderer.end packets (Some packet ∷ slots)
    → s.semaphore ≤ waits_of packet + after → (ps : List (List ℕ)) × (ss : List (Option Packet)) × ListsMeet K s.binner.place s.binner.end s.pending after (s.renderer.place + length (packet_text packet)) s.renderer.end ps ss
behind_slot K s after packet packets slots left more =
    let meets : waits_of packet + waits_in slots ≤ s.semaphore + raised_by s.pending packets = left.meets in
    (packets, slots, record { bin = left.bin; go = left.go; render = render_behind K s.renderer.place s.renderer.end packet slots left.render; meets = omega (arith, meets, more) })

slots_meet : (who : Who) (K : List ℕ → Type 0) (s : Lists) (free : Free) (words m : List ℕ) (packets : List (List ℕ)) (slots : List (Option Packet)) → K m → s.renderer.inside ≡ None → s.renderer.place < s.renderer.end → may_pass s (slice_index m s.renderer.place) ≡ true
    → ListsMeet K s.binner.place s.binner.end s.pending s.semaphore s.renderer.place s.renderer.end packets slots → Comes who (TurnedMeets K) (renderer_plan s free words) m
slots_meet who K s free words m packets [] here outside below passes left = absurd (none_left s.renderer.place s.renderer.end left.render.ends below)
slots_meet who K s free words m packets (None ∷ slots) here outside below passes left =
    slots_meet who K s free words m packets slots here outside below passes (record { bin = left.bin; go = left.go; render = render_skip K s.renderer.place s.renderer.end slots left.render; meets = left.meets })
slots_meet who K s free words m packets (Some packet ∷ slots) here outside below passes left =
    let first = slot_first K s.renderer.place s.renderer.end m packet slots here left.render in
    let one : waits_of packet ≡ 1 → 1 ≤ s.semaphore = λ is. some_semaphore s (slice_index m s.renderer.place) passes (first ∙ wait_byte packet is) in
    slot_read who K (TurnedMeets K) s free words m packet slots here outside left.render
    (act_meets who K s (length (packet_text packet)) words m packet
    (λ none. behind_slot K s s.semaphore packet packets slots left (omega arith))
    (λ is. let some = one is in behind_slot K s (s.semaphore - 1) packet packets slots left (omega (arith, is, some))))

-- In a tile's list nothing of it changes.
program_meets : (who : Who) (K : List ℕ → Type 0) (s : Lists) (program : Program) (free : Free) (item : Item) (m : List ℕ) → JobMeets K s → Comes who (TurnedMeets K) (program_plan s program free item) m
unfolding program_plan
program_meets who K s program free item m left =
    comes_any who (TurnedMeets K) (turned_to s) (λ launch. left) (start_plan program free item.word) m

vertex_meets : (who : Who) (K : List ℕ → Type 0) (s : Lists) (item : Item) (words m : List ℕ) → JobMeets K s → Comes who (TurnedMeets K) (vertex_plan s item words) m
unfolding vertex_plan
vertex_meets who K s item words m left =
    let plan = fetch_plan item.primitive item.word (word_at words 1 % item.primitive.length) in
    keeps_if who AnyLook AnyAccess (λ k turned. TurnedMeets K turned) m (item.primitive.length == 0) (Done (quiet s)) (plan_mapped (item_fetched s) plan) (λ on. left)
    (λ off. comes_any who (TurnedMeets K) (item_fetched s) (λ index. left) plan m)

choice_meets : (who : Who) (K : List ℕ → Type 0) (s : Lists) (free : Free) (words m : List ℕ) (sub : SubList) (found : Found) → JobMeets K s → Comes who (TurnedMeets K) (choice_plan s free words sub found) m
unfolding choice_plan
choice_meets who K s free words m sub found left =
    let P = λ (k : List ℕ) (turned : Turned). TurnedMeets K turned in
    let L = AnyLook in
    let G = AnyAccess in
    let choice : ℕ = word_at words 0 % 4 in
    let at : Lists = at_item s sub.tile found.number in
    let next : Lists = at_item s sub.tile (found.number + 1) in
    keeps_if who L G P m (choice == 0) (vertex_plan at found.item words) (if choice == 1 then program_plan at Vertex free found.item else (if choice == 2 then program_plan at Fragment free found.item else Done (quiet next)))
    (λ on. vertex_meets who K at found.item words m left)
    (λ off. keeps_if who L G P m (choice == 1) (program_plan at Vertex free found.item) (if choice == 2 then program_plan at Fragment free found.item else Done (quiet next))
    (λ on. program_meets who K at Vertex free found.item m left)
    (λ off. keeps_if who L G P m (choice == 2) (program_plan at Fragment free found.item) (Done (quiet next)) (λ on. program_meets who K at Fragment free found.item m left) (λ off. left)))

found_meets : (who : Who) (K : List ℕ → Type 0) (s : Lists) (free : Free) (words m : List ℕ) (sub : SubList) (found : Option Found) → JobMeets K s → Comes who (TurnedMeets K) (found_plan s free words sub found) m
found_meets who K s free words m sub None left = left
found_meets who K s free words m sub (Some found) left = (tt, choice_meets who K s free words m sub found left)

renderer_by : (who : Who) (K : List ℕ → Type 0) (s : Lists) (free : Free) (words m : List ℕ) (inside : Option SubList) → K m → JobMeets K s → glance_result (renderer_ready s) m ≡ true → s.renderer.inside ≡ inside
    → Comes who (TurnedMeets K) (renderer_plan s free words) m
unfolding renderer_plan
renderer_by who K s free words m None here left ready is =
    let below : s.renderer.place < s.renderer.end = ready_below s m is ready in
    slots_meet who K s free words m left.0 left.1 here is below (passes_at s m is ready below) left.2
renderer_by who K s free words m (Some sub) here left ready is =
    subst (λ (inside : Option SubList). Comes who (TurnedMeets K) (plan_in s free words inside) m) (sym is) (found_meets who K s free words m sub (item_at sub s.items) left)

pub renderer_meets : (who : Who) (K : List ℕ → Type 0) (s : Lists) (free : Free) (words m : List ℕ) → K m → JobMeets K s → glance_result (renderer_ready s) m ≡ true → Comes who (TurnedMeets K) (renderer_plan s free words) m
renderer_meets who K s free words m here left ready = renderer_by who K s free words m s.renderer.inside here left ready refl
