-- One step of the binner keeps how often the semaphore is raised.
use Rattle.std.proofs.Common.{◌≡◌, ◌≤◌, ◌<◌, ℕ, ◌+◌, ◌==◌, ◌||◌, Bool, true, false, List, [], ◌∷◌, length, Option, Some, None, if◌then◌else◌, refl, ◌∙◌, ap, arith}
use Rattle.std.proofs.{lemmas.Grind.common_steps, lemmas.Bool.Decides.nat_tests}
use Rattle.std.specs.Prelude.{nat_lt}
use Rattle.packets.specs.Opcode.{halt, flush, start_tile_binning, increment_semaphore, indexed_primitive_list, array_primitive_list, gl_shader_state, tile_binning_mode}
use Rattle.packets.specs.{declared.config.Config.Config, declared.packet.Packet.Packet}
use Rattle.bin_list.specs.Packets.{opcode}
use Rattle.machine_plan.specs.{declared.who.Who.Who, declared.launch.Free.Free, Glance.glance_result}
use Rattle.machine_plan.specs.{Plan.Done, World.plan_mapped}
use Rattle.list_machine.specs.Lists.{Lists, Turned, quiet, past, with_work, with_item, with_block}
use Rattle.list_machine.specs.Blocks.{tiles_of, spot_of, put_plan}
use Rattle.list_machine.specs.Binner.{config_set, with_word, after_start, after_halt, read_plan, fetched_with, started_with, chosen_tile, tile_plan, item_plan, work_plan, binner_by, binner_plan, binner_may, binner_ready}
use Rattle.list_machine.specs.{declared.state.Item.Item, declared.state.Program.TheVariants.Coordinate}
use Rattle.list_machine.specs.{declared.state.Work.Work, Fetch.fetch_plan, Start.start_plan}
use Rattle.list_law.proofs.{Bytes.none_left, Logs.same, Safe.keeps_if}
use Rattle.ends_law.proofs.{Binner.put_goes, Rests.bin_behind, Rests.packet_read, Rests.packet_comes}
use Rattle.ends_law.proofs.{Plans.AnyLook, Plans.AnyAccess, Plans.Comes, Plans.comes_any, Plans.comes_into}
use Rattle.served_law.specs.{Known.ListsMeet, Known.JobMeets, Raises.waits_in, Raises.raised_by}

abbrev pub TurnedMeets : (List ℕ → Type 0) → Turned → Type 0
TurnedMeets K turned = JobMeets K turned.lists

-- What a packet adds to what the semaphore is raised by.
raised_plain : (pending : ℕ) (packet : List ℕ) (packets : List (List ℕ)) → (opcode packet == increment_semaphore) ≡ false → (opcode packet == flush) ≡ false → raised_by pending (packet ∷ packets) ≡ raised_by pending packets
raised_plain pending packet packets no_raise no_flush = cc

raised_more : (pending : ℕ) (packet : List ℕ) (packets : List (List ℕ)) → (opcode packet == increment_semaphore) ≡ true → raised_by pending (packet ∷ packets) ≡ raised_by (pending + 1) packets
raised_more pending packet packets raise = cc

raised_flush : (pending : ℕ) (packet : List ℕ) (packets : List (List ℕ)) → (opcode packet == increment_semaphore) ≡ false → (opcode packet == flush) ≡ true → raised_by pending (packet ∷ packets) ≡ pending + raised_by 0 packets
raised_flush pending packet packets no_raise on = cc

-- Where the binner stands with all but its first packet.
behind_packet : (K : List ℕ → Type 0) (place end pending next semaphore after there upto : ℕ) (packet : List ℕ) (packets : List (List ℕ)) (slots : List (Option Packet)) → ListsMeet K place end pending semaphore there upto (packet ∷ packets) slots
    → semaphore + raised_by pending (packet ∷ packets) ≤ after + raised_by next packets → ListsMeet K (place + length packet) end next after there upto packets slots
behind_packet K place end pending next semaphore after there upto packet packets slots left more =
    let meets : waits_in slots ≤ semaphore + raised_by pending (packet ∷ packets) = left.meets in
    record { bin = bin_behind K place end packet packets left.bin; go = (let go = left.go in go.1); render = left.render; meets = omega (arith, meets, more) }

-- an opcode is no other
pub other_than : (o k j : ℕ) → (o == k) ≡ true → (k == j) ≡ false → (o == j) ≡ false
other_than o k j is other = ap (λ x. x == j) (same o k is) ∙ other

either_not : (o a b j : ℕ) (first second : Bool) → (o == a) ≡ first → (o == b) ≡ second → (first || second) ≡ true → (a == j) ≡ false → (b == j) ≡ false → (o == j) ≡ false
either_not o a b j true second one two on not_a not_b = other_than o a j one not_a
either_not o a b j false true one two on not_a not_b = other_than o b j two not_b
either_not o a b j false false one two on not_a not_b = absurd cc

-- The binner reads its next packet.
read_meets : (who : Who) (K : List ℕ → Type 0) (s : Lists) (m : List ℕ) (packets : List (List ℕ)) (slots : List (Option Packet)) → K m → ListsMeet K s.binner.place s.binner.end s.pending s.semaphore s.renderer.place s.renderer.end packets slots → s.binner.place < s.binner.end
    → Comes who (JobMeets K) (read_plan s) m
unfolding config_set with_word after_start after_halt
read_meets who K s m [] slots here left below = absurd (none_left s.binner.place s.binner.end left.bin.ends below)
read_meets who K s m (packet ∷ packets) slots here left below =
    let o : ℕ = opcode packet in
    let go = left.go in
    let after : Lists = past s (length packet) in
    let goes : (next after : ℕ) → s.semaphore + raised_by s.pending (packet ∷ packets) ≤ after + raised_by next packets → (ps : List (List ℕ)) × (ss : List (Option Packet)) × ListsMeet K (s.binner.place + length packet) s.binner.end next after s.renderer.place s.renderer.end ps ss =
    λ next after more. (packets, slots, behind_packet K s.binner.place s.binner.end s.pending next s.semaphore after s.renderer.place s.renderer.end packet packets slots left more) in
    let plain : (o == increment_semaphore) ≡ false → (o == flush) ≡ false → JobMeets K after = λ no_raise no_flush. let as_many = raised_plain s.pending packet packets no_raise no_flush in goes s.pending s.semaphore (omega (arith, as_many)) in
    let by : (k : ℕ) → (o == k) ≡ true → (k == increment_semaphore) ≡ false → (k == flush) ≡ false → JobMeets K after = λ k on no_raise no_flush. plain (other_than o k increment_semaphore on no_raise) (other_than o k flush on no_flush) in
    let either : (j : ℕ) → (o == indexed_primitive_list || o == array_primitive_list) ≡ true → (indexed_primitive_list == j) ≡ false → (array_primitive_list == j) ≡ false → (o == j) ≡ false =
    λ j on. either_not o indexed_primitive_list array_primitive_list j (o == indexed_primitive_list) (o == array_primitive_list) refl refl on in
    packet_read who K (JobMeets K) s m packet packets here left.bin
    (packet_comes who (JobMeets K) after packet m (λ on. absurd (go.0 (same o halt on))) (λ on. by tile_binning_mode on refl refl) (λ on. by start_tile_binning on refl refl) (λ on. by gl_shader_state on refl refl)
    (λ on word. plain (either increment_semaphore on refl refl) (either flush on refl refl))
    (λ on. let more = raised_more s.pending packet packets on in goes (s.pending + 1) s.semaphore (omega (arith, more)))
    (λ no_raise on. let flushes = raised_flush s.pending packet packets no_raise on in goes 0 (s.semaphore + s.pending) (omega (arith, flushes))) plain)

-- An item is put on a tile.
item_meets : (who : Who) (P : Lists → Type 0) (s : Lists) (config : Option Config) (k : Work) (words m : List ℕ) → P s → P (with_work s None) → ((item : Item) → P (with_item s item)) → ((item : Item) → P (with_item (with_block s) item))
    → Comes who P (item_plan s config k words) m
unfolding tile_plan
item_meets who P s None k words m here none all more = here
item_meets who P s (Some c) k words m here none all more =
    let tile : ℕ = chosen_tile c words in
    keeps_if who AnyLook AnyAccess (λ i next. P next) m (tile == tiles_of c) (Done (with_work s None)) (put_plan s c k tile (spot_of tile s.items))
    (λ on. none) (λ off. put_goes who P s c k tile (spot_of tile s.items) m (λ room item is. all item) (λ item is. more item))

work_meets : (who : Who) (K : List ℕ → Type 0) (s : Lists) (k : Work) (free : Free) (words m : List ℕ) → JobMeets K s → Comes who (TurnedMeets K) (work_plan s k free words) m
unfolding work_plan
work_meets who K s k free words m left =
    let P = λ (i : List ℕ) (turned : Turned). TurnedMeets K turned in
    let L = AnyLook in
    let G = AnyAccess in
    keeps_if who L G P m k.due (plan_mapped (started_with s k) (start_plan Coordinate free k.word)) (if nat_lt k.done k.primitive.length then plan_mapped (fetched_with s k) (fetch_plan k.primitive k.word k.done) else plan_mapped quiet (item_plan s s.binner.kept.config k words))
    (λ due. comes_any who (TurnedMeets K) (started_with s k) (λ launch. left) (start_plan Coordinate free k.word) m)
    (λ off. keeps_if who L G P m (nat_lt k.done k.primitive.length) (plan_mapped (fetched_with s k) (fetch_plan k.primitive k.word k.done)) (plan_mapped quiet (item_plan s s.binner.kept.config k words))
    (λ more. comes_any who (TurnedMeets K) (fetched_with s k) (λ index. left) (fetch_plan k.primitive k.word k.done) m)
    (λ all. comes_into who quiet (JobMeets K) (TurnedMeets K) (λ next here. here) (item_plan s s.binner.kept.config k words) m (item_meets who (JobMeets K) s s.binner.kept.config k words m left left (λ item. left) (λ item. left))))

binner_by_meets : (who : Who) (K : List ℕ → Type 0) (s : Lists) (work : Option Work) (free : Free) (words m : List ℕ) → K m → JobMeets K s → binner_may s work free ≡ true → Comes who (TurnedMeets K) (binner_by s work free words) m
binner_by_meets who K s None free words m here left ready =
    let below : s.binner.place < s.binner.end = grind (arith, common_steps, nat_tests, ready) in
    comes_into who quiet (JobMeets K) (TurnedMeets K) (λ next here. here) (read_plan s) m (read_meets who K s m left.0 left.1 here left.2 below)
binner_by_meets who K s (Some k) free words m here left ready = work_meets who K s k free words m left

pub binner_meets : (who : Who) (K : List ℕ → Type 0) (s : Lists) (free : Free) (words m : List ℕ) → K m → JobMeets K s → glance_result (binner_ready s free) m ≡ true → Comes who (TurnedMeets K) (binner_plan s free words) m
unfolding binner_plan binner_ready
binner_meets who K s free words m here left ready = binner_by_meets who K s s.binner.work free words m here left ready
