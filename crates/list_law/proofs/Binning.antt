-- One step of the binner keeps all that stands.
use Rattle.std.proofs.Common.{◌≡◌, ◌≢◌, ◌<◌, ◌⊎◌, inl, inr, ℕ, ◌+◌, ◌==◌, ◌||◌, Bool, true, false, List, [], ◌∷◌, ◌++◌, length, slice_index, Option, Some, None, IfSome, if◌then◌else◌, refl, ◌∙◌, ap, arith, rules}
use Rattle.std.proofs.lemmas.{Grind.common_steps, List.length-replicate, Bool.and_parts, Bool.Decides.nat_tests}
use Rattle.std.proofs.Math.Nat.{mod-lt}
use Rattle.std.specs.Prelude.{nat_lt}
use Rattle.field_words.specs.{Pieces.joined_texts, Words.u32_at, declared.access.Access.Access, declared.access.Way.TheVariants.Read}
use Rattle.packets.specs.Opcode.{halt, flush, start_tile_binning, increment_semaphore, indexed_primitive_list, array_primitive_list, gl_shader_state, tile_binning_mode, buffer_handles}
use Rattle.packets.specs.{Length.bin_length, Length.bin_taken, declared.config.Config.Config, Config.config_in}
use Rattle.machine_plan.specs.declared.{who.Who.Who, launch.Free.Free, launch.Launch.Launch}
use Rattle.machine_plan.specs.{World.plan_mapped, Glance.glance_result, Memory.bytes_at}
use Rattle.machine_plan.specs.{Plan.Plan, Plan.Done, Plan.Wilds, Plan.Keeps, Plan.access, Regions.Inside, Regions.Rights, Regions.IsSafeIn}
use Rattle.machine_plan.proofs.{Memory.inside_part, Safe.read_safe, Plans.keeps_weaker, Worlds.keeps_mapped}
use Rattle.bin_list.specs.Packets.{opcode}
use Rattle.bin_walks.specs.Walks.{Kept as Passed, kept_after, Drawing, Tame, Walks}
use Rattle.list_machine.specs.declared.state.{Binner.Binner, Item.Item, Kept.Kept, Frame.Frame, Work.Work, Program.TheVariants.Coordinate}
use Rattle.list_machine.specs.Lists.{Lists, Turned, quiet, with_binner, with_kept, with_work, past, after_increment, after_flush}
use Rattle.list_machine.specs.Binner.{config_set, with_word, after_start, clear_plan, begin_plan, work_of, plan_of_draw, draw_plan, after_halt, is_unknown, packet_plan, read_plan, one_done, fetched_with, not_due, started_with, chosen_tile, tile_plan, item_plan, work_plan, binner_by, binner_plan, item_may, work_may, binner_may, binner_ready}
use Rattle.list_machine.specs.{Blocks.tiles_of, Fetch.fetch_plan, Start.start_plan, Start.can_start}
use Rattle.list_law.specs.Binning.{passed_of, Allocates, DrawsSo, OnWay, WorkFine, LogFine, IsOnly, Only}
use Rattle.list_law.specs.Lists.{ListsFine, TurnedFine}
use Rattle.list_law.proofs.Bytes.{none_left, bytes_front, bytes_behind, byte_front, front_inside, behind_inside, behind_ends}
use Rattle.list_law.proofs.{Safe.write_safe, Safe.keeps_if, Logs.same, Logs.not_same, Logs.put_keeps}
use Rattle.list_law.proofs.Fetching.{AnyEnd, fetch_keeps, start_fine}

-- All is kept with another binner.
pub binner_set : (r : Rights) (K : List ℕ → Type 0) (O : Launch → Type 0) (c : Config) (f : Frame) (s : Lists) (b : Binner) → ListsFine r K O c f s
    → OnWay r K O c b.place b.end b.kept → IfSome b.work (WorkFine r K O) → IsOnly c b.kept.config → (s.closed ≡ true → b.kept.config ≡ Some c)
    → ListsFine r K O c f (with_binner s b)
binner_set r K O c f s b fine way work configs closed = search (rules, arith)

-- another primitive in work, or none
pub work_set : (r : Rights) (K : List ℕ → Type 0) (O : Launch → Type 0) (c : Config) (f : Frame) (s : Lists) (work : Option Work) → ListsFine r K O c f s → IfSome work (WorkFine r K O)
    → ListsFine r K O c f (with_work s work)
work_set r K O c f s work fine one = binner_set r K O c f s (record (s.binner) { work = work }) fine fine.binner one fine.configs fine.closed

-- All is kept with more items, another count of the semaphore, and all closed or not.
pub items_set : (r : Rights) (K : List ℕ → Type 0) (O : Launch → Type 0) (c : Config) (f : Frame) (s : Lists) (pending semaphore : ℕ) (closed : Bool) (blocks : ℕ) (items : List Item)
    → (fine : ListsFine r K O c f s) → LogFine r K O c items → (semaphore ≡ 0) ⊎ (closed ≡ true) → (fine.waited ≡ true → closed ≡ true) → (closed ≡ true → s.binner.kept.config ≡ Some c)
    → ListsFine r K O c f (record s { pending = pending; semaphore = semaphore; closed = closed; blocks = blocks; items = items })
items_set r K O c f s pending semaphore closed blocks items fine log counted passed only = search (rules, arith)

log_set : (r : Rights) (K : List ℕ → Type 0) (O : Launch → Type 0) (c : Config) (f : Frame) (s : Lists) (blocks : ℕ) (items : List Item) → ListsFine r K O c f s → LogFine r K O c items
    → ListsFine r K O c f (record s { blocks = blocks; items = items })
log_set r K O c f s blocks items fine log = items_set r K O c f s s.pending s.semaphore s.closed blocks items fine log fine.counted fine.passed fine.closed

-- What is kept behind a packet, by which of the three packets it is that tell something.
abbrev passed_by : Passed → List ℕ → Bool → Bool → Bool → Passed
passed_by kept packet configures states starts = record {
  config = (if configures then Some (config_in packet) else kept.config);
  word = (if states then Some (u32_at packet 1) else kept.word);
  started = (if starts then true else kept.started);
}

passed_is : (kept : Passed) (packet : List ℕ) (configures states starts : Bool)
    → (opcode packet == tile_binning_mode) ≡ configures → (opcode packet == gl_shader_state) ≡ states → (opcode packet == start_tile_binning) ≡ starts
    → kept_after kept packet ≡ passed_by kept packet configures states starts
unfolding kept_after
passed_is kept packet configures states starts a b d = λ i. passed_by kept packet (a i) (b i) (d i)

-- where one opcode is read, another isn't
other : (o k n : ℕ) → o ≡ k → (k == n) ≡ false → (o == n) ≡ false
other o k n is differs = ap (λ x. x == n) is ∙ differs

-- The packet is read, and what it says is done.
pub read_keeps : (who : Who) (L : ℕ → ℕ → Type 0) (G : Access → Type 0) (P : List ℕ → Lists → Type 0) (s : Lists) (m : List ℕ) (len : ℕ) (packet : List ℕ)
    → bin_taken (slice_index m s.binner.place) ≡ len → bytes_at m s.binner.place len ≡ packet → L s.binner.place 1 → G (access who Read s.binner.place len)
    → Keeps who L G P (packet_plan (past s len) packet) m → Keeps who L G P (read_plan s) m
unfolding read_plan bytes_at
read_keeps who L G P s m len packet len_is bytes_is looks reads rest = search (arith)

pub taken_is : (packet : List ℕ) → length packet ≡ bin_length (opcode packet) → bin_length (opcode packet) ≢ 0 → bin_taken (opcode packet) ≡ length packet
unfolding bin_taken
taken_is packet whole known = grind (arith, common_steps, nat_tests)

is_known : (o : ℕ) → bin_length o ≢ 0 → o ≢ buffer_handles → is_unknown o ≡ false
unfolding is_unknown
is_known o known no_handles = grind (arith, common_steps, nat_tests, known, no_handles)

-- where the binner stands behind a packet, with what it keeps then
way_behind : (r : Rights) (K : List ℕ → Type 0) (O : Launch → Type 0) (c : Config) (place end : ℕ) (kept after : Kept) (packet : List ℕ) (packets : List (List ℕ))
    → place + length (packet ++ joined_texts packets) ≡ end → Walks c (DrawsSo r K O) (kept_after (passed_of kept) packet) packets
    → ((m : List ℕ) → K m → bytes_at m place (length (packet ++ joined_texts packets)) ≡ packet ++ joined_texts packets) → Inside r.region place (length (packet ++ joined_texts packets))
    → kept_after (passed_of kept) packet ≡ passed_of after → OnWay r K O c (place + length packet) end after
way_behind r K O c place end kept after packet packets ends walks stands reads is = grind (arith, common_steps, nat_tests, behind_ends, bytes_behind, behind_inside)

-- The packet plan from each test on.
abbrev pub plan_flush : Lists → List ℕ → Plan Lists
plan_flush s p = if slice_index p 0 == flush then Done (after_flush s) else Done s

abbrev pub plan_raise : Lists → List ℕ → Plan Lists
plan_raise s p = if slice_index p 0 == increment_semaphore then Done (after_increment s) else plan_flush s p

abbrev pub plan_draw : Lists → List ℕ → Plan Lists
plan_draw s p = if slice_index p 0 == indexed_primitive_list || slice_index p 0 == array_primitive_list then draw_plan s p else plan_raise s p

abbrev pub plan_word : Lists → List ℕ → Plan Lists
plan_word s p = if slice_index p 0 == gl_shader_state then Done (with_word s p) else plan_draw s p

abbrev pub plan_start : Lists → List ℕ → Plan Lists
plan_start s p = if slice_index p 0 == start_tile_binning then begin_plan s s.binner.kept.config else plan_word s p

abbrev pub plan_config : Lists → List ℕ → Plan Lists
plan_config s p = if slice_index p 0 == tile_binning_mode then Done (config_set s p) else plan_start s p

abbrev pub plan_halt : Lists → List ℕ → Plan Lists
plan_halt s p = if slice_index p 0 == halt then Done (after_halt s) else plan_config s p

-- a start clears the states of all tiles
clear_keeps : (who : Who) (r : Rights) (L : ℕ → ℕ → Type 0) (P : List ℕ → Lists → Type 0) (c : Config) (s : Lists) (config : Option Config) (m : List ℕ)
    → Allocates r c → config ≡ Some c → ((k : List ℕ) → P k (after_start s)) → Keeps who L (IsSafeIn r) P (begin_plan s config) m
unfolding clear_plan
clear_keeps who r L P c s config m allocates is ends = search (rules, arith, length-replicate, write_safe)

-- a primitive is drawn under the state word, behind the start
draw_keeps_by : (who : Who) (G : Access → Type 0) (L : ℕ → ℕ → Type 0) (P : List ℕ → Lists → Type 0) (s : Lists) (packet m : List ℕ) (on : Bool) (kept : Option ℕ) (word : ℕ)
    → kept ≡ Some word → on ≡ true → P m (with_work s (Some (work_of word packet))) → Keeps who L G P (if on then plan_of_draw s kept packet else Wilds) m
draw_keeps_by who G L P s packet m on kept word is begun ends = search (rules, arith)

draw_keeps : (who : Who) (r : Rights) (K : List ℕ → Type 0) (O : Launch → Type 0) (c : Config) (f : Frame) (L : ℕ → ℕ → Type 0) (s : Lists) (packet m : List ℕ)
    → Drawing (DrawsSo r K O) (passed_of s.binner.kept) packet → ListsFine r K O c f s
    → Keeps who L (IsSafeIn r) (λ k next. ListsFine r K O c f next) (draw_plan s packet) m
unfolding draw_plan work_of
draw_keeps who r K O c f L s packet m drawing fine = search (rules, arith, draw_keeps_by, work_set)

both_off : (a b : Bool) → (a || b) ≡ true → (a ≡ true) ⊎ (b ≡ true)
both_off a b h = search (rules, arith)

clash : (b : Bool) → b ≡ true → b ≡ false → ⊥
clash b on off = search (rules, arith)

passed_config : (kept : Kept) (packet : List ℕ) → kept_after (passed_of kept) packet ≡ passed_by (passed_of kept) packet true false false
    → kept_after (passed_of kept) packet ≡ passed_of (record kept { config = Some (config_in packet) })
unfolding config_in
passed_config kept packet e = e

-- What a packet of the list says is done safely, and all stands again.
packet_keeps : (who : Who) (r : Rights) (K : List ℕ → Type 0) (O : Launch → Type 0) (c : Config) (f : Frame) (L : ℕ → ℕ → Type 0) (s : Lists) (packet m : List ℕ)
    → Allocates r c → ListsFine r K O c f s → Tame c (DrawsSo r K O) (passed_of s.binner.kept) packet
    → ((after : Kept) → kept_after (passed_of s.binner.kept) packet ≡ passed_of after → OnWay r K O c (s.binner.place + length packet) s.binner.end after)
    → Keeps who L (IsSafeIn r) (λ k next. ListsFine r K O c f next) (packet_plan (past s (length packet)) packet) m
unfolding packet_plan config_set with_word after_start
packet_keeps who r K O c f L s packet m allocates fine tame way =
    let G = IsSafeIn r in
    let P = λ (k : List ℕ) (next : Lists). ListsFine r K O c f next in
    let o : ℕ = opcode packet in
    let kept : Kept = s.binner.kept in
    let after : Lists = past s (length packet) in
    let gone : (k : Kept) → kept_after (passed_of kept) packet ≡ passed_of k → IsOnly c k.config → (s.closed ≡ true → k.config ≡ Some c) → ListsFine r K O c f (with_kept after k) =
    λ k is configs closed. binner_set r K O c f s (record (s.binner) { place = s.binner.place + length packet; kept = k }) fine (way k is) fine.work configs closed in
    keeps_if who L G P m (is_unknown o) Wilds (plan_halt after packet) (λ on. absurd (clash (is_unknown o) on (is_known o tame.known tame.no_handles)))
    (λ known. keeps_if who L G P m (o == halt) (Done (after_halt after)) (plan_config after packet) (λ on. absurd (tame.no_halt (same o halt on)))
    (λ no_halt. keeps_if who L G P m (o == tile_binning_mode) (Done (config_set after packet)) (plan_start after packet)
    (λ on.
    let is : o ≡ tile_binning_mode = same o tile_binning_mode on in
    let now : config_in packet ≡ c = tame.configures is in
    gone (record kept { config = Some (config_in packet) })
    (passed_config kept packet (passed_is (passed_of kept) packet true false false on (other o tile_binning_mode gl_shader_state is refl) (other o tile_binning_mode start_tile_binning is refl)))
    (Only (ap Some now)) (λ closed. ap Some now))
    (λ no_config. keeps_if who L G P m (o == start_tile_binning) (begin_plan after kept.config) (plan_word after packet)
    (λ on.
    let is : o ≡ start_tile_binning = same o start_tile_binning on in
    clear_keeps who r L P c after kept.config m allocates (tame.starts is)
    (λ k. gone (record kept { started = true })
    (passed_is (passed_of kept) packet false false true no_config (other o start_tile_binning gl_shader_state is refl) on)
    fine.configs fine.closed))
    (λ no_start. keeps_if who L G P m (o == gl_shader_state) (Done (with_word after packet)) (plan_draw after packet)
    (λ on. gone (record kept { word = Some (u32_at packet 1) }) (passed_is (passed_of kept) packet false true false no_config on no_start) fine.configs fine.closed)
    (λ no_state.
    let rest : ListsFine r K O c f after = gone kept (passed_is (passed_of kept) packet false false false no_config no_state no_start) fine.configs fine.closed in
    keeps_if who L G P m (o == indexed_primitive_list || o == array_primitive_list) (draw_plan after packet) (plan_raise after packet)
    (λ on.
    let drawing : Drawing (DrawsSo r K O) (passed_of kept) packet = elim (both_off (o == indexed_primitive_list) (o == array_primitive_list) on) [
      | inl e ↦ tame.indexed (same o indexed_primitive_list e)
      | inr e ↦ tame.array (same o array_primitive_list e)
    ] in
    draw_keeps who r K O c f L after packet m drawing rest)
    (λ no_draw. keeps_if who L G P m (o == increment_semaphore) (Done (after_increment after)) (plan_flush after packet)
    (λ on. items_set r K O c f after (after.pending + 1) after.semaphore after.closed after.blocks after.items rest rest.log rest.counted rest.passed rest.closed)
    (λ no_raise. keeps_if who L G P m (o == flush) (Done (after_flush after)) (Done after)
    (λ on. items_set r K O c f after 0 (after.semaphore + after.pending) true after.blocks after.items rest rest.log (inr refl) (λ waited. refl) (λ closed. tame.closes (same o flush on)))
    (λ no_flush. rest))))))))

-- The binner reads its next packet.
read_step : (who : Who) (r : Rights) (K : List ℕ → Type 0) (O : Launch → Type 0) (c : Config) (f : Frame) (s : Lists) (m : List ℕ) (rest : List (List ℕ))
    → Allocates r c → K m → ListsFine r K O c f s → s.binner.place < s.binner.end
    → s.binner.place + length (joined_texts rest) ≡ s.binner.end → Walks c (DrawsSo r K O) (passed_of s.binner.kept) rest
    → ((n : List ℕ) → K n → bytes_at n s.binner.place (length (joined_texts rest)) ≡ joined_texts rest) → Inside r.region s.binner.place (length (joined_texts rest))
    → Keeps who (Inside r.region) (IsSafeIn r) (λ k next. ListsFine r K O c f next) (read_plan s) m
read_step who r K O c f s m [] allocates here fine below ends walks stands reads = absurd (none_left s.binner.place s.binner.end ends below)
read_step who r K O c f s m (packet ∷ packets) allocates here fine below ends walks stands reads =
    search (arith, bytes_front, front_inside, read_keeps, byte_front, taken_is, inside_part, read_safe, packet_keeps, way_behind)

-- A primitive in work.
pub ready_item : (due more start item : Bool) → due ≡ false → more ≡ false → (if due then start else (if more then true else item)) ≡ true → item ≡ true
ready_item due more start item off all ready = search (rules, arith)

pub tile_below : (c : Config) (words : List ℕ) → (chosen_tile c words == tiles_of c) ≡ false → chosen_tile c words < tiles_of c
unfolding chosen_tile
tile_below c words off = grind (arith, common_steps, nat_tests, mod-lt, not_same)

item_keeps : (who : Who) (r : Rights) (K : List ℕ → Type 0) (O : Launch → Type 0) (c : Config) (f : Frame) (L : ℕ → ℕ → Type 0) (s : Lists) (w : Work) (words m : List ℕ) (config : Option Config)
    → Allocates r c → ListsFine r K O c f s → WorkFine r K O w → IsOnly c config → item_may s config ≡ true
    → Keeps who L (IsSafeIn r) (λ k next. ListsFine r K O c f next) (item_plan s config w words) m
unfolding tile_plan
item_keeps who r K O c f L s w words m config allocates fine work only ready = search (rules, arith, keeps_if, work_set, put_keeps, tile_below, and_parts, log_set)

work_keeps : (who : Who) (r : Rights) (K : List ℕ → Type 0) (O : Launch → Type 0) (c : Config) (f : Frame) (s : Lists) (w : Work) (free : Free) (words m : List ℕ)
    → Allocates r c → K m → ListsFine r K O c f s → WorkFine r K O w → work_may s w free ≡ true
    → Keeps who (Inside r.region) (IsSafeIn r) (λ k turned. TurnedFine r K O c f turned) (work_plan s w free words) m
unfolding work_plan work_may one_done not_due
work_keeps who r K O c f s w free words m allocates here fine work ready =
    let L = Inside r.region in
    let G = IsSafeIn r in
    let P = λ (k : List ℕ) (turned : Turned). TurnedFine r K O c f turned in
    keeps_if who L G P m w.due (plan_mapped (started_with s w) (start_plan Coordinate free w.word)) (if nat_lt w.done w.primitive.length then plan_mapped (fetched_with s w) (fetch_plan w.primitive w.word w.done) else plan_mapped quiet (item_plan s s.binner.kept.config w words))
    (λ on. keeps_mapped (started_with s w) who L G P (start_plan Coordinate free w.word) m
    (keeps_weaker who L L G G (λ n launch. IfSome launch O) (λ n launch. P n (started_with s w launch)) (λ p n h. h) (λ a h. h)
    (λ n launch may. record {
      lists = work_set r K O c f s (Some (not_due w)) fine (record { few = work.few; uses = work.uses });
      launch = may;
    })
    (start_plan Coordinate free w.word) m (start_fine who r O m Coordinate free w.word (work.uses.programs m here))))
    (λ off. keeps_if who L G P m (nat_lt w.done w.primitive.length) (plan_mapped (fetched_with s w) (fetch_plan w.primitive w.word w.done)) (plan_mapped quiet (item_plan s s.binner.kept.config w words))
    (λ more.
    let below : w.done < w.primitive.length = grind (arith, common_steps, nat_tests, more) in
    keeps_mapped (fetched_with s w) who L G P (fetch_plan w.primitive w.word w.done) m
    (keeps_weaker who L L G G AnyEnd (λ n index. P n (fetched_with s w index)) (λ p n h. h) (λ a h. h)
    (λ n index any. record {
      lists = work_set r K O c f s (Some (one_done w)) fine (record { few = omega (arith, below); uses = work.uses });
      launch = tt;
    })
    (fetch_plan w.primitive w.word w.done) m (fetch_keeps who r m w.word w.primitive w.done (work.uses.fetches m here) below)))
    (λ all.
    let may : item_may s s.binner.kept.config ≡ true = ready_item w.due (nat_lt w.done w.primitive.length) (can_start false free) (item_may s s.binner.kept.config) off all ready in
    keeps_mapped quiet who L G P (item_plan s s.binner.kept.config w words) m
    (keeps_weaker who L L G G (λ n next. ListsFine r K O c f next) (λ n next. P n (quiet next)) (λ p n h. h) (λ a h. h)
    (λ n next one. record { lists = one; launch = tt })
    (item_plan s s.binner.kept.config w words) m
    (item_keeps who r K O c f L s w words m s.binner.kept.config allocates fine work fine.configs may))))

binner_keeps_by : (who : Who) (r : Rights) (K : List ℕ → Type 0) (O : Launch → Type 0) (c : Config) (f : Frame) (s : Lists) (work : Option Work) (free : Free) (words m : List ℕ)
    → Allocates r c → K m → ListsFine r K O c f s → IfSome work (WorkFine r K O) → binner_may s work free ≡ true
    → Keeps who (Inside r.region) (IsSafeIn r) (λ k turned. TurnedFine r K O c f turned) (binner_by s work free words) m
binner_keeps_by who r K O c f s None free words m allocates here fine work ready =
    let below : s.binner.place < s.binner.end = grind (arith, common_steps, nat_tests, ready) in
    let way = fine.binner in
    let L = Inside r.region in
    let G = IsSafeIn r in
    let P = λ (k : List ℕ) (turned : Turned). TurnedFine r K O c f turned in
    keeps_mapped quiet who L G P (read_plan s) m
    (keeps_weaker who L L G G (λ n next. ListsFine r K O c f next) (λ n next. P n (quiet next)) (λ p n h. h) (λ a h. h)
    (λ n next one. record { lists = one; launch = tt })
    (read_plan s) m
    (read_step who r K O c f s m way.rest allocates here fine below way.ends way.walks way.stands way.reads))
binner_keeps_by who r K O c f s (Some w) free words m allocates here fine work ready = work_keeps who r K O c f s w free words m allocates here fine work ready

-- One step of the binner.
pub binner_keeps : (who : Who) (r : Rights) (K : List ℕ → Type 0) (O : Launch → Type 0) (c : Config) (f : Frame) (s : Lists) (free : Free) (words m : List ℕ)
    → Allocates r c → K m → ListsFine r K O c f s → glance_result (binner_ready s free) m ≡ true
    → Keeps who (Inside r.region) (IsSafeIn r) (λ k turned. TurnedFine r K O c f turned) (binner_plan s free words) m
unfolding binner_plan binner_ready
binner_keeps who r K O c f s free words m allocates here fine ready = binner_keeps_by who r K O c f s s.binner.work free words m allocates here fine fine.work ready
