-- What is not safe of list units: at a packet that is none, or that doesn't lie in the job's region; and where they write outside what it may.
use Rattle.std.proofs.Common.{◌≡◌, ◌⊎◌, inl, inr, ℕ, Bool, true, false, List, [], slice_index, Some, None, refl, sym, ap, subst, ◌∙◌, ◌<◌, ◌+◌, ◌==◌, ◌∷◌, arith, ◌≤◌, zero, suc, ◌*◌, length}
use Rattle.std.proofs.lemmas.{Bool.Decides.nat_tests, List.length-replicate}
use Rattle.std.specs.Prelude.{Option, if◌then◌else◌, nat_lt}
use Rattle.field_words.specs.declared.access.Actor.TheVariants.{Binner as TheBinner, Renderer as TheRenderer}
use Rattle.packets.specs.declared.packet.Packet.TheVariants.{WaitOnSemaphore, BranchToSubList, StoreTileColor, StoreTileColorAndEnd, StoreFullResolution, LoadFullResolution, StoreTileBuffer, LoadTileBuffer, TileRenderingMode, ClearColors, TileCoordinates}
use Rattle.packets.specs.declared.{packet.Packet.Packet, config.Config.Config}
use Rattle.packets.specs.{Length.bin_length, Length.bin_taken, Length.render_taken, Packet.packet_decoded, Packet.packet_named}
use Rattle.packets.specs.Opcode.{buffer_handles, wait_on_semaphore, start_tile_binning}
use Rattle.bin_list.proofs.Packets.{taken_some}
use Rattle.machine_plan.specs.{declared.launch.Free.Free, declared.who.Who.Who, Plan.Plan, Plan.Wilds, Plan.outcome_of, Plan.Writes}
use Rattle.machine_plan.specs.{Memory.bytes_at, Memory.bytes_stored, World.Safe, World.plan_mapped}
use Rattle.machine_plan.specs.Regions.{Every, Rights, IsSafeAccess, Inside, rights_of}
use Rattle.list_machine.specs.Binner.{is_unknown, packet_plan as bin_packet_plan, read_plan, binner_plan, binner_by, binner_ready, begin_plan, clear_plan, chosen_tile, tile_plan, work_plan}
use Rattle.list_machine.specs.Renderer.{beyond, plan_of_packet, packet_plan as render_packet_plan, plan_in, renderer_plan, may_pass, renderer_ready, act}
use Rattle.list_machine.specs.Blocks.{tiles_of, block_place, spot_of, is_full, next_place, link_place, zeros, put_here, put_plan}
use Rattle.list_machine.specs.Surfaces.{names_none, aligned_address, whole_size, whole_written, cover_written, frame_written, general_written}
use Rattle.list_machine.specs.Lists.{Lists, quiet, past, binner_of, renderer_of, with_block}
use Rattle.list_machine.specs.declared.{state.Frame.Frame, state.Work.Work, surface.Cover.Cover}
use Rattle.list_machine.specs.{Cover.cover_for, Cover.part_count, Cover.part_place, Cover.parts_written, Store.bytes_chosen}
use Rattle.list_machine.proofs.{Steps.first_byte, Storing.chosen_size}
use Rattle.texture_layouts.specs.Format.{general_style}
use Rattle.qpu_machine.specs.Qpu.{free_in}
use Rattle.machine.specs.State.{Units, Picked, job_start, units_start, binner_job, renderer_job}
use Rattle.machine.specs.{Step.Event, Step.with_lists, Step.ready, Step.turn, Step.is_enabled, Step.is_ahead, declared.job.Start.Start}
use Rattle.job_safety.specs.Strength.{IsAtBinPacket, IsAtRenderPacket, BinListsPastAreUnsafe, RenderListsPastAreUnsafe, StrayBinPacketsAreUnsafe, StrayRenderPacketsAreUnsafe, IsStrayRender, StrayStartsAreUnsafe, StatesPastAreUnsafe, IsAtItem, PutsBy, Puts, ItemsPastAreUnsafe, IsPart, StoresFrame, Stores, StoresPastAreUnsafe}
use Rattle.job_safety.proofs.Steps.{first_step, mapped_accesses}

-- the binner at a packet
at_bin_packet : (lists : Lists) (free : Free) (words : List ℕ) → lists.binner.work ≡ None → binner_plan lists free words ≡ plan_mapped quiet (read_plan lists)
unfolding binner_plan
at_bin_packet lists free words idle = ap (λ work. binner_by lists work free words) idle

pub bin_step : (jobs : List Rights) (m : List ℕ) (u : Units) (j : ℕ) (lists : Lists) → IsAtBinPacket m u j lists → Safe ready turn jobs m u
    → Every (IsSafeAccess jobs) (outcome_of (binner_of j) (read_plan lists) m).accesses
unfolding turn ready is_enabled
bin_step jobs m u j lists at safe =
    let e : Event = record { unit = TheBinner; words = [] } in
    let is : (outcome_of (turn u e).who (turn u e).plan m).accesses ≡ (outcome_of (binner_of j) (read_plan lists) m).accesses =
    rw at.job_is (mapped_accesses (with_lists u j) (binner_of j) (binner_plan lists (free_in u.qpus) []) m
    ∙ ap (λ plan. (outcome_of (binner_of j) plan m).accesses) (at_bin_packet lists (free_in u.qpus) [] at.idle)
    ∙ mapped_accesses quiet (binner_of j) (read_plan lists) m) in
    subst (Every (IsSafeAccess jobs)) is (first_step jobs m u e at.may safe)

pub bin_lists_past_law : BinListsPastAreUnsafe
unfolding read_plan bytes_at
bin_lists_past_law jobs m u j lists at past safe = past (bin_step jobs m u j lists at safe).0.inside

-- the renderer at a packet
at_render_packet : (lists : Lists) (free : Free) (words : List ℕ) → lists.renderer.inside ≡ None → renderer_plan lists free words ≡ plan_mapped quiet (render_packet_plan lists words)
unfolding renderer_plan
at_render_packet lists free words outside = ap (λ inside. plan_in lists free words inside) outside

pub render_step : (jobs : List Rights) (m : List ℕ) (u : Units) (j : ℕ) (lists : Lists) → IsAtRenderPacket m u j lists → Safe ready turn jobs m u
    → Every (IsSafeAccess jobs) (outcome_of (renderer_of j) (render_packet_plan lists []) m).accesses
unfolding turn ready is_enabled
render_step jobs m u j lists at safe =
    let e : Event = record { unit = TheRenderer; words = [] } in
    let is : (outcome_of (turn u e).who (turn u e).plan m).accesses ≡ (outcome_of (renderer_of j) (render_packet_plan lists []) m).accesses =
    rw at.job_is (mapped_accesses (with_lists u j) (renderer_of j) (renderer_plan lists (free_in u.qpus) []) m
    ∙ ap (λ plan. (outcome_of (renderer_of j) plan m).accesses) (at_render_packet lists (free_in u.qpus) [] at.outside)
    ∙ mapped_accesses quiet (renderer_of j) (render_packet_plan lists []) m) in
    subst (Every (IsSafeAccess jobs)) is (first_step jobs m u e at.may safe)

pub render_lists_past_law : RenderListsPastAreUnsafe
unfolding render_packet_plan bytes_at
render_lists_past_law jobs m u j lists at past safe = past (render_step jobs m u j lists at safe).0.inside

-- bytes that are no packet
acted_stray : (jobs : List Rights) (who : Who) (m : List ℕ) (s : Lists) (packet : Option Packet) → packet ≡ None → Every (IsSafeAccess jobs) (outcome_of who (plan_of_packet s [] packet) m).accesses → ⊥
acted_stray jobs who m s None none all = all.0.tame refl
acted_stray jobs who m s (Some packet) none all = absurd cc

pub stray_render_law : StrayRenderPacketsAreUnsafe
unfolding render_packet_plan bytes_at
stray_render_law jobs m u j lists at stray safe =
    let len : ℕ = render_taken (slice_index m lists.renderer.place) in
    acted_stray jobs (renderer_of j) m (beyond lists len) (packet_decoded (bytes_at m lists.renderer.place len)) stray (render_step jobs m u j lists at safe).1

-- a byte that begins no packet
pub opcode_is : (m : List ℕ) (place : ℕ) → slice_index (bytes_at m place (bin_taken (slice_index m place))) 0 ≡ slice_index m place
opcode_is m place = first_byte m place (bin_taken (slice_index m place)) (taken_some (slice_index m place))

is_own : (opcode : ℕ) → opcode ≡ buffer_handles → is_unknown opcode ≡ true
unfolding is_unknown bin_length
is_own opcode own = subst (λ o. is_unknown o ≡ true) (sym own) refl

unknown : (opcode : ℕ) → (bin_length opcode ≡ 0) ⊎ (opcode ≡ buffer_handles) → is_unknown opcode ≡ true
unfolding is_unknown
unknown opcode (inl none) = rw none refl
unknown opcode (inr own) = is_own opcode own

pub wild_where : {R : Type 0} (jobs : List Rights) (who : Who) (m : List ℕ) (wild : Bool) (plan : Plan R) → wild ≡ true → Every (IsSafeAccess jobs) (outcome_of who (if wild then Wilds else plan) m).accesses → ⊥
wild_where jobs who m true plan is all = all.0.tame refl
wild_where jobs who m false plan is all = absurd cc

packet_stray : (jobs : List Rights) (who : Who) (m : List ℕ) (s : Lists) (packet : List ℕ) → is_unknown (slice_index packet 0) ≡ true
    → Every (IsSafeAccess jobs) (outcome_of who (bin_packet_plan s packet) m).accesses → ⊥
unfolding bin_packet_plan
packet_stray jobs who m s packet is all = wild_where jobs who m (is_unknown (slice_index packet 0)) _ is all

pub stray_bin_law : StrayBinPacketsAreUnsafe
unfolding read_plan bytes_at
stray_bin_law jobs m u j lists at stray safe =
    let opcode : ℕ = slice_index m lists.binner.place in
    let packet : List ℕ = bytes_at m lists.binner.place (bin_taken opcode) in
    let is : is_unknown (slice_index packet 0) ≡ true = ap is_unknown (opcode_is m lists.binner.place) ∙ unknown opcode stray in
    packet_stray jobs (binner_of j) m (past lists (bin_taken opcode)) packet is (bin_step jobs m u j lists at safe).1

-- a list that isn't empty has its place below its end
below : (place len : ℕ) → 0 < len → nat_lt place (place + len) ≡ true
below place len some = grind (arith, nat_tests)

-- the binner of the first job isn't held
not_ahead : (renderer : Option (Picked Lists)) → is_ahead 0 renderer ≡ false
not_ahead None = refl
not_ahead (Some one) = grind (arith, nat_tests)

bin_begins : (m : List ℕ) (start : Start) (others : List Start) → 0 < start.bin_len → IsAtBinPacket m (units_start (start ∷ others)) 0 (job_start start)
unfolding is_enabled binner_ready
bin_begins m start others some =
    let u : Units = units_start (start ∷ others) in
    let first : binner_job u ≡ Some (record { number = 0; item = job_start start }) = rw (below start.bin_place start.bin_len some) refl in
    record { job_is = first; may = rw (first, not_ahead (renderer_job u), below start.bin_place start.bin_len some) refl; idle = refl }

-- what is no packet is no wait
wait_named : (opcode : ℕ) (bytes : List ℕ) → opcode ≡ wait_on_semaphore → packet_named opcode bytes ≡ None → ⊥
wait_named opcode bytes is none = absurd cc

wait_decoded : (m : List ℕ) (place : ℕ) → slice_index m place ≡ wait_on_semaphore → IsStrayRender m place → ⊥
unfolding packet_decoded bytes_at render_taken
wait_decoded m place is stray =
    wait_named (slice_index m place) (bytes_at m place 1) is (subst (λ o. packet_decoded (bytes_at m place (render_taken o)) ≡ None) is stray)

no_wait : (m : List ℕ) (place : ℕ) → IsStrayRender m place → (slice_index m place == wait_on_semaphore) ≡ false
no_wait m place stray =
    let apart : slice_index m place ≡ wait_on_semaphore → ⊥ = λ is. wait_decoded m place is stray in
    grind (arith, nat_tests, apart)

render_begins : (m : List ℕ) (start : Start) (others : List Start) → 0 < start.render_len → IsStrayRender m start.render_place
    → IsAtRenderPacket m (units_start (start ∷ others)) 0 (job_start start)
unfolding is_enabled renderer_ready may_pass bytes_at
render_begins m start others some stray =
    let u : Units = units_start (start ∷ others) in
    let first : renderer_job u ≡ Some (record { number = 0; item = job_start start }) = rw (below start.render_place start.render_len some) refl in
    record { job_is = first; may = rw (first, below start.render_place start.render_len some, no_wait m start.render_place stray) refl; outside = refl }

pub stray_starts_law : StrayStartsAreUnsafe
stray_starts_law jobs memory start others (inl bin) safe =
    stray_bin_law jobs memory (units_start (start ∷ others)) 0 (job_start start) (bin_begins memory start others bin.0) bin.1 safe
stray_starts_law jobs memory start others (inr render) safe =
    stray_render_law jobs memory (units_start (start ∷ others)) 0 (job_start start) (render_begins memory start others render.0 render.1) render.1 safe

-- the job of a unit may write these bytes
abbrev MayWrite : List Rights → Who → ℕ → ℕ → Type 0
MayWrite jobs who place len = Inside (rights_of jobs who.job).writable place len

-- all that the plan does is safe
abbrev pub AllSafe : {R : Type 0} → List Rights → Who → List ℕ → Plan R → Type 0
AllSafe jobs who m plan = Every (IsSafeAccess jobs) (outcome_of who plan m).accesses

zeros_long : (n : ℕ) → length (zeros n) ≡ n
zeros_long n = length-replicate {A = ℕ} n 0

-- the packet that starts binning
pub start_plan : (s : Lists) (packet : List ℕ) → slice_index packet 0 ≡ start_tile_binning → bin_packet_plan s packet ≡ begin_plan s s.binner.kept.config
unfolding bin_packet_plan is_unknown bin_length
start_plan s packet is = rw is refl

states_cleared : (jobs : List Rights) (who : Who) (m : List ℕ) (s : Lists) (kept : Option Config) (config : Config) → kept ≡ Some config → AllSafe jobs who m (begin_plan s kept)
    → MayWrite jobs who config.states (48 * tiles_of config)
unfolding clear_plan
states_cleared jobs who m s kept config is all =
    let cleared : AllSafe jobs who m (begin_plan s (Some config)) = subst (λ k. AllSafe jobs who m (begin_plan s k)) is all in
    subst (MayWrite jobs who config.states) (zeros_long (48 * tiles_of config)) (cleared.0.writes refl)

pub states_past_law : StatesPastAreUnsafe
unfolding read_plan bytes_at
states_past_law jobs m u j lists config at past_it safe =
    let len : ℕ = bin_taken (slice_index m lists.binner.place) in
    let packet : List ℕ = bytes_at m lists.binner.place len in
    let is : slice_index packet 0 ≡ start_tile_binning = opcode_is m lists.binner.place ∙ at.opcode_is in
    let all : AllSafe jobs (binner_of j) m (bin_packet_plan (past lists len) packet) = (bin_step jobs m u j lists at.at safe).1 in
    past_it (states_cleared jobs (binner_of j) m (past lists len) lists.binner.kept.config config at.config_is (subst (AllSafe jobs (binner_of j) m) (start_plan (past lists len) packet is) all))

-- the binner at an item
done_is : (w : Work) → w.primitive.length ≤ w.done → nat_lt w.done w.primitive.length ≡ false
done_is w done = grind (arith, nat_tests)

at_item : (s : Lists) (free : Free) (words : List ℕ) (w : Work) (config : Config) → s.binner.work ≡ Some w → w.due ≡ false → w.primitive.length ≤ w.done → s.binner.kept.config ≡ Some config
    → binner_plan s free words ≡ plan_mapped quiet (tile_plan s config w (chosen_tile config words))
unfolding binner_plan work_plan
at_item s free words w config work_is rested done config_is = rw (work_is, rested, done_is w done, config_is) refl

item_step : (jobs : List Rights) (m : List ℕ) (u : Units) (j : ℕ) (lists : Lists) (config : Config) (words : List ℕ) (at : IsAtItem m u j lists config) → Safe ready turn jobs m u
    → AllSafe jobs (binner_of j) m (tile_plan lists config at.work (chosen_tile config words))
unfolding turn ready is_enabled
item_step jobs m u j lists config words at safe =
    let e : Event = record { unit = TheBinner; words = words } in
    let plan : Plan Lists = tile_plan lists config at.work (chosen_tile config words) in
    let is : (outcome_of (turn u e).who (turn u e).plan m).accesses ≡ (outcome_of (binner_of j) plan m).accesses =
    rw at.job_is (mapped_accesses (with_lists u j) (binner_of j) (binner_plan lists (free_in u.qpus) words) m
    ∙ ap (λ plan. (outcome_of (binner_of j) plan m).accesses) (at_item lists (free_in u.qpus) words at.work config at.work_is at.none_due at.fetched at.config_is)
    ∙ mapped_accesses quiet (binner_of j) plan m) in
    subst (Every (IsSafeAccess jobs)) is (first_step jobs m u e at.may safe)

tile_put : (s : Lists) (config : Config) (w : Work) (tile : ℕ) → tile < tiles_of config → tile_plan s config w tile ≡ put_plan s config w tile (spot_of tile s.items)
unfolding tile_plan
tile_put s config w tile below =
    let other : (tile == tiles_of config) ≡ false = grind (arith, nat_tests, below) in
    rw other refl

here_put : (jobs : List Rights) (who : Who) (m : List ℕ) (s : Lists) (w : Work) (tile place : ℕ) → AllSafe jobs who m (put_here s w tile place) → MayWrite jobs who place 16
unfolding put_here
here_put jobs who m s w tile place all = subst (MayWrite jobs who place) (zeros_long 16) (all.0.writes refl)

put_by : (jobs : List Rights) (who : Who) (m : List ℕ) (s : Lists) (config : Config) (w : Work) (tile place : ℕ) (full : Bool) → PutsBy full s config tile place
    → AllSafe jobs who m (if full then Writes (link_place (spot_of tile s.items)) (zeros 16) (put_here (with_block s) w tile (block_place config s.blocks)) else put_here s w tile (next_place config tile (spot_of tile s.items)))
    → MayWrite jobs who place 16
put_by jobs who m s config w tile place true (inl link) all =
    let linked : MayWrite jobs who (link_place (spot_of tile s.items)) 16 = subst (MayWrite jobs who (link_place (spot_of tile s.items))) (zeros_long 16) (all.0.writes refl) in
    subst (λ p. MayWrite jobs who p 16) (sym link) linked
put_by jobs who m s config w tile place true (inr block) all =
    subst (λ p. MayWrite jobs who p 16) (sym block) (here_put jobs who (bytes_stored m (link_place (spot_of tile s.items)) (zeros 16)) (with_block s) w tile (block_place config s.blocks) all.1)
put_by jobs who m s config w tile place false next all =
    subst (λ p. MayWrite jobs who p 16) (sym next) (here_put jobs who m s w tile (next_place config tile (spot_of tile s.items)) all)

item_put : (jobs : List Rights) (who : Who) (m : List ℕ) (s : Lists) (config : Config) (w : Work) (tile place : ℕ) → Puts s config tile place
    → AllSafe jobs who m (put_plan s config w tile (spot_of tile s.items)) → MayWrite jobs who place 16
unfolding put_plan
item_put jobs who m s config w tile place puts all = put_by jobs who m s config w tile place (is_full (spot_of tile s.items)) puts all

pub items_past_law : ItemsPastAreUnsafe
items_past_law jobs m u j lists config at words below place puts past_it safe =
    let tile : ℕ = chosen_tile config words in
    let all = subst (AllSafe jobs (binner_of j) m) (tile_put lists config at.work tile below) (item_step jobs m u j lists config words at safe) in
    past_it (item_put jobs (binner_of j) m lists config at.work tile place puts all)

-- one part of a store
part_written : {R : Type 0} (jobs : List Rights) (who : Who) (m : List ℕ) (c : Cover) (words : List ℕ) (next : Plan R) (i n k number : ℕ) → number ≡ i + k → k < n
    → AllSafe jobs who m (parts_written c words i n next) → MayWrite jobs who (part_place c number) c.size
unfolding parts_written
part_written jobs who m c words next i zero k number is below all = absurd (omega (arith, below))
part_written jobs who m c words next i (suc n) zero number is below all =
    let here : i ≡ number = omega (arith, is) in
    subst (λ p. MayWrite jobs who (part_place c p) c.size) here (subst (MayWrite jobs who (part_place c i)) (chosen_size words (i * c.size) c.size) (all.0.writes refl))
part_written jobs who m c words next i (suc n) (suc k) number is below all =
    part_written jobs who (bytes_stored m (part_place c i) (bytes_chosen words (i * c.size) c.size)) c words next (suc i) n k number (omega (arith, is)) (omega (arith, below)) all.1

cover_stored : {R : Type 0} (jobs : List Rights) (who : Who) (m : List ℕ) (cover : Option Cover) (words : List ℕ) (next : Plan R) (place len : ℕ) → IsPart cover place len
    → AllSafe jobs who m (cover_written cover words next) → MayWrite jobs who place len
unfolding cover_written
cover_stored {R = R} jobs who m cover words next place len part all =
    let c : Cover = part.whole in
    let whole : AllSafe jobs who m (cover_written (Some c) words next) = subst (λ k. AllSafe jobs who m (cover_written k words next)) part.cover_is all in
    let may : MayWrite jobs who (part_place c part.number) c.size = part_written jobs who m c words next 0 (part_count c) part.number part.number (omega arith) part.number_is whole in
    rw (part.place_is, part.len_is) may

frame_stored : {R : Type 0} (jobs : List Rights) (who : Who) (m : List ℕ) (frame : Option Frame) (x y : ℕ) (words : List ℕ) (next : Plan R) (place len : ℕ) → StoresFrame frame x y place len
    → AllSafe jobs who m (frame_written frame x y words next) → MayWrite jobs who place len
unfolding frame_written
frame_stored jobs who m None x y words next place len stores all = absurd stores
frame_stored jobs who m (Some frame) x y words next place len stores all = cover_stored jobs who m _ words next place len stores all

general_stored : {R : Type 0} (jobs : List Rights) (who : Who) (m : List ℕ) (bits address : ℕ) (frame : Option Frame) (x y : ℕ) (words : List ℕ) (next : Plan R) (place len : ℕ) → names_none bits ≡ false
    → IsPart (cover_for (general_style bits) frame (aligned_address address) x y) place len → AllSafe jobs who m (general_written bits address frame x y words next) → MayWrite jobs who place len
unfolding general_written
general_stored {R = R} jobs who m bits address frame x y words next place len names part all =
    let cover : Option Cover = cover_for (general_style bits) frame (aligned_address address) x y in
    let some : AllSafe jobs who m (cover_written cover words next) = subst (λ b. AllSafe jobs who m (if b then next else cover_written cover words next)) names all in
    cover_stored jobs who m cover words next place len part some

whole_stored : {R : Type 0} (jobs : List Rights) (who : Who) (m : List ℕ) (address : ℕ) (words : List ℕ) (next : Plan R) → AllSafe jobs who m (whole_written address words next)
    → MayWrite jobs who (aligned_address address) whole_size
unfolding whole_written
whole_stored jobs who m address words next all = subst (MayWrite jobs who (aligned_address address)) (chosen_size words 0 whole_size) (all.0.writes refl)

-- the packet of a store, with the renderer past it
packet_stored : (jobs : List Rights) (who : Who) (m : List ℕ) (s : Lists) (past_len : ℕ) (packet : Packet) (place len : ℕ) → Stores s packet place len
    → AllSafe jobs who m (act (beyond s past_len) [] packet) → MayWrite jobs who place len
packet_stored jobs who m s past_len StoreTileColor place len stores all = frame_stored jobs who m s.renderer.frame s.renderer.x s.renderer.y [] _ place len stores all
packet_stored jobs who m s past_len StoreTileColorAndEnd place len stores all = frame_stored jobs who m s.renderer.frame s.renderer.x s.renderer.y [] _ place len stores all
packet_stored jobs who m s past_len (StoreFullResolution address) place len stores all = rw (stores.0, stores.1) (whole_stored jobs who m address [] _ all)
packet_stored jobs who m s past_len (StoreTileBuffer bits address) place len stores all = general_stored jobs who m bits address s.renderer.frame s.renderer.x s.renderer.y [] _ place len stores.0 stores.1 all
packet_stored jobs who m s past_len WaitOnSemaphore place len stores all = absurd stores
packet_stored jobs who m s past_len (BranchToSubList address) place len stores all = absurd stores
packet_stored jobs who m s past_len (LoadFullResolution address) place len stores all = absurd stores
packet_stored jobs who m s past_len (LoadTileBuffer bits address) place len stores all = absurd stores
packet_stored jobs who m s past_len (TileRenderingMode address width height bits) place len stores all = absurd stores
packet_stored jobs who m s past_len (ClearColors first second z stencil) place len stores all = absurd stores
packet_stored jobs who m s past_len (TileCoordinates x y) place len stores all = absurd stores

pub stores_past_law : StoresPastAreUnsafe
unfolding render_packet_plan bytes_at
stores_past_law jobs m u j lists packet at place len stores past_it safe =
    let past_len : ℕ = render_taken (slice_index m lists.renderer.place) in
    let all : AllSafe jobs (renderer_of j) m (plan_of_packet (beyond lists past_len) [] (packet_decoded (bytes_at m lists.renderer.place past_len))) = (render_step jobs m u j lists at.at safe).1 in
    past_it (packet_stored jobs (renderer_of j) m lists past_len packet place len stores (subst (λ p. AllSafe jobs (renderer_of j) m (plan_of_packet (beyond lists past_len) [] p)) at.packet_is all))
