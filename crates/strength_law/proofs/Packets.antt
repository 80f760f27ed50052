-- A machine that is to read a packet that is undefined where it stands, or to load outside, is not safe.
use Rattle.std.proofs.Common.{◌≡◌, ◌<◌, ◌⊎◌, inl, inr, ℕ, zero, suc, ◌+◌, Bool, true, false, List, [], slice_index, Some, None, refl, sym, ap, subst, ◌∙◌, arith}
use Rattle.std.specs.Prelude.{Option, if◌then◌else◌}
use Rattle.packets.specs.declared.packet.Packet.TheVariants.{WaitOnSemaphore, BranchToSubList, StoreTileColor, StoreTileColorAndEnd, StoreFullResolution, LoadFullResolution, StoreTileBuffer, LoadTileBuffer, TileRenderingMode, ClearColors, TileCoordinates}
use Rattle.packets.specs.{declared.packet.Packet.Packet, Length.bin_length, Length.bin_taken, Length.render_taken}
use Rattle.machine_plan.specs.{declared.who.Who.Who, Memory.bytes_at, Plan.Plan, Plan.Wilds, Regions.Rights, World.Safe}
use Rattle.list_machine.specs.Binner.{is_unknown, packet_plan as bin_packet_plan, read_plan, begin_plan, plan_of_draw, draw_plan}
use Rattle.list_machine.specs.Renderer.{beyond, plan_of_packet, act, packet_plan as render_packet_plan, wait_plan, tile_by, enter_plan, branch_plan, tile_plan}
use Rattle.list_machine.specs.Surfaces.{names_none, whole_read, cover_written, cover_read, frame_written, general_written, general_read, waiting_read}
use Rattle.list_machine.specs.{declared.state.Frame.Frame, declared.state.Load.Load, declared.surface.Cover.Cover}
use Rattle.list_machine.specs.declared.state.Load.TheVariants.{Full, General}
use Rattle.list_machine.specs.Cover.{part_count, part_place, parts_read}
use Rattle.list_machine.specs.Lists.{Lists, past, binner_of, renderer_of}
use Rattle.machine.specs.{State.Units, Step.ready, Step.turn}
use Rattle.job_safety.specs.Strength.{IsAtBinPacket, IsAtPacket, IsPart}
use Rattle.job_safety.proofs.Packets.{AllSafe, bin_step, render_step, opcode_is, start_plan}
use Rattle.strength_law.specs.Packets.{BinningsBlindAreUnsafe, IsPrimitive, PrimitivesEarlyAreUnsafe, IsRefusedPacket, BranchesNowhere, LoadsTwice, frame_cover, general_cover, StoresNothing, WaitsForNothing, LoadsNothing, LoadsAt, LoadsPastAreUnsafe}
use Rattle.strength_law.proofs.Vertices.{MayReach}

-- no plan is safe that is undefined
wild_is : {R : Type 0} (jobs : List Rights) (who : Who) (m : List ℕ) (plan : Plan R) → plan ≡ Wilds → AllSafe jobs who m plan → ⊥
wild_is jobs who m plan is all = (subst (AllSafe jobs who m) is all).0.tame refl

-- the binner past the packet at its place
packet_step : (jobs : List Rights) (m : List ℕ) (u : Units) (j : ℕ) (lists : Lists) → IsAtBinPacket m u j lists → Safe ready turn jobs m u
    → AllSafe jobs (binner_of j) m (bin_packet_plan (past lists (bin_taken (slice_index m lists.binner.place))) (bytes_at m lists.binner.place (bin_taken (slice_index m lists.binner.place))))
unfolding read_plan bytes_at
packet_step jobs m u j lists at safe = (bin_step jobs m u j lists at safe).1

pub binnings_blind_law : BinningsBlindAreUnsafe
binnings_blind_law jobs m u j lists at opcode none safe =
    let len : ℕ = bin_taken (slice_index m lists.binner.place) in
    let s : Lists = past lists len in
    let packet : List ℕ = bytes_at m lists.binner.place len in
    let plan : bin_packet_plan s packet ≡ Wilds = start_plan s packet (opcode_is m lists.binner.place ∙ opcode) ∙ ap (begin_plan s) none in
    wild_is jobs (binner_of j) m (bin_packet_plan s packet) plan (packet_step jobs m u j lists at safe)

-- a primitive
primitive_plan : (s : Lists) (packet : List ℕ) → IsPrimitive (slice_index packet 0) → bin_packet_plan s packet ≡ draw_plan s packet
unfolding bin_packet_plan is_unknown bin_length
primitive_plan s packet (inl is) = rw is refl
primitive_plan s packet (inr is) = rw is refl

-- a plan that is undefined in both cases
wild_either : {R : Type 0} (first : Bool) (plan : Plan R) → plan ≡ Wilds → (if first then plan else Wilds) ≡ Wilds
wild_either true plan same = same
wild_either false plan same = refl

early_plan : (s : Lists) (packet : List ℕ) → (s.binner.kept.started ≡ false) ⊎ (s.binner.kept.word ≡ None) → draw_plan s packet ≡ Wilds
unfolding draw_plan
early_plan s packet (inl is) = rw is refl
early_plan s packet (inr is) = wild_either s.binner.kept.started (plan_of_draw s s.binner.kept.word packet) (ap (λ word. plan_of_draw s word packet) is)

pub primitives_early_law : PrimitivesEarlyAreUnsafe
primitives_early_law jobs m u j lists at opcode early safe =
    let len : ℕ = bin_taken (slice_index m lists.binner.place) in
    let s : Lists = past lists len in
    let packet : List ℕ = bytes_at m lists.binner.place len in
    let named : IsPrimitive (slice_index packet 0) = subst IsPrimitive (sym (opcode_is m lists.binner.place)) opcode in
    wild_is jobs (binner_of j) m (bin_packet_plan s packet) (primitive_plan s packet named ∙ early_plan s packet early) (packet_step jobs m u j lists at safe)

-- the renderer at this packet
act_step : (jobs : List Rights) (m : List ℕ) (u : Units) (j : ℕ) (lists : Lists) (packet : Packet) → IsAtPacket m u j lists packet → Safe ready turn jobs m u
    → AllSafe jobs (renderer_of j) m (act (beyond lists (render_taken (slice_index m lists.renderer.place))) [] packet)
unfolding render_packet_plan bytes_at
act_step jobs m u j lists packet at safe =
    let s : Lists = beyond lists (render_taken (slice_index m lists.renderer.place)) in
    subst (λ p. AllSafe jobs (renderer_of j) m (plan_of_packet s [] p)) at.packet_is (render_step jobs m u j lists at.at safe).1

refused_where : (Undefined : Lists → Packet → Type 0) → ((lists : Lists) (packet : Packet) → Undefined lists packet → (len : ℕ) → act (beyond lists len) [] packet ≡ Wilds) → IsRefusedPacket Undefined
refused_where Undefined wild jobs m u j lists packet at is safe =
    let len : ℕ = render_taken (slice_index m lists.renderer.place) in
    wild_is jobs (renderer_of j) m (act (beyond lists len) [] packet) (wild lists packet is len) (act_step jobs m u j lists packet at safe)

-- branches
unclosed : (s : Lists) (address : ℕ) → (s.closed ≡ false) ⊎ (tile_by s.binner.kept.config address ≡ None) → branch_plan s address ≡ Wilds
unfolding branch_plan
unclosed s address (inl is) = rw is refl
unclosed s address (inr is) = wild_either s.closed (enter_plan s (tile_by s.binner.kept.config address)) (ap (enter_plan s) is)

branches_wild : (lists : Lists) (packet : Packet) → BranchesNowhere lists packet → (len : ℕ) → act (beyond lists len) [] packet ≡ Wilds
branches_wild lists (BranchToSubList address) is len = unclosed (beyond lists len) address is
branches_wild lists WaitOnSemaphore is len = absurd is
branches_wild lists StoreTileColor is len = absurd is
branches_wild lists StoreTileColorAndEnd is len = absurd is
branches_wild lists (StoreFullResolution address) is len = absurd is
branches_wild lists (LoadFullResolution address) is len = absurd is
branches_wild lists (StoreTileBuffer bits address) is len = absurd is
branches_wild lists (LoadTileBuffer bits address) is len = absurd is
branches_wild lists (TileRenderingMode address width height bits) is len = absurd is
branches_wild lists (ClearColors first second z stencil) is len = absurd is
branches_wild lists (TileCoordinates x y) is len = absurd is

pub branches_law : IsRefusedPacket BranchesNowhere
branches_law = refused_where BranchesNowhere branches_wild

-- a load where one waits
waits_wild : (lists : Lists) (packet : Packet) → LoadsTwice lists packet → (len : ℕ) → act (beyond lists len) [] packet ≡ Wilds
waits_wild lists (LoadFullResolution address) is len = ap (λ waiting. wait_plan (beyond lists len) waiting (Full address)) is.waiting_is
waits_wild lists (LoadTileBuffer bits address) is len = ap (λ waiting. wait_plan (beyond lists len) waiting (General bits address)) is.waiting_is
waits_wild lists (BranchToSubList address) is len = absurd is.load
waits_wild lists WaitOnSemaphore is len = absurd is.load
waits_wild lists StoreTileColor is len = absurd is.load
waits_wild lists StoreTileColorAndEnd is len = absurd is.load
waits_wild lists (StoreFullResolution address) is len = absurd is.load
waits_wild lists (StoreTileBuffer bits address) is len = absurd is.load
waits_wild lists (TileRenderingMode address width height bits) is len = absurd is.load
waits_wild lists (ClearColors first second z stencil) is len = absurd is.load
waits_wild lists (TileCoordinates x y) is len = absurd is.load

pub second_loads_law : IsRefusedPacket LoadsTwice
second_loads_law = refused_where LoadsTwice waits_wild

-- stores of no surface
frame_wild : {R : Type 0} (frame : Option Frame) (x y : ℕ) (words : List ℕ) (next : Plan R) → frame_cover frame x y ≡ None → frame_written frame x y words next ≡ Wilds
unfolding frame_written cover_written
frame_wild None x y words next is = refl
frame_wild (Some frame) x y words next is = ap (λ cover. cover_written cover words next) is

general_store_wild : {R : Type 0} (bits address : ℕ) (frame : Option Frame) (x y : ℕ) (words : List ℕ) (next : Plan R) → names_none bits ≡ false → general_cover bits address frame x y ≡ None
    → general_written bits address frame x y words next ≡ Wilds
unfolding general_written cover_written
general_store_wild bits address frame x y words next names is = rw names (ap (λ cover. cover_written cover words next) is)

stores_wild : (lists : Lists) (packet : Packet) → StoresNothing lists packet → (len : ℕ) → act (beyond lists len) [] packet ≡ Wilds
stores_wild lists StoreTileColor is len = frame_wild lists.renderer.frame lists.renderer.x lists.renderer.y [] _ is
stores_wild lists StoreTileColorAndEnd is len = frame_wild lists.renderer.frame lists.renderer.x lists.renderer.y [] _ is
stores_wild lists (StoreTileBuffer bits address) is len = general_store_wild bits address lists.renderer.frame lists.renderer.x lists.renderer.y [] _ is.0 is.1
stores_wild lists (BranchToSubList address) is len = absurd is
stores_wild lists WaitOnSemaphore is len = absurd is
stores_wild lists (StoreFullResolution address) is len = absurd is
stores_wild lists (LoadFullResolution address) is len = absurd is
stores_wild lists (LoadTileBuffer bits address) is len = absurd is
stores_wild lists (TileRenderingMode address width height bits) is len = absurd is
stores_wild lists (ClearColors first second z stencil) is len = absurd is
stores_wild lists (TileCoordinates x y) is len = absurd is

pub stores_nothing_law : IsRefusedPacket StoresNothing
stores_nothing_law = refused_where StoresNothing stores_wild

-- loads of no surface
general_load_wild : {R : Type 0} (bits address : ℕ) (frame : Option Frame) (x y : ℕ) (next : Plan R) → names_none bits ≡ false → general_cover bits address frame x y ≡ None
    → general_read bits address frame x y next ≡ Wilds
unfolding general_read cover_read
general_load_wild bits address frame x y next names is = rw names (ap (λ cover. cover_read cover next) is)

waiting_wild : {R : Type 0} (waiting : Option Load) (frame : Option Frame) (x y : ℕ) (next : Plan R) → WaitsForNothing waiting frame x y → waiting_read waiting frame x y next ≡ Wilds
waiting_wild None frame x y next is = absurd is
waiting_wild (Some (Full address)) frame x y next is = absurd is
waiting_wild (Some (General bits address)) frame x y next is = general_load_wild bits address frame x y next is.0 is.1

loads_wild : (lists : Lists) (packet : Packet) → LoadsNothing lists packet → (len : ℕ) → act (beyond lists len) [] packet ≡ Wilds
unfolding tile_plan
loads_wild lists (TileCoordinates x y) is len = waiting_wild lists.renderer.waiting lists.renderer.frame x y _ is
loads_wild lists (BranchToSubList address) is len = absurd is
loads_wild lists WaitOnSemaphore is len = absurd is
loads_wild lists StoreTileColor is len = absurd is
loads_wild lists StoreTileColorAndEnd is len = absurd is
loads_wild lists (StoreFullResolution address) is len = absurd is
loads_wild lists (LoadFullResolution address) is len = absurd is
loads_wild lists (StoreTileBuffer bits address) is len = absurd is
loads_wild lists (LoadTileBuffer bits address) is len = absurd is
loads_wild lists (TileRenderingMode address width height bits) is len = absurd is
loads_wild lists (ClearColors first second z stencil) is len = absurd is

pub loads_nothing_law : IsRefusedPacket LoadsNothing
loads_nothing_law = refused_where LoadsNothing loads_wild

-- loads outside
part_read : {R : Type 0} (jobs : List Rights) (who : Who) (m : List ℕ) (c : Cover) (next : Plan R) (i n k number : ℕ) → i + k ≡ number → k < n → AllSafe jobs who m (parts_read c i n next)
    → MayReach jobs who (part_place c number) c.size
unfolding parts_read
part_read jobs who m c next i zero k number is below all = absurd (omega (arith, below))
part_read jobs who m c next i (suc n) zero number is below all =
    let here : i ≡ number = omega (arith, is) in
    subst (λ p. MayReach jobs who (part_place c p) c.size) here all.0.inside
part_read jobs who m c next i (suc n) (suc k) number is below all =
    part_read jobs who m c next (suc i) n k number (omega (arith, is)) (omega (arith, below)) all.1

cover_loaded : {R : Type 0} (jobs : List Rights) (who : Who) (m : List ℕ) (cover : Option Cover) (next : Plan R) (place len : ℕ) → IsPart cover place len
    → AllSafe jobs who m (cover_read cover next) → MayReach jobs who place len
unfolding cover_read
cover_loaded {R = R} jobs who m cover next place len part all =
    let c : Cover = part.whole in
    let whole : AllSafe jobs who m (cover_read (Some c) next) = subst (λ k. AllSafe jobs who m (cover_read k next)) part.cover_is all in
    let may : MayReach jobs who (part_place c part.number) c.size = part_read jobs who m c next 0 (part_count c) part.number part.number (omega arith) part.number_is whole in
    rw (part.place_is, part.len_is) may

loaded : {R : Type 0} (jobs : List Rights) (who : Who) (m : List ℕ) (waiting : Option Load) (frame : Option Frame) (x y : ℕ) (next : Plan R) (place len : ℕ) → LoadsAt waiting frame x y place len
    → AllSafe jobs who m (waiting_read waiting frame x y next) → MayReach jobs who place len
unfolding whole_read general_read
loaded jobs who m None frame x y next place len loads all = absurd loads
loaded jobs who m (Some (Full address)) frame x y next place len loads all = rw (loads.0, loads.1) all.0.inside
loaded jobs who m (Some (General bits address)) frame x y next place len loads all =
    cover_loaded jobs who m (general_cover bits address frame x y) next place len loads.1
    (subst (λ b. AllSafe jobs who m (if b then next else cover_read (general_cover bits address frame x y) next)) loads.0 all)

pub loads_past_law : LoadsPastAreUnsafe
unfolding tile_plan
loads_past_law jobs m u j lists x y at place len loads past_it safe =
    past_it (loaded jobs (renderer_of j) m lists.renderer.waiting lists.renderer.frame x y _ place len loads (act_step jobs m u j lists (TileCoordinates x y) at safe))
