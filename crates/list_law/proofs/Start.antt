-- All stands at the start.
use Rattle.std.proofs.Common.{◌≡◌, ◌⊎◌, ℕ, zero, suc, ◌+◌, Bool, List, [], ◌∷◌, ◌++◌, length, Option, Some, None, if◌then◌else◌, bit_or, arith, rules}
use Rattle.std.proofs.{lemmas.Bool.false≢true, Common.◌&&◌}
use Rattle.field_words.specs.Pieces.{joined_texts}
use Rattle.job_format.specs.declared.file.Frame.{Frame as JobFrame}
use Rattle.packets.specs.declared.packet.Packet.TheVariants.{StoreTileColor, StoreTileColorAndEnd, LoadFullResolution, LoadTileBuffer, TileCoordinates}
use Rattle.packets.specs.declared.{packet.Packet.Packet, config.Config.Config}
use Rattle.packets.specs.{Opcode.indexed_primitive_list, Opcode.array_primitive_list, Packet.slots_text}
use Rattle.bin_list.specs.Packets.{opcode}
use Rattle.machine_plan.specs.{declared.launch.Launch.Launch, Regions.Rights}
use Rattle.bin_walks.specs.Walks.{Kept as Passed, kept_after, Drawing, Tame, Walks}
use Rattle.render_list.specs.Text.{packet_where, head_packet, clear_packet, clear_slots, front_slots, load_packet, load_slot, wait_slot, list_slot, full_store, full_store_slot, zs_store, zs_store_slot, color_store, color_store_slot, load_slots, list_slots, write_slots, tile_slots, span_slots, render_slots}
use Rattle.render_list.specs.Text.{is_there, more_after_multisample_color, more_after_multisample_zs, some_before_zs, some_before_color}
use Rattle.render_list.specs.Frame.{place_at}
use Rattle.render_walks.specs.Walks.{View, pass, IsDoneAt, Tame as Harmless, WalksTo}
use Rattle.list_machine.specs.{declared.state.Frame.Frame, Lists.lists_start}
use Rattle.list_law.specs.{Binning.FitsIn, Lists.ListsFine, Rendering.NoMatter, Rendering.SetsOnly, Rendering.AllSet}
use Rattle.list_law.specs.Start.{frame_of, BinnerBegins, RendererBegins}

-- nothing is in a tile's list
empty_fits : (c : Config) → FitsIn c (record { count = 0; last = 0 })
empty_fits c = record { from = λ some. absurd (omega (arith, some)); upto = λ some. absurd (omega (arith, some)) }

pub lists_begin : (r : Rights) (K : List ℕ → Type 0) (O : Launch → Type 0) (c : Config) (f : Frame) (bin_place render_place : ℕ) (packets : List (List ℕ)) (slots : List (Option Packet))
    → BinnerBegins r K O c bin_place packets → RendererBegins r K c f render_place slots
    → ListsFine r K O c f (lists_start bin_place (length (joined_texts packets)) render_place (length (slots_text slots)))
lists_begin r K O c f bin_place render_place packets slots bin render = search (rules, arith, empty_fits, false≢true)

-- Where lists walk by one condition, they walk by another that follows from it of each packet that draws.
abbrev pub Follows : (R Q : ℕ → List ℕ → Type 0) → Type 0
Follows R Q = (word : ℕ) (packet : List ℕ) → R word packet → (opcode packet ≡ indexed_primitive_list) ⊎ (opcode packet ≡ array_primitive_list) → Q word packet

drawing_so : (R Q : ℕ → List ℕ → Type 0) → Follows R Q → (kept : Passed) (packet : List ℕ) → (opcode packet ≡ indexed_primitive_list) ⊎ (opcode packet ≡ array_primitive_list) → Drawing R kept packet → Drawing Q kept packet
drawing_so R Q follows kept packet kind one = record { word = one.word; kept_word = one.kept_word; started = one.started; allowed = follows one.word packet one.allowed kind }

tame_so : (c : Config) (R Q : ℕ → List ℕ → Type 0) → Follows R Q → (kept : Passed) (packet : List ℕ) → Tame c R kept packet → Tame c Q kept packet
tame_so c R Q follows kept packet tame = search (rules, arith, drawing_so)

pub walks_so : (c : Config) (R Q : ℕ → List ℕ → Type 0) → Follows R Q → (kept : Passed) (packets : List (List ℕ)) → Walks c R kept packets → Walks c Q kept packets
walks_so c R Q follows kept [] walks = tt
walks_so c R Q follows kept (packet ∷ packets) walks = (tame_so c R Q follows kept packet walks.0, walks_so c R Q follows (kept_after kept packet) packets walks.1)

done_weaker : (R Q : Packet → ℕ → ℕ → Type 0) → ((p : Packet) (x y : ℕ) → R p x y → Q p x y) → (load : Option Packet) (x y : ℕ) → IsDoneAt R load x y → IsDoneAt Q load x y
done_weaker R Q weaker load x y h = search (rules, arith)

harmless_weaker : (R Q : Packet → ℕ → ℕ → Type 0) → ((p : Packet) (x y : ℕ) → R p x y → Q p x y) → (k : View) (packet : Packet) → Harmless R k packet → Harmless Q k packet
harmless_weaker R Q weaker k packet h = search (rules, arith, done_weaker)

pub walks_to_weaker : (R Q : Packet → ℕ → ℕ → Type 0) (I : View → Type 0) → ((p : Packet) (x y : ℕ) → R p x y → Q p x y) → (k : View) (slots : List (Option Packet)) → WalksTo R I k slots → WalksTo Q NoMatter k slots
walks_to_weaker R Q I weaker k [] walks = tt
walks_to_weaker R Q I weaker k (None ∷ slots) walks = walks_to_weaker R Q I weaker k slots walks
walks_to_weaker R Q I weaker k (Some packet ∷ slots) walks = (harmless_weaker R Q weaker k packet walks.0, walks_to_weaker R Q I weaker (pass k packet) slots walks.1)

-- The head alone sets a frame.
sets_append : (f : Frame) (front rest : List (Option Packet)) → AllSet f front → AllSet f rest → AllSet f (front ++ rest)
sets_append f [] rest one two = two
sets_append f (None ∷ front) rest one two = sets_append f front rest one two
sets_append f (Some packet ∷ front) rest one two = (one.0, sets_append f front rest one.1 two)

sets_span : (f : Frame) (slots : ℕ → List (Option Packet)) (first n : ℕ) → ((x : ℕ) → AllSet f (slots x)) → AllSet f (span_slots slots first n)
unfolding span_slots
sets_span f slots first zero each = tt
sets_span f slots first (suc n) each = sets_append f (slots first) (span_slots slots (first + 1) n) (each first) (sets_span f slots (first + 1) n each)

-- one slot before others
sets_next : (f : Frame) (slot : Option Packet) (rest : List (Option Packet)) → AllSet f (slot ∷ []) → AllSet f rest → AllSet f (slot ∷ rest)
sets_next f slot rest one two = search (rules, arith)

sets_where : (f : Frame) (test : Bool) (packet : Packet) → SetsOnly f packet → AllSet f (packet_where test packet ∷ [])
sets_where f test packet one = search (rules, arith)

load_by : (f : Frame) (full : Bool) (far bits place : ℕ) → SetsOnly f (if full then LoadFullResolution far else LoadTileBuffer bits place)
load_by f full far bits place = search (rules, arith)

sets_load : (f : Frame) (frame : JobFrame) (k left_out : ℕ) (place : Option ℕ) (x y : ℕ) → AllSet f (load_slot frame k left_out place x y ∷ [])
unfolding load_packet
sets_load f frame k left_out place x y = search (rules, arith, load_by, bit_or)

sets_wait : (f : Frame) (frame : JobFrame) (grid : Option (ℕ × ℕ)) (x y : ℕ) → AllSet f (wait_slot frame grid x y ∷ [])
sets_wait f frame grid x y = search (rules, arith, sets_where)

sets_list : (f : Frame) (grid : Option (ℕ × ℕ)) (slot x y : ℕ) → AllSet f (list_slot grid slot x y ∷ [])
sets_list f grid slot x y = search (rules, arith)

sets_full : (f : Frame) (frame : JobFrame) (place : Option ℕ) (left_out : ℕ) (more : Bool) (x y : ℕ) → AllSet f (full_store_slot frame place left_out more x y ∷ [])
unfolding full_store
sets_full f frame place left_out more x y = search (rules, arith)

sets_zs : (f : Frame) (frame : JobFrame) (place : Option ℕ) (more : Bool) (x y : ℕ) → AllSet f (zs_store_slot frame place more x y ∷ [])
unfolding zs_store
sets_zs f frame place more x y = search (rules, arith)

color_by : (f : Frame) (last : Bool) → SetsOnly f (if last then StoreTileColorAndEnd else StoreTileColor)
color_by f last = search (rules, arith)

sets_color : (f : Frame) (frame : JobFrame) (place : Option ℕ) (x y : ℕ) → AllSet f (color_store_slot frame place x y ∷ [])
unfolding color_store
sets_color f frame place x y = search (rules, arith, color_by)

sets_loads : (f : Frame) (frame : JobFrame) (places : List (Option ℕ)) (x y : ℕ) → AllSet f (load_slots frame places x y)
unfolding load_slots
sets_loads f frame places x y = search (arith, sets_next, sets_load, sets_where)

sets_lists : (f : Frame) (frame : JobFrame) (grid : Option (ℕ × ℕ)) (slot x y : ℕ) → AllSet f (list_slots frame grid slot x y)
unfolding list_slots
sets_lists f frame grid slot x y = (tt, sets_next f (wait_slot frame grid x y) (list_slot grid slot x y ∷ []) (sets_wait f frame grid x y) (sets_list f grid slot x y))

sets_writes : (f : Frame) (frame : JobFrame) (places : List (Option ℕ)) (x y : ℕ) → AllSet f (write_slots frame places x y)
unfolding write_slots
sets_writes f frame places x y =
    let at : Packet = TileCoordinates x y in
    let a = full_store_slot frame (place_at places 4) 2 (more_after_multisample_color places) x y in
    let b_test : Bool = is_there places 5 && is_there places 4 in
    let d = full_store_slot frame (place_at places 5) 1 (more_after_multisample_zs places) x y in
    let e_test : Bool = is_there places 3 && some_before_zs places in
    let g = zs_store_slot frame (place_at places 3) (is_there places 1) x y in
    let h_test : Bool = is_there places 1 && some_before_color places in
    let k = color_store_slot frame (place_at places 1) x y in
    let six = k ∷ [] in
    let five = packet_where h_test at ∷ six in
    let four = g ∷ five in
    let three = packet_where e_test at ∷ four in
    let two = d ∷ three in
    let one = packet_where b_test at ∷ two in
    sets_next f a one (sets_full f frame (place_at places 4) 2 (more_after_multisample_color places) x y)
    (sets_next f (packet_where b_test at) two (sets_where f b_test at tt)
    (sets_next f d three (sets_full f frame (place_at places 5) 1 (more_after_multisample_zs places) x y)
    (sets_next f (packet_where e_test at) four (sets_where f e_test at tt)
    (sets_next f g five (sets_zs f frame (place_at places 3) (is_there places 1) x y)
    (sets_next f (packet_where h_test at) six (sets_where f h_test at tt) (sets_color f frame (place_at places 1) x y))))))

sets_tile : (f : Frame) (frame : JobFrame) (places : List (Option ℕ)) (grid : Option (ℕ × ℕ)) (slot y x : ℕ) → AllSet f (tile_slots frame places grid slot y x)
unfolding tile_slots
sets_tile f frame places grid slot y x = search (arith, sets_append, sets_loads, sets_lists, sets_writes)

sets_front : (frame : JobFrame) (places : List (Option ℕ)) → AllSet (frame_of frame places) (front_slots frame places)
unfolding front_slots head_packet clear_slots clear_packet
sets_front frame places = search (arith, sets_next, sets_where)

pub head_sets : (frame : JobFrame) (places : List (Option ℕ)) (grid : Option (ℕ × ℕ)) (slot : ℕ) → AllSet (frame_of frame places) (render_slots frame places grid slot)
unfolding render_slots
head_sets frame places grid slot = search (arith, sets_append, sets_front, sets_span, sets_tile)
