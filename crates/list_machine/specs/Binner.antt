-- One step of the binner.
use Rattle.std.specs.Prelude.{ℕ, ◌+◌, ◌*◌, ◌/◌, ◌%◌, ◌==◌, ◌||◌, ◌&&◌, nat_lt, not, Bool, true, false, is_some, if◌then◌else◌, List, length, slice_index, Option, Some, None}
use Rattle.field_words.specs.Words.{u32_at}
use Rattle.packets.specs.Opcode.{halt, flush, start_tile_binning, increment_semaphore, indexed_primitive_list, array_primitive_list, gl_shader_state, tile_binning_mode, buffer_handles}
use Rattle.packets.specs.{Length.bin_length, Length.bin_taken, Config.config_in}
use Rattle.machine_plan.specs.{Choice.word_at, Glance.Glance, Glance.Now, World.plan_mapped}
use Rattle.machine_plan.specs.Plan.{Plan, Done, Wilds, Reads, Looks, Writes}
use Rattle.list_machine.specs.Lists.{Lists, Turned, turned_to, quiet, with_kept, with_work, with_place, past, after_increment, after_flush, most_items}
use Rattle.list_machine.specs.{State.Config, State.Coordinate, State.Free, State.Launch, State.Primitive, State.Work, Fetch.fetch_plan}
use Rattle.list_machine.specs.Start.{can_start, start_plan}
use Rattle.list_machine.specs.Blocks.{tiles_of, has_room, spot_of, zeros, put_plan}

-- 112 sets the configuration
unfoldable pub config_set : Lists → List ℕ → Lists
config_set s packet = with_kept s (record (s.binner.kept) { config = Some (config_in packet) })

-- 64 keeps the state word
unfoldable pub with_word : Lists → List ℕ → Lists
with_word s packet = with_kept s (record (s.binner.kept) { word = Some (u32_at packet 1) })

-- 6 clears the states of all tiles, of 48 bytes each, and starts binning; without a config it is undefined
unfoldable pub after_start : Lists → Lists
after_start s = with_kept s (record (s.binner.kept) { started = true })

unfoldable pub clear_plan : Lists → Config → Plan Lists
clear_plan s c = Writes c.states (zeros (48 * tiles_of c)) (Done (after_start s))

abbrev pub begin_plan : Lists → Option Config → Plan Lists
begin_plan s None = Wilds
begin_plan s (Some c) = clear_plan s c

-- An indexed primitive (32) has indexes of one byte where the high four bits of its mode are zero, else
-- of two; behind the mode stand its length, the address of its indexes, and the greatest index. Any
-- other (33) has its length and its first index there.
unfoldable pub primitive_of : List ℕ → Primitive
primitive_of packet =
    let indexed = slice_index packet 0 == indexed_primitive_list in
    record {
      indexed = indexed;
      wide = if indexed then not (slice_index packet 1 / 16 == 0) else false;
      length = u32_at packet 2;
      address = u32_at packet 6;
      most = if indexed then u32_at packet 10 else 0;
    }

-- the primitive is in work, with none of its vertices done
unfoldable pub work_of : ℕ → List ℕ → Work
work_of word packet = record { word = word; primitive = primitive_of packet; done = 0; due = false }

-- a primitive is undefined without a state word, or before binning is started
abbrev pub plan_of_draw : Lists → Option ℕ → List ℕ → Plan Lists
plan_of_draw s None packet = Wilds
plan_of_draw s (Some word) packet = Done (with_work s (Some (work_of word packet)))

unfoldable pub draw_plan : Lists → List ℕ → Plan Lists
draw_plan s packet = if s.binner.kept.started then plan_of_draw s s.binner.kept.word packet else Wilds

-- 0 goes to the list's end
unfoldable pub after_halt : Lists → Lists
after_halt s = with_place s s.binner.end

-- an opcode that no packet has, and the packet of buffer handles, which is the driver's own
unfoldable pub is_unknown : ℕ → Bool
is_unknown opcode = bin_length opcode == 0 || opcode == buffer_handles

-- What a packet does, with the binner past it; those that aren't named do nothing more.
unfoldable pub packet_plan : Lists → List ℕ → Plan Lists
packet_plan s packet =
    let opcode = slice_index packet 0 in
    if is_unknown opcode then Wilds
    else (if opcode == halt then Done (after_halt s)
    else (if opcode == tile_binning_mode then Done (config_set s packet)
    else (if opcode == start_tile_binning then begin_plan s s.binner.kept.config
    else (if opcode == gl_shader_state then Done (with_word s packet)
    else (if opcode == indexed_primitive_list || opcode == array_primitive_list then draw_plan s packet
    else (if opcode == increment_semaphore then Done (after_increment s)
    else (if opcode == flush then Done (after_flush s) else Done s)))))))

-- The binner reads the packet at its place, goes past it and does what it says. To see the packet's
-- length it looks at the opcode.
unfoldable pub read_plan : Lists → Plan Lists
read_plan s =
    Looks s.binner.place 1 (λ head.
    let len = bin_taken (slice_index head 0) in
    Reads s.binner.place len (λ packet. packet_plan (past s len) packet))

-- a program is due after each 16 vertices, and after the last one
unfoldable pub is_due : Work → ℕ → Bool
is_due w done = done % 16 == 0 || done == w.primitive.length

-- one vertex more is done
unfoldable pub one_done : Work → Work
one_done w = record w { done = w.done + 1; due = is_due w (w.done + 1) }

abbrev pub fetched_with : Lists → Work → ℕ → Turned
fetched_with s w index = quiet (with_work s (Some (one_done w)))

abbrev pub next_plan : Lists → Work → Plan Turned
next_plan s w = plan_mapped (fetched_with s w) (fetch_plan w.primitive w.word w.done)

-- the program that was due starts
unfoldable pub not_due : Work → Work
not_due w = record w { due = false }

abbrev pub started_with : Lists → Work → Option Launch → Turned
started_with s w launch = turned_to (with_work s (Some (not_due w))) launch

abbrev pub due_plan : Lists → Work → Free → Plan Turned
due_plan s w free = plan_mapped (started_with s w) (start_plan Coordinate free w.word)

-- Choice word 0 names the tile that gets an item, or says that the primitive is done.
unfoldable pub chosen_tile : Config → List ℕ → ℕ
chosen_tile c words = word_at words 0 % (tiles_of c + 1)

unfoldable pub tile_plan : Lists → Config → Work → ℕ → Plan Lists
tile_plan s c w tile = if tile == tiles_of c then Done (with_work s None) else put_plan s c w tile (spot_of tile s.items)

abbrev pub item_plan : Lists → Option Config → Work → List ℕ → Plan Lists
item_plan s None w words = Done s
item_plan s (Some c) w words = tile_plan s c w (chosen_tile c words)

-- A primitive in work: the program that is due starts; else the next vertex is fetched; else an item is
-- put on a tile.
unfoldable pub work_plan : Lists → Work → Free → List ℕ → Plan Turned
work_plan s w free words =
    if w.due then due_plan s w free
    else (if nat_lt w.done w.primitive.length then next_plan s w else plan_mapped quiet (item_plan s s.binner.kept.config w words))

abbrev pub binner_by : Lists → Option Work → Free → List ℕ → Plan Turned
binner_by s None free words = plan_mapped quiet (read_plan s)
binner_by s (Some w) free words = work_plan s w free words

-- the binner's step
unfoldable pub binner_plan : Lists → Free → List ℕ → Plan Turned
binner_plan s free words = binner_by s s.binner.work free words

-- an item waits for room for a further block, and for fewer than the most items
abbrev pub item_may : Lists → Option Config → Bool
item_may s None = false
item_may s (Some c) = has_room c s.blocks && nat_lt (length s.items) most_items

unfoldable pub work_may : Lists → Work → Free → Bool
work_may s w free =
    if w.due then can_start false free
    else (if nat_lt w.done w.primitive.length then true else item_may s s.binner.kept.config)

abbrev pub binner_may : Lists → Option Work → Free → Bool
binner_may s None free = nat_lt s.binner.place s.binner.end
binner_may s (Some w) free = work_may s w free

-- the binner may step; that needs no look
unfoldable pub binner_ready : Lists → Free → Glance Bool
binner_ready s free = Now (binner_may s s.binner.work free)

-- the binner has work: it is below its list's end, or has a primitive in work
abbrev pub has_binner_work : Lists → Bool
has_binner_work s = nat_lt s.binner.place s.binner.end || is_some s.binner.work
