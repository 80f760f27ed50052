-- One step of the renderer.
use Rattle.std.specs.Prelude.{ℕ, ◌+◌, ◌-◌, ◌/◌, ◌%◌, ◌==◌, ◌&&◌, ◌||◌, not, nat_lt, nat_le, Bool, true, false, is_some, if◌then◌else◌, List, [], ◌∷◌, drop, slice_index, Option, Some, None}
use Rattle.packets.specs.declared.packet.Packet.TheVariants.{WaitOnSemaphore, BranchToSubList, StoreTileColor, StoreTileColorAndEnd, StoreFullResolution, LoadFullResolution, StoreTileBuffer, LoadTileBuffer, TileRenderingMode, ClearColors, TileCoordinates}
use Rattle.packets.specs.{declared.packet.Packet.Packet, Length.render_taken, Opcode.wait_on_semaphore, Packet.packet_decoded}
use Rattle.machine_plan.specs.{Choice.word_at, Glance.Glance, Glance.Now, Glance.At, World.plan_mapped}
use Rattle.machine_plan.specs.Plan.{Plan, Done, Wilds, Reads, Looks}
use Rattle.list_machine.specs.State.{Config, Found, Fragment, Frame, Free, Full, General, Item, Load, Program, SubList, Vertex}
use Rattle.list_machine.specs.Lists.{Lists, Turned, turned_to, quiet, with_renderer, with_taken}
use Rattle.list_machine.specs.{Fetch.fetch_plan, Start.start_plan, Blocks.tiles_of}
use Rattle.list_machine.specs.Surfaces.{general_written, frame_written, whole_written, waiting_read}

-- the renderer has gone past a packet of this length
abbrev pub beyond : Lists → ℕ → Lists
beyond s len = with_renderer s (record (s.renderer) { place = s.renderer.place + len })

-- 113 keeps the frame
abbrev pub with_frame : Lists → Frame → Lists
with_frame s frame = with_renderer s (record (s.renderer) { frame = Some frame })

-- a load waits
abbrev pub with_load : Lists → Load → Lists
with_load s load = with_renderer s (record (s.renderer) { waiting = Some load })

-- the tile is (x, y), and the load that waited is done
abbrev pub at_tile : Lists → ℕ → ℕ → Lists
at_tile s x y = with_renderer s (record (s.renderer) { x = x; y = y; waiting = None })

-- the renderer stands there in a tile's list, or in none
abbrev pub with_inside : Lists → Option SubList → Lists
with_inside s inside = with_renderer s (record (s.renderer) { inside = inside })

-- a load is undefined where another one waits
abbrev pub wait_plan : Lists → Option Load → Load → Plan Lists
wait_plan s None load = Done (with_load s load)
wait_plan s (Some other) load = Wilds

-- The tile whose list begins at this address: tile t's does at the allocation's address plus 32t.
unfoldable pub tile_named : Config → ℕ → Option ℕ
tile_named c address =
    if (nat_le c.address address && (address - c.address) % 32 == 0) && nat_lt ((address - c.address) / 32) (tiles_of c) then Some ((address - c.address) / 32)
    else None

abbrev pub enter_plan : Lists → Option ℕ → Plan Lists
enter_plan s None = Wilds
enter_plan s (Some tile) = Done (with_inside s (Some (record { tile = tile; at = 0 })))

abbrev pub tile_by : Option Config → ℕ → Option ℕ
tile_by None address = None
tile_by (Some c) address = tile_named c address

-- 17 goes into a tile's list. It is undefined unless the lists are closed and one begins at its address.
unfoldable pub branch_plan : Lists → ℕ → Plan Lists
branch_plan s address = if s.closed then enter_plan s (tile_by s.binner.kept.config address) else Wilds

-- 115 names the tile, and does the load that waits there
unfoldable pub tile_plan : Lists → ℕ → ℕ → Plan Lists
tile_plan s x y = waiting_read s.renderer.waiting s.renderer.frame x y (Done (at_tile s x y))

-- What a packet does, with the renderer past it.
abbrev pub act : Lists → List ℕ → Packet → Plan Lists
act s words WaitOnSemaphore = Done (with_taken s)
act s words (BranchToSubList address) = branch_plan s address
act s words StoreTileColor = frame_written s.renderer.frame s.renderer.x s.renderer.y words (Done s)
act s words StoreTileColorAndEnd = frame_written s.renderer.frame s.renderer.x s.renderer.y words (Done s)
act s words (StoreFullResolution address) = whole_written address words (Done s)
act s words (LoadFullResolution address) = wait_plan s s.renderer.waiting (Full address)
act s words (StoreTileBuffer bits address) = general_written bits address s.renderer.frame s.renderer.x s.renderer.y words (Done s)
act s words (LoadTileBuffer bits address) = wait_plan s s.renderer.waiting (General bits address)
act s words (TileRenderingMode address width height bits) = Done (with_frame s (record { address = address; width = width; height = height; bits = bits }))
act s words (ClearColors first second z stencil) = Done s
act s words (TileCoordinates x y) = tile_plan s x y

-- bytes that are no packet of a renderer list are undefined
abbrev pub plan_of_packet : Lists → List ℕ → Option Packet → Plan Lists
plan_of_packet s words None = Wilds
plan_of_packet s words (Some packet) = act s words packet

-- The renderer reads the packet at its place, goes past it and does what it says. To see the packet's
-- length it looks at the opcode.
unfoldable pub packet_plan : Lists → List ℕ → Plan Lists
packet_plan s words =
    Looks s.renderer.place 1 (λ head.
    let len = render_taken (slice_index head 0) in
    Reads s.renderer.place len (λ bytes. plan_of_packet (beyond s len) words (packet_decoded bytes)))

-- the first item of this tile, where the items are numbered from n on
abbrev pub first_of_tile : ℕ → ℕ → List Item → Option Found
first_of_tile tile n [] = None
first_of_tile tile n (item ∷ items) = if item.tile == tile then Some (record { number = n; item = item }) else first_of_tile tile (n + 1) items

-- the item at which the renderer stands in a tile's list; past the last it is at none
unfoldable pub item_at : SubList → List Item → Option Found
item_at sub items = first_of_tile sub.tile sub.at (drop sub.at items)

-- the renderer stands at this item, or past it
abbrev pub at_item : Lists → ℕ → ℕ → Lists
at_item s tile n = with_inside s (Some (record { tile = tile; at = n }))

abbrev pub item_fetched : Lists → ℕ → Turned
item_fetched s index = quiet s

-- a vertex is fetched: of an item without vertices none is
unfoldable pub vertex_plan : Lists → Item → List ℕ → Plan Turned
vertex_plan s item words =
    if item.primitive.length == 0 then Done (quiet s)
    else plan_mapped (item_fetched s) (fetch_plan item.primitive item.word (word_at words 1 % item.primitive.length))

-- a program is started
unfoldable pub program_plan : Lists → Program → Free → Item → Plan Turned
program_plan s program free item = plan_mapped (turned_to s) (start_plan program free item.word)

-- Choice word 0 says what is done at an item: a vertex is fetched, a vertex program started, a fragment
-- program started, or the renderer goes past the item.
unfoldable pub choice_plan : Lists → Free → List ℕ → SubList → Found → Plan Turned
choice_plan s free words sub found =
    let here = at_item s sub.tile found.number in
    let choice = word_at words 0 % 4 in
    if choice == 0 then vertex_plan here found.item words
    else (if choice == 1 then program_plan here Vertex free found.item
    else (if choice == 2 then program_plan here Fragment free found.item
    else Done (quiet (at_item s sub.tile (found.number + 1)))))

-- At an item its 16 bytes are read. Past the last one the renderer leaves the tile's list, without an
-- access.
abbrev pub found_plan : Lists → Free → List ℕ → SubList → Option Found → Plan Turned
found_plan s free words sub None = Done (quiet (with_inside s None))
found_plan s free words sub (Some found) = Reads found.item.place 16 (λ bytes. choice_plan s free words sub found)

abbrev pub plan_in : Lists → Free → List ℕ → Option SubList → Plan Turned
plan_in s free words None = plan_mapped quiet (packet_plan s words)
plan_in s free words (Some sub) = found_plan s free words sub (item_at sub s.items)

-- the renderer's step
unfoldable pub renderer_plan : Lists → Free → List ℕ → Plan Turned
renderer_plan s free words = plan_in s free words s.renderer.inside

-- at opcode 8 the renderer waits for the semaphore
unfoldable pub may_pass : Lists → ℕ → Bool
may_pass s opcode = not (opcode == wait_on_semaphore && s.semaphore == 0)

abbrev pub ready_in : Lists → Option SubList → Glance Bool
ready_in s None = if nat_lt s.renderer.place s.renderer.end then At s.renderer.place 1 (λ head. Now (may_pass s (slice_index head 0))) else Now false
ready_in s (Some sub) = Now true

-- The renderer may step in a tile's list, and below its list's end where it needn't wait. It looks at the
-- opcode.
unfoldable pub renderer_ready : Lists → Glance Bool
renderer_ready s = ready_in s s.renderer.inside

-- the renderer has work: it is below its list's end, or in a tile's list
abbrev pub has_renderer_work : Lists → Bool
has_renderer_work s = nat_lt s.renderer.place s.renderer.end || is_some s.renderer.inside
