-- How many steps the lists and the programs of a job take at most, and in how many the renderer stays at an item. How often it stays is the
-- hardware's: it fetches a vertex or starts a program as often as the pixels ask for it that a primitive covers.
use Rattle.std.specs.Prelude.{ℕ, zero, suc, ◌+◌, Bool, ◌&&◌, ◌||◌, if◌then◌else◌, List, nat_lt, ◌-◌, ◌*◌, ◌/◌, ◌==◌, min, max, [], ◌∷◌, ◌++◌, length}
use Rattle.std.specs.Prelude.{Option, Some, None, ◌%◌, not, false, is_some}
use Rattle.field_words.specs.declared.access.Actor.TheVariants.{Binner as TheBinner, Renderer as TheRenderer, Qpu as TheQpu, Tmu as TheTmu}
use Rattle.field_words.specs.declared.access.Actor.{Actor}
use Rattle.packets.specs.declared.packet.Packet.TheVariants.{WaitOnSemaphore, BranchToSubList, StoreTileColor, StoreTileColorAndEnd}
use Rattle.packets.specs.declared.packet.Packet.TheVariants.{StoreFullResolution, LoadFullResolution, StoreTileBuffer, LoadTileBuffer}
use Rattle.packets.specs.declared.packet.Packet.TheVariants.{TileRenderingMode, ClearColors, TileCoordinates}
use Rattle.packets.specs.{declared.config.Config.Config, Config.config_in, Opcode.tile_binning_mode}
use Rattle.packets.specs.{declared.packet.Packet.Packet}
use Rattle.bin_list.specs.Packets.{opcode, draws}
use Rattle.qpu_isa.specs.Terms.{is_branch, target_of, writes_s}
use Rattle.shader_flow.specs.{Bounded.some_below, Flow.word, Flow.end_of, Flow.checked_of}
use Rattle.machine_plan.specs.{Choice.word_at, Others.Happening, Others.Steps, Others.Changes}
use Rattle.list_machine.specs.{Blocks.tiles_of, Blocks.further_offset, Lists.most_items, Lists.Lists, declared.state.Work.Work, Binner.work_of}
use Rattle.list_machine.specs.{declared.state.SubList.SubList, Renderer.item_at}
use Rattle.machine.specs.State.{Units, State, Picked, renderer_job}
use Rattle.machine.specs.Step.{Event, step}

-- The branch at i leads back: into its own slots, to itself or to before it.
unfoldable pub goes_back : List ℕ → ℕ → Bool
goes_back code i = is_branch (word code i) && nat_lt (target_of (word code i) i) (i + 4)

-- some branch before the program end leads back
unfoldable pub has_loop : List ℕ → Bool
has_loop code = some_below (end_of code) (λ i. goes_back code i)

-- An instruction takes a step, and one more of the texture unit that serves what it asks for, where it asks for something.
unfoldable pub instruction_steps : ℕ → ℕ
instruction_steps w = if writes_s w 0 || writes_s w 1 then 2 else 1

-- The steps of the first instructions, and of all that a program of a shader without loops comes to: those up to the program end and the
-- two behind it.
unfoldable pub steps_before : List ℕ → ℕ → ℕ
steps_before code zero = 0
steps_before code (suc i) = steps_before code i + instruction_steps (word code i)

unfoldable pub program_steps : List ℕ → ℕ
program_steps code = steps_before code (checked_of code)

-- One in the first block of each tile and seven in each further block that lies in the allocation, and never more than a job may have.
unfoldable pub items_within : Config → ℕ
items_within c = min most_items (tiles_of c + 7 * ((c.size - further_offset c) / 128))

-- so under the configuration that a packet sets, where it sets one; and the most that a packet of a binner list sets
unfoldable pub room_in : List ℕ → ℕ
room_in packet = if opcode packet == tile_binning_mode then items_within (config_in packet) else 0

abbrev pub room_of : List (List ℕ) → ℕ
room_of [] = 0
room_of (packet ∷ packets) = max (room_in packet) (room_of packets)

abbrev pub one_if : Bool → ℕ
one_if b = if b then 1 else 0

-- How many coordinate programs are still started for a primitive in work: the one that is due, and one for each 16 of its vertices that
-- are not done, and for those that are left over.
unfoldable pub programs_left : Work → ℕ
programs_left k = one_if k.due + (if nat_lt k.done k.primitive.length then (k.primitive.length + 15) / 16 - k.done / 16 else 0)

-- The steps that are left for it beside its items: one for each vertex, one for each program with those of the program itself, and the one
-- that ends it.
unfoldable pub work_steps : ℕ → Work → ℕ
work_steps w k = (k.primitive.length - k.done) + (1 + w) * programs_left k + 1

-- a packet of a binner list takes one step, and those for the primitive that it draws
unfoldable pub packet_steps : ℕ → List ℕ → ℕ
packet_steps w packet = 1 + (if draws packet then work_steps w (work_of 0 packet) else 0)

abbrev pub bin_steps : ℕ → List (List ℕ) → ℕ
bin_steps w [] = 0
bin_steps w (packet ∷ packets) = packet_steps w packet + bin_steps w packets

-- the place of the tile's list that a packet of a renderer list goes into, where it does
abbrev pub list_entered : Packet → List ℕ
list_entered WaitOnSemaphore = []
list_entered (BranchToSubList address) = address ∷ []
list_entered StoreTileColor = []
list_entered StoreTileColorAndEnd = []
list_entered (StoreFullResolution address) = []
list_entered (LoadFullResolution address) = []
list_entered (StoreTileBuffer bits address) = []
list_entered (LoadTileBuffer bits address) = []
list_entered (TileRenderingMode address width height bits) = []
list_entered (ClearColors first second z stencil) = []
list_entered (TileCoordinates x y) = []

abbrev pub all_entered : List (Option Packet) → List ℕ
all_entered [] = []
all_entered (None ∷ slots) = all_entered slots
all_entered (Some packet ∷ slots) = list_entered packet ++ all_entered slots

-- a packet of a renderer list takes one step, and one more where the tile's list that it went into is left
abbrev pub render_steps : List (Option Packet) → ℕ
render_steps [] = 0
render_steps (None ∷ slots) = render_steps slots
render_steps (Some packet ∷ slots) = 1 + length (list_entered packet) + render_steps slots

-- how often a place is among these; and the most that any of the first is among all
abbrev pub times : ℕ → List ℕ → ℕ
times place [] = 0
times place (one ∷ others) = one_if (one == place) + times place others

abbrev pub most_times : List ℕ → List ℕ → ℕ
most_times [] all = 0
most_times (one ∷ others) all = max (times one all) (most_times others all)

-- how often a renderer list goes into one tile's list, at most
unfoldable pub most_visits : List (Option Packet) → ℕ
most_visits slots = most_times (all_entered slots) (all_entered slots)

-- The most steps of a job with these lists, its programs' among them. Each of the items for which its tile lists have room is put once,
-- and passed as often as its tile's list is gone through. Not counted is how often the renderer stays at an item.
unfoldable pub job_steps : ℕ → List (List ℕ) → List (Option Packet) → ℕ
job_steps w packets slots = bin_steps w packets + room_of packets * (1 + most_visits slots) + render_steps slots

abbrev pub is_at_item : Lists → Option SubList → Bool
is_at_item s None = false
is_at_item s (Some sub) = is_some (item_at sub s.items)

-- The renderer of a job is at an item, and choice word 0 says that it doesn't go past it.
unfoldable pub stays : Lists → List ℕ → Bool
stays s words = is_at_item s s.renderer.inside && not (word_at words 0 % 4 == 3)

abbrev pub renderer_stays : Option (Picked Lists) → List ℕ → Bool
renderer_stays None words = false
renderer_stays (Some r) words = stays r.item words

-- so in a step of the machine
abbrev pub unit_stays : Units → Actor → List ℕ → Bool
unit_stays u TheBinner words = false
unit_stays u TheRenderer words = renderer_stays (renderer_job u) words
unit_stays u (TheQpu k) words = false
unit_stays u (TheTmu k n) words = false

-- How many steps the units take among what happens, and in how many of them the renderer stays.
abbrev pub step_count : List (Happening Event) → ℕ
step_count [] = 0
step_count (Steps event ∷ later) = 1 + step_count later
step_count (Changes m ∷ later) = step_count later

abbrev pub stay_count : State → List (Happening Event) → ℕ
stay_count s [] = 0
stay_count s (Steps event ∷ later) = one_if (unit_stays s.units event.unit event.words) + stay_count (step s event).state later
stay_count s (Changes m ∷ later) = stay_count (record { memory = m; units = s.units }) later
