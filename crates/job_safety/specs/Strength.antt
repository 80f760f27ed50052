-- What safety refuses. Where a list unit is to read a packet that is none, or the next step of a unit reads outside its job's region, the
-- machine isn't safe from there, whatever the memory, the state of the units and the rights. Nor is it where the next step of a unit
-- writes outside what its job may write.
use Rattle.std.specs.Prelude.{◌≡◌, ◌≤◌, ◌<◌, ◌⊎◌, ℕ, ◌-◌, ◌*◌, ◌%◌, Bool, true, false, IsTrue, List, ◌∷◌, length, slice_index, Option, IfSome, Some, None}
use Rattle.field_words.specs.declared.access.Actor.TheVariants.{Binner as TheBinner, Renderer as TheRenderer, Qpu as TheQpu}
use Rattle.packets.specs.declared.packet.Packet.TheVariants.{StoreTileColor, StoreTileColorAndEnd, StoreFullResolution, StoreTileBuffer}
use Rattle.packets.specs.{declared.packet.Packet.Packet, Length.bin_length, Length.bin_taken, Length.render_taken, Packet.packet_decoded}
use Rattle.packets.specs.{Opcode.start_tile_binning, Opcode.buffer_handles, declared.config.Config.Config}
use Rattle.machine_plan.specs.{Memory.bytes_at, Regions.Inside, Regions.Rights, Regions.rights_of, World.Safe}
use Rattle.list_machine.specs.{declared.state.Frame.Frame, declared.state.Work.Work, declared.surface.Cover.Cover, Binner.chosen_tile}
use Rattle.list_machine.specs.Blocks.{tiles_of, block_place, spot_of, is_full, next_place, link_place}
use Rattle.list_machine.specs.{Cover.cover_for, Cover.part_count, Cover.part_place, Lists.Lists}
use Rattle.list_machine.specs.Surfaces.{aligned_address, names_none, whole_size}
use Rattle.texture_layouts.specs.{Format.general_style, Format.frame_style, Setup.TextureModel, Setup.texture_of}
use Rattle.qpu_machine.specs.{declared.state.Ask.TheVariants.Direct, declared.state.Ask.TheVariants.Texture, declared.state.Qpu.Qpu}
use Rattle.qpu_machine.specs.{declared.state.Request.Request, declared.state.Thread.Thread, Qpu.active_of, Qpu.oldest, Qpu.queue_of}
use Rattle.qpu_machine.specs.Request.{chosen_place, chosen_length}
use Rattle.machine.specs.{declared.job.Start.Start, State.Units, State.item_at, State.binner_job, State.renderer_job}
use Rattle.machine.specs.Step.{ready, turn, is_enabled}
use Rattle.job_safety.specs.Safe.{AreSafe}

-- bytes outside what a job may reach: no interval of its region has all of them
abbrev pub IsPast : List Rights → ℕ → ℕ → ℕ → Type 0
IsPast jobs j place len = Inside (rights_of jobs j).region place len → ⊥

-- The binner may step, and is to read the packet at its place, for job j.
pub record IsAtBinPacket (m : List ℕ) (u : Units) (j : ℕ) (lists : Lists) : Type 0 where
  pub job_is : binner_job u ≡ Some (record { number = j; item = lists })
  pub may : IsTrue (is_enabled (record { memory = m; units = u }) TheBinner)
  pub idle : lists.binner.work ≡ None

-- The renderer may step, and is to read the packet at its place, for job j: it isn't in the list of a tile.
pub record IsAtRenderPacket (m : List ℕ) (u : Units) (j : ℕ) (lists : Lists) : Type 0 where
  pub job_is : renderer_job u ≡ Some (record { number = j; item = lists })
  pub may : IsTrue (is_enabled (record { memory = m; units = u }) TheRenderer)
  pub outside : lists.renderer.inside ≡ None

-- A binner list that leaves the job's region: the packet at the binner's place doesn't lie in it.
abbrev pub BinListsPastAreUnsafe : Type 0
BinListsPastAreUnsafe =
    (jobs : List Rights) (m : List ℕ) (u : Units) (j : ℕ) (lists : Lists) → IsAtBinPacket m u j lists
    → IsPast jobs j lists.binner.place (bin_taken (slice_index m lists.binner.place))
    → Safe ready turn jobs m u → ⊥

-- A renderer list that leaves the job's region: the packet at the renderer's place doesn't lie in it.
abbrev pub RenderListsPastAreUnsafe : Type 0
RenderListsPastAreUnsafe =
    (jobs : List Rights) (m : List ℕ) (u : Units) (j : ℕ) (lists : Lists) → IsAtRenderPacket m u j lists
    → IsPast jobs j lists.renderer.place (render_taken (slice_index m lists.renderer.place))
    → Safe ready turn jobs m u → ⊥

-- The byte at this place begins no packet of a binner list: none has this opcode, or it is the driver's own, of buffer handles.
abbrev pub IsStrayBin : List ℕ → ℕ → Type 0
IsStrayBin m place = (bin_length (slice_index m place) ≡ 0) ⊎ (slice_index m place ≡ buffer_handles)

-- The bytes from this place on are no packet of a renderer list.
abbrev pub IsStrayRender : List ℕ → ℕ → Type 0
IsStrayRender m place = packet_decoded (bytes_at m place (render_taken (slice_index m place))) ≡ None

-- A binner list with a byte that begins no packet: it is at the binner's place.
abbrev pub StrayBinPacketsAreUnsafe : Type 0
StrayBinPacketsAreUnsafe =
    (jobs : List Rights) (m : List ℕ) (u : Units) (j : ℕ) (lists : Lists) → IsAtBinPacket m u j lists
    → IsStrayBin m lists.binner.place
    → Safe ready turn jobs m u → ⊥

-- A renderer list with bytes that are no packet: they are at the renderer's place.
abbrev pub StrayRenderPacketsAreUnsafe : Type 0
StrayRenderPacketsAreUnsafe =
    (jobs : List Rights) (m : List ℕ) (u : Units) (j : ℕ) (lists : Lists) → IsAtRenderPacket m u j lists
    → IsStrayRender m lists.renderer.place
    → Safe ready turn jobs m u → ⊥

-- One of these lists isn't empty, and begins with what is no packet.
abbrev pub BeginsStray : List ℕ → Start → Type 0
BeginsStray m start = ((0 < start.bin_len) × IsStrayBin m start.bin_place) ⊎ ((0 < start.render_len) × IsStrayRender m start.render_place)

-- So from the start: where a list of the first job begins so, the jobs are not safe, whatever else they are.
abbrev pub StrayStartsAreUnsafe : Type 0
StrayStartsAreUnsafe =
    (jobs : List Rights) (memory : List ℕ) (start : Start) (others : List Start) → BeginsStray memory start
    → AreSafe jobs memory (start ∷ others) → ⊥

-- Processor k may step, and this is its active thread.
pub record IsActive (m : List ℕ) (u : Units) (k : ℕ) (thread : Thread) : Type 0 where
  pub qpu : Qpu
  pub qpu_is : item_at u.qpus k ≡ Some qpu
  pub may : IsTrue (is_enabled (record { memory = m; units = u }) (TheQpu k))
  pub active_is : active_of qpu ≡ Some thread

-- A shader that leaves its code: the instruction at the thread's place doesn't lie in the job's region.
abbrev pub CodePastIsUnsafe : Type 0
CodePastIsUnsafe =
    (jobs : List Rights) (m : List ℕ) (u : Units) (k : ℕ) (thread : Thread) → IsActive m u k thread
    → IsPast jobs thread.job thread.place 8
    → Safe ready turn jobs m u → ⊥

-- Of processor k's texture unit 0 or 1 this is the oldest request.
pub record IsOldest (u : Units) (k unit : ℕ) (request : Request) : Type 0 where
  pub qpu : Qpu
  pub qpu_is : item_at u.qpus k ≡ Some qpu
  pub unit_is : unit < 2
  pub oldest_is : oldest (queue_of qpu unit) ≡ Some request

-- A direct read past its buffer: the word at some element's address doesn't lie in the job's region.
abbrev pub DirectReadsPastAreUnsafe : Type 0
DirectReadsPastAreUnsafe =
    (jobs : List Rights) (m : List ℕ) (u : Units) (k unit : ℕ) (request : Request) → IsOldest u k unit request
    → (row : List ℕ) → request.ask ≡ Direct row → (i : ℕ) → i < length row → IsPast jobs request.job (slice_index row i - slice_index row i % 4) 4
    → Safe ready turn jobs m u → ⊥

-- A texture past its buffer: the pixel of a level and a face that some choice words choose begins below 0, or what is read for it
-- doesn't lie in the job's region.
abbrev pub IsChosenPast : List Rights → ℕ → TextureModel → List ℕ → Type 0
IsChosenPast jobs j texture words = IfSome (chosen_place texture words 0) (λ place. IsPast jobs j place (chosen_length texture words 0))

abbrev pub TexturesPastAreUnsafe : Type 0
TexturesPastAreUnsafe =
    (jobs : List Rights) (m : List ℕ) (u : Units) (k unit : ℕ) (request : Request) → IsOldest u k unit request
    → (four : List ℕ) → request.ask ≡ Texture four
    → (words : List ℕ) → IsChosenPast jobs request.job (texture_of (slice_index four 0) (slice_index four 1) (slice_index four 2) (slice_index four 3)) words
    → Safe ready turn jobs m u → ⊥

-- bytes outside what a job may write: no interval of that has all of them
abbrev pub IsUnwritable : List Rights → ℕ → ℕ → ℕ → Type 0
IsUnwritable jobs j place len = Inside (rights_of jobs j).writable place len → ⊥

-- The binner may step, and is to read the packet that starts binning, for job j; this config is kept.
pub record IsAtBinning (m : List ℕ) (u : Units) (j : ℕ) (lists : Lists) (config : Config) : Type 0 where
  pub at : IsAtBinPacket m u j lists
  pub opcode_is : slice_index m lists.binner.place ≡ start_tile_binning
  pub config_is : lists.binner.kept.config ≡ Some config

-- The states of the tiles outside: their 48 bytes a tile don't lie in what the job may write.
abbrev pub StatesPastAreUnsafe : Type 0
StatesPastAreUnsafe =
    (jobs : List Rights) (m : List ℕ) (u : Units) (j : ℕ) (lists : Lists) (config : Config) → IsAtBinning m u j lists config
    → IsUnwritable jobs j config.states (48 * tiles_of config)
    → Safe ready turn jobs m u → ⊥

-- The binner may step, and is to put an item of its primitive on a tile of this config, for job j: all vertices are fetched, and no
-- program is due for them.
pub record IsAtItem (m : List ℕ) (u : Units) (j : ℕ) (lists : Lists) (config : Config) : Type 0 where
  pub job_is : binner_job u ≡ Some (record { number = j; item = lists })
  pub may : IsTrue (is_enabled (record { memory = m; units = u }) TheBinner)
  pub work : Work
  pub work_is : lists.binner.work ≡ Some work
  pub none_due : work.due ≡ false
  pub fetched : work.primitive.length ≤ work.done
  pub config_is : lists.binner.kept.config ≡ Some config

-- To put an item on this tile writes 16 bytes here: where the tile's block is full, at the place of its link and at the beginning of a
-- further block, and else at the tile's next place.
abbrev pub PutsBy : Bool → Lists → Config → ℕ → ℕ → Type 0
PutsBy true lists config tile place = (place ≡ link_place (spot_of tile lists.items)) ⊎ (place ≡ block_place config lists.blocks)
PutsBy false lists config tile place = place ≡ next_place config tile (spot_of tile lists.items)

abbrev pub Puts : Lists → Config → ℕ → ℕ → Type 0
Puts lists config tile place = PutsBy (is_full (spot_of tile lists.items)) lists config tile place

-- An item outside: on the tile that some choice words choose, it or the link before it doesn't lie in what the job may write.
abbrev pub ItemsPastAreUnsafe : Type 0
ItemsPastAreUnsafe =
    (jobs : List Rights) (m : List ℕ) (u : Units) (j : ℕ) (lists : Lists) (config : Config) → IsAtItem m u j lists config
    → (words : List ℕ) → chosen_tile config words < tiles_of config
    → (place : ℕ) → Puts lists config (chosen_tile config words) place → IsUnwritable jobs j place 16
    → Safe ready turn jobs m u → ⊥

-- The renderer may step, and is to read this packet at its place, for job j.
pub record IsAtPacket (m : List ℕ) (u : Units) (j : ℕ) (lists : Lists) (packet : Packet) : Type 0 where
  pub at : IsAtRenderPacket m u j lists
  pub packet_is : packet_decoded (bytes_at m lists.renderer.place (render_taken (slice_index m lists.renderer.place))) ≡ Some packet

-- these bytes are one part of what a store by bits covers
pub record IsPart (cover : Option Cover) (place len : ℕ) : Type 0 where
  pub whole : Cover
  pub cover_is : cover ≡ Some whole
  pub number : ℕ
  pub number_is : number < part_count whole
  pub place_is : place ≡ part_place whole number
  pub len_is : len ≡ whole.size

-- A store of tile (x, y) by the frame's bits writes these bytes.
abbrev pub StoresFrame : Option Frame → ℕ → ℕ → ℕ → ℕ → Type 0
StoresFrame None x y place len = ⊥
StoresFrame (Some frame) x y place len = IsPart (cover_for (frame_style frame.bits) (Some frame) frame.address x y) place len

-- The store that this packet asks for writes these bytes: a part of the renderer's tile in the surface that the frame's bits name, or
-- general ones, or the tile in full resolution.
abbrev pub Stores : Lists → Packet → ℕ → ℕ → Type 0
Stores lists StoreTileColor place len = StoresFrame lists.renderer.frame lists.renderer.x lists.renderer.y place len
Stores lists StoreTileColorAndEnd place len = StoresFrame lists.renderer.frame lists.renderer.x lists.renderer.y place len
Stores lists (StoreFullResolution address) place len = (place ≡ aligned_address address) × (len ≡ whole_size)
Stores lists (StoreTileBuffer bits address) place len =
    (names_none bits ≡ false) × IsPart (cover_for (general_style bits) lists.renderer.frame (aligned_address address) lists.renderer.x lists.renderer.y) place len
Stores lists other place len = ⊥

-- A store of a tile outside: some part of it doesn't lie in what the job may write.
abbrev pub StoresPastAreUnsafe : Type 0
StoresPastAreUnsafe =
    (jobs : List Rights) (m : List ℕ) (u : Units) (j : ℕ) (lists : Lists) (packet : Packet) → IsAtPacket m u j lists packet
    → (place len : ℕ) → Stores lists packet place len → IsUnwritable jobs j place len
    → Safe ready turn jobs m u → ⊥
