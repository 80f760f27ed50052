-- What stands of a job's binner and of its tile lists.
--
-- The job has one configuration c. The rest of the binner's list is said as packets that walk, by the definitions of those
-- who emit it.
use Rattle.std.specs.Prelude.{◌≡◌, ◌≤◌, ◌<◌, ℕ, ◌+◌, ◌*◌, ◌-◌, ◌%◌, List, length, Option, Some, None}
use Rattle.field_words.specs.Pieces.{joined_texts}
use Rattle.machine_plan.specs.{declared.launch.Launch.Launch, Memory.bytes_at, Regions.Inside, Regions.Rights, Regions.Every}
use Rattle.bin_walks.specs.Walks.{Walks, Kept as Passed}
use Rattle.packets.specs.declared.config.Config.{Config}
use Rattle.list_machine.specs.{declared.state.Item.Item, declared.state.Kept.Kept, declared.state.Spot.Spot, declared.state.Work.Work}
use Rattle.list_machine.specs.{Binner.primitive_of, Blocks.tiles_of, Blocks.spot_of}
use Rattle.list_law.specs.{May.MayWrite, Uses.MayUse}

-- what the binner keeps, in the words of those who emit lists
abbrev pub passed_of : Kept → Passed
passed_of kept = record { config = kept.config; word = kept.word; started = kept.started }

-- the memory of the tiles' states and that of the tile lists are the job's to write, and each tile's first block has room
pub record Allocates (r : Rights) (c : Config) : Type 0 where
  pub states : MayWrite r c.states (48 * tiles_of c)
  pub all : MayWrite r c.address c.size
  pub first : 32 * tiles_of c ≤ c.size

-- a packet that draws may do so
abbrev pub DrawsSo : Rights → (List ℕ → Type 0) → (Launch → Type 0) → ℕ → List ℕ → Type 0
DrawsSo r K O word packet = MayUse r K O word (primitive_of packet)

-- The binner stands at a packet of its list or at the end. The rest of the list walks from what it keeps, stands so in each
-- memory of K, and lies in the region.
pub record OnWay (r : Rights) (K : List ℕ → Type 0) (O : Launch → Type 0) (c : Config) (place end : ℕ) (kept : Kept) : Type 0 where
  pub rest : List (List ℕ)
  pub ends : place + length (joined_texts rest) ≡ end
  pub walks : Walks c (DrawsSo r K O) (passed_of kept) rest
  pub stands : (m : List ℕ) → K m → bytes_at m place (length (joined_texts rest)) ≡ joined_texts rest
  pub reads : Inside r.region place (length (joined_texts rest))

-- a primitive in work may be drawn, and no more of its vertices are done than it has
pub record WorkFine (r : Rights) (K : List ℕ → Type 0) (O : Launch → Type 0) (w : Work) : Type 0 where
  pub few : w.done ≤ w.primitive.length
  pub uses : MayUse r K O w.word w.primitive

-- an item lies in the region, and its primitive may be drawn
pub record ItemFine (r : Rights) (K : List ℕ → Type 0) (O : Launch → Type 0) (item : Item) : Type 0 where
  pub lies : Inside r.region item.place 16
  pub uses : MayUse r K O item.word item.primitive

-- A tile's last item lies in the allocation, and so does what is left of its block behind it: seven items and a link make a
-- block of 128 bytes, and one item and a link the first one.
pub record FitsIn (c : Config) (spot : Spot) : Type 0 where
  pub from : 0 < spot.count → c.address ≤ spot.last
  pub upto : 0 < spot.count → spot.last + 16 * (8 - (spot.count + 5) % 7) ≤ c.address + c.size

-- the items of all tile lists, and where each tile's list stands
pub record LogFine (r : Rights) (K : List ℕ → Type 0) (O : Launch → Type 0) (c : Config) (log : List Item) : Type 0 where
  pub items : Every (ItemFine r K O) log
  pub spots : (tile : ℕ) → FitsIn c (spot_of tile log)

-- the job's one configuration, or none yet
pub data IsOnly (c : Config) (config : Option Config) : Type 0 where
  NotYet : config ≡ None → IsOnly c config
  Only : config ≡ Some c → IsOnly c config
