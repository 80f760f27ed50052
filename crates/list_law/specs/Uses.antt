-- What a primitive and its state word may have fetched and started.
--
-- K says which memories runs can come to, and O which programs may be started.
use Rattle.std.specs.Prelude.{◌≡◌, ◌≤◌, ◌<◌, ℕ, ◌+◌, ◌*◌, ◌%◌, ◌^◌, Bool, true, false, List, if◌then◌else◌}
use Rattle.field_words.specs.Words.{u32_at}
use Rattle.packets.specs.StateWord.{attribute_count, is_extended}
use Rattle.machine_plan.specs.{declared.launch.Launch.Launch, Memory.bytes_at, Regions.Interval, Regions.Inside, Regions.Rights}
use Rattle.list_machine.specs.declared.state.Program.TheVariants.{Fragment, Vertex, Coordinate}
use Rattle.list_machine.specs.Fetch.{index_size, record_place, attribute_place, extension_place, data_size, data_place}
use Rattle.list_machine.specs.{declared.state.Primitive.Primitive, declared.state.Program.Program}
use Rattle.list_machine.specs.Start.{code_offset, launch_of, is_threaded}

-- the bytes of an attribute, and the word that extends its stride, 0 where the record has none
abbrev pub attribute_at : List ℕ → ℕ → ℕ → List ℕ
attribute_at m word t = bytes_at m (attribute_place word t) 8

abbrev pub extension_at : List ℕ → ℕ → ℕ → ℕ
extension_at m word t = if is_extended word then u32_at (bytes_at m (extension_place word t) 4) 0 else 0

-- Each vertex of the primitive may be fetched in this memory: its index lies in the region, no index that counts is over
-- `most`, the record's attributes lie in the region, and so do the data of all vertices up to that index.
pub record Fetches (region : List Interval) (m : List ℕ) (word : ℕ) (p : Primitive) : Type 0 where
  pub most : ℕ
  pub indexes : p.indexed ≡ true → (k : ℕ) → k < p.length → Inside region (p.address + k * index_size p) (index_size p)
  pub greatest : p.indexed ≡ true → p.most ≤ most
  pub array : p.indexed ≡ false → (k : ℕ) → k < p.length → (p.address + k) % 2 ^ 32 ≤ most
  pub entries : (t : ℕ) → t < attribute_count word → Inside region (attribute_place word t) 8
  pub extensions : is_extended word ≡ true → (t : ℕ) → t < attribute_count word → Inside region (extension_place word t) 4
  pub vertices : (t : ℕ) → t < attribute_count word → (index : ℕ) → index ≤ most
      → Inside region (data_place (attribute_at m word t) (extension_at m word t) index) (data_size (attribute_at m word t))

-- the program that a state word starts in this memory
abbrev pub program_launched : List ℕ → Program → Bool → ℕ → Launch
program_launched m program threaded word =
    launch_of threaded (bytes_at m (record_place word + code_offset program) 4) (bytes_at m (record_place word + code_offset program + 4) 4)

-- the flags of a state word's record say that its fragment program is threaded
abbrev pub threaded_by : List ℕ → ℕ → Bool
threaded_by m word = is_threaded (bytes_at m (record_place word) 2)

-- each program of the state word may be started in this memory
pub record Programs (region : List Interval) (O : Launch → Type 0) (m : List ℕ) (word : ℕ) : Type 0 where
  pub header : Inside region (record_place word) 36
  pub fragment : O (program_launched m Fragment (threaded_by m word) word)
  pub vertex : O (program_launched m Vertex false word)
  pub coordinate : O (program_launched m Coordinate false word)

-- the primitive may be drawn under the state word, in each memory of K
pub record MayUse (r : Rights) (K : List ℕ → Type 0) (O : Launch → Type 0) (word : ℕ) (p : Primitive) : Type 0 where
  pub fetches : (m : List ℕ) → K m → Fetches r.region m word p
  pub programs : (m : List ℕ) → K m → Programs r.region O m word
