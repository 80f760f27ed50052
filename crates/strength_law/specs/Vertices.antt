-- What safety refuses of a list unit at a primitive: what it reads for a vertex, of a record when it starts a program, and of an item of a
-- tile's list, outside what its job may reach.
use Rattle.std.specs.Prelude.{◌≡◌, ◌<◌, ◌⊎◌, ℕ, ◌+◌, ◌*◌, ◌%◌, ◌^◌, Bool, IsTrue, true, false, if◌then◌else◌, List, Some}
use Rattle.field_words.specs.declared.access.Actor.TheVariants.{Binner as TheBinner}
use Rattle.packets.specs.StateWord.{attribute_count, is_extended}
use Rattle.machine_plan.specs.{Choice.word_at, Memory.bytes_at, Regions.Rights, World.Safe}
use Rattle.list_machine.specs.declared.state.Program.TheVariants.{Fragment, Vertex, Coordinate}
use Rattle.list_machine.specs.Fetch.{index_size, index_in, draws_nothing, record_place, attribute_place, extension_place, data_size, data_place}
use Rattle.list_machine.specs.{declared.state.Found.Found, declared.state.Primitive.Primitive, declared.state.Program.Program, Lists.Lists}
use Rattle.list_machine.specs.{declared.state.SubList.SubList, declared.state.Work.Work, Renderer.item_at, Start.code_offset, Start.can_start, Start.is_threaded}
use Rattle.list_law.specs.Uses.{attribute_at, extension_at}
use Rattle.qpu_machine.specs.Qpu.{free_in}
use Rattle.machine.specs.{State.Units, State.binner_job, State.renderer_job, Step.ready, Step.turn, Step.is_enabled}
use Rattle.job_safety.specs.Strength.{IsPast}

-- The binner may step for job j, and has this primitive in work.
pub record IsAtWork (m : List ℕ) (u : Units) (j : ℕ) (lists : Lists) (work : Work) : Type 0 where
  pub job_is : binner_job u ≡ Some (record { number = j; item = lists })
  pub may : IsTrue (is_enabled (record { memory = m; units = u }) TheBinner)
  pub work_is : lists.binner.work ≡ Some work

-- The renderer stands at this item of a tile's list, for job j.
pub record IsAtListed (u : Units) (j : ℕ) (lists : Lists) (sub : SubList) (found : Found) : Type 0 where
  pub job_is : renderer_job u ≡ Some (record { number = j; item = lists })
  pub inside_is : lists.renderer.inside ≡ Some sub
  pub found_is : item_at sub lists.items ≡ Some found

-- The item lies outside.
abbrev pub ItemReadsPastAreUnsafe : Type 0
ItemReadsPastAreUnsafe =
    (jobs : List Rights) (m : List ℕ) (u : Units) (j : ℕ) (lists : Lists) (sub : SubList) (found : Found) → IsAtListed u j lists sub found
    → IsPast jobs j found.item.place 16
    → Safe ready turn jobs m u → ⊥

-- The next step of the binner, or one of the renderer for some choice words, fetches vertex `number` of this primitive for job j. Its
-- record is that of the state word.
pub record BinnerFetches (m : List ℕ) (u : Units) (j : ℕ) (primitive : Primitive) (state number : ℕ) : Type 0 where
  pub lists : Lists
  pub work : Work
  pub at : IsAtWork m u j lists work
  pub none_due : work.due ≡ false
  pub more : work.done < work.primitive.length
  pub primitive_is : work.primitive ≡ primitive
  pub state_is : work.word ≡ state
  pub number_is : work.done ≡ number

pub record RendererFetches (u : Units) (j : ℕ) (primitive : Primitive) (state number : ℕ) : Type 0 where
  pub lists : Lists
  pub sub : SubList
  pub found : Found
  pub at : IsAtListed u j lists sub found
  pub words : List ℕ
  pub chosen : word_at words 0 % 4 ≡ 0
  pub some : 0 < found.item.primitive.length
  pub primitive_is : found.item.primitive ≡ primitive
  pub state_is : found.item.word ≡ state
  pub number_is : word_at words 1 % found.item.primitive.length ≡ number

abbrev pub Fetches : List ℕ → Units → ℕ → Primitive → ℕ → ℕ → Type 0
Fetches m u j primitive state number = BinnerFetches m u j primitive state number ⊎ RendererFetches u j primitive state number

-- where the index of a vertex stands, if it is read
abbrev pub index_place : Primitive → ℕ → ℕ
index_place primitive number = primitive.address + number * index_size primitive

-- the index: read from this memory, or counted from the first one on
abbrev pub index_of : List ℕ → Primitive → ℕ → ℕ
index_of m primitive number =
    if primitive.indexed then index_in primitive (bytes_at m (index_place primitive number) (index_size primitive)) else (primitive.address + number) % 2 ^ 32

abbrev pub IndexesPastAreUnsafe : Type 0
IndexesPastAreUnsafe =
    (jobs : List Rights) (m : List ℕ) (u : Units) (j : ℕ) (primitive : Primitive) (state number : ℕ) → Fetches m u j primitive state number
    → primitive.indexed ≡ true → IsPast jobs j (index_place primitive number) (index_size primitive)
    → Safe ready turn jobs m u → ⊥

-- what is read of an attribute: its bytes, the word that extends its stride, and the vertex's data, by the attribute's bytes, its stride and
-- the vertex's index as this memory has them
abbrev pub IsOfAttribute : List ℕ → (state index attribute place len : ℕ) → Type 0
IsOfAttribute m state index attribute place len =
    ((place ≡ attribute_place state attribute) × (len ≡ 8))
    ⊎ (((is_extended state ≡ true) × ((place ≡ extension_place state attribute) × (len ≡ 4)))
    ⊎ ((place ≡ data_place (attribute_at m state attribute) (extension_at m state attribute) index) × (len ≡ data_size (attribute_at m state attribute))))

-- The vertex is fetched, whose index is none above the greatest, and its record has this attribute.
abbrev pub AttributesPastAreUnsafe : Type 0
AttributesPastAreUnsafe =
    (jobs : List Rights) (m : List ℕ) (u : Units) (j : ℕ) (primitive : Primitive) (state number attribute : ℕ) → Fetches m u j primitive state number
    → draws_nothing primitive (index_of m primitive number) ≡ false → attribute < attribute_count state
    → (place len : ℕ) → IsOfAttribute m state (index_of m primitive number) attribute place len → IsPast jobs j place len
    → Safe ready turn jobs m u → ⊥

-- A program of this record is started: the binner's coordinate program where it is due, or one that choice words let the renderer start,
-- where a thread can take it.
pub record BinnerStarts (m : List ℕ) (u : Units) (j : ℕ) (program : Program) (state : ℕ) : Type 0 where
  pub lists : Lists
  pub work : Work
  pub at : IsAtWork m u j lists work
  pub due : work.due ≡ true
  pub program_is : Coordinate ≡ program
  pub state_is : work.word ≡ state

-- the renderer's choice of a program, and whether that is a threaded one
abbrev pub choice_of : Program → ℕ
choice_of Vertex = 1
choice_of Fragment = 2
choice_of Coordinate = 4

abbrev pub threaded_by : List ℕ → Program → ℕ → Bool
threaded_by m Fragment state = is_threaded (bytes_at m (record_place state) 2)
threaded_by m Vertex state = false
threaded_by m Coordinate state = false

pub record RendererStarts (m : List ℕ) (u : Units) (j : ℕ) (program : Program) (state : ℕ) : Type 0 where
  pub lists : Lists
  pub sub : SubList
  pub found : Found
  pub at : IsAtListed u j lists sub found
  pub words : List ℕ
  pub chosen : word_at words 0 % 4 ≡ choice_of program
  pub state_is : found.item.word ≡ state
  pub can : can_start (threaded_by m program state) (free_in u.qpus) ≡ true

abbrev pub Starts : List ℕ → Units → ℕ → Program → ℕ → Type 0
Starts m u j program state = BinnerStarts m u j program state ⊎ RendererStarts m u j program state

-- what is read of the record: its flags, and the places of the program's code and of its uniforms
abbrev pub IsOfRecord : Program → ℕ → ℕ → ℕ → Type 0
IsOfRecord program state place len =
    ((place ≡ record_place state) × (len ≡ 2))
    ⊎ (((place ≡ record_place state + code_offset program) × (len ≡ 4)) ⊎ ((place ≡ record_place state + code_offset program + 4) × (len ≡ 4)))

abbrev pub RecordsPastAreUnsafe : Type 0
RecordsPastAreUnsafe =
    (jobs : List Rights) (m : List ℕ) (u : Units) (j : ℕ) (program : Program) (state : ℕ) → Starts m u j program state
    → (place len : ℕ) → IsOfRecord program state place len → IsPast jobs j place len
    → Safe ready turn jobs m u → ⊥
