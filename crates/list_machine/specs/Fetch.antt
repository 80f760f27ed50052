-- How a vertex of a primitive is fetched: its index, and then its data, attribute by attribute.
use Rattle.std.specs.Prelude.{ℕ, zero, suc, ◌+◌, ◌*◌, ◌-◌, ◌/◌, ◌%◌, ◌^◌, ◌&&◌, nat_lt, Bool, if◌then◌else◌, List, slice_index}
use Rattle.field_words.specs.Words.{u16_at, u32_at}
use Rattle.packets.specs.StateWord.{attribute_count, is_extended}
use Rattle.machine_plan.specs.{Plan.Plan, Plan.Done, Plan.Reads, World.plan_followed}
use Rattle.list_machine.specs.State.{Primitive}

-- the bytes of an index
unfoldable pub index_size : Primitive → ℕ
index_size p = if p.wide then 2 else 1

-- the index that was read
unfoldable pub index_in : Primitive → List ℕ → ℕ
index_in p bytes = if p.wide then u16_at bytes 0 else slice_index bytes 0

-- The index of vertex k: of an indexed primitive it is read, else the vertices have the indexes from the
-- first on, modulo 2^32.
unfoldable pub index_plan : Primitive → ℕ → Plan ℕ
index_plan p k =
    if p.indexed then Reads (p.address + k * index_size p) (index_size p) (λ bytes. Done (index_in p bytes))
    else Done ((p.address + k) % 2 ^ 32)

-- an index above the greatest one draws nothing
unfoldable pub draws_nothing : Primitive → ℕ → Bool
draws_nothing p index = p.indexed && nat_lt p.most index

-- the record of a state word begins at the word without its low four bits
unfoldable pub record_place : ℕ → ℕ
record_place word = word - word % 16

-- where attribute t of a record stands, and the word that extends its stride
unfoldable pub attribute_place : ℕ → ℕ → ℕ
attribute_place word t = record_place word + 36 + 8 * t

unfoldable pub extension_place : ℕ → ℕ → ℕ
extension_place word t = record_place word + 100 + 4 * t

-- An attribute's bytes hold the address of its data, how many bytes a vertex has there, less one, and the
-- low byte of the stride. The bits 31:8 of an extension word are those of the stride.
unfoldable pub data_size : List ℕ → ℕ
data_size attribute = slice_index attribute 4 + 1

unfoldable pub stride_of : List ℕ → ℕ → ℕ
stride_of attribute extension = slice_index attribute 5 + 256 * (extension / 256)

unfoldable pub data_place : List ℕ → ℕ → ℕ → ℕ
data_place attribute extension index = u32_at attribute 0 + index * stride_of attribute extension

-- the data of a vertex, behind the attribute's bytes
unfoldable pub data_plan : List ℕ → ℕ → ℕ → Plan ℕ
data_plan attribute extension index = Reads (data_place attribute extension index) (data_size attribute) (λ bytes. Done index)

-- an extended record has a word more for each attribute
unfoldable pub extended_plan : ℕ → ℕ → ℕ → List ℕ → Plan ℕ
extended_plan word index t attribute =
    if is_extended word then Reads (extension_place word t) 4 (λ extension. data_plan attribute (u32_at extension 0) index)
    else data_plan attribute 0 index

unfoldable pub attribute_plan : ℕ → ℕ → ℕ → Plan ℕ
attribute_plan word index t = Reads (attribute_place word t) 8 (λ attribute. extended_plan word index t attribute)

-- n attributes from attribute t on
unfoldable pub attributes_plan : ℕ → ℕ → ℕ → ℕ → Plan ℕ
attributes_plan word t zero index = Done index
attributes_plan word t (suc n) index = plan_followed (attribute_plan word index t) (attributes_plan word (t + 1) n)

-- all attributes of a vertex
abbrev pub all_attributes_plan : ℕ → ℕ → Plan ℕ
all_attributes_plan word index = attributes_plan word 0 (attribute_count word) index

-- what is done with the index
unfoldable pub indexed_plan : Primitive → ℕ → ℕ → Plan ℕ
indexed_plan p word index = if draws_nothing p index then Done index else all_attributes_plan word index

-- Vertex k of a primitive with this state word is fetched. It comes to the vertex's index.
unfoldable pub fetch_plan : Primitive → ℕ → ℕ → Plan ℕ
fetch_plan p word k = plan_followed (index_plan p k) (indexed_plan p word)
