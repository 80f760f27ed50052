-- How facts are reported to a person.
use Rattle.std.specs.Prelude.{ℕ, ◌-◌, ◌^◌, ◌%◌, ◌==◌, not, Bool, false, nat_le, List, ◌++◌, codes, Option, Some, None, if◌then◌else◌}
use Rattle.std.specs.Fmt.{decimal, digits}
use Rattle.field_words.specs.Sizes.{page_size}
use Rattle.buffer_table.specs.declared.buffer.{Kind.Kind, Kind.TheVariants.Plain, Kind.TheVariants.Code}
use Rattle.refusal_facts.specs.declared.fact.{BufferFact.BufferFact, EndFact.EndFact, HandleFact.HandleFact, ItemFact.ItemFact, IndexFact.IndexFact, RoomFact.RoomFact}
use Rattle.refusal_facts.specs.declared.fact.{StateFact.StateFact, ThreadFact.ThreadFact, AttributeFact.AttributeFact, VertexFact.VertexFact, UseFact.UseFact, PixelsFact.PixelsFact, Facts.Facts}
use Rattle.refusal_facts.specs.declared.fact.Facts.TheVariants.{Nothing, Room, Region, Off, Past, Pair, Handle, Indexes, States, Threads, Attribute, Vertex, Use, Level, Name, Pixels, Surface, Tile}

-- "needs 16 bytes, has 12", or "needs 4111 bytes, the region has 4096"
unfoldable pub room_text : List ℕ → RoomFact → List ℕ
room_text there room = codes "needs " ++ decimal room.needs ++ codes " bytes, " ++ there ++ codes " " ++ decimal room.has

-- a place in memory or an address: "0x1a0"
unfoldable pub hex : ℕ → List ℕ
hex number = codes "0x" ++ digits 16 false number

-- "lists' region", "tile region" or "buffer 3"
unfoldable pub item_name : ℕ → List ℕ
item_name item =
    if item == 0 then codes "memory" else (if item == 1 then codes "lists' region" else (if item == 2 then codes "tile region"
    else codes "buffer " ++ decimal (item - 3)))

-- "buffer 3: place 0x2000, 4096 bytes"
unfoldable pub item_text : ItemFact → List ℕ
item_text item = item_name item.item ++ codes ": place " ++ hex item.place ++ codes ", " ++ decimal item.size ++ codes " bytes"

-- which part of M2 it is
unfoldable pub off_text : ItemFact → List ℕ
off_text item =
    if not (item.place % page_size == 0) then codes "the place is no multiple of 4096"
    else (if not (item.size % page_size == 0) then codes "the size is no multiple of 4096" else codes "the size is 0")

unfoldable pub client_text : (number client : ℕ) → List ℕ
client_text number client = codes "buffer " ++ decimal number ++ codes " is client " ++ decimal client ++ codes "'s"

-- "buffer 3 is client 2's", or "there is no buffer 70"
unfoldable pub owner_text : ℕ → Option ℕ → List ℕ
owner_text number None = codes "there is no buffer " ++ decimal number
owner_text number (Some client) = client_text number client

-- "client 1; buffer 3 is client 2's"
unfoldable pub handle_text : HandleFact → List ℕ
handle_text handle = codes "client " ++ decimal handle.client ++ codes "; " ++ owner_text handle.number handle.owner

-- An address of the upper half of 2^32 may be meant as a negative number: "0xfffffff8 (-8)".
unfoldable pub address_text : ℕ → List ℕ
address_text address =
    if nat_le (2 ^ 31) address then hex address ++ codes " (-" ++ decimal (2 ^ 32 - address) ++ codes ")" else hex address

-- what such an address comes from
unfoldable pub cause_of : ℕ → List ℕ
cause_of address = if nat_le (2 ^ 31) address then codes "; usual cause: a negative index bias that wrapped" else codes ""

-- "buffer 3: 4096 bytes"
unfoldable pub buffer_text : BufferFact → List ℕ
buffer_text buffer = codes "buffer " ++ decimal buffer.number ++ codes ": " ++ decimal buffer.size ++ codes " bytes"

-- "buffer 3: 4096 bytes; address 0xfffffff8 (-8), 8 bytes; usual cause: a negative index bias that wrapped"
unfoldable pub attribute_text : AttributeFact → List ℕ
attribute_text attribute =
    buffer_text attribute.buffer ++ codes "; address " ++ address_text attribute.address ++ codes ", " ++ decimal attribute.length ++ codes " bytes"
    ++ cause_of attribute.address

-- "ATTRIBUTE; stride 16, greatest index 300"
unfoldable pub vertex_text : VertexFact → List ℕ
vertex_text vertex =
    attribute_text vertex.attribute ++ codes "; stride " ++ decimal vertex.stride ++ codes ", greatest index " ++ decimal vertex.index

-- "buffer 3: 4096 bytes; address 0xf00, 300 indexes of 2 bytes"
unfoldable pub width_text : ℕ → List ℕ
width_text bytes = if bytes == 1 then codes "indexes of 1 byte" else codes "indexes of 2 bytes"

unfoldable pub index_text : IndexFact → List ℕ
index_text indexes =
    buffer_text indexes.buffer ++ codes "; address " ++ address_text indexes.address ++ codes ", " ++ decimal indexes.count ++ codes " "
    ++ width_text indexes.bytes

-- "declares 15, the list has 22"
unfoldable pub state_text : StateFact → List ℕ
state_text states = codes "declares " ++ decimal states.declared ++ codes ", the list has " ++ decimal states.states

-- "the flags say single-threaded; buffer 4 switches threads"
unfoldable pub said_text : Bool → List ℕ
said_text single = if single then codes "the flags say single-threaded" else codes "the flags don't say single-threaded"

unfoldable pub switch_text : Bool → List ℕ
switch_text threaded = if threaded then codes "switches threads" else codes "has no thread switch"

unfoldable pub thread_text : ThreadFact → List ℕ
thread_text threads = said_text threads.single ++ codes "; buffer " ++ decimal threads.buffer ++ codes " " ++ switch_text threads.threaded

-- which of a record's shaders it is: "vertex shader"
unfoldable pub stage_text : ℕ → List ℕ
stage_text stage =
    if stage == 0 then codes "fragment shader" else (if stage == 1 then codes "vertex shader" else codes "coordinate shader")

-- "vertex shader: needs 24 bytes, has 16"
unfoldable pub use_text : UseFact → List ℕ
use_text shader = stage_text shader.stage ++ codes ": needs " ++ decimal shader.needs ++ codes " bytes, has " ++ decimal shader.has

-- "buffer 6: 4096 bytes; level 0 ends at 1048576"
unfoldable pub end_text : List ℕ → EndFact → List ℕ
end_text what end = buffer_text end.buffer ++ codes "; " ++ what ++ codes " ends at " ++ decimal end.end

-- "handle 9; the job has 7", or "handle 1: buffer 3 is Plain"
unfoldable pub kind_text : Kind → List ℕ
kind_text Plain = codes "Plain"
kind_text Code = codes "Code"

unfoldable pub name_text : (index handles : ℕ) → Option BufferFact → List ℕ
name_text index handles None = codes "handle " ++ decimal index ++ codes "; the job has " ++ decimal handles
name_text index handles (Some buffer) =
    codes "handle " ++ decimal index ++ codes ": buffer " ++ decimal buffer.number ++ codes " is " ++ kind_text buffer.kind

-- "the frame has 4097x16 pixels, at most 4096x4096"
unfoldable pub pixels_text : PixelsFact → List ℕ
pixels_text pixels = codes "the frame has " ++ decimal pixels.width ++ codes "x" ++ decimal pixels.height ++ codes " pixels, at most 4096x4096"

-- what stands in brackets
unfoldable pub fact_text : Facts → List ℕ
fact_text Nothing = codes ""
fact_text (Room room) = room_text (codes "has") room
fact_text (Region room) = room_text (codes "the region has") room
fact_text (Off item) = item_text item ++ codes "; " ++ off_text item
fact_text (Past past) = codes "the memory has " ++ decimal past.memory ++ codes " bytes; " ++ item_text past.item
fact_text (Pair pair) = item_text pair.later ++ codes "; " ++ item_text pair.earlier
fact_text (Handle handle) = handle_text handle
fact_text (Indexes indexes) = index_text indexes
fact_text (States states) = state_text states
fact_text (Threads threads) = thread_text threads
fact_text (Attribute attribute) = attribute_text attribute
fact_text (Vertex vertex) = vertex_text vertex
fact_text (Use shader) = use_text shader
fact_text (Level end) = end_text (codes "level 0") end
fact_text (Name name) = name_text name.index name.handles name.named
fact_text (Pixels pixels) = pixels_text pixels
fact_text (Surface end) = end_text (codes "surface") end
fact_text (Tile end) = end_text (codes "last tile") end

-- " [needs 16 bytes, has 12]", and nothing where there is nothing to say
unfoldable pub facts_text : Facts → List ℕ
facts_text Nothing = codes ""
facts_text facts = codes " [" ++ fact_text facts ++ codes "]"
