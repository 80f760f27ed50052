-- The boxes of the strip: each stands for the same number of pages, and no memory takes more than 512.
use Rattle.std.specs.Prelude.{ℕ, ◌+◌, ◌-◌, ◌*◌, ◌/◌, ◌%◌, ◌==◌, ◌&&◌, nat_lt, Bool, List, codes, if◌then◌else◌, fold}
use Rattle.field_words.specs.Sizes.{page_size, slot_size}
use Rattle.buffer_table.specs.{declared.buffer.Buffer.Buffer, declared.buffer.Kind.Kind, declared.buffer.Regions.Regions}
use Rattle.buffer_table.specs.declared.buffer.Kind.TheVariants.{Plain, Code as CodeKind}
use Rattle.job_format.specs.Model.{FileModel}
use Rattle.pictures.specs.declared.grid.Shade.TheVariants.{Free, Slots, Lists, Several, Data, Code}
use Rattle.pictures.specs.declared.grid.Shade.{Shade}

-- 512 boxes of one page hold 2 MiB; a larger memory has larger boxes
unfoldable pub box_size : ℕ → ℕ
box_size memory = page_size * ((memory - 1) / 2097152 + 1)

unfoldable pub box_count : ℕ → ℕ
box_count memory = (memory + (box_size memory - 1)) / box_size memory

-- so many bytes from a place on have one from `from` to before `to`
abbrev pub overlaps : (begin size from to : ℕ) → Bool
overlaps begin size from to = nat_lt begin to && nat_lt from (begin + size)

-- a buffer's shade is that of its kind, in one of four tones for its client
abbrev pub tone_of : Kind → ℕ → Shade
tone_of Plain tone = Data tone
tone_of CodeKind tone = Code tone

unfoldable pub shade_of : Buffer → Shade
shade_of buffer = tone_of buffer.kind (buffer.client % 4)

-- a number for each shade
unfoldable pub tag_of : Shade → ℕ
tag_of Free = 0
tag_of Slots = 1
tag_of Lists = 2
tag_of Several = 3
tag_of (Data tone) = 4 + tone
tag_of (Code tone) = 8 + tone

-- what two things in one box are shown as
unfoldable pub both : Shade → Shade → Shade
both first second = if tag_of first == 0 then second else (if tag_of first == tag_of second then first else Several)

-- a box with one thing more, if that lies in it
abbrev pub put_in : (is_inside : Bool) → Shade → Shade → Shade
put_in is_inside shade here = if is_inside then both here shade else here

unfoldable pub with_buffer : (from to : ℕ) → Shade → Buffer → Shade
with_buffer from to here buffer = put_in (overlaps buffer.place buffer.size from to) (shade_of buffer) here

unfoldable pub with_regions : (from to : ℕ) → Regions → Shade
with_regions from to regions =
    put_in (overlaps regions.lists_place regions.lists_size from to) Lists
    (put_in (overlaps regions.tile_place (slot_size * regions.tile_slots) from to) Slots Free)

-- what a box shows: the regions and buffers that have bytes from `from` to `to`
abbrev pub shade_in : FileModel → (from to : ℕ) → Shade
shade_in file from to = fold (with_buffer from to) (with_regions from to file.regions) file.buffers

abbrev pub data_class : ℕ → List ℕ
data_class tone =
    if tone == 0 then codes "data0" else (if tone == 1 then codes "data1" else (if tone == 2 then codes "data2" else codes "data3"))

abbrev pub code_class : ℕ → List ℕ
code_class tone =
    if tone == 0 then codes "code0" else (if tone == 1 then codes "code1" else (if tone == 2 then codes "code2" else codes "code3"))

-- the shade's name in the drawing's style
unfoldable pub class_of : Shade → List ℕ
class_of Free = codes "free"
class_of Slots = codes "slots"
class_of Lists = codes "lists"
class_of Several = codes "several"
class_of (Data tone) = data_class tone
class_of (Code tone) = code_class tone
