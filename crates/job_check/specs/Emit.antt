-- The memory of an accepted file: zeros, but for the contents of each buffer at its place and the lists of each job in the lists' region.
use Rattle.std.specs.Prelude.{◌≡◌, ℕ, zero, suc, ◌+◌, ◌%◌, ◌≤◌, ◌<◌, List, [], ◌∷◌, ◌++◌, length, map}
use Rattle.std.specs.List.{AllByRecursion, range_with_len}
use Rattle.field_words.specs.{Sizes.most_memory, Writes.Part, Writes.memory_emitted}
use Rattle.buffer_table.specs.declared.buffer.Buffer.{Buffer}
use Rattle.job_format.specs.Model.{FileModel}
use Rattle.relocation.specs.{declared.layout.Layout.Layout, declared.layout.Lengths.Lengths}
use Rattle.job_check.specs.Jobs.{layout_of, end_of, layouts_of, bin_list_of, records_of, streams_of, render_list_of}
use Rattle.job_check.specs.{declared.check.Checked.Checked, declared.region.Lists.Lists}

-- contents at the places of their buffers
unfoldable pub content_parts : List Buffer → List (List ℕ) → List Part
content_parts [] contents = []
content_parts (buffer ∷ buffers) [] = []
content_parts (buffer ∷ buffers) (content ∷ contents) = record { place = buffer.place; bytes = content } ∷ content_parts buffers contents

-- how many bytes of each list are emitted
unfoldable pub lengths_of : FileModel → ℕ → Lengths
lengths_of f j = record { bin = length (bin_list_of f j); records = length (records_of f j); uniforms = length (streams_of f j); render = length (render_list_of f j) }

unfoldable pub all_lengths_of : FileModel → List Lengths
all_lengths_of f = map (lengths_of f) (range_with_len 0 (length f.jobs))

-- the lists of job j, each at its offset from where they begin
abbrev pub part : ℕ → List ℕ → Part
part place bytes = record { place = place; bytes = bytes }

unfoldable pub later_parts : FileModel → ℕ → List Part
later_parts f j =
    part (layout_of f j).records (records_of f j)
    ∷ (part (layout_of f j).uniforms (streams_of f j)
    ∷ (part (layout_of f j).render (render_list_of f j) ∷ []))

unfoldable pub list_parts : FileModel → ℕ → List Part
list_parts f j = part (layout_of f j).bin (bin_list_of f j) ∷ later_parts f j

-- these parts, each so many bytes further on
abbrev pub parts_moved : ℕ → List Part → List Part
parts_moved by [] = []
parts_moved by (part ∷ parts) = record { place = by + part.place; bytes = part.bytes } ∷ parts_moved by parts

-- each part lies inside so many bytes
abbrev pub PartsFit : ℕ → List Part → Type 0
PartsFit size [] = Unit {0}
PartsFit size (part ∷ parts) = (part.place + length part.bytes ≤ size) × PartsFit size parts

-- the parts of a job's lists in the memory
unfoldable pub memory_parts : FileModel → ℕ → List Part
memory_parts f j = parts_moved (layout_of f j).place (list_parts f j)

-- those of the first n jobs, one job after the other
unfoldable pub jobs_parts : FileModel → ℕ → List Part
jobs_parts f zero = []
jobs_parts f (suc n) = jobs_parts f n ++ memory_parts f n

-- the memory before any list, and with all of them
abbrev pub fresh_memory_of : FileModel → List ℕ
fresh_memory_of f = memory_emitted f.mem_size (content_parts f.buffers f.contents)

unfoldable pub memory_of : FileModel → List ℕ
memory_of f = memory_emitted f.mem_size (content_parts f.buffers f.contents ++ jobs_parts f (length f.jobs))

-- each buffer's contents lie inside a memory of this size
unfoldable pub ContentsFit : ℕ → List Buffer → List (List ℕ) → Type 0
ContentsFit size [] contents = Unit {0}
ContentsFit size (buffer ∷ buffers) [] = Unit {0}
ContentsFit size (buffer ∷ buffers) (content ∷ contents) = (buffer.place + length content ≤ size) × ContentsFit size buffers contents

-- What an accepted file comes to: its memory, and by job where the lists lie there and how many bytes of each were emitted.
pub record IsEmitted (f : FileModel) (memory : List ℕ) (layouts : List Layout) (lengths : List Lengths) : Type 0 where
  pub memory_is : memory ≡ memory_of f
  pub layouts_are : layouts ≡ layouts_of f
  pub lengths_are : lengths ≡ all_lengths_of f

-- what the check answers is that memory, those places and lengths
abbrev pub Emits : FileModel → Checked → Type 0
Emits f checked = IsEmitted f checked.memory checked.layouts.items checked.lengths.items

-- The lists lie in their order.
pub record InOrder (layout : Layout) : Type 0 where
  pub bin : layout.bin ≤ layout.records
  pub records : layout.records ≤ layout.uniforms
  pub uniforms : layout.uniforms ≤ layout.render
  pub render : layout.render ≤ layout.end

-- They lie inside a memory of this size.
pub record IsInside (size : ℕ) (layout : Layout) : Type 0 where
  pub inside : end_of layout ≤ size
  pub order : InOrder layout

-- The memory is whole pages, at least one and at most 64 MiB of them, and the lists of each job lie inside it.
pub record IsPlaced (memory : List ℕ) (layouts : List Layout) : Type 0 where
  pub pages : length memory % 4096 ≡ 0
  pub not_empty : 0 < length memory
  pub limit : length memory ≤ most_memory
  pub each_job : AllByRecursion (IsInside (length memory)) layouts

-- Where the lists of a job went, and how many bytes of each were emitted.
pub record IsPlacedFor (f : FileModel) (j : ℕ) (layout : Layout) (lengths : Lengths) : Type 0 where
  pub layout_is : layout ≡ layout_of f j
  pub lengths_are : lengths ≡ lengths_of f j

abbrev pub ArePlaced : FileModel → ℕ → Lists → Type 0
ArePlaced f j lists = IsPlacedFor f j lists.layout lists.lengths
