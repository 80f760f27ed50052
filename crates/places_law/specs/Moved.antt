-- A file whose buffers lie at other places.
use Rattle.std.specs.{Prelude.◌≡◌, Prelude.ℕ, Prelude.List, Prelude.◌++◌, Prelude.length, Prelude.map, Prelude.None, List.flat_map}
use Rattle.field_words.specs.Questions.{first_of}
use Rattle.buffer_table.specs.declared.buffer.Buffer.{Buffer}
use Rattle.job_format.specs.{declared.rule.Place.Place, Model.FileModel, Offsets.header_size, Offsets.buffer_count, Places.offset_of, Reading.file_at, Text.buffer_text}
use Rattle.job_check.specs.{Faults.table_stage, Faults.file_stages, Whole.refusal_of}

-- a buffer's entry without its place
abbrev pub placeless : Buffer → Buffer
placeless buffer = record { place = 0; size = buffer.size; client = buffer.client; kind = buffer.kind; content = buffer.content }

-- the file with these entries of buffers
abbrev pub with_buffers : FileModel → List Buffer → FileModel
with_buffers f buffers = record {
  version = f.version;
  mem_size = f.mem_size;
  regions = f.regions;
  buffers = buffers;
  contents = f.contents;
  jobs = f.jobs;
}

-- The first rule that a file breaks doesn't depend on where its buffers lie, as long as they lie well: no rule on the memory is broken
-- before or after they were moved.
abbrev pub PlacesAreFree : Type 0
PlacesAreFree = (f : FileModel) (buffers : List Buffer) → map placeless buffers ≡ map placeless f.buffers
    → first_of (table_stage f) ≡ None → first_of (table_stage (with_buffers f buffers)) ≡ None
    → first_of (file_stages (with_buffers f buffers)) ≡ first_of (file_stages f)

-- Bytes of two files with the same header, the same entries of buffers but for their places, and the same bytes behind the entries.
pub record AreMoved (bytes other : List ℕ) : Type 0 where
  pub head : List ℕ
  pub buffers : List Buffer
  pub others : List Buffer
  pub tail : List ℕ
  pub one : bytes ≡ head ++ (flat_map buffer_text buffers ++ tail)
  pub two : other ≡ head ++ (flat_map buffer_text others ++ tail)
  pub header : length head ≡ header_size
  pub count : buffer_count head ≡ length buffers
  pub same : map placeless others ≡ map placeless buffers

-- Bytes of such files are refused alike, and the refusal's place has the same offset.
abbrev pub MovedAreAlike : Type 0
MovedAreAlike = (bytes other : List ℕ) → AreMoved bytes other
    → first_of (table_stage (file_at bytes)) ≡ None → first_of (table_stage (file_at other)) ≡ None
    → (refusal_of other ≡ refusal_of bytes) × ((place : Place) → offset_of other place ≡ offset_of bytes place)
