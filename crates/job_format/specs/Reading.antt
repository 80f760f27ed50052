-- The file that bytes hold, field by field, each at its place. Where no rule of the format is broken
-- this is the one file whose text the bytes are.
use Rattle.std.specs.Prelude.{ℕ, ◌+◌, ◌*◌, ◌==◌, List, [], ◌∷◌, map, take, drop, slice_index, if◌then◌else◌}
use Rattle.std.specs.List.{range_with_len}
use Rattle.field_words.specs.Words.{u16_at, u32_at}
use Rattle.buffer_table.specs.{declared.buffer.Kind.Kind, declared.buffer.Kind.TheVariants.Plain, declared.buffer.Kind.TheVariants.Code}
use Rattle.buffer_table.specs.{declared.buffer.Buffer.Buffer, declared.buffer.Regions.Regions}
use Rattle.job_format.specs.Offsets.{version_in, buffer_count, job_count, entry_offset, job_offset, job_word, content_size, content_offset, handles_offset, bin_offset, records_offset, uniforms_offset}
use Rattle.job_format.specs.{declared.file.Surface.Surface, declared.file.Frame.Frame, Model.JobModel, Model.FileModel}

-- n bytes from a place on
abbrev pub bytes_cut : List ℕ → ℕ → ℕ → List ℕ
bytes_cut bytes at n = take n (drop at bytes)

abbrev pub kind_of : ℕ → Kind
kind_of n = if n == 1 then Code else Plain

unfoldable pub regions_at : List ℕ → Regions
regions_at bytes = record { lists_place = u32_at bytes 12; lists_size = u32_at bytes 16; tile_place = u32_at bytes 20; tile_slots = u32_at bytes 24 }

unfoldable pub entry_at : List ℕ → ℕ → Buffer
entry_at bytes at = record { place = u32_at bytes at; size = u32_at bytes (at + 4); client = u32_at bytes (at + 8); kind = kind_of (u32_at bytes (at + 12)); content = u32_at bytes (at + 16) }

unfoldable pub surface_at : List ℕ → ℕ → Surface
surface_at bytes at = record { hindex = u32_at bytes at; offset = u32_at bytes (at + 4); bits = u16_at bytes (at + 8); flags = u16_at bytes (at + 10) }

-- at a job's entry
unfoldable pub frame_at : List ℕ → ℕ → Frame
frame_at bytes at = record {
  width = u16_at bytes (at + 28);
  height = u16_at bytes (at + 30);
  min_x = slice_index bytes (at + 32);
  min_y = slice_index bytes (at + 33);
  max_x = slice_index bytes (at + 34);
  max_y = slice_index bytes (at + 35);
  surfaces = surface_at bytes (at + 36) ∷ surface_at bytes (at + 48) ∷ surface_at bytes (at + 60) ∷ surface_at bytes (at + 72) ∷ surface_at bytes (at + 84) ∷ surface_at bytes (at + 96) ∷ [];
  clear = u32_at bytes (at + 4) == 1;
  clear_color = u32_at bytes (at + 108) ∷ u32_at bytes (at + 112) ∷ [];
  clear_z = u32_at bytes (at + 116);
  clear_s = slice_index bytes (at + 120);
}

unfoldable pub words_at : List ℕ → ℕ → ℕ → List ℕ
words_at bytes at n = map (λ i. u32_at bytes (at + 4 * i)) (range_with_len 0 n)

unfoldable pub buffers_at : List ℕ → ℕ → List Buffer
buffers_at bytes n = map (λ b. entry_at bytes (entry_offset b)) (range_with_len 0 n)

unfoldable pub contents_at : List ℕ → ℕ → List (List ℕ)
contents_at bytes n = map (λ b. bytes_cut bytes (content_offset bytes b) (content_size bytes b)) (range_with_len 0 n)

unfoldable pub job_at : List ℕ → ℕ → JobModel
job_at bytes j = record {
  client = u32_at bytes (job_offset bytes j);
  handles = words_at bytes (handles_offset bytes j) (job_word bytes j 8);
  bin = bytes_cut bytes (bin_offset bytes j) (job_word bytes j 12);
  records = bytes_cut bytes (records_offset bytes j) (job_word bytes j 16);
  declared = job_word bytes j 20;
  uniforms = bytes_cut bytes (uniforms_offset bytes j) (job_word bytes j 24);
  frame = frame_at bytes (job_offset bytes j);
}

unfoldable pub jobs_at : List ℕ → ℕ → List JobModel
jobs_at bytes n = map (job_at bytes) (range_with_len 0 n)

unfoldable pub file_at : List ℕ → FileModel
file_at bytes = record {
  version = version_in bytes;
  mem_size = u32_at bytes 8;
  regions = regions_at bytes;
  buffers = buffers_at bytes (buffer_count bytes);
  contents = contents_at bytes (buffer_count bytes);
  jobs = jobs_at bytes (job_count bytes);
}
