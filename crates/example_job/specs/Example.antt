-- The example job of a number: a frame of 1 to 30 by 1 to 17 tiles, with 1 to 4,000 triangles.
use Rattle.std.specs.Prelude.{ℕ, ◌+◌, ◌*◌, ◌/◌, ◌%◌, ◌^◌, ◌-◌, false, List, [], ◌∷◌}
use Rattle.buffer_table.specs.{declared.buffer.Buffer.Buffer, declared.buffer.Kind.TheVariants.Plain, declared.buffer.Kind.TheVariants.Code}
use Rattle.buffer_table.specs.declared.buffer.Regions.{Regions}
use Rattle.job_format.specs.{declared.file.Frame.Frame, declared.file.Surface.Surface, Model.JobModel, Model.FileModel}
use Rattle.example_job.specs.{Noise.noise, Lists.bin_of, Lists.records_of}

-- how many tiles the frame is across and down, and how many triangles it has
unfoldable pub across_of : ℕ → ℕ
across_of number = number % 30 + 1

unfoldable pub down_of : ℕ → ℕ
down_of number = number / 30 % 17 + 1

unfoldable pub count_of : ℕ → ℕ
count_of number = number % 4000 + 1

-- the bytes of the frame: 64 by 64 pixels of 4 bytes a tile
abbrev pub frame_bytes : ℕ → ℕ
frame_bytes tiles = 16384 * tiles

abbrev pub regions : Regions
regions = record { lists_place = 0; lists_size = 0x400000; tile_place = 0x400000; tile_slots = 1 }

-- the shader, the vertices, the frame
abbrev pub code_buffer : Buffer
code_buffer = record { place = 0x480000; size = 0x1000; client = 1; kind = Code; content = 24 }

abbrev pub vertex_buffer : Buffer
vertex_buffer = record { place = 0x481000; size = 0x100000; client = 1; kind = Plain; content = 0x100000 }

abbrev pub frame_buffer : ℕ → Buffer
frame_buffer tiles = record { place = 0x581000; size = frame_bytes tiles; client = 1; kind = Plain; content = 0 }

-- a program end with two idle instructions in its slots
abbrev pub shader : List ℕ
shader =
    0x00 ∷ 0x70 ∷ 0x9e ∷ 0x00 ∷ 0xe7 ∷ 0x09 ∷ 0x00 ∷ 0x30 ∷ 0x00 ∷ 0x70 ∷ 0x9e ∷ 0x00 ∷ 0xe7 ∷ 0x09 ∷ 0x00 ∷ 0x10 ∷
    0x00 ∷ 0x70 ∷ 0x9e ∷ 0x00 ∷ 0xe7 ∷ 0x09 ∷ 0x00 ∷ 0x10 ∷ []

-- how many bytes the vertices are
abbrev pub vertex_bytes : ℕ
vertex_bytes = 0x100000

abbrev pub absent : Surface
absent = record { hindex = 2 ^ 32 - 1; offset = 0; bits = 0; flags = 0 }

-- colour write is in the frame's buffer: four bytes a pixel in T tiles
abbrev pub colour_write : Surface
colour_write = record { hindex = 2; offset = 0; bits = 0x44; flags = 0 }

abbrev pub frame_of : ℕ → ℕ → Frame
frame_of across down = record {
  width = 64 * across;
  height = 64 * down;
  min_x = 0;
  min_y = 0;
  max_x = across - 1;
  max_y = down - 1;
  surfaces = absent ∷ colour_write ∷ absent ∷ absent ∷ absent ∷ absent ∷ [];
  clear = false;
  clear_color = 0 ∷ 0 ∷ [];
  clear_z = 0;
  clear_s = 0;
}

abbrev pub job_of : ℕ → ℕ → ℕ → JobModel
job_of across down count = record {
  client = 1;
  handles = 0 ∷ 1 ∷ 2 ∷ [];
  bin = bin_of across down count;
  records = records_of count;
  declared = count;
  uniforms = [];
  frame = frame_of across down;
}

-- the file of a frame of this many tiles with this many triangles, and vertices from this seed
unfoldable pub file_of : ℕ → ℕ → ℕ → ℕ → FileModel
file_of seed across down count = record {
  version = 1;
  mem_size = 0x581000 + frame_bytes (across * down);
  regions = regions;
  buffers = code_buffer ∷ vertex_buffer ∷ frame_buffer (across * down) ∷ [];
  contents = shader ∷ noise seed vertex_bytes ∷ [] ∷ [];
  jobs = job_of across down count ∷ [];
}

-- the file of a number
unfoldable pub example : ℕ → FileModel
example number = file_of number (across_of number) (down_of number) (count_of number)
