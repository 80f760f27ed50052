-- A job that uses what the machine has: a triangle whose fragment shader has two threads, takes a texture, and reads a table
-- directly, by the texel that it got. It stands alone in a file, and there are two such jobs in another, of two clients.
use Rattle.std.specs.Prelude.{ℕ, ◌+◌, true, false, List, [], ◌∷◌, ◌++◌, map, Some, None}
use Rattle.std.specs.Int.{to_le_bytes, w64}
use Rattle.field_words.specs.Pieces.{joined_texts}
use Rattle.buffer_table.specs.{declared.buffer.Buffer.Buffer, declared.buffer.Kind.Kind, declared.buffer.Regions.Regions, declared.buffer.Kind.TheVariants.Plain, declared.buffer.Kind.TheVariants.Code}
use Rattle.job_format.specs.{declared.file.Frame.Frame, declared.file.Surface.Surface, Model.JobModel, Model.FileModel}
use Rattle.qpu_isa.specs.Shader.{ShaderModel}
use Rattle.render_list.specs.Frame.{no_surface}
use Rattle.job_check.specs.Jobs.{no_frame}

-- the words of the fragment shader, each with its text
abbrev pub fragment_words : List ℕ
fragment_words =
    0x10020e67009e7000  -- alu ca=1 wa=57                                        the first word of a texture, T
    ∷ 0x10020e27009e7000  -- alu ca=1 wa=56                                        and its second, S, which sends
    ∷ 0x200009e7009e7000  -- alu sig=2                                             a switch to the other thread
    ∷ 0x100009e7009e7000  -- nop
    ∷ 0x100009e7009e7000  -- nop
    ∷ 0xa00009e7009e7000  -- alu sig=10                                            r4 is the texel
    ∷ 0xd0020867139c09c0  -- alu sig=13 ca=1 wa=33 oa=max rb=0 aa=4 ab=7           r1 is the greater of it and 0
    ∷ 0x1002086712827380  -- alu ca=1 wa=33 oa=min ra=32 aa=1 ab=6                 and at most a uniform
    ∷ 0x10020e270c827380  -- alu ca=1 wa=56 oa=add ra=32 aa=1 ab=6                 the word of the table at r1
    ∷ 0x200009e7009e7000  -- alu sig=2                                             another switch
    ∷ 0x100009e7009e7000  -- nop
    ∷ 0x100009e7009e7000  -- nop
    ∷ 0xa00009e7009e7000  -- alu sig=10                                            r4 is that word
    ∷ 0x10020ba7159e7900  -- alu ca=1 wa=46 oa=or aa=4 ab=4                        the pixel's colour
    ∷ 0x300009e7009e7000  -- alu sig=3                                             the program's end, and two more
    ∷ 0x100009e7009e7000  -- nop
    ∷ 0x100009e7009e7000  -- nop
    ∷ []

-- those of the vertex shader, which is the coordinate shader too: a program's end, and two more
abbrev pub vertex_words : List ℕ
vertex_words = 0x300009e7009e7000 ∷ 0x100009e7009e7000 ∷ 0x100009e7009e7000 ∷ []

-- words as bytes, the lowest first
unfoldable pub code_bytes : List ℕ → List ℕ
code_bytes words = joined_texts (map (to_le_bytes w64) words)

-- what is reported of the two: the texture has the uniforms 0 and 1, and the direct read adds uniform 3 to what uniform 2 bounds
abbrev pub fragment_report : ShaderModel
fragment_report = record {
  uniforms = 4;
  samples =
      record { p = Some 0 ∷ Some 1 ∷ None ∷ None ∷ []; direct = false }
      ∷ record { p = Some 3 ∷ Some 2 ∷ None ∷ None ∷ []; direct = true }
      ∷ [];
  address_words = [];
  threaded = true;
}

abbrev pub vertex_report : ShaderModel
vertex_report = record { uniforms = 0; samples = []; address_words = []; threaded = false }

-- the lists' region in the first page, and so many tile slots behind it
abbrev pub regions : (slots : ℕ) → Regions
regions slots = record { lists_place = 0; lists_size = 0x1000; tile_place = 0x1000; tile_slots = slots }

-- a buffer of one page
abbrev pub page : (client place : ℕ) → Kind → (content : ℕ) → Buffer
page client place kind content = record { place = place; size = 0x1000; client = client; kind = kind; content = content }

-- the buffers of a client, from a place on: the two shaders, the frame, and what is read, which is vertices, texels and the table
abbrev pub buffers : (client place : ℕ) → List Buffer
buffers client place =
    page client place Code 136
    ∷ page client (place + 0x1000) Code 24
    ∷ page client (place + 0x2000) Plain 0
    ∷ page client (place + 0x3000) Plain 0
    ∷ []

-- what is in them
abbrev pub contents : List (List ℕ)
contents = code_bytes fragment_words ∷ code_bytes vertex_words ∷ [] ∷ [] ∷ []

-- configuration of one tile, start of binning, reset of the format of primitives, a shader state of one attribute, three vertices from the
-- first on, increment of the semaphore, flush
abbrev pub bin_list : List ℕ
bin_list =
    112 ∷ 0 ∷ 0 ∷ 0 ∷ 0 ∷ 0 ∷ 0 ∷ 0 ∷ 0 ∷ 0 ∷ 0 ∷ 0 ∷ 0 ∷ 1 ∷ 1 ∷ 0 ∷ 6 ∷ 56 ∷ 18 ∷ 64 ∷ 1 ∷ 0 ∷ 0 ∷ 0
    ∷ 33 ∷ 4 ∷ 3 ∷ 0 ∷ 0 ∷ 0 ∷ 0 ∷ 0 ∷ 0 ∷ 0 ∷ 7 ∷ 4 ∷ []

-- the handles of the three shaders and of the attribute's buffer; then the record: its fragment shader is threaded, and its
-- attribute has 12 bytes at a stride of 12
abbrev pub records : List ℕ
records =
    0 ∷ 0 ∷ 0 ∷ 0 ∷ 1 ∷ 0 ∷ 0 ∷ 0 ∷ 1 ∷ 0 ∷ 0 ∷ 0 ∷ 3 ∷ 0 ∷ 0 ∷ 0
    ∷ 0 ∷ 0 ∷ 0 ∷ 0 ∷ 0 ∷ 0 ∷ 0 ∷ 0 ∷ 0 ∷ 0 ∷ 0 ∷ 0 ∷ 0 ∷ 0 ∷ 0 ∷ 0 ∷ 0 ∷ 0 ∷ 0 ∷ 0
    ∷ 0 ∷ 0 ∷ 0 ∷ 0 ∷ 0 ∷ 0 ∷ 0 ∷ 0 ∷ 0 ∷ 0 ∷ 0 ∷ 0 ∷ 0 ∷ 0 ∷ 0 ∷ 0 ∷ 0 ∷ 0 ∷ 0 ∷ 0
    ∷ 11 ∷ 12 ∷ 0 ∷ 0 ∷ []

-- The handles of the two samples' buffer; then the stream: a texture of 8 by 8 pixels of 4 bytes, without levels, at the buffer's
-- beginning; what the table's place is at most behind its base, and the base.
abbrev pub uniforms : List ℕ
uniforms = 3 ∷ 0 ∷ 0 ∷ 0 ∷ 3 ∷ 0 ∷ 0 ∷ 0 ∷ 0 ∷ 0 ∷ 0 ∷ 0 ∷ 0 ∷ 8 ∷ 128 ∷ 0 ∷ 60 ∷ 0 ∷ 0 ∷ 0 ∷ 0 ∷ 4 ∷ 0 ∷ 0 ∷ []

-- colour write, the one surface: four bytes a pixel in Lt tiles
abbrev pub colour_write : Surface
colour_write = record { hindex = 2; offset = 0; bits = 0x84; flags = 0 }

-- one tile, of 16 by 16 pixels
abbrev pub frame : Frame
frame = record no_frame {
  width = 16;
  height = 16;
  surfaces = no_surface ∷ colour_write ∷ no_surface ∷ no_surface ∷ no_surface ∷ no_surface ∷ [];
  clear_color = 0 ∷ 0 ∷ [];
}

-- the job of a client, with its four buffers
abbrev pub job : (client : ℕ) → (handles : List ℕ) → JobModel
job client handles = record {
  client = client;
  handles = handles;
  bin = bin_list;
  records = records;
  declared = 1;
  uniforms = uniforms;
  frame = frame;
}

-- the file of the job alone
unfoldable pub textured_file : FileModel
textured_file = record {
  version = 1;
  mem_size = 0x85000;
  regions = regions 1;
  buffers = buffers 1 0x81000;
  contents = contents;
  jobs = job 1 (0 ∷ 1 ∷ 2 ∷ 3 ∷ []) ∷ [];
}

-- the file of two such jobs, of clients 1 and 2, each with a tile slot and with buffers of its own
unfoldable pub two_clients : FileModel
two_clients = record {
  version = 2;
  mem_size = 0x109000;
  regions = regions 2;
  buffers = buffers 1 0x101000 ++ buffers 2 0x105000;
  contents = contents ++ contents;
  jobs = job 1 (0 ∷ 1 ∷ 2 ∷ 3 ∷ []) ∷ job 2 (4 ∷ 5 ∷ 6 ∷ 7 ∷ []) ∷ [];
}

-- That file without client 2: neither its job nor its buffers are there.
unfoldable pub one_client : FileModel
one_client = record two_clients { buffers = buffers 1 0x101000; contents = contents; jobs = job 1 (0 ∷ 1 ∷ 2 ∷ 3 ∷ []) ∷ [] }
