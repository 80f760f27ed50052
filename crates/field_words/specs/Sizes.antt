-- Sizes and limits that several crates speak of, in bytes where nothing else is said. Each is
-- written once, here.
use Rattle.std.specs.Prelude.{ℕ}

-- a page: each place and size of a buffer or region is a multiple of it
abbrev pub page_size : ℕ
page_size = 4096

-- a tile slot: the tile memory of one job
abbrev pub slot_size : ℕ
slot_size = 524288

-- the memory of a job file: 64 MiB
abbrev pub most_memory : ℕ
most_memory = 67108864

-- a binner list, the shader records or the uniforms of a job, and the input of the commands on
-- shader text: 1 MiB each
abbrev pub most_list : ℕ
most_list = 1048576

-- a shader, in bytes and in words of eight
abbrev pub most_code : ℕ
most_code = 65536

abbrev pub most_words : ℕ
most_words = 8192

-- a renderer list of a job: 8 MiB
abbrev pub most_render : ℕ
most_render = 8388608
