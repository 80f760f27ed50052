-- The memory and who holds each page, and what the calls leave.
use Rattle.std.specs.Prelude.{◌≡◌, ℕ, ◌+◌, ◌*◌, ◌==◌, Bool, List, length, replicate, slice_index, Option, Some, None}
use Rattle.field_words.specs.{Sizes.page_size, Writes.with_bytes, Writes.zeros}
use Rattle.session_pages.specs.Runs.{page_count, first_run}

-- where the pages begin: behind the region of lists, of 0x400000 bytes, and one tile slot
abbrev pub first_place : ℕ
first_place = 4718592

abbrev pub memory_size : ℕ
memory_size = 21495808

-- where a page begins
abbrev pub place_of : ℕ → ℕ
place_of page = first_place + page_size * page

-- all bytes of the memory; and for each page who holds it, where 0 says that it is free
pub record PageMap : Type 0 where
  pub memory : List ℕ
  pub owners : List ℕ

pub record IsWhole (memory owners : List ℕ) : Type 0 where
  pub sized : length memory ≡ memory_size
  pub known : length owners ≡ page_count

abbrev pub all_free : PageMap
all_free = record { memory = zeros memory_size; owners = zeros page_count }

abbrev pub is_free : List ℕ → ℕ → Bool
is_free owners page = slice_index owners page == 0

-- the lowest run of so many free pages
abbrev pub free_run : PageMap → ℕ → Option ℕ
free_run map pages = first_run (is_free map.owners) pages

-- the pages from one on are held by this owner
abbrev pub held_by : List ℕ → ℕ → ℕ → ℕ → List ℕ
held_by owners first pages owner = with_bytes owners first (replicate pages owner)

-- a run was taken, if there was one
abbrev pub with_run : PageMap → ℕ → ℕ → Option ℕ → PageMap
with_run map pages owner None = map
with_run map pages owner (Some first) = record { memory = map.memory; owners = held_by map.owners first pages owner }

-- pages were given back: they are free, and zero
abbrev pub without_run : PageMap → ℕ → ℕ → PageMap
without_run map first pages = record {
  memory = with_bytes map.memory (place_of first) (zeros (page_size * pages));
  owners = held_by map.owners first pages 0;
}

-- bytes were written from a page's byte on
abbrev pub with_part : PageMap → ℕ → ℕ → List ℕ → PageMap
with_part map first at part = record { memory = with_bytes map.memory (place_of first + at) part; owners = map.owners }
