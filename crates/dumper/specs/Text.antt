-- The texts of `check`: of an accepted file, and of a refusal.
use Rattle.std.specs.Prelude.{◌≡◌, ◌≤◌, ℕ, zero, suc, ◌+◌, ◌-◌, ◌/◌, ◌==◌, Bool, List, [], ◌++◌, length, take, drop, replicate, slice_index_or, codes, false, if◌then◌else◌}
use Rattle.std.specs.{List.list_all, Fmt.digits, Fmt.decimal}
use Rattle.hex.specs.Hex.{encode_lower}
use Rattle.job_format.specs.{declared.rule.Refusal.Refusal, Places.offset_of, Rules.rule_text}
use Rattle.relocation.specs.{declared.layout.Layout.Layout, declared.layout.Lengths.Lengths}

-- a place: eight hexadecimal digits, and more where it needs more
unfoldable pub place_text : ℕ → List ℕ
place_text place = replicate (8 - length (digits 16 false place)) 48 ++ digits 16 false place

-- a line of a name, a place and a length
unfoldable pub list_line : List ℕ → ℕ → ℕ → List ℕ
list_line name place len = name ++ (codes " " ++ (place_text place ++ (codes " " ++ (decimal len ++ codes "\n"))))

unfoldable pub memory_line : ℕ → List ℕ
memory_line size = codes "memory " ++ (decimal size ++ codes "\n")

unfoldable pub slot_line : ℕ → List ℕ
slot_line place = codes "slot " ++ (place_text place ++ codes "\n")

-- a row's line has eight digits of its place, a blank, two digits for each byte and a line feed
abbrev pub row_size : ℕ
row_size = 42

-- a line of sixteen bytes and the place of the first
unfoldable pub row_line : ℕ → List ℕ → List ℕ
row_line place row = place_text place ++ (codes " " ++ (encode_lower row ++ codes "\n"))

-- the sixteen bytes at a place
abbrev pub row_at : List ℕ → ℕ → List ℕ
row_at memory place = take 16 (drop place memory)

unfoldable pub is_blank : List ℕ → Bool
is_blank row = list_all (λ byte. byte == 0) row

-- the line of the sixteen bytes at a place; none where they are all zero
unfoldable pub row_text : List ℕ → ℕ → List ℕ
row_text memory place = if is_blank (row_at memory place) then [] else row_line place (row_at memory place)

-- the lines of so many rows from a place on
unfoldable pub rows_text : List ℕ → ℕ → ℕ → List ℕ
rows_text memory place zero = []
rows_text memory place (suc rows) = row_text memory place ++ rows_text memory (place + 16) rows

-- where the emitted lists and the tile slot lie, by absolute places, and how long the lists are
unfoldable pub layout_text : Layout → Lengths → List ℕ
layout_text layout lengths =
    list_line (codes "bin") (layout.place + layout.bin) lengths.bin
    ++ (list_line (codes "records") (layout.place + layout.records) lengths.records
    ++ (list_line (codes "uniforms") (layout.place + layout.uniforms) lengths.uniforms
    ++ (list_line (codes "render") (layout.place + layout.render) lengths.render
    ++ slot_line layout.slot)))

-- those of job j; past the last one, of nothing
abbrev pub no_layout : Layout
no_layout = record { place = 0; bin = 0; records = 0; uniforms = 0; render = 0; end = 0; slot = 0 }

abbrev pub no_lengths : Lengths
no_lengths = record { bin = 0; records = 0; uniforms = 0; render = 0 }

unfoldable pub lines_of : List Layout → List Lengths → ℕ → List ℕ
lines_of layouts lengths j = layout_text (slice_index_or layouts j no_layout) (slice_index_or lengths j no_lengths)

unfoldable pub job_line : ℕ → List ℕ
job_line job = codes "job " ++ (decimal job ++ codes "\n")

-- those of the first n jobs, each behind the job's number
unfoldable pub jobs_text : List Layout → List Lengths → ℕ → List ℕ
jobs_text layouts lengths zero = []
jobs_text layouts lengths (suc n) = jobs_text layouts lengths n ++ (job_line n ++ lines_of layouts lengths n)

-- a file of version 1 has one job, and its number isn't printed
unfoldable pub layouts_text : ℕ → List Layout → List Lengths → List ℕ
layouts_text version layouts lengths = if version == 1 then lines_of layouts lengths 0 else jobs_text layouts lengths (length layouts)

-- what is printed of an accepted file of a version: its memory's size and where the parts of its jobs lie, and then each row of the
-- memory that isn't all zero
unfoldable pub head_text : (version size : ℕ) → List Layout → List Lengths → List ℕ
head_text version size layouts lengths = codes "accepted\n" ++ (memory_line size ++ layouts_text version layouts lengths)

unfoldable pub accepted_text : ℕ → List ℕ → List Layout → List Lengths → List ℕ
accepted_text version memory layouts lengths =
    head_text version (length memory) layouts lengths ++ (rows_text memory 0 (length memory / 16) ++ codes "end\n")

-- a version that there is, with a layout and lengths for each of its jobs
pub record AreOfVersion (version : ℕ) (layouts : List Layout) (lengths : List Lengths) : Type 0 where
  pub a_version : 1 ≤ version
  pub known : version ≤ 2
  pub one_job : version ≡ 1 → length layouts ≡ 1
  pub each_job : length lengths ≡ length layouts

-- what is printed of a refusal of a file of these bytes: the rule, and the offset of what it is about
unfoldable pub refused_text : List ℕ → Refusal → List ℕ
refused_text bytes refusal = codes "refused " ++ (rule_text refusal.rule ++ (codes " at " ++ (decimal (offset_of bytes refusal.place) ++ codes "\n")))
