-- What each job of an accepted file holds, and so what it may reach; and where its lists begin.
use Rattle.std.specs.Prelude.{ℕ, zero, suc, ◌<◌, ◌+◌, List, [], ◌∷◌, ◌++◌, length, map, Option, Some, None, ◌≡◌}
use Rattle.std.specs.List.{range_with_len}
use Rattle.field_words.specs.Sizes.{slot_size}
use Rattle.buffer_table.specs.{declared.buffer.Buffer.Buffer, Table.buffer_at, Handles.data_of, Handles.code_of}
use Rattle.relocation.specs.{declared.layout.Layout.Layout, declared.layout.Lengths.Lengths}
use Rattle.job_format.specs.Model.{FileModel}
use Rattle.job_check.specs.{Shaders.table_of, Jobs.job_of, Jobs.slot_of, Jobs.layout_of, Emit.lengths_of}
use Rattle.machine_plan.specs.Regions.{Interval, Rights, rights_of}
use Rattle.machine.specs.declared.job.Start.{Start}

abbrev pub interval : ℕ → ℕ → Interval
interval place size = record { place = place; size = size }

-- the buffer of a number
abbrev pub buffer_interval : List Buffer → ℕ → Interval
buffer_interval buffers number = interval (buffer_at buffers number).place (buffer_at buffers number).size

abbrev pub interval_where : List Buffer → Option ℕ → List Interval
interval_where buffers None = []
interval_where buffers (Some number) = buffer_interval buffers number ∷ []

-- The buffers that the handles below n name, where `names` says the number of the buffer that a handle names.
unfoldable pub named_buffers : (ℕ → Option ℕ) → List Buffer → ℕ → List Interval
named_buffers names buffers zero = []
named_buffers names buffers (suc n) = named_buffers names buffers n ++ interval_where buffers (names n)

-- the data buffers that the handles of job j name, and the Code buffers
unfoldable pub plain_of : FileModel → ℕ → List Interval
plain_of f j = named_buffers (data_of (table_of f) (job_of f j).handles) f.buffers (length (job_of f j).handles)

unfoldable pub codes_of : FileModel → ℕ → List Interval
codes_of f j = named_buffers (code_of (table_of f) (job_of f j).handles) f.buffers (length (job_of f j).handles)

-- the four emitted lists, with their emitted lengths
abbrev pub lists_in : Layout → Lengths → List Interval
lists_in layout lengths =
    interval (layout.place + layout.bin) lengths.bin
    ∷ (interval (layout.place + layout.records) lengths.records
    ∷ (interval (layout.place + layout.uniforms) lengths.uniforms
    ∷ (interval (layout.place + layout.render) lengths.render ∷ [])))

unfoldable pub lists_of : FileModel → ℕ → List Interval
lists_of f j = lists_in (layout_of f j) (lengths_of f j)

-- the tile slot
unfoldable pub slot_in : FileModel → ℕ → Interval
slot_in f j = interval (slot_of f j) slot_size

-- A job may reach its tile slot, the buffers that its handles name and its emitted lists; and it may write the slot and the data
-- buffers among them.
abbrev pub job_rights : FileModel → ℕ → Rights
job_rights f j = record { region = slot_in f j ∷ (plain_of f j ++ (lists_of f j ++ codes_of f j)); writable = slot_in f j ∷ plain_of f j }

-- P of each job of the file; and an item for each, one after the other
abbrev pub OfEachJob : FileModel → (ℕ → Type 0) → Type 0
OfEachJob f P = (j : ℕ) → j < length f.jobs → P j

abbrev pub of_jobs : {X : Type 0} → FileModel → (ℕ → X) → List X
of_jobs f item = map item (range_with_len 0 (length f.jobs))

-- the rights of all jobs, and among them those of job j
unfoldable pub file_rights : FileModel → List Rights
file_rights f = of_jobs f (job_rights f)

abbrev pub rights_at : FileModel → ℕ → Rights
rights_at f j = rights_of (file_rights f) j

-- The emitted lists of the first n jobs, with the Code buffers that their handles name; and those of all jobs. No job may write them.
unfoldable pub fixed_below : FileModel → ℕ → List Interval
fixed_below f zero = []
fixed_below f (suc n) = fixed_below f n ++ (lists_of f n ++ codes_of f n)

unfoldable pub fixed_of : FileModel → List Interval
fixed_of f = fixed_below f (length f.jobs)

-- where a job's binner list and its renderer list stand, and how long they are
unfoldable pub start_by : Layout → Lengths → Start
start_by layout lengths = record {
  bin_place = layout.place + layout.bin;
  bin_len = lengths.bin;
  render_place = layout.place + layout.render;
  render_len = lengths.render;
}

abbrev pub start_of : FileModel → ℕ → Start
start_of f j = start_by (layout_of f j) (lengths_of f j)

unfoldable pub file_starts : FileModel → List Start
file_starts f = of_jobs f (start_of f)

-- a Code buffer that a handle of job j names
pub record IsNamedCode (f : FileModel) (j place size : ℕ) : Type 0 where
  pub handle : ℕ
  pub number : ℕ
  pub named : code_of (table_of f) (job_of f j).handles handle ≡ Some number
  pub place_is : place ≡ (buffer_at f.buffers number).place
  pub size_is : size ≡ (buffer_at f.buffers number).size
