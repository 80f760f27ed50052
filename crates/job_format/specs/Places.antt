-- Where the parts of a job file begin, and the offset in the file of a place in a part.
use Rattle.std.specs.Prelude.{ℕ, ◌+◌, List}
use Rattle.job_format.specs.declared.rule.Part.TheVariants.{File, Header, Entry, JobEntry, Contents, Handles, BinnerList, Records, Uniforms}
use Rattle.job_format.specs.{declared.rule.Part.Part, declared.rule.Place.Place}
use Rattle.job_format.specs.Offsets.{entry_offset, job_offset, content_offset, handles_offset, bin_offset, records_offset, uniforms_offset}

-- this byte of the part of this number
abbrev pub place_in : Part → (index at : ℕ) → Place
place_in part index at = record { part = part; index = index; at = at }

-- the first byte of the part of this number
abbrev pub start_of : List ℕ → Part → ℕ → ℕ
start_of bytes File index = 0
start_of bytes Header index = 0
start_of bytes Entry b = entry_offset b
start_of bytes JobEntry j = job_offset bytes j
start_of bytes Contents b = content_offset bytes b
start_of bytes Handles j = handles_offset bytes j
start_of bytes BinnerList j = bin_offset bytes j
start_of bytes Records j = records_offset bytes j
start_of bytes Uniforms j = uniforms_offset bytes j

abbrev pub offset_of : List ℕ → Place → ℕ
offset_of bytes place = start_of bytes place.part place.index + place.at
