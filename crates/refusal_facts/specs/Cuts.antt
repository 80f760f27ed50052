-- F2: how many bytes a part of a job file needs, and how many there are.
use Rattle.std.specs.Prelude.{ℕ, ◌-◌, ◌*◌, List, length}
use Rattle.job_format.specs.declared.rule.Part.TheVariants.{Header, Entry, JobEntry, Contents, Handles, BinnerList, Records, Uniforms}
use Rattle.job_format.specs.{declared.rule.Part.Part, declared.rule.Place.Place, Places.offset_of}
use Rattle.job_format.specs.Offsets.{header_size, entry_size, job_size, content_size, job_word}
use Rattle.refusal_facts.specs.declared.fact.RoomFact.{RoomFact}

-- the bytes of the part of this number
unfoldable pub size_of : List ℕ → Part → ℕ → ℕ
size_of bytes Header i = header_size
size_of bytes Entry b = entry_size
size_of bytes JobEntry j = job_size
size_of bytes Contents b = content_size bytes b
size_of bytes Handles j = 4 * job_word bytes j 8
size_of bytes BinnerList j = job_word bytes j 12
size_of bytes Records j = job_word bytes j 16
size_of bytes Uniforms j = job_word bytes j 24
size_of bytes part i = 0

-- of a part that is cut off
abbrev pub cut_at : List ℕ → Place → RoomFact
cut_at bytes place = record { needs = size_of bytes place.part place.index; has = length bytes - offset_of bytes place }
