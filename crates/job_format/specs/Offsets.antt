-- Where the parts of a job file stand, in bytes from the file's start: the header, the buffers' entries, the jobs' entries, the
-- contents of the buffers, and then for each job its handles, binner list, records and uniforms. The limits on their numbers stand
-- here too.
use Rattle.std.specs.Prelude.{ℕ, zero, suc, ◌+◌, ◌*◌, ◌==◌, List, if◌then◌else◌}
use Rattle.field_words.specs.Words.{u32_at}

-- the sizes of the header, of a buffer's entry and of a job's entry
abbrev pub header_size : ℕ
header_size = 36

abbrev pub entry_size : ℕ
entry_size = 20

abbrev pub job_size : ℕ
job_size = 124

-- At most so many buffers, handles of a job, jobs, and shader states that a job declares. A file of version 1 has at most `most_first`
-- buffers and handles, and one job.
abbrev pub most_buffers : ℕ
most_buffers = 1024

abbrev pub most_handles : ℕ
most_handles = 1024

abbrev pub most_jobs : ℕ
most_jobs = 8

abbrev pub most_first : ℕ
most_first = 64

abbrev pub most_states : ℕ
most_states = 65536

-- the limits of a version
unfoldable pub buffer_limit : ℕ → ℕ
buffer_limit version = if version == 1 then most_first else most_buffers

unfoldable pub handle_limit : ℕ → ℕ
handle_limit version = if version == 1 then most_first else most_handles

-- the version and the numbers of slots, buffers and jobs, in the header
abbrev pub version_in : List ℕ → ℕ
version_in bytes = u32_at bytes 4

abbrev pub slot_count : List ℕ → ℕ
slot_count bytes = u32_at bytes 24

abbrev pub buffer_count : List ℕ → ℕ
buffer_count bytes = u32_at bytes 28

abbrev pub job_count : List ℕ → ℕ
job_count bytes = u32_at bytes 32

-- the entry of buffer b; where b is the number of buffers, what follows the last entry
abbrev pub entry_offset : ℕ → ℕ
entry_offset b = header_size + entry_size * b

-- the entry of job j, and the word at k bytes in it
abbrev pub job_offset : List ℕ → ℕ → ℕ
job_offset bytes j = entry_offset (buffer_count bytes) + job_size * j

abbrev pub job_word : List ℕ → (j k : ℕ) → ℕ
job_word bytes j k = u32_at bytes (job_offset bytes j + k)

abbrev pub content_size : List ℕ → ℕ → ℕ
content_size bytes b = u32_at bytes (entry_offset b + 16)

unfoldable pub content_offset : List ℕ → ℕ → ℕ
content_offset bytes zero = job_offset bytes (job_count bytes)
content_offset bytes (suc b) = content_offset bytes b + content_size bytes b

-- The parts of job j: four times its number of handles, and the sizes of its binner list, its records and its uniforms. Those of
-- job j + 1 begin where these end.
unfoldable pub handles_offset : List ℕ → ℕ → ℕ
handles_offset bytes zero = content_offset bytes (buffer_count bytes)
handles_offset bytes (suc j) = handles_offset bytes j + 4 * job_word bytes j 8 + job_word bytes j 12 + job_word bytes j 16 + job_word bytes j 24

unfoldable pub bin_offset : List ℕ → ℕ → ℕ
bin_offset bytes j = handles_offset bytes j + 4 * job_word bytes j 8

unfoldable pub records_offset : List ℕ → ℕ → ℕ
records_offset bytes j = bin_offset bytes j + job_word bytes j 12

unfoldable pub uniforms_offset : List ℕ → ℕ → ℕ
uniforms_offset bytes j = records_offset bytes j + job_word bytes j 16

unfoldable pub end_offset : List ℕ → ℕ → ℕ
end_offset bytes j = uniforms_offset bytes j + job_word bytes j 24
