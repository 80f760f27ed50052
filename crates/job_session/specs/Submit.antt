-- The file in which a client's job is checked: its live buffers in order of id, each directly behind the one before, and one job.
use Rattle.std.specs.Prelude.{ℕ, zero, suc, ◌+◌, nat_lt, List, [], ◌∷◌, ◌++◌, length, take, drop, codes, Option, Some, None, if◌then◌else◌, flat_map}
use Rattle.field_words.specs.WordBytes.{word}
use Rattle.buffer_table.specs.{declared.buffer.Buffer.Buffer, declared.buffer.Kind.Kind}
use Rattle.buffer_table.specs.declared.buffer.Kind.TheVariants.{Plain, Code}
use Rattle.job_format.specs.Text.{buffer_text}
use Rattle.session_pages.specs.Map.{first_place, memory_size}
use Rattle.job_session.specs.Own.{Held, most_buffers}

-- a Code buffer gives all its bytes, and a data buffer none
abbrev pub content_of : Kind → List ℕ → List ℕ
content_of Plain bytes = []
content_of Code bytes = bytes

abbrev pub buffer_laid : ℕ → ℕ → Held → Buffer
buffer_laid client place held = record {
  place = place;
  size = length held.bytes;
  client = client;
  kind = held.kind;
  content = length (content_of held.kind held.bytes);
}

abbrev pub laid_in : ℕ → ℕ → Option Held → Option Buffer
laid_in client place None = None
laid_in client place (Some held) = Some (buffer_laid client place held)

abbrev pub laid_at : ℕ → ℕ → Option Held → List Buffer
laid_at client place None = []
laid_at client place (Some held) = buffer_laid client place held ∷ []

abbrev pub size_of : Option Held → ℕ
size_of None = 0
size_of (Some held) = length held.bytes

abbrev pub contents_at : Option Held → List ℕ
contents_at None = []
contents_at (Some held) = content_of held.kind held.bytes

-- the n ids from one on, the first buffer at this place
unfoldable pub buffers_packed : ℕ → (ℕ → Option Held) → ℕ → ℕ → ℕ → List Buffer
buffers_packed client own id zero place = []
buffers_packed client own id (suc n) place = laid_at client place (own id) ++ buffers_packed client own (id + 1) n (place + size_of (own id))

unfoldable pub contents_from : (ℕ → Option Held) → ℕ → ℕ → List ℕ
contents_from own id zero = []
contents_from own id (suc n) = contents_at (own id) ++ contents_from own (id + 1) n

abbrev pub all_contents : (ℕ → Option Held) → List ℕ
all_contents own = contents_from own 0 most_buffers

-- the job's client field is set as far as it is there
abbrev pub with_client : ℕ → List ℕ → List ℕ
with_client client parts = take (length parts) (word client) ++ drop 4 parts

-- version 2: the lists' region of 0x400000 bytes at 0, one tile slot behind it, and one job
abbrev pub header_of : ℕ → List ℕ
header_of count =
    codes "VC4J" ++ (word 2 ++ (word memory_size ++ (word 0 ++ (word 4194304 ++ (word 4194304 ++ (word 1 ++ (word count ++ word 1)))))))

-- The contents stand behind the job's entry of 124 bytes. Where the entry is cut short the file ends with it.
abbrev pub job_bytes : List ℕ → List ℕ → List ℕ
job_bytes contents parts = if nat_lt (length parts) 124 then parts else take 124 parts ++ (contents ++ drop 124 parts)

unfoldable pub file_of : ℕ → (ℕ → Option Held) → List ℕ → List ℕ
file_of client own parts =
    header_of (length (buffers_packed client own 0 most_buffers first_place))
    ++ (flat_map buffer_text (buffers_packed client own 0 most_buffers first_place)
    ++ job_bytes (all_contents own) (with_client client parts))
