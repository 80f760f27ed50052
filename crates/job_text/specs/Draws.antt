-- The text of a file's draws: the packets of each job's list, with the record and the uniforms of each shader state.
use Rattle.std.specs.Prelude.{ℕ, zero, suc, ◌≡◌, ◌+◌, ◌==◌, ◌||◌, nat_lt, min, List, [], ◌∷◌, ◌++◌, take, drop, length, codes, if◌then◌else◌}
use Rattle.field_words.specs.Words.{u32_at}
use Rattle.packets.specs.Opcode.{gl_shader_state}
use Rattle.bin_list.specs.Packets.{opcode, packets, draws}
use Rattle.shader_records.specs.Sources.{source_size}
use Rattle.job_format.specs.declared.rule.Part.TheVariants.{JobEntry, BinnerList, Records, Uniforms}
use Rattle.job_format.specs.{declared.rule.Part.Part, Places.start_of, Offsets.job_size, Offsets.most_buffers, Offsets.most_jobs, Offsets.buffer_count, Offsets.job_count}
use Rattle.job_text.specs.{declared.span.Span.Span, Cuts.AreAllLines, Shown.Look}
use Rattle.qpu_text.specs.Pieces.{if_so}

-- Some bytes of a file, and the offset at which they begin.
pub record Stretch : Type 0 where
  pub at : ℕ
  pub bytes : List ℕ

abbrev pub stretch_of : Span → Stretch
stretch_of span = record { at = span.at; bytes = span.bytes.now }

-- so many bytes of a part of the file, as far as the file goes
unfoldable pub part_in : List ℕ → Part → (index size : ℕ) → Stretch
part_in bytes part index size = record {
  at = min (start_of bytes part index) (length bytes);
  bytes = take size (drop (min (start_of bytes part index) (length bytes)) bytes);
}

-- a part of a job, whose size its entry has at a byte
abbrev pub job_part : List ℕ → Part → (job at : ℕ) → Stretch
job_part bytes part job at = part_in bytes part job (u32_at (part_in bytes JobEntry job job_size).bytes at)

-- the first so many bytes, and what is behind them
abbrev pub front : ℕ → Stretch → Stretch
front size stretch = record { at = stretch.at; bytes = take size stretch.bytes }

abbrev pub behind : ℕ → Stretch → Stretch
behind size stretch = record { at = stretch.at + length (take size stretch.bytes); bytes = drop size stretch.bytes }

-- Their lines, for some cut into pieces, stand behind a text.
abbrev pub AreLinesOf : Look → Stretch → (old new : List ℕ) → Type 0
AreLinesOf look stretch old new = AreAllLines look old new stretch.at stretch.bytes

-- Behind a shader state so many bytes are taken, behind any other packet none.
unfoldable pub by_state : List ℕ → ℕ → ℕ
by_state packet size = if opcode packet == gl_shader_state then size else 0

-- the bytes of a state's record, with its handles
unfoldable pub record_taken : List ℕ → ℕ
record_taken packet = by_state packet (source_size (u32_at packet 1))

-- Behind a text stand the lines of a packet, of the front of what is left of the records, and of the front of what is left of the uniforms;
-- and an empty line behind a draw.
abbrev pub IsPacketPut : Look → Stretch → (records uniforms : Stretch) → (taken : ℕ) → (old new : List ℕ) → Type 0
IsPacketPut look packet records uniforms taken old new =
    (first : List ℕ) × (second : List ℕ) × (third : List ℕ)
    × AreLinesOf look packet old first
    × AreLinesOf look (front (record_taken packet.bytes) records) first second
    × AreLinesOf look (front (by_state packet.bytes taken) uniforms) second third
    × (new ≡ third ++ if_so (draws packet.bytes) (codes "\n"))

-- Behind a text stand the lines of packets, of which the first begins at an offset, and of their states' records and uniforms, which begin what
-- is left of them. How many uniforms a record's shaders take isn't said.
abbrev pub AreDraws : Look → ℕ → List (List ℕ) → (records uniforms : Stretch) → (old new : List ℕ) → Type 0
AreDraws look at [] records uniforms old new = new ≡ old
AreDraws look at (packet ∷ later) records uniforms old new =
    (taken : ℕ) × (mid : List ℕ) × IsPacketPut look (record { at = at; bytes = packet }) records uniforms taken old mid
    × AreDraws look (at + length packet) later (behind (record_taken packet) records) (behind (by_state packet taken) uniforms) mid new

-- the same of a job, whose list, records and uniforms are parts of the file
abbrev pub AreJobDraws : Look → List ℕ → ℕ → (old new : List ℕ) → Type 0
AreJobDraws look bytes j old new =
    AreDraws look (job_part bytes BinnerList j 12).at (packets (job_part bytes BinnerList j 12).bytes) (job_part bytes Records j 16) (job_part bytes Uniforms j 24) old new

-- the text of the first so many jobs
abbrev pub IsDrawsText : Look → List ℕ → ℕ → List ℕ → Type 0
IsDrawsText look bytes zero text = text ≡ []
IsDrawsText look bytes (suc j) text = (earlier : List ℕ) × IsDrawsText look bytes j earlier × AreJobDraws look bytes j earlier text

-- how many jobs are read: none where there are more buffers or jobs than a file may have
unfoldable pub jobs_drawn : List ℕ → ℕ
jobs_drawn bytes = if nat_lt most_buffers (buffer_count bytes) || nat_lt most_jobs (job_count bytes) then 0 else job_count bytes
