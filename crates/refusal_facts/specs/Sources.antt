-- The records that a job's states start, and the shaders that take its uniforms.
use Rattle.std.specs.Prelude.{ℕ, ◌+◌, ◌*◌, ◌^◌, ◌<◌, nat_lt, nat_le, List, [], ◌∷◌, length, slice_get, Option, Some, None, if◌then◌else◌}
use Rattle.field_words.specs.Words.{u32_at}
use Rattle.bin_list.specs.{declared.state.State.State, Packets.packets, States.states_of}
use Rattle.job_format.specs.{declared.rule.Part.Part, declared.rule.Part.TheVariants.Uniforms, declared.rule.Place.Place, Model.JobModel}
use Rattle.qpu_isa.specs.Shader.{ShaderModel}
use Rattle.shader_records.specs.Sources.{source_size, shader_behind, taken_by}
use Rattle.refusal_facts.specs.{declared.sources.Source.Source, declared.sources.User.User, Named.KnownModel}

-- what is known of a record's fragment (0), vertex (1) or coordinate shader (2), by the handle for its code
unfoldable pub shader_of : KnownModel → Source → (stage : ℕ) → Option ShaderModel
shader_of known source stage =
    shader_behind known.shaders (slice_get known.job.handles (u32_at known.job.records (source.at + 4 * stage)))

-- The three take uniforms one after the other: where the second's begin, where the third's do, and where those end.
abbrev pub taken : KnownModel → Source → (stage : ℕ) → ℕ
taken known source stage = taken_by (shader_of known source stage)

abbrev pub second : KnownModel → Source → ℕ
second known source = source.from + taken known source 0

abbrev pub third : KnownModel → Source → ℕ
third known source = second known source + taken known source 1

unfoldable pub uniforms_end : KnownModel → Source → ℕ
uniforms_end known source = third known source + taken known source 2

-- where the record ends, behind its handles
unfoldable pub record_end : Source → ℕ
record_end source = source.at + source_size source.state

-- of a record that has a byte of the records, or whose shaders take a byte of the uniforms: what ends behind it
unfoldable pub end_in : KnownModel → Part → Source → ℕ
end_in known Uniforms source = uniforms_end known source
end_in known part source = record_end source

-- The records of these states stand one after the other from a place on, and the uniforms of their shaders from another: the first that ends
-- behind a place of these or of those.
abbrev pub source_from : State → (at from : ℕ) → Source
source_from state at from = record { at = at; state = state.word; most = state.max_index; from = from }

unfoldable pub source_among : KnownModel → Place → List State → (at from : ℕ) → Option Source
source_among known place [] at from = None
source_among known place (state ∷ later) at from =
    if nat_lt place.at (end_in known place.part (source_from state at from)) then Some (source_from state at from)
    else source_among known place later (record_end (source_from state at from)) (uniforms_end known (source_from state at from))

-- of a place that isn't past the job's records, or its uniforms
unfoldable pub part_size : JobModel → Part → ℕ
part_size job Uniforms = length job.uniforms
part_size job part = length job.records

unfoldable pub source_at : KnownModel → Place → Option Source
source_at known place =
    if nat_le place.at (part_size known.job place.part) then source_among known place (states_of (packets known.job.bin)) 0 0 else None

-- which of the three takes the uniforms at a byte, and where its own begin
abbrev pub user : (stage from : ℕ) → User
user stage from = record { stage = stage; from = from }

unfoldable pub user_of : KnownModel → Source → (byte : ℕ) → User
user_of known source byte =
    if nat_lt byte (second known source) then user 0 source.from
    else (if nat_lt byte (third known source) then user 1 (second known source) else user 2 (third known source))

-- Its places are those of a file.
pub record IsPlaced (source : Source) : Type 0 where
  pub at : source.at < 2 ^ 32
  pub from : source.from < 2 ^ 96

pub record IsUser (user : User) : Type 0 where
  pub stage : user.stage < 3
  pub from : user.from < 2 ^ 98
