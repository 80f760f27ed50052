-- A job as its facts are told, and the buffers that its handles name. H1: the buffer, and whose it is. A3, A4 and G6: the buffer and its kind.
use Rattle.std.specs.Prelude.{ℕ, List, length, slice_get, Option, option_map, option_and_then}
use Rattle.buffer_table.specs.declared.buffer.Buffer.{Buffer}
use Rattle.job_format.specs.Model.{JobModel}
use Rattle.qpu_isa.specs.Shader.{ShaderModel}
use Rattle.refusal_facts.specs.declared.fact.{BufferFact.BufferFact, EndFact.EndFact, HandleFact.HandleFact, NameFact.NameFact}

-- a job, the buffers of its file, and what is known of the shaders by buffer
pub record KnownModel : Type 0 where
  pub job : JobModel
  pub buffers : List Buffer
  pub shaders : List (Option ShaderModel)

-- the client that a buffer belongs to, None of no buffer's number
abbrev pub owner_of : List Buffer → ℕ → Option ℕ
owner_of buffers number = option_map (λ buffer. buffer.client) (slice_get buffers number)

unfoldable pub handle_at : KnownModel → ℕ → Option HandleFact
handle_at known i =
    option_map (λ number. record { client = known.job.client; number = number; owner = owner_of known.buffers number }) (slice_get known.job.handles i)

-- the buffer of a number
abbrev pub buffer_fact : ℕ → Buffer → BufferFact
buffer_fact number buffer = record { number = number; size = buffer.size; kind = buffer.kind }

abbrev pub numbered : List Buffer → ℕ → Option BufferFact
numbered buffers number = option_map (buffer_fact number) (slice_get buffers number)

-- the buffer that the handle of an index names, which may be past the last
unfoldable pub named : KnownModel → (index : ℕ) → Option BufferFact
named known index = option_and_then (numbered known.buffers) (slice_get known.job.handles index)

abbrev pub name_at : KnownModel → (index : ℕ) → NameFact
name_at known index = record { index = index; handles = length known.job.handles; named = named known index }

-- what ends at a place in that buffer
unfoldable pub end_at : KnownModel → (index end : ℕ) → Option EndFact
end_at known index end = option_map (λ buffer. record { buffer = buffer; end = end }) (named known index)
