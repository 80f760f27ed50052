-- What emission gives a thread: the address words and samples of its stream.
use Rattle.std.specs.Prelude.{◌≡◌, ℕ, true, List, slice_index}
use Rattle.qpu_isa.specs.Shader.{ShaderModel}
use Rattle.emitted_facts.specs.Facts.{IsStream, IsSampleIn}
use Rattle.machine_plan.specs.Regions.{Interval}
use Rattle.uniform_stream.specs.Stream.{address_words_of}
use Rattle.shader_check.specs.Info.{is_sample, sample_of, samples_of}
use Rattle.qpu_law.specs.{Home.Home, Stream.HoldsAddresses}
use Rattle.promises.specs.Rights.{IsOneOf}

-- what the checker reported of the shader
pub record IsReported (code : List ℕ) (shader : ShaderModel) : Type 0 where
  pub samples : shader.samples ≡ samples_of code
  pub address_words : shader.address_words ≡ address_words_of code

pub record Emits (buffers : List Interval) (h : Home) : Type 0 where
  pub addresses : HoldsAddresses h
  pub samples : (n : ℕ) → is_sample h.code n ≡ true → IsSampleIn (IsOneOf buffers) (λ k. slice_index h.words k) (sample_of h.code n)

-- The law that an emitted stream's address words and samples are as a thread needs them.
abbrev pub StreamsServe : Type 0
StreamsServe =
    (h : Home) (buffers : List Interval) (shader : ShaderModel) → IsReported h.code shader
    → IsStream (IsOneOf buffers) shader h.stream (λ k. slice_index h.words k) → Emits buffers h
