-- What is reported of a shader.
use Rattle.std.specs.Prelude.{◌≡◌, ℕ, Bool, List, [], ◌∷◌, ◌++◌, length, drop, Option, Some, None, if◌then◌else◌}
use Rattle.field_words.specs.Questions.{first_of, IsFirst}
use Rattle.qpu_isa.specs.{declared.inst.Sample.Sample, Shader.position}
use Rattle.shader_flow.specs.Flow.{is_threaded}
use Rattle.uniform_stream.specs.Stream.{uniforms_of, address_words_of}
use Rattle.shader_check.specs.{declared.fault.ShaderFault.ShaderFault, Info.samples_of, Rules.shader_questions}
use Rattle.vc4check_c.specs.{declared.shader.ShaderAnswer.ShaderAnswer, declared.shader.ShaderSample.ShaderSample}

-- all ones where there is no position
abbrev pub position_report : Option ℕ → ℕ
position_report None = 4294967295
position_report (Some n) = n

-- a yes is 1
abbrev pub flag_report : Bool → ℕ
flag_report stands = if stands then 1 else 0

-- an access of a shader
unfoldable pub sample_report : Sample → ShaderSample
sample_report sample = record {
  positions = position_report (position sample 0) ∷ position_report (position sample 1) ∷ position_report (position sample 2) ∷ position_report (position sample 3) ∷ [];
  direct = flag_report sample.direct;
}

-- what the checker found out about a shader without faults
unfoldable pub shader_report : List ℕ → ShaderAnswer
shader_report code = record {
  number = 0;
  index = 0;
  uniforms = uniforms_of code;
  threaded = flag_report (is_threaded code);
  samples = length (samples_of code);
  address_words = length (address_words_of code);
}

-- the rule that is broken by it, and where
unfoldable pub fault_report : ShaderFault → ShaderAnswer
fault_report fault = record { number = fault.number; index = fault.index; uniforms = 0; threaded = 0; samples = 0; address_words = 0 }

-- the front of a list replaced
abbrev pub with_front : {X : Type 0} → List X → List X → List X
with_front old front = front ++ drop (length front) old

-- No rule is broken, and this is reported.
pub record IsAcceptedShader (code : List ℕ) (answer : ShaderAnswer) : Type 0 where
  pub none_broken : first_of (shader_questions code) ≡ None
  pub report : answer ≡ shader_report code

-- A rule is broken, none before it in the order of refusal is, and it is reported.
abbrev pub IsRefusedShader : List ℕ → Option ShaderFault → ShaderAnswer → Type 0
IsRefusedShader code None answer = ⊥
IsRefusedShader code (Some fault) answer = IsFirst (shader_questions code) fault × (answer ≡ fault_report fault)
