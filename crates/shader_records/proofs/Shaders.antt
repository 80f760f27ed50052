-- What is known of the shader in a buffer, by the list of what is known of each.
use Rattle.std.proofs.Common.{◌≡◌, ℕ, zero, suc, ◌<◌, List, [], ◌∷◌, length, Option, Some, None, get_or, sym, ap, arith, ◌∙◌}
use Rattle.buffer_table.specs.Table.{TableModel}
use Rattle.qpu_isa.specs.{declared.inst.ShaderInfo.ShaderInfo, Shader.ShaderModel, Shader.shader_view, Shader.IsSoundShader}
use Rattle.shader_records.specs.Inputs.{shader_option, shaders_view, shader_in, IsShaped, AreShaped, AreShadersOf}

known_of : (shaders : List (Option ShaderInfo)) (number : ℕ) (o : Option ShaderInfo) → number < length shaders → o ≡ get_or shaders number o
    → shader_in (shaders_view shaders) number ≡ shader_option o
known_of [] number o below is = absurd (omega arith)
known_of (x ∷ xs) zero o below is = ap shader_option (sym is)
known_of (x ∷ xs) (suc number) o below is = known_of xs number o (omega arith) is

pub known_none : (shaders : List (Option ShaderInfo)) (number : ℕ) (o : Option ShaderInfo) → number < length shaders → o ≡ get_or shaders number o → o ≡ None
    → shader_in (shaders_view shaders) number ≡ None
known_none shaders number o below is none = known_of shaders number o below is ∙ ap shader_option none

pub known_some : (shaders : List (Option ShaderInfo)) (number : ℕ) (o : Option ShaderInfo) (info : ShaderInfo) → number < length shaders → o ≡ get_or shaders number o → o ≡ Some info
    → shader_in (shaders_view shaders) number ≡ Some (shader_view info)
known_some shaders number o info below is some = known_of shaders number o below is ∙ ap shader_option some

-- A sound shader has this shape, and so have all.
pub shaped : (shader : ShaderModel) → IsSoundShader shader → IsShaped shader
shaped shader sound = record {
  samples = λ i inside. let sample = sound.samples i inside in record { four = sample.four; first = sample.first; below = sample.below };
  below = sound.below;
}

pub all_shaped : (table : TableModel) (shaders : List (Option ShaderModel)) → AreShadersOf table shaders → AreShaped table shaders
all_shaped table shaders are = record { count = are.count; each = λ number shader here. shaped shader (are.sound number shader here) }
