-- What is known of the shader in a buffer that isn't there.
use Rattle.std.proofs.Common.{◌≡◌, ◌≤◌, ℕ, zero, suc, List, [], ◌∷◌, length, Option, None, refl, arith}
use Rattle.qpu_isa.specs.declared.inst.ShaderInfo.{ShaderInfo}
use Rattle.shader_records.specs.Inputs.{shaders_view, shader_in}

pub known_past : (shaders : List (Option ShaderInfo)) (number : ℕ) → length shaders ≤ number → shader_in (shaders_view shaders) number ≡ None
known_past [] number past = refl
known_past (x ∷ xs) zero past = absurd (omega arith)
known_past (x ∷ xs) (suc number) past = known_past xs number (omega arith)
