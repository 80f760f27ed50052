-- Faults in the order of refusal: by index, and at an index by number.
use Rattle.field_words.specs.Least.{NotAfter}
use Rattle.shader_check.specs.declared.fault.ShaderFault.{ShaderFault}

abbrev pub IsUpTo : ShaderFault → ShaderFault → Type 0
IsUpTo one other = NotAfter (one.index, one.number) (other.index, other.number)
