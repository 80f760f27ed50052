-- The rules of shader records by number, and their faults.
use Rattle.std.specs.Prelude.{ℕ, true, false}
use Rattle.job_format.specs.declared.rule.Stage.TheVariants.{A, U}
use Rattle.shader_records.specs.declared.rule.RecordRule.TheVariants.{HandlesCutOff, RecordCutOff, NoCode, NoData, ThreadsDisagree, ThreadedVertex, CodeWordSet, UniformsCutOff, AttributeOutside, VertexOutside, NoTexture}
use Rattle.shader_records.specs.{declared.fault.RecordFault.RecordFault, declared.rule.RecordRule.RecordRule}

abbrev pub number_of : RecordRule → ℕ
number_of HandlesCutOff = 1
number_of RecordCutOff = 2
number_of NoCode = 3
number_of NoData = 4
number_of ThreadsDisagree = 5
number_of ThreadedVertex = 6
number_of CodeWordSet = 7
number_of UniformsCutOff = 8
number_of AttributeOutside = 9
number_of VertexOutside = 10
number_of NoTexture = 1

-- a rule A at a place in the records, A8 at one in the uniforms, and rule U number there
abbrev pub record_fault : RecordRule → ℕ → RecordFault
record_fault rule at = record { stage = A; number = number_of rule; in_uniforms = false; at = at }

abbrev pub uniform_fault : ℕ → RecordFault
uniform_fault at = record { stage = A; number = number_of UniformsCutOff; in_uniforms = true; at = at }

abbrev pub sample_fault : ℕ → ℕ → RecordFault
sample_fault at number = record { stage = U; number = number; in_uniforms = true; at = at }
