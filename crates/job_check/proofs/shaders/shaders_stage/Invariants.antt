use Rattle.std.proofs.Common.{◌≡◌, ◌-◌, length, None}
use Rattle.field_words.specs.Questions.{first_of, each}
use Rattle.job_format.specs.Parts.{parts_view}
use Rattle.shader_records.specs.Inputs.{shaders_view}
use Rattle.job_check.specs.{Shaders.shaders_up_to, Faults.shader_stage}
use Rattle.job_check.proofs.Codes.{AllSound}
use Rattle.job_check.proofs.shaders.shaders_stage.Given as goal

-- no rule is broken in a shader before this one, and what is reported of those is kept, and sound
pub record Going (l : goal.Live-loop-b) : Type 0 where
  pub none : first_of (each (shader_stage (parts_view l.file)) l.b (length l.file.buffers.items - l.b)) ≡ first_of (each (shader_stage (parts_view l.file)) 0 (length l.file.buffers.items))
  pub before : first_of (each (shader_stage (parts_view l.file)) 0 l.b) ≡ None
  pub report : shaders_view l.shaders.items ≡ shaders_up_to (parts_view l.file) l.b
  pub sound : AllSound (shaders_view l.shaders.items)

abbrev pub invariant-loop-b : goal.invariant-loop-b
invariant-loop-b l = Going l
