-- Those so far.
use Rattle.std.proofs.Common.{ℕ, ◌<◌}
use Rattle.qpu_isa.specs.Shader.{shader_view, sample_at}
use Rattle.shader_records.specs.Inputs.{IsShapedSample}
use Rattle.vc4check_c.proofs.block.are_samples_shaped.Given as goal

abbrev pub invariant-loop-i : goal.invariant-loop-i
invariant-loop-i l = (k : ℕ) → k < l.i → IsShapedSample (shader_view l.info) (sample_at (shader_view l.info) k)
