-- Those so far.
use Rattle.std.proofs.Common.{ℕ, ◌<◌}
use Rattle.qpu_isa.specs.Shader.{shader_view, address_at}
use Rattle.vc4check_c.proofs.block.are_addresses_inside.Given as goal

abbrev pub invariant-loop-j : goal.invariant-loop-j
invariant-loop-j l = (k : ℕ) → k < l.j → address_at (shader_view l.info) k < l.info.uniforms
