-- The law.
use Rattle.strength_law.proofs.Instructions.{uniforms_past_law}
use Rattle.strength_law.proofs.uniforms_past_are_unsafe.Goals as goal

pub returns : goal.returns
returns c = uniforms_past_law
