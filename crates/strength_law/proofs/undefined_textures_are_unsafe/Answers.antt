-- The law.
use Rattle.strength_law.proofs.Requests.{textures_undefined_law}
use Rattle.strength_law.proofs.undefined_textures_are_unsafe.Goals as goal

pub returns : goal.returns
returns c = textures_undefined_law
