-- Short shaders.
use Rattle.std.specs.Prelude.{◌≡◌, ◌≤◌, ℕ, false, List}
use Rattle.promises.specs.Steps.{has_loop, program_steps}

-- the shader has no loop, and a program of it takes at most w steps
pub record IsShort (w : ℕ) (code : List ℕ) : Type 0 where
  pub no_loop : has_loop code ≡ false
  pub short : program_steps code ≤ w
