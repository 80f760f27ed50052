-- An instruction of a shader: the shader's words, and the index of one of them.
use Rattle.std.specs.Prelude.{ℕ, List}

pub record SiteModel : Type 0 where
  pub code : List ℕ
  pub at : ℕ
