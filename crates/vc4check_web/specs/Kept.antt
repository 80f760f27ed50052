-- What a sink in memory holds.
use Rattle.std.specs.Prelude.{ℕ, List}

-- the bytes, and how often it failed
pub record Kept : Type 0 where
  pub held : List ℕ
  pub faults : ℕ
