-- What is known of an instruction, and how far the walk has come. No part of what the crate claims.
use Rattle.std.specs.Prelude.{◌≡◌, ◌≤◌, ◌<◌, ℕ, ◌*◌, ◌-◌, Bool, true, List, map}
use Rattle.shader_flow.specs.{Bounded.indexes, Flow.is_target, Pending.count_of, Pending.pending_of, Pending.takes, Site.SiteModel}
use Rattle.uniform_stream.specs.{declared.walk.Running.Running, Stream.writes_address, Stream.is_known}

-- what the rules learn of an instruction
pub record IsAskedOf (site : SiteModel) (pending0 pending1 : ℕ) (taker known target : Bool) : Type 0 where
  pub first : pending0 ≡ pending_of site.code 0 site.at
  pub second : pending1 ≡ pending_of site.code 1 site.at
  pub taken : taker ≡ takes site.code site.at
  pub position : known ≡ is_known site.code site.at
  pub marked : target ≡ is_target site.code site.at

-- the address words that the instructions before an index take
abbrev pub words_before : List ℕ → ℕ → List ℕ
words_before code at = map (count_of code) (indexes at (writes_address code))

-- what the walk carries before the instruction at an index
pub record IsRunning (code : List ℕ) (at : ℕ) (now : Running) : Type 0 where
  pub count_is : now.count ≡ count_of code at
  pub count_bound : now.count ≤ at
  pub pending0_is : now.pending0 ≡ pending_of code 0 at
  pub pending0_bound : now.pending0 ≤ 2 * at
  pub pending1_is : now.pending1 ≡ pending_of code 1 at
  pub pending1_bound : now.pending1 ≤ 2 * at
  pub known_is : 0 < at → now.known ≡ is_known code (at - 1)

-- the index after the last address write of a checked instruction, or 0
pub record IsAddressEnd (code : List ℕ) (n last : ℕ) : Type 0 where
  pub before : (k : ℕ) → k < n → writes_address code k ≡ true → k < last
  pub inside : last ≤ n
  pub written : 0 < last → writes_address code (last - 1) ≡ true
