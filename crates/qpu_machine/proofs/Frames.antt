-- What the units' writes leave alone.
use Rattle.std.proofs.Common.{◌≡◌, ℕ, Bool, true, false, if◌then◌else◌, List, refl}
use Rattle.qpu_machine.specs.Writes.{written_at, after_add, after_multiply, after_writes, after_load, awake, past_uniform}
use Rattle.qpu_machine.specs.State.{Thread}

-- the writes of the two units touch neither place nor setup words
pub record Keeps (t next : Thread) : Type 0 where
  pub place : next.place ≡ t.place
  pub setups0 : next.setups0 ≡ t.setups0
  pub setups1 : next.setups1 ≡ t.setups1

pub written_keeps : (word : ℕ) (sum product words : List ℕ) (t : Thread) → Keeps t (after_writes word sum product words t)
unfolding written_at after_add after_multiply after_writes
written_keeps word sum product words t = record { place = refl; setups0 = refl; setups1 = refl }

-- a load doesn't touch the place
pub loaded_place : (word : ℕ) (words : List ℕ) (t : Thread) → (after_load word words t).place ≡ t.place
unfolding after_load
loaded_place word words t = refl

pub awake_keeps : (words : List ℕ) (t : Thread) → Keeps t (awake words t)
unfolding awake
awake_keeps words t = record { place = refl; setups0 = refl; setups1 = refl }

-- whether it takes a uniform or not
pub fed_keeps : (takes : Bool) (t : Thread) → Keeps t (if takes then past_uniform t else t)
unfolding past_uniform
fed_keeps true t = record { place = refl; setups0 = refl; setups1 = refl }
fed_keeps false t = record { place = refl; setups0 = refl; setups1 = refl }
