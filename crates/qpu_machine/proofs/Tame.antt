-- What an instruction that isn't undefined may rely on.
use Rattle.std.proofs.Common.{◌≡◌, ◌<◌, ℕ, ◌&&◌, ◌||◌, Bool, nat_le, true, false, length, arith}
use Rattle.std.proofs.lemmas.Grind.{common_steps}
use Rattle.qpu_isa.specs.Terms.{writes_tmu}
use Rattle.qpu_machine.specs.{State.Thread, Wild.is_setup_wild, Wild.is_use_wild, Wild.is_wild}

below_four : (one other : Bool) (n m : ℕ) → ((one && nat_le 4 n) || (other && nat_le 4 m)) ≡ false → one ≡ true → n < 4
below_four one other n m none writes = grind (arith, common_steps, none, writes)

also_four : (one other : Bool) (n m : ℕ) → ((one && nat_le 4 n) || (other && nat_le 4 m)) ≡ false → other ≡ true → m < 4
also_four one other n m none writes = grind (arith, common_steps, none, writes)

last_false : (a b c d : Bool) → (a || (b || (c || d))) ≡ false → c ≡ false
last_false false false c d none = grind (arith, common_steps, none)
last_false false true c d none = absurd cc
last_false true b c d none = absurd cc

setups_tame : (t : Thread) (word : ℕ) → is_wild t word ≡ false → is_setup_wild t word ≡ false
unfolding is_wild is_use_wild
setups_tame t word tame = last_false _ _ (is_setup_wild t word) _ tame

-- a TMU write finds fewer than four setup words
pub room0 : (t : Thread) (word : ℕ) → is_wild t word ≡ false → writes_tmu word 0 ≡ true → length t.setups0.items < 4
unfolding is_setup_wild
room0 t word tame writes = below_four (writes_tmu word 0) (writes_tmu word 1) (length t.setups0.items) (length t.setups1.items) (setups_tame t word tame) writes

pub room1 : (t : Thread) (word : ℕ) → is_wild t word ≡ false → writes_tmu word 1 ≡ true → length t.setups1.items < 4
unfolding is_setup_wild
room1 t word tame writes = also_four (writes_tmu word 0) (writes_tmu word 1) (length t.setups0.items) (length t.setups1.items) (setups_tame t word tame) writes
