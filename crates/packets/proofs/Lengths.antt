-- The table of packets' lengths.
use Rattle.std.proofs.Common.{◌≡◌, ℕ, ◌<◌, ◌≤◌, true, ◌==◌, get_or, nat_le, refl}
use Rattle.std.proofs.lemmas.Bool.{agree_below_at, eqb-true, leb-true}
use Rattle.packets.specs.{declared.length.TheConstants.BIN_LENGTHS, Length.bin_length}

-- it agrees with the definition at each opcode
pub length_in_table : (o : ℕ) → o < 256 → get_or BIN_LENGTHS o 0 ≡ bin_length o
unfolding bin_length
length_in_table o below = eqb-true _ _ (agree_below_at (λ k. get_or BIN_LENGTHS k 0 == bin_length k) (λ k. true) 256 o refl below)

-- no packet is longer than 16 bytes
pub length_limit : (o : ℕ) → o < 256 → get_or BIN_LENGTHS o 0 ≤ 16
length_limit o below = leb-true _ _ (agree_below_at (λ k. nat_le (get_or BIN_LENGTHS k 0) 16) (λ k. true) 256 o refl below)
