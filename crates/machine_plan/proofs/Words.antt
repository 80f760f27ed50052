-- Words of memory as the bytes that a unit reads.
use Rattle.std.proofs.Common.{◌≡◌, ◌≤◌, ◌<◌, ℕ, zero, suc, ◌+◌, ◌*◌, List, slice_index, ◌∙◌, ap, arith}
use Rattle.std.proofs.lemmas.{List.get_or-drop, Grind.common_steps, Bool.Decides.nat_tests}
use Rattle.std.specs.Int.{from_le_bytes, w32}
use Rattle.field_words.specs.Words.{u32_at}
use Rattle.machine_plan.specs.Memory.{bytes_at}

-- a word of four bytes
unfoldable pub value : ℕ → ℕ → ℕ → ℕ → ℕ
value a b c d = a + 256 * b + 65536 * c + 16777216 * d

value_of : (xs : List ℕ) → from_le_bytes w32 xs ≡ value (slice_index xs 0) (slice_index xs 1) (slice_index xs 2) (slice_index xs 3)
unfolding value
value_of xs = omega arith

pub word_value : (m : List ℕ) (p : ℕ) → u32_at m p ≡ value (slice_index m p) (slice_index m (p + 1)) (slice_index m (p + 2)) (slice_index m (p + 3))
unfolding u32_at
word_value m p = grind (arith, common_steps, nat_tests, get_or-drop, value_of, value)

-- a byte among those that are read
pub byte_read : (m : List ℕ) (p n i : ℕ) → i < n → slice_index (bytes_at m p n) i ≡ slice_index m (p + i)
unfolding bytes_at
byte_read m p zero i below = absurd (omega (arith, below))
byte_read m p (suc n) zero below = ap (λ q. slice_index m q) (omega arith)
byte_read m p (suc n) (suc i) below = byte_read m (suc p) n i (omega (arith, below)) ∙ ap (λ q. slice_index m q) (omega arith)

-- the word at the front of those that are read
pub word_read : (m : List ℕ) (p n : ℕ) → 4 ≤ n → u32_at (bytes_at m p n) 0 ≡ u32_at m p
word_read m p n long = grind (arith, common_steps, nat_tests, byte_read, word_value, value)
