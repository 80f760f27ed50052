-- The two lowest bytes of a word of memory, and its lowest bit.
use Rattle.std.proofs.Common.{◌≡◌, ◌<◌, ℕ, ◌+◌, ◌/◌, ◌%◌, List, slice_index, ◌∙◌, ap, arith}
use Rattle.field_words.specs.Words.{u32_at}
use Rattle.machine_plan.proofs.Words.{value, word_value}

first_of_value : (a b c d : ℕ) → a < 256 → value a b c d % 256 ≡ a
unfolding value
first_of_value a b c d fits = omega (arith, fits)

second_of_value : (a b c d : ℕ) → a < 256 → b < 256 → value a b c d / 256 % 256 ≡ b
unfolding value
second_of_value a b c d low fits = omega (arith, fits, low)

even_of_value : (a b c d : ℕ) → value a b c d % 2 ≡ a % 2
unfolding value
even_of_value a b c d = omega arith

-- the lowest byte of a word, the next one, and the word's lowest bit
pub low_byte : (m : List ℕ) (p : ℕ) → slice_index m p < 256 → u32_at m p % 256 ≡ slice_index m p
low_byte m p fits = ap (λ n. n % 256) (word_value m p) ∙ first_of_value (slice_index m p) (slice_index m (p + 1)) (slice_index m (p + 2)) (slice_index m (p + 3)) fits

pub next_byte : (m : List ℕ) (p : ℕ) → slice_index m p < 256 → slice_index m (p + 1) < 256 → u32_at m p / 256 % 256 ≡ slice_index m (p + 1)
next_byte m p low fits = ap (λ n. n / 256 % 256) (word_value m p) ∙ second_of_value (slice_index m p) (slice_index m (p + 1)) (slice_index m (p + 2)) (slice_index m (p + 3)) low fits

pub low_bit : (m : List ℕ) (p : ℕ) → u32_at m p % 2 ≡ slice_index m p % 2
low_bit m p = ap (λ n. n % 2) (word_value m p) ∙ even_of_value (slice_index m p) (slice_index m (p + 1)) (slice_index m (p + 2)) (slice_index m (p + 3))
