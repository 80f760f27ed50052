-- The script that a seed gives.
use Rattle.std.specs.Prelude.{◌≡◌, ℕ, ◌/◌, ◌%◌, ◌^◌, List, map, bit_xor}
use Rattle.std.specs.List.{range_with_len}
use Rattle.example_job.specs.Noise.{next_state}

-- the unit that steps at a step, of n that may
unfoldable pub picked_by : ℕ → ℕ → ℕ → ℕ
picked_by seed step n = next_state (bit_xor seed step) / 2 ^ 33 % n

-- choice word k of a step whose words come from this state
unfoldable pub word_from : ℕ → ℕ → ℕ
word_from state k = next_state (bit_xor state k) / 2 ^ 32

-- so many words of such a step
abbrev pub words_of : ℕ → ℕ → List ℕ
words_of state count = map (word_from state) (range_with_len 0 count)

-- choice word k of a step by this seed
abbrev pub word_by : ℕ → ℕ → ℕ → ℕ
word_by seed step k = word_from (next_state (bit_xor seed step)) k

abbrev pub Picks : ℕ → ℕ → ℕ → ℕ → Type 0
Picks seed step n picked = picked ≡ picked_by seed step n

abbrev pub Gives : ℕ → ℕ → ℕ → ℕ → Type 0
Gives seed step k word = word ≡ word_by seed step k
