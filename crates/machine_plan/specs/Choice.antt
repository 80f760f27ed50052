-- Choice words: they answer what the hardware leaves open.
use Rattle.std.specs.Prelude.{ℕ, ◌%◌, ◌^◌, List, slice_index}

-- choice word k, which is 0 where it is missing; of each word the low 32 bits count
abbrev pub word_at : List ℕ → ℕ → ℕ
word_at words k = slice_index words k % 2 ^ 32
