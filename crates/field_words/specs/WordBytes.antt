-- Numbers as bytes, little endian.
use Rattle.std.specs.{Prelude.ℕ, Prelude.zero, Prelude.suc, Prelude.List, Prelude.[], Prelude.◌++◌, Int.to_le_bytes, Int.w16, Int.w32}

-- a number of two or of four bytes
abbrev pub half : ℕ → List ℕ
half n = to_le_bytes w16 n

abbrev pub word : ℕ → List ℕ
word n = to_le_bytes w32 n

-- the bytes of words 0 to n - 1, four bytes each
unfoldable pub word_bytes : (ℕ → ℕ) → ℕ → List ℕ
word_bytes words zero = []
word_bytes words (suc n) = word_bytes words n ++ word (words n)
