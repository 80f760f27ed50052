-- Writes into a list of bytes, and what they leave alone.
use Rattle.std.specs.Prelude.{ℕ, ◌+◌, List, [], ◌∷◌, ◌++◌, length, take, drop, replicate}

-- Only the bytes from place `at` on, as many as given, change. The bytes fit where
-- at + length bytes ≤ length old.
abbrev pub with_bytes : List ℕ → ℕ → List ℕ → List ℕ
with_bytes old at bytes = take at old ++ (bytes ++ drop (at + length bytes) old)

-- n zero bytes
unfoldable pub zeros : ℕ → List ℕ
zeros n = replicate n 0

-- bytes that are to stand at a place
pub record Part : Type 0 where
  pub place : ℕ
  pub bytes : List ℕ

-- the parts put one after the other
abbrev pub parts_placed : List ℕ → List Part → List ℕ
parts_placed memory [] = memory
parts_placed memory (part ∷ parts) = parts_placed (with_bytes memory part.place part.bytes) parts

-- a memory of a size that is zero but for its parts
abbrev pub memory_emitted : ℕ → List Part → List ℕ
memory_emitted size parts = parts_placed (zeros size) parts
