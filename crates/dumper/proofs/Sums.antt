-- The sum of a memory's bytes, byte by byte.
use Rattle.std.proofs.Common.{◌≡◌, ◌<◌, ◌≤◌, ℕ, ◌+◌, List, length, take, slice_index, ap}
use Rattle.std.proofs.{lemmas.List.take_all, lemmas.List.Sums.sum_by_more}
use Rattle.std.specs.List.{sum}

pub sum_more : (memory : List ℕ) (i : ℕ) → i < length memory → sum (take (i + 1) memory) ≡ sum (take i memory) + slice_index memory i
sum_more memory i inside = sum_by_more (λ byte. byte) memory i 0 inside

pub sum_all : (memory : List ℕ) (i : ℕ) → length memory ≤ i → sum (take i memory) ≡ sum memory
sum_all memory i over = ap sum (take_all i memory over)
