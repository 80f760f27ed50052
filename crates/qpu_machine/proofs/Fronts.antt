-- Loops that fill a row.
use Rattle.std.proofs.Common.{◌≡◌, ◌≤◌, ◌<◌, ℕ, ◌+◌, List, length, slice_index, slice_set, ◌∙◌, arith}
use Rattle.std.proofs.{lemmas.List.length-set, lemmas.List.Edits.fill_by_more, lemmas.List.FromFn.fill_by_all}
use Rattle.qpu_machine.specs.Row.{lanes}

-- a row of 16 of which the elements below n are f's
pub record IsFront (f : ℕ → ℕ) (n : ℕ) (row : List ℕ) : Type 0 where
  pub size : length row ≡ 16
  pub each : (k : ℕ) → k < n → slice_index row k ≡ f k

pub front_more : (f : ℕ → ℕ) (n : ℕ) (row : List ℕ) → n < 16 → IsFront f n row → IsFront f (n + 1) (slice_set row n (f n))
front_more f n row below front = record {
  size = length-set row n (f n) ∙ front.size;
  each = fill_by_more f row n 0 (omega (arith, front.size)) front.each;
}

pub front_all : (f : ℕ → ℕ) (n : ℕ) (row : List ℕ) → 16 ≤ n → IsFront f n row → row ≡ lanes f
front_all f n row all front = fill_by_all f row 16 0 front.size (λ k below. front.each k (omega arith))
