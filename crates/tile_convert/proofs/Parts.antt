-- A copied part, byte by byte.
use Rattle.std.proofs.Common.{◌≡◌, ℕ, ◌+◌, ◌≤◌, inl, inr, ◌-◌, List, length, take, drop, arith, ◌∙◌, length-drop}
use Rattle.std.proofs.{lemmas.List.get_or-drop, lemmas.List.get_or-take, lemmas.List.length-take-le, lemmas.Bool.cases_lt}
use Rattle.field_words.specs.Writes.{with_bytes}
use Rattle.field_words.proofs.Writes.{length-with_bytes, with_bytes-before, with_bytes-behind, with_bytes-inside}
use Rattle.tile_convert.specs.Steps.{IsPartCopied}

pub part_copied : (source : List ℕ) (from : ℕ) (old : List ℕ) (to count : ℕ) → from + count ≤ length source → to + count ≤ length old
    → IsPartCopied source from old to count (with_bytes old to (take count (drop from source)))
part_copied source from old to count source_fits target_fits =
    let part : List ℕ = take count (drop from source) in
    let len : length part ≡ count = length-take-le count (drop from source) (let h : count ≤ length (drop from source) = omega (arith, length-drop from source) in h) in
    let fits : to + length part ≤ length old = omega (arith, len) in
    record {
      size = length-with_bytes old to part fits;
      part = λ k below. with_bytes-inside old to part k fits (omega (arith, len)) ∙ get_or-take count (drop from source) k 0 below ∙ get_or-drop from source k 0;
      rest = λ i none.
          elim (cases_lt i to) [
            | inl before ↦ with_bytes-before old to part i fits before
            | inr after ↦ elim (cases_lt i (to + count)) [
              | inl inside ↦ absurd (none (i - to) (omega arith) (omega arith))
              | inr behind ↦ with_bytes-behind old to part i fits (omega (arith, len))
            ]
          ];
    }
