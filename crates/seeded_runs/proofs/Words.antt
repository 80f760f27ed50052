-- The words of a step, each by itself.
use Rattle.std.proofs.Common.{◌≡◌, ◌≤◌, ◌<◌, ℕ, ◌%◌, ◌^◌, length, slice_index, sym, ◌∙◌, ap, arith}
use Rattle.std.proofs.lemmas.List.FromFn.{length-map-range_with_len, get_or-map-range_with_len}
use Rattle.std.proofs.lemmas.List.{get_or_past}
use Rattle.example_job.specs.Noise.{next_state}
use Rattle.machine_plan.specs.Choice.{word_at}
use Rattle.seeded_runs.specs.Seeded.{word_from, words_of}

word_small : (state k : ℕ) → word_from state k < 2 ^ 32
unfolding word_from next_state
word_small state k = omega arith

pub words_long : (state count : ℕ) → length (words_of state count) ≡ count
words_long state count = length-map-range_with_len (word_from state) 0 count

pub word_given : (state count k : ℕ) → k < count → slice_index (words_of state count) k ≡ word_from state k
word_given state count k below = get_or-map-range_with_len (word_from state) 0 count k k 0 below (omega arith)

pub word_there : (state count k : ℕ) → k < count → word_from state k ≡ word_at (words_of state count) k
word_there state count k below =
    let small = word_small state k in
    let whole : word_from state k ≡ word_from state k % 2 ^ 32 = omega (arith, small) in
    whole ∙ ap (λ w. w % 2 ^ 32) (sym (word_given state count k below))

pub word_past : (state count k : ℕ) → count ≤ k → 0 ≡ word_at (words_of state count) k
word_past state count k over =
    ap (λ w. w % 2 ^ 32) (sym (get_or_past (words_of state count) k 0 (omega (arith, over, words_long state count))))
