-- Words that are copied as they are.
use Rattle.std.proofs.Common.{◌≡◌, ℕ, zero, suc, ◌+◌, ◌*◌, ◌≤◌, List, ◌++◌, length, take, drop, refl, sym, ap, arith, ◌∙◌}
use Rattle.std.proofs.{lemmas.List.places, lemmas.Grind.same_number_lists}
use Rattle.std.specs.Int.{to_le_bytes, w32}
use Rattle.field_words.specs.{Words.u32_at, Words.IsBytes, WordBytes.word_bytes}
use Rattle.field_words.proofs.Numbers.{u32_piece}
use Rattle.shader_records.specs.Sources.{word_from}

take_more : (xs : List ℕ) (from n m : ℕ) → from + (n + m) ≤ length xs → take n (drop from xs) ++ take m (drop (from + n) xs) ≡ take (n + m) (drop from xs)
take_more xs from n m fits = same_number_lists _ _ (grind (arith, places)) (λ k below. grind (arith, places))

pub words_are : (bytes : List ℕ) (from n : ℕ) → IsBytes bytes → from + 4 * n ≤ length bytes → take (4 * n) (drop from bytes) ≡ word_bytes (word_from bytes from) n
unfolding word_bytes word_from
words_are bytes from zero fits inside = refl
words_are bytes from (suc n) fits inside =
    let more : 4 * suc n ≡ 4 * n + 4 = omega arith in
    ap (λ k. take k (drop from bytes)) more
    ∙ sym (take_more bytes from (4 * n) 4 (omega arith))
    ∙ ap (λ t. take (4 * n) (drop from bytes) ++ t) (u32_piece bytes (from + 4 * n) fits (omega arith)).same
    ∙ ap (λ t. t ++ to_le_bytes w32 (u32_at bytes (from + 4 * n))) (words_are bytes from n fits (omega arith))
