-- A text that is changed after it was written.
use Rattle.std.proofs.Common.{◌<◌, ◌≡◌, ℕ, List, [], ◌∷◌, ◌++◌, length, take, drop, get_or, set, arith, ap, sym, ◌∙◌}
use Rattle.std.proofs.lemmas.List.{take_all, take-append-drop, take-set, drop-set}
use Rattle.field_words.specs.Writes.{with_bytes}

-- a text of one byte
pub one_byte : (window : List ℕ) (at : ℕ) (text : List ℕ) → length text ≡ 1 → at < length window
    → set window at (get_or text 0 0) ≡ with_bytes window at text
one_byte window at [] one fits = absurd (omega arith)
one_byte window at (y ∷ []) one fits =
    sym (take-append-drop at (set window at y))
    ∙ ap (λ front. front ++ drop at (set window at y)) (take-set window at y)
    ∙ ap (λ rest. take at window ++ rest) (drop-set window at y fits)
one_byte window at (y ∷ (z ∷ text)) one fits = absurd (omega arith)

-- so many bytes as there are, are all of them
pub taken_whole : (text : List ℕ) (n : ℕ) → length text ≡ n → take n text ≡ text
taken_whole text n long = take_all n text (omega (arith, long))
