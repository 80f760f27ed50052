-- Words written one after the other into a window, and single words among them changed.
use Rattle.std.proofs.Common.{inl, inr, ◌≡◌, ℕ, zero, suc, ◌+◌, ◌*◌, ◌<◌, ◌≤◌, List, ◌++◌, length, take, drop, refl, sym, ap, subst, arith, ◌∙◌, length-append, length-drop}
use Rattle.std.proofs.{lemmas.List.places, lemmas.List.drop-append-le, lemmas.List.take-append-le, lemmas.Grind.same_number_lists}
use Rattle.std.proofs.{lemmas.Bool.cases_lt, Math.Seq.drop-append_seam, Math.Seq.take-length}
use Rattle.std.specs.Int.{to_le_bytes, w32}
use Rattle.field_words.specs.{Pieces.IsPiece, Writes.with_bytes, WordBytes.word_bytes}
use Rattle.field_words.proofs.Writes.{with_inner, with_nothing, with_two}

pub length_word : (word : ℕ) → length (to_le_bytes w32 word) ≡ 4
length_word word = refl

pub length_words : (word : ℕ → ℕ) (n : ℕ) → length (word_bytes word n) ≡ 4 * n
unfolding word_bytes
length_words word zero = refl
length_words word (suc n) = length-append (word_bytes word n) (to_le_bytes w32 (word n)) ∙ (let e = length_words word n in omega (arith, e, length_word (word n)))

-- Words that are the same below n have the same bytes.
pub same_words : (one two : ℕ → ℕ) (n : ℕ) → ((k : ℕ) → k < n → one k ≡ two k) → word_bytes one n ≡ word_bytes two n
unfolding word_bytes
same_words one two zero same = refl
same_words one two (suc n) same =
    ap (λ t. t ++ to_le_bytes w32 (one n)) (same_words one two n (λ k below. same k (omega arith)))
    ∙ ap (λ w. word_bytes two n ++ to_le_bytes w32 w) (same n (omega arith))

with_front : (a b part : List ℕ) (i : ℕ) → i + length part ≤ length a → with_bytes (a ++ b) i part ≡ with_bytes a i part ++ b
with_front a b part i fits = same_number_lists _ _ (grind (arith, places)) (λ k below. grind (arith, places))

with_end : (a b part : List ℕ) (i : ℕ) → length part ≡ length b → i ≡ length a → with_bytes (a ++ b) i part ≡ a ++ part
with_end a b part i same here = same_number_lists _ _ (grind (arith, places)) (λ k below. grind (arith, places))

-- Word i of the words set to another.
set_word : (one two : ℕ → ℕ) (n i : ℕ) → i < n → ((k : ℕ) → k < n → (k ≡ i → ⊥) → one k ≡ two k)
    → with_bytes (word_bytes one n) (4 * i) (to_le_bytes w32 (two i)) ≡ word_bytes two n
unfolding word_bytes
set_word one two zero i below same = absurd (omega arith)
set_word one two (suc n) i below same =
    let long : length (word_bytes one n) ≡ 4 * n = length_words one n in
    elim (cases_lt i n) [
      | inl inside ↦
          with_front (word_bytes one n) (to_le_bytes w32 (one n)) (to_le_bytes w32 (two i)) (4 * i) (omega (arith, long, length_word (two i)))
          ∙ ap (λ t. t ++ to_le_bytes w32 (one n)) (set_word one two n i inside (λ k less. same k (omega arith)))
          ∙ ap (λ w. word_bytes two n ++ to_le_bytes w32 w) (same n (omega arith) (λ e. omega (arith, e)))
      | inr past ↦
          let here : i ≡ n = omega arith in
          with_end (word_bytes one n) (to_le_bytes w32 (one n)) (to_le_bytes w32 (two i)) (4 * i) refl (omega (arith, long, here))
          ∙ ap (λ k. word_bytes one n ++ to_le_bytes w32 (two k)) here
          ∙ ap (λ t. t ++ to_le_bytes w32 (two n)) (same_words one two n (λ k less. same k (omega arith) (λ e. omega (arith, e, here))))
    ]

piece_before : (a b : List ℕ) (at n : ℕ) (text : List ℕ) → IsPiece a at n text → IsPiece (a ++ b) at n text
piece_before a b at n text piece =
    let inside = piece.inside in
    let long : length (a ++ b) ≡ length a + length b = length-append a b in
    let rest : drop at (a ++ b) ≡ drop at a ++ b = drop-append-le at a b (omega arith) in
    record {
      size = piece.size;
      inside = omega (arith, long);
      same = ap (take n) rest ∙ take-append-le n (drop at a) b (rw length-drop (omega arith)) ∙ piece.same;
    }

piece_behind : (a text : List ℕ) (at n : ℕ) → at ≡ length a → length text ≡ n → IsPiece (a ++ text) at n text
piece_behind a text at n here size =
    record {
      size = size;
      inside = omega (arith, length-append a text);
      same = ap (λ k. take n (drop k (a ++ text))) here ∙ ap (take n) (drop-append_seam a text) ∙ ap (λ k. take k text) (sym size) ∙ take-length text;
    }

-- Each word stands at its place, and can be read again.
pub word_piece : (word : ℕ → ℕ) (n i : ℕ) → i < n → IsPiece (word_bytes word n) (4 * i) 4 (to_le_bytes w32 (word i))
unfolding word_bytes
word_piece word zero i below = absurd (omega arith)
word_piece word (suc n) i below =
    elim (cases_lt i n) [
      | inl inside ↦ piece_before (word_bytes word n) (to_le_bytes w32 (word n)) (4 * i) 4 (to_le_bytes w32 (word i)) (word_piece word n i inside)
      | inr past ↦
          let here : i ≡ n = omega arith in
          subst (λ k. IsPiece (word_bytes word n ++ to_le_bytes w32 (word n)) (4 * i) 4 (to_le_bytes w32 (word k))) (sym here)
          (piece_behind (word_bytes word n) (to_le_bytes w32 (word n)) (4 * i) 4 (omega (arith, length_words word n)) refl)
    ]

-- no word yet
pub no_words : (window : List ℕ) (at : ℕ) (word : ℕ → ℕ) → at ≤ length window → with_bytes window at (word_bytes word 0) ≡ window
unfolding word_bytes
no_words window at word fits = with_nothing window at fits

-- A loop that puts the words one after the other.
pub put_next : (window : List ℕ) (at : ℕ) (word : ℕ → ℕ) (n : ℕ) (out out2 : List ℕ) (put : ℕ) → out ≡ with_bytes window at (word_bytes word n) → put ≡ word n
    → out2 ≡ with_bytes out (at + 4 * n) (to_le_bytes w32 put) → at + 4 * (n + 1) ≤ length window
    → out2 ≡ with_bytes window at (word_bytes word (n + 1))
unfolding word_bytes
put_next window at word n out out2 put stands same puts fits =
    let long = length_words word n in
    let both : length (word_bytes word n ++ to_le_bytes w32 (word n)) ≡ 4 * n + 4 = rw length-append (omega (arith, long, length_word (word n))) in
    let e : suc n ≡ n + 1 = omega arith in
    puts ∙ ap (λ o. with_bytes o (at + 4 * n) (to_le_bytes w32 put)) stands
    ∙ ap (λ w. with_bytes (with_bytes window at (word_bytes word n)) (at + 4 * n) (to_le_bytes w32 w)) same
    ∙ ap (λ k. with_bytes (with_bytes window at (word_bytes word n)) (at + k) (to_le_bytes w32 (word n))) (sym long)
    ∙ sym (with_two window at (word_bytes word n) (to_le_bytes w32 (word n)) (omega (arith, both)))
    ∙ ap (λ k. with_bytes window at (word_bytes word k)) e

-- A write of one word among them.
pub put_word : (window : List ℕ) (at : ℕ) (one two : ℕ → ℕ) (n i : ℕ) (out out2 : List ℕ) (put : ℕ) → out ≡ with_bytes window at (word_bytes one n) → put ≡ two i
    → out2 ≡ with_bytes out (at + 4 * i) (to_le_bytes w32 put) → at + 4 * n ≤ length window → i < n
    → ((k : ℕ) → k < n → (k ≡ i → ⊥) → one k ≡ two k)
    → out2 ≡ with_bytes window at (word_bytes two n)
put_word window at one two n i out out2 put stands same puts fits below others =
    let long = length_words one n in
    puts ∙ ap (λ o. with_bytes o (at + 4 * i) (to_le_bytes w32 put)) stands
    ∙ ap (λ w. with_bytes (with_bytes window at (word_bytes one n)) (at + 4 * i) (to_le_bytes w32 w)) same
    ∙ with_inner window at (word_bytes one n) (4 * i) (to_le_bytes w32 (two i)) (omega (arith, long)) (omega (arith, long, length_word (two i)))
    ∙ ap (λ t. with_bytes window at t) (set_word one two n i below others)
