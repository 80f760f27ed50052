-- The words of a line, and numbers as words.
use Rattle.std.proofs.Common.{◌≡◌, ℕ, zero, suc, ◌+◌, ◌-◌, ◌<◌, ◌≤◌, true, false, Option, Some, None, List, [], ◌∷◌, length, get_or, take, drop, refl, sym, ◌∙◌, ap, arith}
use Rattle.std.proofs.lemmas.List.{take_rest, drop_more, drop_all}
use Rattle.hex.specs.Hex.{hex_digit_value}
use Rattle.script.specs.Lines.{onto_line}
use Rattle.job_make.specs.Made.{is_blank, words_of, full_of, with_digit, digits_after, hex_number}

-- no byte below a place is a blank
abbrev pub Filled : List ℕ → ℕ → Type 0
Filled text n = (k : ℕ) → k < n → is_blank (get_or text k 0) ≡ false

cut_at_blank : (text : List ℕ) (at : ℕ) → at < length text → Filled text at → is_blank (get_or text at 0) ≡ true
    → words_of text ≡ take at text ∷ words_of (drop (suc at) text)
unfolding words_of
cut_at_blank [] at inside filled here = absurd (omega arith)
cut_at_blank (c ∷ cs) zero inside filled here = rw here refl
cut_at_blank (c ∷ cs) (suc at) inside filled here =
    rw (filled zero (omega arith)) (ap (onto_line c) (cut_at_blank cs at (omega arith) (λ k h. filled (suc k) (omega arith)) here))

pub word_cut : (text : List ℕ) (at : ℕ) → at < length text → Filled text at → is_blank (get_or text at 0) ≡ true
    → words_of text ≡ take at text ∷ words_of (take (length text - (at + 1)) (drop (at + 1) text))
word_cut text at inside filled here =
    let more : suc at ≡ at + 1 = omega arith in
    cut_at_blank text at inside filled here ∙ ap (λ n. take at text ∷ words_of (drop n text)) more
    ∙ ap (λ rest. take at text ∷ words_of rest) (sym (take_rest text (at + 1)))

pub word_whole : (text : List ℕ) → 0 < length text → Filled text (length text) → words_of text ≡ text ∷ words_of []
unfolding words_of
word_whole [] some filled = absurd (omega (arith, some))
word_whole (c ∷ []) some filled = rw (filled zero (omega arith)) refl
word_whole (c ∷ d ∷ cs) some filled =
    rw (filled zero (omega arith)) (ap (onto_line c) (word_whole (d ∷ cs) (omega arith) (λ k h. filled (suc k) (omega arith))))

-- one word of a line more, which is empty or not
pub empty_step : (first : List ℕ) (words : List (List ℕ)) → length first ≤ 0 → full_of (first ∷ words) ≡ full_of words
unfolding full_of
empty_step [] words none = refl
empty_step (c ∷ cs) words none = absurd (omega (arith, none))

pub full_step : (first : List ℕ) (words : List (List ℕ)) → 0 < length first → full_of (first ∷ words) ≡ first ∷ full_of words
unfolding full_of
full_step [] words some = absurd (omega (arith, some))
full_step (c ∷ cs) words some = refl

pub full_end : (rest : List ℕ) → length rest ≤ 0 → full_of (words_of rest) ≡ []
unfolding full_of words_of
full_end [] none = refl
full_end (c ∷ cs) none = absurd (omega (arith, none))

-- one digit more
pub digits_step : (n : Option ℕ) (digits : List ℕ) (i none : ℕ) → i < length digits
    → digits_after (with_digit n (hex_digit_value (get_or digits i none))) (drop (i + 1) digits) ≡ digits_after n (drop i digits)
unfolding digits_after
digits_step n digits i none below = rw (drop_more digits i none below) refl

pub digits_done : (n : Option ℕ) (digits : List ℕ) (i : ℕ) → length digits ≤ i → digits_after n (drop i digits) ≡ n
unfolding digits_after
digits_done n digits i done = rw (drop_all i digits done) refl

pub some_digits : (digits : List ℕ) → 0 < length digits → hex_number digits ≡ digits_after (Some 0) digits
unfolding hex_number
some_digits [] some = absurd (omega (arith, some))
some_digits (c ∷ cs) some = refl

pub no_digits : (digits : List ℕ) → length digits ≤ 0 → None ≡ hex_number digits
unfolding hex_number
no_digits [] none = refl
no_digits (c ∷ cs) none = absurd (omega (arith, none))
