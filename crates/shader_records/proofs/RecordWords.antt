-- The words of a record's source that emission changes.
use Rattle.std.proofs.Common.{◌≡◌, ℕ, zero, suc, ◌+◌, ◌*◌, ◌-◌, ◌/◌, ◌%◌, ◌==◌, ◌<◌, ◌≤◌, ◌&&◌, ◌⊎◌, inl, inr, nat_lt, nat_le, if◌then◌else◌, refl, sym, ap, arith, ◌∙◌}
use Rattle.std.proofs.lemmas.Bool.{cases_lt}
use Rattle.field_words.specs.Words.{u32_at}
use Rattle.packets.specs.StateWord.{attribute_count, record_size}
use Rattle.emitted_facts.proofs.Records.{header_in, entry_in}
use Rattle.shader_records.specs.Sources.{handles_size, code_number, attribute_number, record_word, word_from, place_in}
use Rattle.shader_records.specs.Emission.{shader_word, attribute_word, emitted_word, plain_word, moved_address}
use Rattle.shader_records.specs.Inputs.{InputModel}

if_below : (i n x y : ℕ) → i < n → (if nat_lt i n then x else y) ≡ x
if_below i n x y below = grind (arith, below)

if_past : (i n x y : ℕ) → n ≤ i → (if nat_lt i n then x else y) ≡ y
if_past i n x y past = grind (arith, past)

if_inside : (m i x y : ℕ) → i < m → (if nat_le m i then x else y) ≡ y
if_inside m i x y inside = grind (arith, inside)

if_outside : (m i x y : ℕ) → m ≤ i → x ≡ (if nat_le m i then x else y)
if_outside m i x y outside = grind (arith, outside)

-- the words of a record of which the first n are as they are emitted, and the others as in the source
unfoldable pub done_word : InputModel → ℕ → ℕ → (ℕ → ℕ) → ℕ → ℕ → ℕ
done_word input at state streams n i = if nat_lt i n then emitted_word input at state streams i else plain_word input at state i

pub done_here : (input : InputModel) (at state : ℕ) (streams : ℕ → ℕ) (n i : ℕ) → i < n → done_word input at state streams n i ≡ emitted_word input at state streams i
unfolding done_word
done_here input at state streams n i below = if_below i n (emitted_word input at state streams i) (plain_word input at state i) below

pub done_past : (input : InputModel) (at state : ℕ) (streams : ℕ → ℕ) (n i : ℕ) → n ≤ i → done_word input at state streams n i ≡ plain_word input at state i
unfolding done_word
done_past input at state streams n i past = if_past i n (emitted_word input at state streams i) (plain_word input at state i) past

-- More words are done, of which one alone isn't as in the source.
pub done_others : (input : InputModel) (at state : ℕ) (streams : ℕ → ℕ) (n m p k : ℕ) → n ≤ m
    → ((j : ℕ) → n ≤ j → j < m → (j ≡ p → ⊥) → emitted_word input at state streams j ≡ plain_word input at state j) → (k ≡ p → ⊥)
    → done_word input at state streams n k ≡ done_word input at state streams m k
done_others input at state streams n m p k upto same other =
    elim (cases_lt k n) [
      | inl before ↦ done_here input at state streams n k before ∙ sym (done_here input at state streams m k (omega arith))
      | inr past ↦
          elim (cases_lt k m) [
            | inl inside ↦ done_past input at state streams n k past ∙ sym (same k past inside other) ∙ sym (done_here input at state streams m k inside)
            | inr behind ↦ done_past input at state streams n k past ∙ sym (done_past input at state streams m k behind)
          ]
    ]

-- The first nine words: flags, code and stream of each shader.
emitted_first : (input : InputModel) (at state : ℕ) (streams : ℕ → ℕ) (i : ℕ) → i < 9 → emitted_word input at state streams i ≡ shader_word input at state streams i
unfolding emitted_word
emitted_first input at state streams i below =
    let head = header_in state in
    if_inside (record_size state) (4 * i) 0 (if nat_lt i 9 then shader_word input at state streams i else attribute_word input at state (i - 9)) (omega (arith, head, below))
    ∙ if_below i 9 (shader_word input at state streams i) (attribute_word input at state (i - 9)) below

plain_inside : (input : InputModel) (at state i : ℕ) → 4 * i < record_size state → plain_word input at state i ≡ record_word input at state i
unfolding plain_word
plain_inside input at state i inside = if_inside (record_size state) (4 * i) 0 (record_word input at state i) inside

pub plain_past : (input : InputModel) (at state i : ℕ) → record_size state ≤ 4 * i → 0 ≡ plain_word input at state i
unfolding plain_word
plain_past input at state i past = if_outside (record_size state) (4 * i) 0 (record_word input at state i) past

-- the words that are copied
pub plain_from : (input : InputModel) (at state from k : ℕ) → from ≡ at + handles_size state → 4 * k < record_size state → word_from input.records from k ≡ plain_word input at state k
unfolding word_from record_word
plain_from input at state from k here inside =
    ap (λ f. u32_at input.records (f + 4 * k)) here ∙ sym (plain_inside input at state k inside)

pub code_word : (input : InputModel) (at state : ℕ) (streams : ℕ → ℕ) (s : ℕ) → s < 3 → emitted_word input at state streams (3 * s + 1) ≡ place_in input.table (code_number input at s)
unfolding shader_word
code_word input at state streams zero below = emitted_first input at state streams 1 (omega arith)
code_word input at state streams (suc zero) below = emitted_first input at state streams 4 (omega arith)
code_word input at state streams (suc (suc zero)) below = emitted_first input at state streams 7 (omega arith)
code_word input at state streams (suc (suc (suc s))) below = absurd (omega arith)

pub stream_word : (input : InputModel) (at state : ℕ) (streams : ℕ → ℕ) (s : ℕ) → s < 3 → emitted_word input at state streams (3 * s + 2) ≡ streams s
unfolding shader_word
stream_word input at state streams zero below = emitted_first input at state streams 2 (omega arith)
stream_word input at state streams (suc zero) below = emitted_first input at state streams 5 (omega arith)
stream_word input at state streams (suc (suc zero)) below = emitted_first input at state streams 8 (omega arith)
stream_word input at state streams (suc (suc (suc s))) below = absurd (omega arith)

flags_word : (input : InputModel) (at state : ℕ) (streams : ℕ → ℕ) (s : ℕ) → s < 3 → emitted_word input at state streams (3 * s) ≡ record_word input at state (3 * s)
unfolding shader_word
flags_word input at state streams zero below = emitted_first input at state streams 0 (omega arith)
flags_word input at state streams (suc zero) below = emitted_first input at state streams 3 (omega arith)
flags_word input at state streams (suc (suc zero)) below = emitted_first input at state streams 6 (omega arith)
flags_word input at state streams (suc (suc (suc s))) below = absurd (omega arith)

pub flags_stay : (input : InputModel) (at state : ℕ) (streams : ℕ → ℕ) (s j : ℕ) → s < 3 → j ≡ 3 * s → emitted_word input at state streams j ≡ plain_word input at state j
flags_stay input at state streams s j below here =
    let head = header_in state in
    ap (emitted_word input at state streams) here ∙ flags_word input at state streams s below ∙ ap (record_word input at state) (sym here)
    ∙ sym (plain_inside input at state j (omega (arith, here, head, below)))

-- The words of attributes: the address, and all others.
even_word : (t count x y : ℕ) → t < count → (if (2 * t % 2 == 0) && nat_lt (2 * t) (2 * count) then x else y) ≡ x
even_word t count x y below = grind (arith, below)

pub address_emitted : (input : InputModel) (at state : ℕ) (streams : ℕ → ℕ) (t : ℕ) → t < attribute_count state → emitted_word input at state streams (9 + 2 * t) ≡ moved_address input at state t
unfolding emitted_word attribute_word
address_emitted input at state streams t below =
    let entry = entry_in state t below in
    let i : ℕ = 9 + 2 * t in
    let back : (9 + 2 * t) - 9 ≡ 2 * t = omega arith in
    let half : 2 * t / 2 ≡ t = omega arith in
    if_inside (record_size state) (4 * i) 0 (if nat_lt i 9 then shader_word input at state streams i else attribute_word input at state (i - 9)) (omega (arith, entry))
    ∙ if_past i 9 (shader_word input at state streams i) (attribute_word input at state (i - 9)) (omega arith)
    ∙ ap (attribute_word input at state) back
    ∙ even_word t (attribute_count state) (record_word input at state (9 + 2 * t) + place_in input.table (attribute_number input at (2 * t / 2))) (record_word input at state (9 + 2 * t)) below
    ∙ ap (λ a. record_word input at state (9 + 2 * t) + place_in input.table (attribute_number input at a)) half

other_word : (j count x y : ℕ) → ((j % 2 ≡ 1) ⊎ (2 * count ≤ j)) → (if (j % 2 == 0) && nat_lt j (2 * count) then x else y) ≡ y
other_word j count x y (inl odd) = grind (arith, odd)
other_word j count x y (inr past) = grind (arith, past)

pub others_stay : (input : InputModel) (at state : ℕ) (streams : ℕ → ℕ) (i : ℕ) → 9 ≤ i → (((i - 9) % 2 ≡ 1) ⊎ (2 * attribute_count state ≤ i - 9)) → emitted_word input at state streams i ≡ plain_word input at state i
unfolding emitted_word plain_word attribute_word
others_stay input at state streams i past other =
    let back : 9 + (i - 9) ≡ i = omega (arith, past) in
    ap (λ x. if nat_le (record_size state) (4 * i) then 0 else x)
    (if_past i 9 (shader_word input at state streams i) (attribute_word input at state (i - 9)) past
    ∙ other_word (i - 9) (attribute_count state) (record_word input at state (9 + (i - 9)) + place_in input.table (attribute_number input at ((i - 9) / 2))) (record_word input at state (9 + (i - 9))) other
    ∙ ap (record_word input at state) back)
