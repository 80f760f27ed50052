-- An emitted stream is what whoever runs it counts on.
use Rattle.std.proofs.Common.{◌≡◌, ℕ, suc, ◌+◌, ◌^◌, ◌==◌, ◌<◌, ◌≤◌, Bool, true, false, ◌||◌, length, Option, Some, None, is_some, if◌then◌else◌, add-zero, refl, sym, ap, arith, ◌∙◌, zero, ◌*◌, ◌/◌, ◌%◌, ◌-◌, ◌&&◌, nat_lt, nat_le, not, List, inl, inr}
use Rattle.std.proofs.lemmas.Bool.{ltb-false, eqb-true, ltb-true, cases_lt}
use Rattle.field_words.specs.{Questions.first_of, Words.u32_at}
use Rattle.field_words.proofs.{Questions.none_broken, Numbers.u32_fits}
use Rattle.qpu_isa.specs.Shader.{ShaderModel, or_zero, sample_at, first_position, position, address_at, IsSoundShader, IsSoundSample}
use Rattle.qpu_isa.specs.declared.inst.Sample.{Sample}
use Rattle.texture_layouts.specs.Setup.{base_of, texture_of, faces_of, size_below}
use Rattle.texture_layouts.specs.Fits.{texture_questions, direct_questions}
use Rattle.texture_layouts.proofs.Inside.{in_buffer}
use Rattle.emitted_facts.specs.Facts.{setup, word_or_zero, IsSampleIn, IsStream}
use Rattle.shader_records.specs.Sources.{sample_number, source_word, place_in, handles_size, code_number, attribute_number, record_word}
use Rattle.shader_records.specs.Emission.{place_added, moved_word, is_address, addressed_word, stream_word_of, shader_word, attribute_word, emitted_word}
use Rattle.shader_records.specs.{Inputs.InputModel, Inputs.IsShaped, Rules.setup_questions, Rules.use_questions, Rules.record_questions}
use Rattle.shader_records.specs.Named.{AreInMemory, IsDataIn}
use Rattle.shader_records.proofs.Fine.{sample_fine, address_fits}
use Rattle.packets.specs.StateWord.{attribute_count, record_size}
use Rattle.buffer_table.specs.{Table.most_place, Table.TableModel, Handles.data_of, Handles.size_in}

-- The words of a stream that emission changes.

-- A first word that breaks no rule is at most a page past the buffer's size.
some_face : (b : Bool) → 0 < (if b then 6 else 1)
some_face true = omega arith
some_face false = omega arith

texture_base : (p0 p1 p2 p3 size : ℕ) → p0 < 2 ^ 32 → first_of (texture_questions p0 p1 p2 p3 size) ≡ None → p0 ≤ size + 4095
unfolding texture_of base_of faces_of size_below
texture_base p0 p1 p2 p3 size fits none =
    let inside = in_buffer p0 p1 p2 p3 size none in
    let first = inside.upto 0 0 (some_face (texture_of p0 p1 p2 p3).is_cube) (omega arith) in
    omega (arith, first, fits)

pub direct_base : (base bound size : ℕ) → first_of (direct_questions base bound size) ≡ None → base + bound + 4 ≤ size
unfolding direct_questions
direct_base base bound size none =
    let n = none_broken (direct_questions base bound size) none in
    ltb-false size (base + bound + 4) n.1.0

setup_base : (direct : Bool) (p0 p1 p2 p3 size : ℕ) → p0 < 2 ^ 32
    → first_of (if direct then direct_questions p0 p1 size else texture_questions p0 p1 p2 p3 size) ≡ None → p0 ≤ size + 4095
setup_base true p0 p1 p2 p3 size fits none = omega (arith, direct_base p0 p1 size none)
setup_base false p0 p1 p2 p3 size fits none = texture_base p0 p1 p2 p3 size fits none

pub first_setup : (word : ℕ → ℕ) (o : Option ℕ) (k : ℕ) → k ≡ or_zero o → is_some o ≡ true → word_or_zero word o ≡ word k
first_setup word None k here some = cc
first_setup word (Some n) k here some = ap word (sym here)

pub base_fits : (input : InputModel) (from : ℕ) (shader : ShaderModel) (i : ℕ) → IsShaped shader → i < length shader.samples
    → first_of (use_questions input from (Some shader)) ≡ None
    → source_word input from shader (first_position (sample_at shader i)) < 2 ^ 32
    → source_word input from shader (first_position (sample_at shader i)) ≤ size_in input.table (sample_number input from i) + 4095
unfolding setup_questions
base_fits input from shader i shaped below none fits =
    let sample : Sample = sample_at shader i in
    let word : ℕ → ℕ = source_word input from shader in
    let fine = sample_fine input from shader i none below in
    let same : setup word sample 0 ≡ word (first_position sample) = first_setup word (position sample 0) (first_position sample) refl (shaped.samples i below).first in
    rw (← same) (setup_base sample.direct (setup word sample 0) (setup word sample 1) (setup word sample 2) (setup word sample 3) (size_in input.table (sample_number input from i)) (rw same fits) fine.fits)

next : (n : ℕ) → n + 1 ≡ suc n
next n = omega arith

pub if_same : (a x y : ℕ) → (if a == a then x else y) ≡ x
if_same a x y = grind arith

pub if_other : (a k x y : ℕ) → (k ≡ a → ⊥) → (if a == k then x else y) ≡ y
if_other a k x y other = grind arith

if_here : (b : Bool) (a x y : ℕ) → (if (b || a == a) then x else y) ≡ x
if_here true a x y = refl
if_here false a x y = if_same a x y

if_there : (b : Bool) (a k x y : ℕ) → (k ≡ a → ⊥) → (if (b || a == k) then x else y) ≡ (if b then x else y)
if_there true a k x y other = refl
if_there false a k x y other = if_other a k x y other

-- One sample more is moved: word k changes where it is the sample's first.
pub moved_here : (input : InputModel) (from : ℕ) (shader : ShaderModel) (n : ℕ)
    → moved_word input from shader (n + 1) (first_position (sample_at shader n)) ≡ source_word input from shader (first_position (sample_at shader n)) + place_in input.table (sample_number input from n)
unfolding moved_word place_added
moved_here input from shader n =
    let first : ℕ = first_position (sample_at shader n) in
    ap (λ m. source_word input from shader first + place_added input from shader m first) (next n)
    ∙ ap (λ x. source_word input from shader first + x) (if_same first (place_in input.table (sample_number input from n)) (place_added input from shader n first))

pub moved_others : (input : InputModel) (from : ℕ) (shader : ShaderModel) (n k : ℕ) → (k ≡ first_position (sample_at shader n) → ⊥)
    → moved_word input from shader n k ≡ moved_word input from shader (n + 1) k
unfolding moved_word place_added
moved_others input from shader n k other =
    let first : ℕ = first_position (sample_at shader n) in
    sym (ap (λ m. source_word input from shader k + place_added input from shader m k) (next n)
    ∙ ap (λ x. source_word input from shader k + x) (if_other first k (place_in input.table (sample_number input from n)) (place_added input from shader n k) other))

-- no sample is moved yet
pub moved_none : (input : InputModel) (from : ℕ) (shader : ShaderModel) (k : ℕ) → source_word input from shader k ≡ moved_word input from shader 0 k
unfolding moved_word place_added
moved_none input from shader k = sym (add-zero (source_word input from shader k))

-- an address word is its place in the stream
pub addressed_here : (input : InputModel) (from : ℕ) (shader : ShaderModel) (stream n : ℕ) → stream ≡ addressed_word input from shader stream (n + 1) (address_at shader n)
unfolding addressed_word is_address
addressed_here input from shader stream n =
    let at : ℕ = address_at shader n in
    sym (ap (λ m. if is_address shader m at then stream else moved_word input from shader (length shader.samples) at) (next n)
    ∙ if_here (is_address shader n at) at stream (moved_word input from shader (length shader.samples) at))

pub addressed_others : (input : InputModel) (from : ℕ) (shader : ShaderModel) (stream n k : ℕ) → (k ≡ address_at shader n → ⊥)
    → addressed_word input from shader stream n k ≡ addressed_word input from shader stream (n + 1) k
unfolding addressed_word is_address
addressed_others input from shader stream n k other =
    sym (ap (λ m. if is_address shader m k then stream else moved_word input from shader (length shader.samples) k) (next n)
    ∙ if_there (is_address shader n k) (address_at shader n) k stream (moved_word input from shader (length shader.samples) k) other)

pub addressed_none : (input : InputModel) (from : ℕ) (shader : ShaderModel) (stream k : ℕ) → addressed_word input from shader stream 0 k ≡ moved_word input from shader (length shader.samples) k
unfolding addressed_word is_address
addressed_none input from shader stream k = refl

-- Each emitted word is below 2^32, so that it can be read back.

place_limit : (input : InputModel) (o : Option ℕ) → AreInMemory input → place_in input.table o + size_in input.table o ≤ most_place
place_limit input None fits = omega arith
place_limit input (Some number) fits = fits.buffers number

record_fits : (input : InputModel) (at state i : ℕ) → AreInMemory input → record_word input at state i < 2 ^ 32
unfolding record_word
record_fits input at state i fits = u32_fits input.records (at + handles_size state + 4 * i) fits.records

source_fits : (input : InputModel) (from : ℕ) (shader : ShaderModel) (k : ℕ) → AreInMemory input → source_word input from shader k < 2 ^ 32
unfolding source_word
source_fits input from shader k fits = u32_fits input.uniforms (from + 4 * length shader.samples + 4 * k) fits.uniforms

-- What is added to a word is nothing, or the place of the buffer of a sample whose first word it is.
moved_one : (input : InputModel) (from : ℕ) (shader : ShaderModel) (n k : ℕ) (b : Bool) → (first_position (sample_at shader n) == k) ≡ b → AreInMemory input → IsShaped shader
    → first_of (use_questions input from (Some shader)) ≡ None → suc n ≤ length shader.samples → source_word input from shader k + place_added input from shader n k < 2 ^ 32
    → source_word input from shader k + (if b then place_in input.table (sample_number input from n) else place_added input from shader n k) < 2 ^ 32
moved_one input from shader n k false is fits shaped none upto before = before
moved_one input from shader n k true is fits shaped none upto before =
    let same : first_position (sample_at shader n) ≡ k = eqb-true (first_position (sample_at shader n)) k is in
    let here = ap (source_word input from shader) same in
    let base = base_fits input from shader n shaped (omega (arith, upto)) none (source_fits input from shader (first_position (sample_at shader n)) fits) in
    let limit = place_limit input (sample_number input from n) fits in
    omega (arith, here, base, limit)

moved_fits : (input : InputModel) (from : ℕ) (shader : ShaderModel) (n k : ℕ) → AreInMemory input → IsShaped shader
    → first_of (use_questions input from (Some shader)) ≡ None → n ≤ length shader.samples → source_word input from shader k + place_added input from shader n k < 2 ^ 32
unfolding place_added
moved_fits input from shader zero k fits shaped none upto = let s = source_fits input from shader k fits in omega (arith, s)
moved_fits input from shader (suc n) k fits shaped none upto =
    moved_one input from shader n k (first_position (sample_at shader n) == k) refl fits shaped none upto (moved_fits input from shader n k fits shaped none (omega arith))

either : (b : Bool) (x y : ℕ) → x < 2 ^ 32 → y < 2 ^ 32 → (if b then x else y) < 2 ^ 32
either true x y first second = first
either false x y first second = second

pub stream_fits : (input : InputModel) (from : ℕ) (shader : ShaderModel) (stream k : ℕ) → AreInMemory input → IsShaped shader
    → first_of (use_questions input from (Some shader)) ≡ None → stream < 2 ^ 32 → stream_word_of input from shader stream k < 2 ^ 32
unfolding addressed_word moved_word
stream_fits input from shader stream k fits shaped none place =
    either (is_address shader (length shader.address_words) k) stream (source_word input from shader k + place_added input from shader (length shader.samples) k) place
    (moved_fits input from shader (length shader.samples) k fits shaped none (omega arith))

-- The words of a record.
shader_fits : (input : InputModel) (at state : ℕ) (streams : ℕ → ℕ) (i : ℕ) → i < 9 → AreInMemory input → ((s : ℕ) → s < 3 → streams s < 2 ^ 32) → shader_word input at state streams i < 2 ^ 32
unfolding shader_word
shader_fits input at state streams i below fits places =
    either (i % 3 == 1) (place_in input.table (code_number input at (i / 3))) (if i % 3 == 2 then streams (i / 3) else record_word input at state i)
    (let limit = place_limit input (code_number input at (i / 3)) fits in omega (arith, limit))
    (either (i % 3 == 2) (streams (i / 3)) (record_word input at state i) (places (i / 3) (omega (arith, below))) (record_fits input at state i fits))

is_even : (j count : ℕ) → ((j % 2 == 0) && nat_lt j (2 * count)) ≡ true → (j ≡ 2 * (j / 2)) × (j / 2 < count)
is_even j count stands = (grind (arith, stands), grind (arith, stands))

attribute_one : (input : InputModel) (at state most j : ℕ) (b : Bool) → ((j % 2 == 0) && nat_lt j (2 * attribute_count state)) ≡ b → AreInMemory input
    → first_of (record_questions input at state most) ≡ None
    → (if b then record_word input at state (9 + j) + place_in input.table (attribute_number input at (j / 2)) else record_word input at state (9 + j)) < 2 ^ 32
attribute_one input at state most j false is fits none = record_fits input at state (9 + j) fits
attribute_one input at state most j true is fits none =
    let even = is_even j (attribute_count state) is in
    let base = address_fits input at state most (j / 2) none even.1 in
    let same = ap (λ m. record_word input at state (9 + m)) even.0 in
    let limit = place_limit input (attribute_number input at (j / 2)) fits in
    omega (arith, same, base, limit)

attribute_fits : (input : InputModel) (at state most j : ℕ) → AreInMemory input → first_of (record_questions input at state most) ≡ None → attribute_word input at state j < 2 ^ 32
unfolding attribute_word
attribute_fits input at state most j fits none = attribute_one input at state most j ((j % 2 == 0) && nat_lt j (2 * attribute_count state)) refl fits none

one_word : (input : InputModel) (at state most : ℕ) (streams : ℕ → ℕ) (i : ℕ) (b : Bool) → nat_lt i 9 ≡ b → AreInMemory input → ((s : ℕ) → s < 3 → streams s < 2 ^ 32)
    → first_of (record_questions input at state most) ≡ None → (if b then shader_word input at state streams i else attribute_word input at state (i - 9)) < 2 ^ 32
one_word input at state most streams i true below fits places none = shader_fits input at state streams i (ltb-true i 9 below) fits places
one_word input at state most streams i false past fits places none = attribute_fits input at state most (i - 9) fits none

pub word_fits : (input : InputModel) (at state most : ℕ) (streams : ℕ → ℕ) (i : ℕ) → AreInMemory input → ((s : ℕ) → s < 3 → streams s < 2 ^ 32)
    → first_of (record_questions input at state most) ≡ None → emitted_word input at state streams i < 2 ^ 32
unfolding emitted_word
word_fits input at state most streams i fits places none =
    either (nat_le (record_size state) (4 * i)) 0 (if nat_lt i 9 then shader_word input at state streams i else attribute_word input at state (i - 9)) (omega arith)
    (one_word input at state most streams i (nat_lt i 9) refl fits places none)

-- Which words are address words.
or_right : (b : Bool) (n k : ℕ) → n ≡ k → (b || n == k) ≡ true
or_right true n k same = refl
or_right false n k same = grind (arith, same)

or_left : (a b : Bool) → a ≡ true → (a || b) ≡ true
or_left true b stands = refl
or_left false b stands = cc

neither : (a : Bool) (n k : ℕ) → a ≡ false → (n ≡ k → ⊥) → (a || n == k) ≡ false
neither true n k none other = cc
neither false n k none other = grind (arith, other)

is_one : (shader : ShaderModel) (n j : ℕ) → j < n → is_address shader n (address_at shader j) ≡ true
unfolding is_address
is_one shader zero j below = absurd (omega arith)
is_one shader (suc n) j below =
    elim (cases_lt j n) [
      | inl before ↦ or_left (is_address shader n (address_at shader j)) (address_at shader n == address_at shader j) (is_one shader n j before)
      | inr past ↦
          let same : n ≡ j = omega arith in
          or_right (is_address shader n (address_at shader j)) (address_at shader n) (address_at shader j) (ap (address_at shader) same)
    ]

is_none_of : (shader : ShaderModel) (n k : ℕ) → ((j : ℕ) → j < n → address_at shader j ≡ k → ⊥) → is_address shader n k ≡ false
unfolding is_address
is_none_of shader zero k none = refl
is_none_of shader (suc n) k none =
    neither (is_address shader n k) (address_at shader n) k (is_none_of shader n k (λ j below. none j (omega arith))) (none n (omega arith))

-- What is added to a word.
added_first : (input : InputModel) (from : ℕ) (shader : ShaderModel) (n i : ℕ) → i < n
    → ((j : ℕ) → i < j → j < n → first_position (sample_at shader i) ≡ first_position (sample_at shader j) → ⊥)
    → place_added input from shader n (first_position (sample_at shader i)) ≡ place_in input.table (sample_number input from i)
unfolding place_added
added_first input from shader zero i below apart = absurd (omega arith)
added_first input from shader (suc n) i below apart =
    let first : ℕ = first_position (sample_at shader i) in
    elim (cases_lt i n) [
      | inl before ↦
          if_other (first_position (sample_at shader n)) first (place_in input.table (sample_number input from n)) (place_added input from shader n first) (apart n before (omega arith))
          ∙ added_first input from shader n i before (λ j above small. apart j above (omega arith))
      | inr past ↦
          let same : n ≡ i = omega arith in
          ap (λ m. if first_position (sample_at shader m) == first then place_in input.table (sample_number input from m) else place_added input from shader n first) same
          ∙ if_same first (place_in input.table (sample_number input from i)) (place_added input from shader n first)
    ]

added_none : (input : InputModel) (from : ℕ) (shader : ShaderModel) (n k : ℕ) → ((i : ℕ) → i < n → first_position (sample_at shader i) ≡ k → ⊥)
    → place_added input from shader n k ≡ 0
unfolding place_added
added_none input from shader zero k none = refl
added_none input from shader (suc n) k none =
    if_other (first_position (sample_at shader n)) k (place_in input.table (sample_number input from n)) (place_added input from shader n k) (λ e. none n (omega arith) (sym e))
    ∙ added_none input from shader n k (λ i below. none i (omega arith))

-- So a sample's first word is moved by its buffer's place, and its other words are those of the source.
stream_first : (input : InputModel) (from : ℕ) (shader : ShaderModel) (stream i : ℕ) → IsSoundShader shader → i < length shader.samples
    → stream_word_of input from shader stream (first_position (sample_at shader i))
    ≡ source_word input from shader (first_position (sample_at shader i)) + place_in input.table (sample_number input from i)
unfolding addressed_word moved_word
stream_first input from shader stream i sound below =
    let first : ℕ = first_position (sample_at shader i) in
    let n : ℕ = length shader.samples in
    let other = is_none_of shader (length shader.address_words) first (λ j small same. sound.apart i j below small (sym same)) in
    ap (λ b. if b then stream else source_word input from shader first + place_added input from shader n first) other
    ∙ ap (λ x. source_word input from shader first + x) (added_first input from shader n i below (λ j above small. sound.firsts i j above small))

stream_other : (input : InputModel) (from : ℕ) (shader : ShaderModel) (stream i n k : ℕ) → IsSoundShader shader → i < length shader.samples → 1 ≤ n
    → position (sample_at shader i) n ≡ Some k
    → stream_word_of input from shader stream k ≡ source_word input from shader k
unfolding addressed_word moved_word
stream_other input from shader stream i n k sound below later here =
    let sample = sound.samples i below in
    let other = is_none_of shader (length shader.address_words) k (λ j small same. sample.no_address n k later here j small same) in
    ap (λ b. if b then stream else source_word input from shader k + place_added input from shader (length shader.samples) k) other
    ∙ ap (λ x. source_word input from shader k + x) (added_none input from shader (length shader.samples) k (λ j small same. sample.no_first n k later here j small same))
    ∙ add-zero (source_word input from shader k)

same_setup : (one two : ℕ → ℕ) (o : Option ℕ) → ((k : ℕ) → o ≡ Some k → one k ≡ two k) → word_or_zero one o ≡ word_or_zero two o
same_setup one two None same = refl
same_setup one two (Some k) same = same k refl

setup_other : (input : InputModel) (from : ℕ) (shader : ShaderModel) (stream i n : ℕ) → IsSoundShader shader → i < length shader.samples → 1 ≤ n
    → setup (stream_word_of input from shader stream) (sample_at shader i) n ≡ setup (source_word input from shader) (sample_at shader i) n
setup_other input from shader stream i n sound below later =
    same_setup (stream_word_of input from shader stream) (source_word input from shader) (position (sample_at shader i) n)
    (λ k here. stream_other input from shader stream i n k sound below later here)

setup_first : (input : InputModel) (from : ℕ) (shader : ShaderModel) (stream i : ℕ) → IsSoundShader shader → i < length shader.samples
    → setup (stream_word_of input from shader stream) (sample_at shader i) 0
    ≡ setup (source_word input from shader) (sample_at shader i) 0 + place_in input.table (sample_number input from i)
setup_first input from shader stream i sound below =
    let sample : Sample = sample_at shader i in
    let some = (sound.samples i below).first in
    first_setup (stream_word_of input from shader stream) (position sample 0) (first_position sample) refl some
    ∙ stream_first input from shader stream i sound below
    ∙ ap (λ x. x + place_in input.table (sample_number input from i)) (sym (first_setup (source_word input from shader) (position sample 0) (first_position sample) refl some))

-- A handle that names a data buffer.
pub named_data : (table : TableModel) (handles : List ℕ) (handle : ℕ) (o : Option ℕ) → data_of table handles handle ≡ o → not (is_some o) ≡ false
    → IsDataIn table handles (place_in table o) (size_in table o)
named_data table handles handle None is some = cc
named_data table handles handle (Some number) is some = record { handle = handle; number = number; named = is; place_is = refl; size_is = refl }

-- What a sample's rules say of its words.
texture_of_setup : (direct : Bool) (p0 p1 p2 p3 size : ℕ) → direct ≡ false
    → first_of (if direct then direct_questions p0 p1 size else texture_questions p0 p1 p2 p3 size) ≡ None → first_of (texture_questions p0 p1 p2 p3 size) ≡ None
texture_of_setup true p0 p1 p2 p3 size is none = cc
texture_of_setup false p0 p1 p2 p3 size is none = none

direct_of_setup : (direct : Bool) (p0 p1 p2 p3 size : ℕ) → direct ≡ true
    → first_of (if direct then direct_questions p0 p1 size else texture_questions p0 p1 p2 p3 size) ≡ None → p0 + p1 + 4 ≤ size
direct_of_setup true p0 p1 p2 p3 size is none = direct_base p0 p1 size none
direct_of_setup false p0 p1 p2 p3 size is none = cc

sample_is : (input : InputModel) (from : ℕ) (shader : ShaderModel) (stream i : ℕ) → IsSoundShader shader → first_of (use_questions input from (Some shader)) ≡ None → i < length shader.samples
    → IsSampleIn (IsDataIn input.table input.handles) (stream_word_of input from shader stream) (sample_at shader i)
unfolding setup_questions sample_number
sample_is input from shader stream i sound none below =
    let sample : Sample = sample_at shader i in
    let word : ℕ → ℕ = source_word input from shader in
    let fine = sample_fine input from shader i none below in
    let size : ℕ = size_in input.table (sample_number input from i) in
    let one = setup_other input from shader stream i 1 sound below (omega arith) in
    let two = setup_other input from shader stream i 2 sound below (omega arith) in
    let three = setup_other input from shader stream i 3 sound below (omega arith) in
    record {
      place = place_in input.table (sample_number input from i);
      size = size;
      source = setup word sample 0;
      named = named_data input.table input.handles (u32_at input.uniforms (from + 4 * i)) (sample_number input from i) refl fine.named;
      base = setup_first input from shader stream i sound below;
      texture = λ is.
          ap (λ x. first_of (texture_questions (setup word sample 0) x (setup (stream_word_of input from shader stream) sample 2) (setup (stream_word_of input from shader stream) sample 3) size)) one
          ∙ ap (λ x. first_of (texture_questions (setup word sample 0) (setup word sample 1) x (setup (stream_word_of input from shader stream) sample 3) size)) two
          ∙ ap (λ x. first_of (texture_questions (setup word sample 0) (setup word sample 1) (setup word sample 2) x size)) three
          ∙ texture_of_setup sample.direct (setup word sample 0) (setup word sample 1) (setup word sample 2) (setup word sample 3) size is fine.fits;
      direct = λ is.
          let fits = direct_of_setup sample.direct (setup word sample 0) (setup word sample 1) (setup word sample 2) (setup word sample 3) size is fine.fits in
          omega (arith, fits, one);
    }

address_is : (input : InputModel) (from : ℕ) (shader : ShaderModel) (stream j : ℕ) → j < length shader.address_words → stream_word_of input from shader stream (address_at shader j) ≡ stream
unfolding addressed_word
address_is input from shader stream j below =
    ap (λ b. if b then stream else moved_word input from shader (length shader.samples) (address_at shader j)) (is_one shader (length shader.address_words) j below)

pub emitted_stream_is : (input : InputModel) (from : ℕ) (shader : ShaderModel) (stream : ℕ) → IsSoundShader shader → first_of (use_questions input from (Some shader)) ≡ None
    → IsStream (IsDataIn input.table input.handles) shader stream (stream_word_of input from shader stream)
emitted_stream_is input from shader stream sound none =
    record {
      addresses = λ j below. address_is input from shader stream j below;
      samples = λ i below. sample_is input from shader stream i sound none below;
    }

setups_same : (shader : ShaderModel) (sample : Sample) (one two : ℕ → ℕ) → IsSoundSample shader sample → ((k : ℕ) → k < shader.uniforms → one k ≡ two k)
    → (n : ℕ) → setup one sample n ≡ setup two sample n
setups_same shader sample one two sound same n = same_setup one two (position sample n) (λ k here. same k (sound.below n k here))

same_sample : (IsNamed : ℕ → ℕ → Type 0) (shader : ShaderModel) (sample : Sample) (one two : ℕ → ℕ) → IsSoundSample shader sample
    → ((k : ℕ) → k < shader.uniforms → one k ≡ two k) → IsSampleIn IsNamed two sample → IsSampleIn IsNamed one sample
same_sample IsNamed shader sample one two sound same is =
    let e : (n : ℕ) → setup one sample n ≡ setup two sample n = setups_same shader sample one two sound same in
    record {
      place = is.place;
      size = is.size;
      source = is.source;
      named = is.named;
      base = e 0 ∙ is.base;
      texture = λ texture.
          ap (λ x. first_of (texture_questions is.source x (setup one sample 2) (setup one sample 3) is.size)) (e 1)
          ∙ ap (λ x. first_of (texture_questions is.source (setup two sample 1) x (setup one sample 3) is.size)) (e 2)
          ∙ ap (λ x. first_of (texture_questions is.source (setup two sample 1) (setup two sample 2) x is.size)) (e 3)
          ∙ is.texture texture;
      direct = λ direct. let fits = is.direct direct in omega (arith, fits, e 1);
    }

-- A stream is one wherever its words are, since it has all that counts below its length.
pub same_stream : (IsNamed : ℕ → ℕ → Type 0) (shader : ShaderModel) (stream : ℕ) (one two : ℕ → ℕ) → IsSoundShader shader
    → ((k : ℕ) → k < shader.uniforms → one k ≡ two k) → IsStream IsNamed shader stream two → IsStream IsNamed shader stream one
same_stream IsNamed shader stream one two sound same is =
    record {
      addresses = λ j below. same (address_at shader j) (sound.below j below) ∙ is.addresses j below;
      samples = λ i below. same_sample IsNamed shader (sample_at shader i) one two (sound.samples i below) same (is.samples i below);
    }
