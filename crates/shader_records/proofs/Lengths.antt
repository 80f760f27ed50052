-- How long what is emitted is.
use Rattle.std.proofs.Common.{◌≡◌, ℕ, zero, suc, ◌+◌, ◌/◌, ◌<◌, ◌≤◌, List, ◌++◌, length, Option, Some, None, refl, sym, ap, arith, ◌∙◌, length-append}
use Rattle.field_words.specs.{Writes.with_bytes, Questions.first_of}
use Rattle.field_words.proofs.{WordBytes.length_words, Writes.with_nothing, Writes.with_two}
use Rattle.qpu_isa.specs.Shader.{ShaderModel}
use Rattle.shader_records.specs.Sources.{state_at, source_size, record_source, record_offset, uniform_source, stream_offset, shader_used, taken_by, given_by, taken_before, given_before}
use Rattle.shader_records.specs.Emission.{emitted_word, stream_place, record_text, records_text, stream_word_of, stream_text, streams_text, uniforms_text}
use Rattle.shader_records.specs.{Inputs.InputModel, Rules.use_questions, Rules.all_questions}
use Rattle.packets.specs.StateWord.{record_room}
use Rattle.shader_records.proofs.{Fine.source_inside, Fine.use_inside, Fine.state_fine, Inside.fixed_in, Inside.emitted_in}

-- A text put behind another.
pub put_behind : (window : List ℕ) (at n : ℕ) (front rest out out2 : List ℕ) → out ≡ with_bytes window at front → length front ≡ n → out2 ≡ with_bytes out (at + n) rest
    → at + n + length rest ≤ length window → out2 ≡ with_bytes window at (front ++ rest)
put_behind window at n front rest out out2 stands long puts fits =
    let total : length (front ++ rest) ≡ length front + length rest = length-append front rest in
    puts ∙ ap (λ o. with_bytes o (at + n) rest) stands ∙ ap (λ k. with_bytes (with_bytes window at front) (at + k) rest) (sym long)
    ∙ sym (with_two window at front rest (omega (arith, total, long, fits)))

pub length_record : (input : InputModel) (at state first : ℕ) → length (record_text input at state first) ≡ record_room state
unfolding record_text
length_record input at state first =
    let e = length_words (emitted_word input at state (stream_place input at first)) (record_room state / 4) in
    let whole = (emitted_in state).2 in
    omega (arith, e, whole)

pub length_stream : (input : InputModel) (from stream : ℕ) (shader : Option ShaderModel) → length (stream_text input from stream shader) ≡ given_by shader
unfolding stream_text
length_stream input from stream None = refl
length_stream input from stream (Some shader) = length_words (stream_word_of input from shader stream) shader.uniforms

pub length_streams : (input : InputModel) (at from first s : ℕ) → length (streams_text input at from first s) ≡ given_before input at s
unfolding streams_text given_before
length_streams input at from first zero = refl
length_streams input at from first (suc s) =
    let front : List ℕ = streams_text input at from first s in
    let rest : List ℕ = stream_text input (from + taken_before input at s) (first + given_before input at s) (shader_used input at s) in
    let e = length_streams input at from first s in
    let r = length_stream input (from + taken_before input at s) (first + given_before input at s) (shader_used input at s) in
    length-append front rest ∙ omega (arith, e, r)

pub length_records : (input : InputModel) (first k : ℕ) → length (records_text input first k) ≡ record_offset input k
unfolding records_text record_offset
length_records input first zero = refl
length_records input first (suc k) =
    let front : List ℕ = records_text input first k in
    let rest : List ℕ = record_text input (record_source input k) (state_at input k).word (first + stream_offset input k) in
    let e = length_records input first k in
    let r = length_record input (record_source input k) (state_at input k).word (first + stream_offset input k) in
    length-append front rest ∙ omega (arith, e, r)

pub length_uniforms : (input : InputModel) (first k : ℕ) → length (uniforms_text input first k) ≡ stream_offset input k
unfolding uniforms_text stream_offset
length_uniforms input first zero = refl
length_uniforms input first (suc k) =
    let at : ℕ = record_source input k in
    let front : List ℕ = uniforms_text input first k in
    let rest : List ℕ = streams_text input at (uniform_source input k) (first + stream_offset input k) 3 in
    let e = length_uniforms input first k in
    let r = length_streams input at (uniform_source input k) (first + stream_offset input k) 3 in
    length-append front rest ∙ omega (arith, e, r)

-- One more of each.
pub streams_more : (input : InputModel) (at from first s : ℕ) → streams_text input at from first (s + 1)
    ≡ streams_text input at from first s ++ stream_text input (from + taken_before input at s) (first + given_before input at s) (shader_used input at s)
unfolding streams_text
streams_more input at from first s = let e : s + 1 ≡ suc s = omega arith in ap (streams_text input at from first) e

pub records_more : (input : InputModel) (first k : ℕ) → records_text input first (k + 1)
    ≡ records_text input first k ++ record_text input (record_source input k) (state_at input k).word (first + stream_offset input k)
unfolding records_text
records_more input first k = let e : k + 1 ≡ suc k = omega arith in ap (records_text input first) e

pub uniforms_more : (input : InputModel) (first k : ℕ) → uniforms_text input first (k + 1)
    ≡ uniforms_text input first k ++ streams_text input (record_source input k) (uniform_source input k) (first + stream_offset input k) 3
unfolding uniforms_text
uniforms_more input first k = let e : k + 1 ≡ suc k = omega arith in ap (uniforms_text input first) e

-- What is emitted takes no more bytes than its source.
pub offset_le : (input : InputModel) (k : ℕ) → record_offset input k ≤ record_source input k
unfolding record_offset record_source
offset_le input zero = omega arith
offset_le input (suc k) = let e = offset_le input k in let s = (emitted_in (state_at input k).word).1 in omega (arith, e, s)

given_le_taken : (shader : Option ShaderModel) → given_by shader ≤ taken_by shader
given_le_taken None = omega arith
given_le_taken (Some shader) = omega arith

pub given_le : (input : InputModel) (at s : ℕ) → given_before input at s ≤ taken_before input at s
unfolding given_before taken_before
given_le input at zero = omega arith
given_le input at (suc s) = let e = given_le input at s in let g = given_le_taken (shader_used input at s) in omega (arith, e, g)

pub stream_le : (input : InputModel) (k : ℕ) → stream_offset input k ≤ uniform_source input k
unfolding stream_offset uniform_source
stream_le input zero = omega arith
stream_le input (suc k) = let e = stream_le input k in let g = given_le input (record_source input k) 3 in omega (arith, e, g)

-- Where no rule is broken, the sources lie inside.
use_end : (input : InputModel) (from : ℕ) (shader : Option ShaderModel) → from ≤ length input.uniforms → first_of (use_questions input from shader) ≡ None
    → from + taken_by shader ≤ length input.uniforms
use_end input from None inside none = omega arith
use_end input from (Some shader) inside none = use_inside input from shader none

pub uses_end : (input : InputModel) (at from n : ℕ) → from ≤ length input.uniforms
    → ((s : ℕ) → s < 3 → first_of (use_questions input (from + taken_before input at s) (shader_used input at s)) ≡ None)
    → n ≤ 3 → from + taken_before input at n ≤ length input.uniforms
unfolding taken_before
uses_end input at from zero inside none few = omega arith
uses_end input at from (suc n) inside none few =
    let before = uses_end input at from n inside none (omega arith) in
    let here = use_end input (from + taken_before input at n) (shader_used input at n) before (none n (omega arith)) in
    omega (arith, here)

pub record_end : (input : InputModel) (k : ℕ) → first_of (all_questions input) ≡ None → k ≤ length input.states → record_source input k ≤ length input.records
unfolding record_source
record_end input zero none upto = omega arith
record_end input (suc k) none upto =
    let fine = state_fine input k none (omega arith) in
    source_inside input (record_source input k) (state_at input k).word (state_at input k).max_index fine.of_record

pub uniform_end : (input : InputModel) (k : ℕ) → first_of (all_questions input) ≡ None → k ≤ length input.states → uniform_source input k ≤ length input.uniforms
unfolding uniform_source
uniform_end input zero none upto = omega arith
uniform_end input (suc k) none upto =
    let fine = state_fine input k none (omega arith) in
    uses_end input (record_source input k) (uniform_source input k) 3 (uniform_end input k none (omega arith)) fine.of_use (omega arith)

-- no text yet
pub no_streams : (window : List ℕ) (base : ℕ) (input : InputModel) (at from first : ℕ) → base ≤ length window → window ≡ with_bytes window base (streams_text input at from first 0)
unfolding streams_text
no_streams window base input at from first fits = sym (with_nothing window base fits)

pub no_records : (window : List ℕ) (base : ℕ) (input : InputModel) (first : ℕ) → base ≤ length window → window ≡ with_bytes window base (records_text input first 0)
unfolding records_text
no_records window base input first fits = sym (with_nothing window base fits)

pub no_uniforms : (window : List ℕ) (base : ℕ) (input : InputModel) (first : ℕ) → base ≤ length window → window ≡ with_bytes window base (uniforms_text input first 0)
unfolding uniforms_text
no_uniforms window base input first fits = sym (with_nothing window base fits)

-- All that a state takes and gives lies inside, where no rule is broken.
pub record IsStateInside (input : InputModel) (k : ℕ) : Type 0 where
  pub handles : record_source input k + 12 ≤ length input.records
  pub source : record_source input k + source_size (state_at input k).word ≤ length input.records
  pub emitted : record_offset input k + record_room (state_at input k).word ≤ length input.records
  pub taken : uniform_source input k + taken_before input (record_source input k) 3 ≤ length input.uniforms
  pub given : stream_offset input k + given_before input (record_source input k) 3 ≤ length input.uniforms

pub state_inside : (input : InputModel) (k : ℕ) → first_of (all_questions input) ≡ None → k < length input.states → IsStateInside input k
state_inside input k none below =
    let at : ℕ = record_source input k in
    let fine = state_fine input k none below in
    let source = source_inside input at (state_at input k).word (state_at input k).max_index fine.of_record in
    let fixed = fixed_in (state_at input k).word in
    let room = emitted_in (state_at input k).word in
    let before = offset_le input k in
    let taken = uses_end input at (uniform_source input k) 3 (uniform_end input k none (omega arith)) fine.of_use (omega arith) in
    let streams = stream_le input k in
    let given = given_le input at 3 in
    record {
      handles = omega (arith, source, fixed.0, fixed.1);
      source = source;
      emitted = omega (arith, source, before, room.1);
      taken = taken;
      given = omega (arith, taken, streams, given);
    }
