-- What holds where no rule is broken.
use Rattle.std.proofs.Common.{◌≡◌, ℕ, ◌+◌, ◌*◌, ◌==◌, ◌<◌, ◌≤◌, false, not, ◌&&◌, [], ◌∷◌, ◌++◌, nat_lt, length, Some, None, is_some, arith}
use Rattle.std.proofs.lemmas.Bool.{ltb-false}
use Rattle.field_words.specs.Questions.{Ask, first_of, each, with_answers}
use Rattle.field_words.proofs.{Questions.none_broken, Nones.front_none, Nones.rest_none, Nones.each_none, Nones.none_answered}
use Rattle.qpu_isa.specs.Shader.{ShaderModel, sample_at}
use Rattle.emitted_facts.specs.Records.{attribute_size, attribute_stride, is_single, address_word}
use Rattle.packets.specs.StateWord.{attribute_count}
use Rattle.shader_records.specs.Sources.{state_at, source_size, record_source, uniform_source, code_number, attribute_number, shader_used, is_threaded, taken_before, record_word, sample_number, source_word}
use Rattle.shader_records.specs.Rules.{cut_questions, code_questions, handle_questions, disagrees, fixed_questions, is_attribute_past, has_vertex_past, attribute_questions, names_questions, body_questions, record_questions, setup_questions, first_word_at, sample_questions, use_questions, shader_questions, state_questions, all_questions}
use Rattle.shader_records.specs.{Faults.uniform_fault, Faults.sample_fault, Inputs.InputModel}
use Rattle.buffer_table.specs.Handles.{size_in}

-- Of a record.
pub source_inside : (input : InputModel) (at state most : ℕ) → first_of (record_questions input at state most) ≡ None → at + source_size state ≤ length input.records
unfolding record_questions cut_questions
source_inside input at state most none =
    let n = none_broken (cut_questions input at state) (front_none (cut_questions input at state) (names_questions input at state ++ body_questions input at state most) none) in
    ltb-false (length input.records) (at + source_size state) n.1.0

names_none : (input : InputModel) (at state most : ℕ) → first_of (record_questions input at state most) ≡ None → first_of (names_questions input at state) ≡ None
unfolding record_questions
names_none input at state most none =
    front_none (names_questions input at state) (body_questions input at state most)
    (rest_none (cut_questions input at state) (names_questions input at state ++ body_questions input at state most) none)

body_none : (input : InputModel) (at state most : ℕ) → first_of (record_questions input at state most) ≡ None → first_of (body_questions input at state most) ≡ None
unfolding record_questions
body_none input at state most none =
    rest_none (names_questions input at state) (body_questions input at state most)
    (rest_none (cut_questions input at state) (names_questions input at state ++ body_questions input at state most) none)

-- of the handle of shader s
pub record IsCodeFine (input : InputModel) (at s : ℕ) : Type 0 where
  pub named : not (is_some (code_number input at s)) ≡ false
  pub single : (not (s == 0) && is_threaded (shader_used input at s)) ≡ false

pub code_fine : (input : InputModel) (at state most s : ℕ) → first_of (record_questions input at state most) ≡ None → s < 3 → IsCodeFine input at s
unfolding names_questions code_questions
code_fine input at state most s none below =
    let all = front_none (each (code_questions input at) 0 3) (each (handle_questions input at) 0 (attribute_count state)) (names_none input at state most none) in
    let n = none_broken (code_questions input at s) (each_none (code_questions input at) 0 3 s all (omega arith) (omega arith)) in
    record { named = n.0; single = n.1.0 }

-- the flags agree with the fragment shader
pub flags_fine : (input : InputModel) (at state most : ℕ) → first_of (record_questions input at state most) ≡ None
    → disagrees (is_single (record_word input at state)) (is_threaded (shader_used input at 0)) ≡ false
unfolding body_questions fixed_questions
flags_fine input at state most none =
    let n = none_broken (fixed_questions input at state) (front_none (fixed_questions input at state) (each (attribute_questions input at state most) 0 (attribute_count state)) (body_none input at state most none)) in
    n.0

-- of attribute t
pub record IsAttributeFine (input : InputModel) (at state most t : ℕ) : Type 0 where
  pub named : not (is_some (attribute_number input at t)) ≡ false
  pub first : is_attribute_past (size_in input.table (attribute_number input at t)) (record_word input at state (address_word t)) (attribute_size (record_word input at state) t) ≡ false
  pub others : has_vertex_past (size_in input.table (attribute_number input at t)) (record_word input at state (address_word t)) (attribute_size (record_word input at state) t) (attribute_stride state (record_word input at state) t) most ≡ false

pub attribute_fine : (input : InputModel) (at state most t : ℕ) → first_of (record_questions input at state most) ≡ None → t < attribute_count state → IsAttributeFine input at state most t
unfolding names_questions handle_questions body_questions attribute_questions
attribute_fine input at state most t none below =
    let handles = rest_none (each (code_questions input at) 0 3) (each (handle_questions input at) 0 (attribute_count state)) (names_none input at state most none) in
    let bodies = rest_none (fixed_questions input at state) (each (attribute_questions input at state most) 0 (attribute_count state)) (body_none input at state most none) in
    let h = none_broken (handle_questions input at t) (each_none (handle_questions input at) 0 (attribute_count state) t handles (omega arith) (omega arith)) in
    let b = none_broken (attribute_questions input at state most t) (each_none (attribute_questions input at state most) 0 (attribute_count state) t bodies (omega arith) (omega arith)) in
    record { named = h.0; first = b.0; others = b.1.0 }

pub address_fine : (input : InputModel) (at state most t : ℕ) → first_of (record_questions input at state most) ≡ None → t < attribute_count state
    → record_word input at state (address_word t) + attribute_size (record_word input at state) t ≤ size_in input.table (attribute_number input at t)
unfolding is_attribute_past
address_fine input at state most t none below =
    ltb-false (size_in input.table (attribute_number input at t)) (record_word input at state (address_word t) + attribute_size (record_word input at state) t)
    (attribute_fine input at state most t none below).first

-- so the address in memory is a place below 2^32
pub address_fits : (input : InputModel) (at state most t : ℕ) → first_of (record_questions input at state most) ≡ None → t < attribute_count state
    → record_word input at state (9 + 2 * t) ≤ size_in input.table (attribute_number input at t)
address_fits input at state most t none below = let h = address_fine input at state most t none below in omega (arith, h)

-- Of the uniforms of a shader.
pub use_inside : (input : InputModel) (from : ℕ) (shader : ShaderModel) → first_of (use_questions input from (Some shader)) ≡ None
    → from + 4 * (length shader.samples + shader.uniforms) ≤ length input.uniforms
unfolding use_questions
use_inside input from shader none =
    let n = none_broken (use_questions input from (Some shader)) none in
    ltb-false (length input.uniforms) (from + 4 * (length shader.samples + shader.uniforms)) n.0

samples_none : (input : InputModel) (from : ℕ) (shader : ShaderModel) → first_of (use_questions input from (Some shader)) ≡ None
    → first_of (each (sample_questions input from shader) 0 (length shader.samples)) ≡ None
unfolding use_questions
samples_none input from shader none = rest_none (Ask (nat_lt (length input.uniforms) (from + 4 * (length shader.samples + shader.uniforms))) (uniform_fault from) ∷ []) (each (sample_questions input from shader) 0 (length shader.samples)) none

later_none : (input : InputModel) (from : ℕ) (shader : ShaderModel) (i : ℕ) → first_of (sample_questions input from shader i) ≡ None
    → first_of (with_answers (sample_fault (first_word_at shader from i)) (setup_questions (sample_at shader i) (source_word input from shader) (size_in input.table (sample_number input from i)))) ≡ None
unfolding sample_questions
later_none input from shader i none =
    rest_none (Ask (not (is_some (sample_number input from i))) (sample_fault (from + 4 * i) 1) ∷ [])
    (with_answers (sample_fault (first_word_at shader from i)) (setup_questions (sample_at shader i) (source_word input from shader) (size_in input.table (sample_number input from i)))) none

pub record IsSampleFine (input : InputModel) (from : ℕ) (shader : ShaderModel) (i : ℕ) : Type 0 where
  pub named : not (is_some (sample_number input from i)) ≡ false
  pub fits : first_of (setup_questions (sample_at shader i) (source_word input from shader) (size_in input.table (sample_number input from i))) ≡ None

pub sample_fine : (input : InputModel) (from : ℕ) (shader : ShaderModel) (i : ℕ) → first_of (use_questions input from (Some shader)) ≡ None → i < length shader.samples
    → IsSampleFine input from shader i
unfolding use_questions sample_questions
sample_fine input from shader i none below =
    let n = none_broken (sample_questions input from shader i) (each_none (sample_questions input from shader) 0 (length shader.samples) i (samples_none input from shader none) (omega arith) (omega arith)) in
    record {
      named = n.0;
      fits = none_answered (sample_fault (first_word_at shader from i)) (setup_questions (sample_at shader i) (source_word input from shader) (size_in input.table (sample_number input from i))) (later_none input from shader i (each_none (sample_questions input from shader) 0 (length shader.samples) i (samples_none input from shader none) (omega arith) (omega arith)));
    }

-- Of a state, and of all.
pub record IsStateFine (input : InputModel) (k : ℕ) : Type 0 where
  pub of_record : first_of (record_questions input (record_source input k) (state_at input k).word (state_at input k).max_index) ≡ None
  pub of_use : (s : ℕ) → s < 3 → first_of (use_questions input (uniform_source input k + taken_before input (record_source input k) s) (shader_used input (record_source input k) s)) ≡ None

pub state_fine : (input : InputModel) (k : ℕ) → first_of (all_questions input) ≡ None → k < length input.states → IsStateFine input k
unfolding all_questions state_questions shader_questions
state_fine input k none below =
    let here = each_none (state_questions input) 0 (length input.states) k none (omega arith) (omega arith) in
    let at : ℕ = record_source input k in
    let records = record_questions input at (state_at input k).word (state_at input k).max_index in
    let uses = each (shader_questions input at (uniform_source input k)) 0 3 in
    record {
      of_record = front_none records uses here;
      of_use = λ s small. each_none (shader_questions input at (uniform_source input k)) 0 3 s (rest_none records uses here) (omega arith) (omega arith);
    }
