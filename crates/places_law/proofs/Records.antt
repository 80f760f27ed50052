-- The rules of shader records and uniforms read no place.
use Rattle.std.proofs.Common.{◌≡◌, ℕ, zero, suc, ◌+◌, ◌*◌, ◌==◌, ◌&&◌, not, nat_lt, List, [], ◌∷◌, ◌++◌, length, is_some, Option, Some, None, refl, ◌∙◌, ap}
use Rattle.field_words.specs.{Words.u32_at, Questions.Question, Questions.Ask, Questions.each, Questions.with_answers}
use Rattle.buffer_table.specs.Table.{TableModel}
use Rattle.qpu_isa.specs.Shader.{ShaderModel, sample_at}
use Rattle.packets.specs.StateWord.{attribute_count}
use Rattle.emitted_facts.specs.Records.{attribute_size, attribute_stride, is_single, address_word}
use Rattle.shader_records.specs.declared.rule.RecordRule.TheVariants.{NoCode, NoData, ThreadsDisagree, ThreadedVertex, CodeWordSet, AttributeOutside, VertexOutside, NoTexture}
use Rattle.shader_records.specs.Sources.{state_at, handles_size, source_size, record_source, uniform_source, code_number, attribute_number, shader_behind, shader_used, is_threaded, taken_by, taken_before, record_word, sample_number, source_word}
use Rattle.shader_records.specs.Rules.{cut_questions, code_questions, handle_questions, disagrees, fixed_questions, is_attribute_past, has_vertex_past, attribute_questions, names_questions, body_questions, record_questions, setup_questions, first_word_at, sample_questions, use_questions, shader_questions, state_questions, all_questions}
use Rattle.shader_records.specs.{declared.fault.RecordFault.RecordFault, Inputs.InputModel}
use Rattle.shader_records.specs.Faults.{number_of, record_fault, uniform_fault, sample_fault}
use Rattle.places_law.proofs.Tables.{AreAlike, data_same, code_same, each_same}
use Rattle.places_law.proofs.Lists.{size_in_same}
use Rattle.buffer_table.specs.Handles.{size_in}

-- the input with this table
abbrev pub put : InputModel → TableModel → InputModel
put x table = record { states = x.states; records = x.records; uniforms = x.uniforms; table = table; handles = x.handles; shaders = x.shaders }

code_number_same : (x : InputModel) (t u : TableModel) → AreAlike t u → (at s : ℕ) → code_number (put x t) at s ≡ code_number (put x u) at s
unfolding code_number
code_number_same x t u alike at s = code_same t u alike x.handles (u32_at x.records (at + 4 * s))

attribute_number_same : (x : InputModel) (t u : TableModel) → AreAlike t u → (at k : ℕ) → attribute_number (put x t) at k ≡ attribute_number (put x u) at k
unfolding attribute_number
attribute_number_same x t u alike at k = data_same t u alike x.handles (u32_at x.records (at + (12 + 4 * k)))

sample_number_same : (x : InputModel) (t u : TableModel) → AreAlike t u → (from i : ℕ) → sample_number (put x t) from i ≡ sample_number (put x u) from i
unfolding sample_number
sample_number_same x t u alike from i = data_same t u alike x.handles (u32_at x.uniforms (from + 4 * i))

shader_used_same : (x : InputModel) (t u : TableModel) → AreAlike t u → (at s : ℕ) → shader_used (put x t) at s ≡ shader_used (put x u) at s
unfolding shader_used
shader_used_same x t u alike at s = ap (λ (number : Option ℕ). shader_behind x.shaders number) (code_number_same x t u alike at s)

taken_same : (x : InputModel) (t u : TableModel) → AreAlike t u → (at s : ℕ) → taken_before (put x t) at s ≡ taken_before (put x u) at s
unfolding taken_before
taken_same x t u alike at zero = refl
taken_same x t u alike at (suc s) =
    let before = taken_same x t u alike at s in
    let used = shader_used_same x t u alike at s in
    λ p. before p + taken_by (used p)

record_source_same : (x : InputModel) (t u : TableModel) (k : ℕ) → record_source (put x t) k ≡ record_source (put x u) k
unfolding record_source
record_source_same x t u zero = refl
record_source_same x t u (suc k) = ap (λ (n : ℕ). n + source_size (state_at x k).word) (record_source_same x t u k)

uniform_source_same : (x : InputModel) (t u : TableModel) → AreAlike t u → (k : ℕ) → uniform_source (put x t) k ≡ uniform_source (put x u) k
unfolding uniform_source
uniform_source_same x t u alike zero = refl
uniform_source_same x t u alike (suc k) =
    let before = uniform_source_same x t u alike k in
    let taken = ap (λ (at : ℕ). taken_before (put x t) at 3) (record_source_same x t u k) ∙ taken_same x t u alike (record_source (put x u) k) 3 in
    λ p. before p + taken p

-- A1 and A2
cut_same : (x : InputModel) (t u : TableModel) (at state : ℕ) → cut_questions (put x t) at state ≡ cut_questions (put x u) at state
unfolding cut_questions
cut_same x t u at state = refl

-- A3, A6
code_questions_same : (x : InputModel) (t u : TableModel) → AreAlike t u → (at s : ℕ) → code_questions (put x t) at s ≡ code_questions (put x u) at s
unfolding code_questions
code_questions_same x t u alike at s =
    let number = code_number_same x t u alike at s in
    let used = shader_used_same x t u alike at s in
    λ p. Ask (not (is_some (number p))) (record_fault NoCode (at + 4 * s))
    ∷ (Ask (not (s == 0) && is_threaded (used p)) (record_fault ThreadedVertex (at + 4 * s)) ∷ [])

-- A4
handle_questions_same : (x : InputModel) (t u : TableModel) → AreAlike t u → (at k : ℕ) → handle_questions (put x t) at k ≡ handle_questions (put x u) at k
unfolding handle_questions
handle_questions_same x t u alike at k =
    let number = attribute_number_same x t u alike at k in
    λ p. Ask (not (is_some (number p))) (record_fault NoData (at + (12 + 4 * k))) ∷ []

-- A5, A7
fixed_same : (x : InputModel) (t u : TableModel) → AreAlike t u → (at state : ℕ) → fixed_questions (put x t) at state ≡ fixed_questions (put x u) at state
unfolding fixed_questions record_word
fixed_same x t u alike at state =
    let used = shader_used_same x t u alike at 0 in
    λ p. Ask (disagrees (is_single (record_word (put x t) at state)) (is_threaded (used p))) (record_fault ThreadsDisagree (at + handles_size state))
    ∷ (Ask (not (record_word (put x t) at state 1 == 0)) (record_fault CodeWordSet (at + handles_size state + 4))
    ∷ (Ask (not (record_word (put x t) at state 4 == 0)) (record_fault CodeWordSet (at + handles_size state + 16))
    ∷ (Ask (not (record_word (put x t) at state 7 == 0)) (record_fault CodeWordSet (at + handles_size state + 28)) ∷ [])))

-- A9 and A10
attribute_same : (x : InputModel) (t u : TableModel) → AreAlike t u → (at state most k : ℕ)
    → attribute_questions (put x t) at state most k ≡ attribute_questions (put x u) at state most k
unfolding attribute_questions record_word
attribute_same x t u alike at state most k =
    let size = ap (λ (number : Option ℕ). size_in t number) (attribute_number_same x t u alike at k) ∙ size_in_same t u alike (attribute_number (put x u) at k) in
    let word = record_word (put x t) at state in
    λ p. Ask (is_attribute_past (size p) (word (address_word k)) (attribute_size word k)) (record_fault AttributeOutside (at + handles_size state + (36 + 8 * k)))
    ∷ (Ask (has_vertex_past (size p) (word (address_word k)) (attribute_size word k) (attribute_stride state word k) most)
    (record_fault VertexOutside (at + handles_size state + (36 + 8 * k))) ∷ [])

names_same : (x : InputModel) (t u : TableModel) → AreAlike t u → (at state : ℕ) → names_questions (put x t) at state ≡ names_questions (put x u) at state
unfolding names_questions
names_same x t u alike at state =
    let codes = each_same (code_questions (put x t) at) (code_questions (put x u) at) 0 3 (code_questions_same x t u alike at) in
    let attributes = each_same (handle_questions (put x t) at) (handle_questions (put x u) at) 0 (attribute_count state) (handle_questions_same x t u alike at) in
    λ p. codes p ++ attributes p

body_same : (x : InputModel) (t u : TableModel) → AreAlike t u → (at state most : ℕ) → body_questions (put x t) at state most ≡ body_questions (put x u) at state most
unfolding body_questions
body_same x t u alike at state most =
    let fixed = fixed_same x t u alike at state in
    let attributes = each_same (attribute_questions (put x t) at state most) (attribute_questions (put x u) at state most) 0 (attribute_count state)
    (attribute_same x t u alike at state most) in
    λ p. fixed p ++ attributes p

record_same : (x : InputModel) (t u : TableModel) → AreAlike t u → (at state most : ℕ) → record_questions (put x t) at state most ≡ record_questions (put x u) at state most
unfolding record_questions
record_same x t u alike at state most =
    let cut = cut_same x t u at state in
    let names = names_same x t u alike at state in
    let body = body_same x t u alike at state most in
    λ p. cut p ++ (names p ++ body p)

-- U, and A8
sample_same : (x : InputModel) (t u : TableModel) → AreAlike t u → (from : ℕ) (shader : ShaderModel) (i : ℕ)
    → sample_questions (put x t) from shader i ≡ sample_questions (put x u) from shader i
unfolding sample_questions source_word
sample_same x t u alike from shader i =
    let number = sample_number_same x t u alike from i in
    let size = ap (λ (n : Option ℕ). size_in t n) number ∙ size_in_same t u alike (sample_number (put x u) from i) in
    λ p. Ask (not (is_some (number p))) (sample_fault (from + 4 * i) (number_of NoTexture))
    ∷ with_answers (sample_fault (first_word_at shader from i)) (setup_questions (sample_at shader i) (source_word (put x t) from shader) (size p))

use_same : (x : InputModel) (t u : TableModel) → AreAlike t u → (from : ℕ) (shader : Option ShaderModel) → use_questions (put x t) from shader ≡ use_questions (put x u) from shader
unfolding use_questions
use_same x t u alike from None = refl
use_same x t u alike from (Some shader) =
    ap (λ (rest : List (Question RecordFault)). Ask (nat_lt (length x.uniforms) (from + 4 * (length shader.samples + shader.uniforms))) (uniform_fault from) ∷ rest)
    (each_same (sample_questions (put x t) from shader) (sample_questions (put x u) from shader) 0 (length shader.samples) (sample_same x t u alike from shader))

shader_same : (x : InputModel) (t u : TableModel) → AreAlike t u → (at from s : ℕ) → shader_questions (put x t) at from s ≡ shader_questions (put x u) at from s
unfolding shader_questions
shader_same x t u alike at from s =
    let taken = taken_same x t u alike at s in
    let used = shader_used_same x t u alike at s in
    (λ p. use_questions (put x t) (from + taken p) (used p)) ∙ use_same x t u alike (from + taken_before (put x u) at s) (shader_used (put x u) at s)

state_same : (x : InputModel) (t u : TableModel) → AreAlike t u → (k : ℕ) → state_questions (put x t) k ≡ state_questions (put x u) k
unfolding state_questions
state_same x t u alike k =
    let source = record_source_same x t u k in
    let uniforms = uniform_source_same x t u alike k in
    let at : ℕ = record_source (put x u) k in
    let from : ℕ = uniform_source (put x u) k in
    let here = record_same x t u alike at (state_at x k).word (state_at x k).max_index in
    let streams = each_same (shader_questions (put x t) at from) (shader_questions (put x u) at from) 0 3 (shader_same x t u alike at from) in
    (λ p. record_questions (put x t) (source p) (state_at x k).word (state_at x k).max_index ++ each (shader_questions (put x t) (source p) (uniforms p)) 0 3)
    ∙ (λ p. here p ++ streams p)

pub records_same : (x : InputModel) (t u : TableModel) → AreAlike t u → all_questions (put x t) ≡ all_questions (put x u)
unfolding all_questions
records_same x t u alike =
    each_same (state_questions (put x t)) (state_questions (put x u)) 0 (length x.states) (state_same x t u alike)
