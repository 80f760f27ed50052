-- An emitted record is what whoever runs it counts on.
use Rattle.std.proofs.Common.{◌≡◌, ℕ, zero, suc, ◌+◌, ◌*◌, ◌/◌, ◌%◌, ◌-◌, ◌==◌, ◌<◌, ◌≤◌, Bool, true, false, not, ◌&&◌, nat_lt, nat_le, Option, Some, None, is_some, if◌then◌else◌, refl, sym, ap, subst, arith, ◌∙◌}
use Rattle.std.proofs.{Math.Nat.mul-le-mul_left, lemmas.Bool.ltb-false}
use Rattle.field_words.specs.{Words.u32_at, Questions.first_of}
use Rattle.buffer_table.specs.Handles.{is_plain, size_in}
use Rattle.buffer_table.proofs.Named.{code_is}
use Rattle.qpu_isa.specs.Shader.{ShaderModel, IsSoundShader}
use Rattle.emitted_facts.specs.Records.{attribute_size, attribute_stride, is_single, address_word, shape_word, extension_word}
use Rattle.emitted_facts.specs.Facts.{IsStream, IsUse, IsAttributeIn, IsRecord}
use Rattle.packets.specs.StateWord.{attribute_count, record_size, is_extended}
use Rattle.emitted_facts.proofs.Records.{count_limits, attributes_in, extended_from, header_in, same_size, same_stride}
use Rattle.shader_records.specs.Sources.{code_number, attribute_number, shader_behind, shader_used, is_threaded, taken_before, record_word, place_in}
use Rattle.shader_records.specs.Emission.{shader_word, attribute_word, emitted_word, stream_place, stream_word_of, HasStreams}
use Rattle.shader_records.specs.{Inputs.InputModel, Inputs.AreInputs, Inputs.shader_in, Named.IsDataIn, Named.IsCodeIn}
use Rattle.shader_records.specs.Rules.{disagrees, has_vertex_past, record_questions, use_questions}
use Rattle.shader_records.proofs.Fine.{IsCodeFine, code_fine, flags_fine, attribute_fine, address_fine}
use Rattle.shader_records.proofs.StreamFacts.{named_data, emitted_stream_is, same_stream}

some_of : {X : Type 0} (o : Option X) → not (is_some o) ≡ false → (x : X) × (o ≡ Some x)
some_of None none = absurd (cc)
some_of (Some x) some = (x, refl)

-- A handle that names a Code buffer.
pub record IsKnownCode (input : InputModel) (at s : ℕ) : Type 0 where
  pub number : ℕ
  pub shader : ShaderModel
  pub named : code_number input at s ≡ Some number
  pub shader_is : shader_in input.shaders number ≡ Some shader
  pub used : shader_used input at s ≡ Some shader
  pub sound : IsSoundShader shader

pub known_code : (input : InputModel) (at s : ℕ) → AreInputs input → IsCodeFine input at s → IsKnownCode input at s
unfolding code_number shader_used
known_code input at s sound fine =
    let code = some_of (code_number input at s) fine.named in
    let of = code_is input.table input.handles (u32_at input.records (at + 4 * s)) code.0 code.1 in
    let known : not (is_some (shader_in input.shaders code.0)) ≡ false = sym (sound.shaders.code code.0 of.inside) ∙ ap is_plain of.kind_is in
    let shader = some_of (shader_in input.shaders code.0) known in
    record {
      number = code.0;
      shader = shader.0;
      named = code.1;
      shader_is = shader.1;
      used = ap (shader_behind input.shaders) code.1 ∙ shader.1;
      sound = sound.shaders.sound code.0 shader.0 shader.1;
    }

-- The words of a record that emission makes.
not_past : (state i : ℕ) → 4 * i < record_size state → nat_le (record_size state) (4 * i) ≡ false
not_past state i inside = grind (arith, inside)

first_nine : (i : ℕ) → i < 9 → nat_lt i 9 ≡ true
first_nine i below = grind (arith, below)

others : (j : ℕ) → nat_lt (9 + j) 9 ≡ false
others j = grind arith

pub emitted_shader : (input : InputModel) (at state : ℕ) (streams : ℕ → ℕ) (i : ℕ) → i < 9 → emitted_word input at state streams i ≡ shader_word input at state streams i
unfolding emitted_word
emitted_shader input at state streams i below =
    let inside = header_in state in
    ap (λ b. if b then 0 else (if nat_lt i 9 then shader_word input at state streams i else attribute_word input at state (i - 9))) (not_past state i (omega (arith, inside, below)))
    ∙ ap (λ b. if b then shader_word input at state streams i else attribute_word input at state (i - 9)) (first_nine i below)

emitted_behind : (input : InputModel) (at state : ℕ) (streams : ℕ → ℕ) (j : ℕ) → 4 * (9 + j) < record_size state → emitted_word input at state streams (9 + j) ≡ attribute_word input at state j
unfolding emitted_word
emitted_behind input at state streams j inside =
    let e : 9 + j - 9 ≡ j = omega arith in
    ap (λ b. if b then 0 else (if nat_lt (9 + j) 9 then shader_word input at state streams (9 + j) else attribute_word input at state (9 + j - 9))) (not_past state (9 + j) inside)
    ∙ ap (λ b. if b then shader_word input at state streams (9 + j) else attribute_word input at state (9 + j - 9)) (others j)
    ∙ ap (attribute_word input at state) e

-- an attribute's address
even_word : (count t : ℕ) → t < count → ((2 * t % 2 == 0) && nat_lt (2 * t) (2 * count)) ≡ true
even_word count t below = grind (arith, below)

odd_word : (count j : ℕ) → j % 2 ≡ 1 → ((j % 2 == 0) && nat_lt j (2 * count)) ≡ false
odd_word count j odd = grind (arith, odd)

past_word : (count j : ℕ) → 2 * count ≤ j → ((j % 2 == 0) && nat_lt j (2 * count)) ≡ false
past_word count j past = grind (arith, past)

address_emitted : (input : InputModel) (at state : ℕ) (streams : ℕ → ℕ) (t : ℕ) → t < attribute_count state
    → emitted_word input at state streams (address_word t) ≡ record_word input at state (address_word t) + place_in input.table (attribute_number input at t)
unfolding attribute_word
address_emitted input at state streams t below =
    let inside = attributes_in state in
    let half : 2 * t / 2 ≡ t = omega arith in
    emitted_behind input at state streams (2 * t) (omega (arith, inside, below))
    ∙ ap (λ b. if b then record_word input at state (9 + 2 * t) + place_in input.table (attribute_number input at (2 * t / 2)) else record_word input at state (9 + 2 * t)) (even_word (attribute_count state) t below)
    ∙ ap (λ h. record_word input at state (9 + 2 * t) + place_in input.table (attribute_number input at h)) half

unmoved : (input : InputModel) (at state : ℕ) (streams : ℕ → ℕ) (j : ℕ) → 4 * (9 + j) < record_size state → ((j % 2 == 0) && nat_lt j (2 * attribute_count state)) ≡ false
    → emitted_word input at state streams (9 + j) ≡ record_word input at state (9 + j)
unfolding attribute_word
unmoved input at state streams j inside other =
    emitted_behind input at state streams j inside
    ∙ ap (λ b. if b then record_word input at state (9 + j) + place_in input.table (attribute_number input at (j / 2)) else record_word input at state (9 + j)) other

shape_emitted : (input : InputModel) (at state : ℕ) (streams : ℕ → ℕ) (t : ℕ) → t < attribute_count state
    → emitted_word input at state streams (shape_word t) ≡ record_word input at state (shape_word t)
shape_emitted input at state streams t below =
    let inside = attributes_in state in
    let e : 10 + 2 * t ≡ 9 + (2 * t + 1) = omega arith in
    ap (emitted_word input at state streams) e
    ∙ unmoved input at state streams (2 * t + 1) (omega (arith, inside, below)) (odd_word (attribute_count state) (2 * t + 1) (omega arith))
    ∙ ap (record_word input at state) (sym e)

extension_emitted : (input : InputModel) (at state : ℕ) (streams : ℕ → ℕ) (t : ℕ) → t < attribute_count state → is_extended state ≡ true
    → emitted_word input at state streams (extension_word t) ≡ record_word input at state (extension_word t)
extension_emitted input at state streams t below extended =
    let size = extended_from state extended in
    let few = (count_limits state).1 in
    let e : 25 + t ≡ 9 + (16 + t) = omega arith in
    ap (emitted_word input at state streams) e
    ∙ unmoved input at state streams (16 + t) (omega (arith, size, below)) (past_word (attribute_count state) (16 + t) (omega (arith, few)))
    ∙ ap (record_word input at state) (sym e)

size_emitted : (input : InputModel) (at state : ℕ) (streams : ℕ → ℕ) (t : ℕ) → t < attribute_count state
    → attribute_size (emitted_word input at state streams) t ≡ attribute_size (record_word input at state) t
size_emitted input at state streams t below = same_size (emitted_word input at state streams) (record_word input at state) t (shape_emitted input at state streams t below)

stride_emitted : (input : InputModel) (at state : ℕ) (streams : ℕ → ℕ) (t : ℕ) → t < attribute_count state
    → attribute_stride state (emitted_word input at state streams) t ≡ attribute_stride state (record_word input at state) t
stride_emitted input at state streams t below =
    same_stride state (emitted_word input at state streams) (record_word input at state) t (shape_emitted input at state streams t below)
    (λ extended. extension_emitted input at state streams t below extended)

later_false : (a b : Bool) → a ≡ true → (a && b) ≡ false → b ≡ false
later_false true b stands none = none
later_false false b stands none = cc

-- The data of all vertices up to the greatest index lie in the buffer.
reaches : (size address bytes stride most index : ℕ) → address + bytes ≤ size → has_vertex_past size address bytes stride most ≡ false → index ≤ most
    → address + stride * index + bytes ≤ size
unfolding has_vertex_past
reaches size address bytes zero most index first fits upto = omega (arith, first)
reaches size address bytes (suc stride) most index first fits upto =
    let small : most ≤ (size - address - bytes) / suc stride =
    ltb-false ((size - address - bytes) / suc stride) most (later_false (not (suc stride == 0)) (nat_lt ((size - address - bytes) / suc stride) most) (grind arith) fits) in
    let rise : suc stride * index ≤ suc stride * ((size - address - bytes) / suc stride) = mul-le-mul_left (suc stride) (let h : index ≤ (size - address - bytes) / suc stride = omega (arith, small, upto) in h) in
    let whole : suc stride * ((size - address - bytes) / suc stride) ≤ size - address - bytes = omega arith in
    omega (arith, rise, whole, first)

attribute_is : (input : InputModel) (at state most : ℕ) (streams : ℕ → ℕ) (t : ℕ) → first_of (record_questions input at state most) ≡ None → t < attribute_count state
    → IsAttributeIn (IsDataIn input.table input.handles) state (emitted_word input at state streams) most t
unfolding attribute_number
attribute_is input at state most streams t none below =
    let fine = attribute_fine input at state most t none below in
    let o : Option ℕ = attribute_number input at t in
    let address = address_emitted input at state streams t below in
    let bytes = size_emitted input at state streams t below in
    let stride = stride_emitted input at state streams t below in
    let first = address_fine input at state most t none below in
    record {
      place = place_in input.table o;
      size = size_in input.table o;
      named = named_data input.table input.handles (u32_at input.records (at + (12 + 4 * t))) o refl fine.named;
      from = omega (arith, address);
      upto = λ index upto.
          let ends =
          reaches (size_in input.table o) (record_word input at state (address_word t)) (attribute_size (record_word input at state) t) (attribute_stride state (record_word input at state) t) most index
          first fine.others upto in
          let product = ap (λ s. s * index) stride in
          omega (arith, address, bytes, product, ends);
    }

-- A record's code and stream.
use_is : (input : InputModel) (at from first s code stream : ℕ) (memory : ℕ → ℕ) → (known : IsKnownCode input at s)
    → code ≡ place_in input.table (code_number input at s) → stream ≡ stream_place input at first s
    → first_of (use_questions input (from + taken_before input at s) (shader_used input at s)) ≡ None
    → ((k : ℕ) → k < known.shader.uniforms → memory (stream_place input at first s + 4 * k) ≡ stream_word_of input (from + taken_before input at s) known.shader (stream_place input at first s) k)
    → (found : IsUse (IsDataIn input.table input.handles) (IsCodeIn input) memory code stream) × (found.shader ≡ known.shader)
unfolding code_number
use_is input at from first s code stream memory known code_is stream_is none stands =
    let here : ℕ = stream_place input at first s in
    let source : ℕ = from + taken_before input at s in
    let fine : first_of (use_questions input source (Some known.shader)) ≡ None = ap (λ o. first_of (use_questions input source o)) (sym known.used) ∙ none in
    let takes =
    same_stream (IsDataIn input.table input.handles) known.shader here (λ k. memory (here + 4 * k)) (stream_word_of input source known.shader here) known.sound stands
    (emitted_stream_is input source known.shader here known.sound fine) in (
      record {
        shader = known.shader;
        starts = record {
          handle = u32_at input.records (at + 4 * s);
          number = known.number;
          named = known.named;
          place_is = code_is ∙ ap (place_in input.table) known.named;
          shader_is = known.shader_is;
        };
        takes = subst (λ p. IsStream (IsDataIn input.table input.handles) known.shader p (λ k. memory (p + 4 * k))) (sym stream_is) takes;
      },
      refl,
    )

pub agree : (single threaded : Bool) → disagrees single threaded ≡ false → single ≡ not threaded
unfolding disagrees
agree true true fine = cc
agree true false fine = refl
agree false true fine = refl
agree false false fine = cc

pub emitted_record_is : (input : InputModel) (at from state most first : ℕ) (memory : ℕ → ℕ) → AreInputs input
    → first_of (record_questions input at state most) ≡ None
    → ((s : ℕ) → s < 3 → first_of (use_questions input (from + taken_before input at s) (shader_used input at s)) ≡ None)
    → HasStreams input at from first memory
    → IsRecord (IsDataIn input.table input.handles) (IsCodeIn input) state most (emitted_word input at state (stream_place input at first)) memory
unfolding shader_word is_single
emitted_record_is input at from state most first memory inputs none uses streams =
    let places : ℕ → ℕ = stream_place input at first in
    let word : (i : ℕ) → i < 9 → emitted_word input at state places i ≡ shader_word input at state places i = emitted_shader input at state places in
    let known0 = known_code input at 0 inputs (code_fine input at state most 0 none (omega arith)) in
    let known1 = known_code input at 1 inputs (code_fine input at state most 1 none (omega arith)) in
    let known2 = known_code input at 2 inputs (code_fine input at state most 2 none (omega arith)) in
    let use0 =
    use_is input at from first 0 (emitted_word input at state places 1) (emitted_word input at state places 2) memory known0 (word 1 (omega arith)) (word 2 (omega arith)) (uses 0 (omega arith))
    (λ k below. streams.word 0 known0.shader k (omega arith) known0.used below) in
    let use1 =
    use_is input at from first 1 (emitted_word input at state places 4) (emitted_word input at state places 5) memory known1 (word 4 (omega arith)) (word 5 (omega arith)) (uses 1 (omega arith))
    (λ k below. streams.word 1 known1.shader k (omega arith) known1.used below) in
    let use2 =
    use_is input at from first 2 (emitted_word input at state places 7) (emitted_word input at state places 8) memory known2 (word 7 (omega arith)) (word 8 (omega arith)) (uses 2 (omega arith))
    (λ k below. streams.word 2 known2.shader k (omega arith) known2.used below) in
    record {
      fragment = use0.0;
      vertex = use1.0;
      coordinate = use2.0;
      single =
          ap (λ w. w % 2 == 1) (word 0 (omega arith))
          ∙ agree (is_single (record_word input at state)) (is_threaded (shader_used input at 0)) (flags_fine input at state most none)
          ∙ ap (λ o. not (is_threaded o)) known0.used ∙ ap (λ s. not s.threaded) (sym use0.1);
      vertex_single = ap (λ s. s.threaded) use1.1 ∙ ap is_threaded (sym known1.used) ∙ (code_fine input at state most 1 none (omega arith)).single;
      coordinate_single = ap (λ s. s.threaded) use2.1 ∙ ap is_threaded (sym known2.used) ∙ (code_fine input at state most 2 none (omega arith)).single;
      attributes = λ t below. attribute_is input at state most places t none below;
    }
