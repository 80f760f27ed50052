-- A memory that has what was emitted has the records of all states.
use Rattle.std.proofs.Common.{not, ◌≡◌, ℕ, ◌+◌, ◌*◌, ◌%◌, ◌==◌, ◌^◌, ◌<◌, List, length, None, refl, sym, ap, subst, arith, ◌∙◌}
use Rattle.field_words.specs.{Words.u32_at, Questions.first_of}
use Rattle.qpu_isa.specs.Shader.{ShaderModel}
use Rattle.emitted_facts.specs.Records.{is_single, address_word, shape_word, extension_word}
use Rattle.emitted_facts.specs.Facts.{IsStream, IsUse, IsRecord}
use Rattle.packets.specs.StateWord.{record_size}
use Rattle.emitted_facts.proofs.Records.{entry_in, extension_in, header_in, same_attribute}
use Rattle.shader_records.specs.Sources.{state_at, record_source, record_offset, uniform_source, stream_offset}
use Rattle.shader_records.specs.{Inputs.InputModel, Inputs.AreInputs, Named.IsDataIn, Named.IsCodeIn, Named.AreInMemory, Named.IsEmittedIn}
use Rattle.shader_records.specs.{Rules.all_questions, Emission.emitted_word, Emission.stream_place}
use Rattle.shader_records.proofs.{Fine.state_fine, Inside.emitted_in, RecordFacts.emitted_record_is}
use Rattle.shader_records.proofs.MemoryFacts.{streams_in_memory, record_in_memory}

same_use : (IsNamed : ℕ → ℕ → Type 0) (IsShader : ℕ → ShaderModel → Type 0) (memory : ℕ → ℕ) (code code2 stream stream2 : ℕ) → code ≡ code2 → stream ≡ stream2
    → (is : IsUse IsNamed IsShader memory code2 stream2) → (found : IsUse IsNamed IsShader memory code stream) × (found.shader ≡ is.shader)
same_use IsNamed IsShader memory code code2 stream stream2 same same2 is = (
  record {
    shader = is.shader;
    starts = subst (λ c. IsShader c is.shader) (sym same) is.starts;
    takes = subst (λ p. IsStream IsNamed is.shader p (λ k. memory (p + 4 * k))) (sym same2) is.takes;
  },
  refl,
)

-- A record is one wherever its words are.
same_record : (IsNamed : ℕ → ℕ → Type 0) (IsShader : ℕ → ShaderModel → Type 0) (state most : ℕ) (one two memory : ℕ → ℕ)
    → ((i : ℕ) → 4 * i < record_size state → one i ≡ two i) → IsRecord IsNamed IsShader state most two memory → IsRecord IsNamed IsShader state most one memory
unfolding is_single
same_record IsNamed IsShader state most one two memory same is =
    let inside = header_in state in
    let word : (i : ℕ) → i < 9 → one i ≡ two i = λ i below. same i (omega (arith, inside, below)) in
    let use0 = same_use IsNamed IsShader memory (one 1) (two 1) (one 2) (two 2) (word 1 (omega arith)) (word 2 (omega arith)) is.fragment in
    let use1 = same_use IsNamed IsShader memory (one 4) (two 4) (one 5) (two 5) (word 4 (omega arith)) (word 5 (omega arith)) is.vertex in
    let use2 = same_use IsNamed IsShader memory (one 7) (two 7) (one 8) (two 8) (word 7 (omega arith)) (word 8 (omega arith)) is.coordinate in
    record {
      fragment = use0.0;
      vertex = use1.0;
      coordinate = use2.0;
      single = ap (λ w. w % 2 == 1) (word 0 (omega arith)) ∙ is.single ∙ ap (λ s. not s.threaded) (sym use0.1);
      vertex_single = ap (λ s. s.threaded) use1.1 ∙ is.vertex_single;
      coordinate_single = ap (λ s. s.threaded) use2.1 ∙ is.coordinate_single;
      attributes = λ t below.
          let entry = entry_in state t below in
          same_attribute IsNamed state most one two t (same (address_word t) (omega (arith, entry))) (same (shape_word t) (omega (arith, entry)))
          (λ extended. let more = extension_in state t extended below in same (extension_word t) (omega (arith, more))) (is.attributes t below);
    }

pub records_in_memory : (input : InputModel) (records first : ℕ) (memory : List ℕ) (k : ℕ) → AreInputs input → AreInMemory input
    → first_of (all_questions input) ≡ None → k < length input.states → first + length input.uniforms < 2 ^ 32 → IsEmittedIn input records first memory
    → IsRecord (IsDataIn input.table input.handles) (IsCodeIn input) (state_at input k).word (state_at input k).max_index (λ i. u32_at memory (records + record_offset input k + 4 * i)) (u32_at memory)
records_in_memory input records first memory k inputs fits none below room emitted =
    let at : ℕ = record_source input k in
    let state : ℕ = (state_at input k).word in
    let most : ℕ = (state_at input k).max_index in
    let here : ℕ = first + stream_offset input k in
    let fine = state_fine input k none below in
    let size = (emitted_in state).0 in
    same_record (IsDataIn input.table input.handles) (IsCodeIn input) state most (λ i. u32_at memory (records + record_offset input k + 4 * i))
    (emitted_word input at state (stream_place input at here)) (u32_at memory)
    (λ i inside. record_in_memory input records first memory k i fits none below room emitted (omega (arith, inside, size)))
    (emitted_record_is input at (uniform_source input k) state most here (u32_at memory) inputs fine.of_record fine.of_use
    (streams_in_memory input records first memory k inputs fits none below room emitted))
