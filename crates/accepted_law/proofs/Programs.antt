-- The three programs that the emitted record of a state names.
use Rattle.std.proofs.Common.{◌≡◌, ◌≤◌, ◌<◌, ℕ, zero, suc, ◌+◌, ◌*◌, ◌%◌, ◌==◌, Bool, true, false, not, List, length, Some, None, refl, sym, ap, subst, arith, inl, inr, ◌∙◌}
use Rattle.std.proofs.{lemmas.Bool.cases_lt, Math.Bool.not-not, lemmas.Grind.common_steps, lemmas.Bool.Decides.nat_tests}
use Rattle.field_words.specs.{Words.u32_at, Questions.first_of}
use Rattle.buffer_table.specs.{declared.buffer.Kind.TheVariants.Code, Table.buffer_at}
use Rattle.buffer_table.proofs.Named.{IsBufferOf, code_is}
use Rattle.job_format.specs.Model.{FileModel}
use Rattle.qpu_isa.specs.Shader.{ShaderModel, IsSoundShader}
use Rattle.emitted_facts.specs.{Records.is_single, Records.code_word, Records.stream_word, Facts.IsStream}
use Rattle.emitted_facts.proofs.Records.{header_in}
use Rattle.shader_flow.specs.Flow.{is_threaded}
use Rattle.uniform_stream.specs.Stream.{uniforms_of}
use Rattle.shader_records.specs.Sources.{state_at, record_source, record_offset, uniform_source, stream_offset, code_number, shader_used, is_threaded as switches, given_by, given_before, taken_before, record_word, place_in}
use Rattle.shader_records.specs.{Inputs.InputModel, Inputs.shader_in, Emitted.streams_place, Named.IsDataIn, Rules.use_questions}
use Rattle.shader_records.specs.Emission.{shader_word, stream_place, stream_word_of}
use Rattle.shader_records.proofs.{Fine.state_fine, Fine.code_fine, Fine.flags_fine, StreamFacts.emitted_stream_is, StreamFacts.same_stream}
use Rattle.shader_records.proofs.{Inside.emitted_in, Steps.given_upto, Lengths.length_uniforms}
use Rattle.shader_records.proofs.RecordFacts.{known_code, emitted_shader, agree}
use Rattle.shader_records.proofs.MemoryFacts.{record_in_memory, streams_in_memory}
use Rattle.job_check.specs.Shaders.{table_of, content_of, words_of, report_of}
use Rattle.job_check.specs.Jobs.{job_of, has_bin, input_for, layout_of, streams_of}
use Rattle.job_check.proofs.Views.{streams_are}
use Rattle.list_machine.specs.Fetch.{record_place}
use Rattle.list_law.specs.Emitted.{words_in, program_in}
use Rattle.machine_law.specs.Begins.{LaunchBegins}
use Rattle.accepted_law.specs.{Ends.IsShaderOf, Settled.Grounds, Parts.RecordsLaunch}
use Rattle.promises.specs.Holdings.{plain_of, file_rights}
use Rattle.accepted_law.proofs.Uses.{inputs_are, inputs_low, streams_low, emitted_stand, report_is}
use Rattle.accepted_law.proofs.Homes.{home_of, IsStarted, home_begins}

-- Words of the record that name its shaders.

code_third : (s : ℕ) → ((3 * s + 1) % 3 == 1) ≡ true
code_third s = grind arith

stream_third : (s : ℕ) → ((3 * s + 2) % 3 == 1) ≡ false
stream_third s = grind arith

stream_last : (s : ℕ) → ((3 * s + 2) % 3 == 2) ≡ true
stream_last s = grind arith

code_emitted : (input : InputModel) (at state : ℕ) (streams : ℕ → ℕ) (s : ℕ) → shader_word input at state streams (3 * s + 1) ≡ place_in input.table (code_number input at s)
unfolding shader_word
code_emitted input at state streams s = grind (arith, common_steps, nat_tests, code_third)

stream_emitted : (input : InputModel) (at state : ℕ) (streams : ℕ → ℕ) (s : ℕ) → shader_word input at state streams (3 * s + 2) ≡ streams s
unfolding shader_word
stream_emitted input at state streams s = grind (arith, common_steps, nat_tests, stream_third, stream_last)

flags_emitted : (input : InputModel) (at state : ℕ) (streams : ℕ → ℕ) → shader_word input at state streams 0 ≡ record_word input at state 0
unfolding shader_word
flags_emitted input at state streams = refl

-- Shader s of state k: its buffer and its stream, and the two words of the record that name them.
record IsProgram (f : FileModel) (j : ℕ) (m : List ℕ) (k s : ℕ) : Type 0 where
  handle : ℕ
  handle_is : handle ≡ u32_at (job_of f j).records (record_source (input_for f j) k + 4 * s)
  number : ℕ
  stream : ℕ
  started : IsStarted f j m handle number stream
  used : shader_used (input_for f j) (record_source (input_for f j) k) s ≡ Some (report_of (words_of (content_of f number)))
  code_there : u32_at m ((layout_of f j).place + (layout_of f j).records + record_offset (input_for f j) k + 4 * code_word s) ≡ (buffer_at f.buffers number).place
  stream_there : u32_at m ((layout_of f j).place + (layout_of f j).records + record_offset (input_for f j) k + 4 * stream_word s) ≡ stream

-- one word of the record, among the first nine
record_has : (f : FileModel) (j : ℕ) (m : List ℕ) (k i : ℕ) → Grounds f j m → has_bin f j ≡ true → k < length (input_for f j).states → i < 9
    → u32_at m ((layout_of f j).place + (layout_of f j).records + record_offset (input_for f j) k + 4 * i)
    ≡ shader_word (input_for f j) (record_source (input_for f j) k) (state_at (input_for f j) k).word (stream_place (input_for f j) (record_source (input_for f j) k) ((layout_of f j).place + (layout_of f j).uniforms + stream_offset (input_for f j) k)) i
record_has f j m k i grounds some below small =
    let input : InputModel = input_for f j in
    let first : ℕ = (layout_of f j).place + (layout_of f j).uniforms in
    let at : ℕ = record_source input k in
    let state : ℕ = (state_at input k).word in
    record_in_memory input ((layout_of f j).place + (layout_of f j).records) first m k i (inputs_low f j grounds.settled) (grounds.settled.records some) below (streams_low f j grounds.settled)
    (emitted_stand f j m grounds some) (omega (arith, header_in state, small, (emitted_in state).0))
    ∙ emitted_shader input at state (stream_place input at (first + stream_offset input k)) i small

-- the streams of states that come before end before those of others
offset_rises : (input : InputModel) (k n : ℕ) → k < n → stream_offset input k + given_before input (record_source input k) 3 ≤ stream_offset input n
unfolding stream_offset
offset_rises input k zero below = absurd (omega (arith, below))
offset_rises input k (suc n) below =
    elim (cases_lt k n) [
      | inl earlier ↦ let e = offset_rises input k n earlier in omega (arith, e)
      | inr past ↦
          let same : k ≡ n = omega (arith, below, past) in
          subst (λ x. stream_offset input k + given_before input (record_source input k) 3 ≤ stream_offset input x + given_before input (record_source input x) 3) same (omega arith)
    ]

-- so they end among those that were emitted
streams_end : (f : FileModel) (j k : ℕ) → has_bin f j ≡ true → k < length (input_for f j).states
    → stream_offset (input_for f j) k + given_before (input_for f j) (record_source (input_for f j) k) 3 ≤ length (streams_of f j)
streams_end f j k some below =
    let input : InputModel = input_for f j in
    let all = ap length (sym (streams_are f j some)) ∙ length_uniforms input (streams_place (layout_of f j)) (length input.states) in
    omega (arith, all, offset_rises input k (length input.states) below)

-- where the streams of state k begin, and that of its shader s
abbrev streams_from : FileModel → ℕ → ℕ → ℕ
streams_from f j k = (layout_of f j).place + (layout_of f j).uniforms + stream_offset (input_for f j) k

abbrev stream_at : FileModel → ℕ → ℕ → ℕ → ℕ
stream_at f j k s = stream_place (input_for f j) (record_source (input_for f j) k) (streams_from f j k) s

-- It was made for the shader.
stream_takes : (f : FileModel) (j : ℕ) (m : List ℕ) (k s : ℕ) (shader : ShaderModel) → Grounds f j m → has_bin f j ≡ true → k < length (input_for f j).states → s < 3
    → shader_used (input_for f j) (record_source (input_for f j) k) s ≡ Some shader → IsSoundShader shader
    → IsStream (IsDataIn (input_for f j).table (input_for f j).handles) shader (stream_at f j k s) (λ i. u32_at m (stream_at f j k s + 4 * i))
stream_takes f j m k s shader grounds some below small used sound =
    let input : InputModel = input_for f j in
    let first : ℕ = (layout_of f j).place + (layout_of f j).uniforms in
    let source : ℕ = uniform_source input k + taken_before input (record_source input k) s in
    let none = grounds.settled.records some in
    let fine = state_fine input k none below in
    let streams = streams_in_memory input ((layout_of f j).place + (layout_of f j).records) first m k (inputs_are f j grounds.settled) (inputs_low f j grounds.settled) none below (streams_low f j grounds.settled) (emitted_stand f j m grounds some) in
    let fits : first_of (use_questions input source (Some shader)) ≡ None = ap (λ o. first_of (use_questions input source o)) (sym used) ∙ fine.of_use s small in
    same_stream (IsDataIn input.table input.handles) shader (stream_at f j k s) (λ i. u32_at m (stream_at f j k s + 4 * i)) (stream_word_of input source shader (stream_at f j k s)) sound
    (λ i inside. streams.word s shader i small used inside)
    (emitted_stream_is input source shader (stream_at f j k s) sound fits)

-- It lies among the emitted streams.
stream_ends : (f : FileModel) (j k s uniforms : ℕ) → has_bin f j ≡ true → k < length (input_for f j).states → s < 3
    → given_by (shader_used (input_for f j) (record_source (input_for f j) k) s) ≡ 4 * uniforms
    → ((layout_of f j).place + (layout_of f j).uniforms ≤ stream_at f j k s) × (stream_at f j k s + 4 * uniforms ≤ (layout_of f j).place + (layout_of f j).uniforms + length (streams_of f j))
unfolding stream_place
stream_ends f j k s uniforms some below small given = grind (arith, common_steps, nat_tests, streams_end, given_upto)

program_reported : (f : FileModel) (j : ℕ) (m : List ℕ) (k s number : ℕ) → Grounds f j m → has_bin f j ≡ true → k < length (input_for f j).states → s < 3
    → code_number (input_for f j) (record_source (input_for f j) k) s ≡ Some number
    → shader_used (input_for f j) (record_source (input_for f j) k) s ≡ Some (report_of (words_of (content_of f number))) → IsSoundShader (report_of (words_of (content_of f number)))
    → IsProgram f j m k s
unfolding input_for code_number report_of
program_reported f j m k s number grounds some below small named used sound =
    let input : InputModel = input_for f j in
    let at : ℕ = record_source input k in
    let state : ℕ = (state_at input k).word in
    let ends = stream_ends f j k s (uniforms_of (words_of (content_of f number))) some below small (ap given_by used) in
    record {
      handle = u32_at input.records (at + 4 * s);
      handle_is = refl;
      number = number;
      stream = stream_at f j k s;
      started = record {
        named = named;
        sound = sound;
        from = ends.0;
        upto = ends.1;
        takes = stream_takes f j m k s (report_of (words_of (content_of f number))) grounds some below small used sound;
      };
      used = used;
      code_there =
          record_has f j m k (code_word s) grounds some below (omega (arith, small))
          ∙ code_emitted input at state (stream_place input at (streams_from f j k)) s ∙ ap (place_in (table_of f)) named;
      stream_there =
          record_has f j m k (stream_word s) grounds some below (omega (arith, small))
          ∙ stream_emitted input at state (stream_place input at (streams_from f j k)) s;
    }

program_of : (f : FileModel) (j : ℕ) (m : List ℕ) (k s number : ℕ) (shader : ShaderModel) → Grounds f j m → has_bin f j ≡ true → k < length (input_for f j).states → s < 3
    → code_number (input_for f j) (record_source (input_for f j) k) s ≡ Some number → number < length f.buffers → (buffer_at f.buffers number).kind ≡ Code
    → shader_in (input_for f j).shaders number ≡ Some shader
    → shader_used (input_for f j) (record_source (input_for f j) k) s ≡ Some shader → IsSoundShader shader
    → IsProgram f j m k s
program_of f j m k s number shader grounds some below small named inside code is used sound = search (arith, report_is, program_reported)

named_code : (f : FileModel) (j at s number : ℕ) → code_number (input_for f j) at s ≡ Some number → IsBufferOf (table_of f) (job_of f j).handles Code (u32_at (job_of f j).records (at + 4 * s)) number
unfolding input_for code_number
named_code f j at s number named = code_is (table_of f) (job_of f j).handles (u32_at (job_of f j).records (at + 4 * s)) number named

program_at : (f : FileModel) (j : ℕ) (m : List ℕ) (k s : ℕ) → Grounds f j m → has_bin f j ≡ true → k < length (input_for f j).states → s < 3 → IsProgram f j m k s
program_at f j m k s grounds some below small =
    let input : InputModel = input_for f j in
    let at : ℕ = record_source input k in
    let fine = state_fine input k (grounds.settled.records some) below in
    let known = known_code input at s (inputs_are f j grounds.settled) (code_fine input at (state_at input k).word (state_at input k).max_index s fine.of_record small) in
    let is = named_code f j at s known.number known.named in
    program_of f j m k s known.number known.shader grounds some below small known.named is.inside is.kind_is known.shader_is known.used known.sound

-- So each may be started, as threaded as its shader is.
threaded_is : (f : FileModel) (number : ℕ) → switches (Some (report_of (words_of (content_of f number)))) ≡ is_threaded (words_of (content_of f number))
unfolding report_of
threaded_is f number = refl

launch_begins : (f : FileModel) (j : ℕ) (m : List ℕ) (k s word : ℕ) (threaded : Bool) → Grounds f j m → has_bin f j ≡ true → k < length (input_for f j).states → s < 3
    → record_place word ≡ (layout_of f j).place + (layout_of f j).records + record_offset (input_for f j) k
    → threaded ≡ switches (shader_used (input_for f j) (record_source (input_for f j) k) s)
    → (begins : LaunchBegins (file_rights f) (plain_of f) m j (program_in m word threaded s)) × (is : IsShaderOf f j begins.home.code) × (is.handle ≡ u32_at (job_of f j).records (record_source (input_for f j) k + 4 * s))
unfolding home_of
launch_begins f j m k s word threaded grounds some below small there agrees =
    let program = program_at f j m k s grounds some below small in (
      record {
        home = home_of f m program.number program.stream;
        buffers = plain_of f j;
        begins = home_begins f j m program.handle program.number program.stream grounds program.started;
        code = ap (λ q. u32_at m (q + 4 * code_word s)) there ∙ program.code_there;
        uniforms = ap (λ q. u32_at m (q + 4 * stream_word s)) there ∙ program.stream_there;
        threaded = agrees ∙ ap switches program.used ∙ threaded_is f program.number;
      },
      record { handle = program.handle; number = program.number; named = program.started.named; is = refl },
      program.handle_is,
    )

-- The flags agree with the fragment shader.
flags_there : (f : FileModel) (j : ℕ) (m : List ℕ) (k word : ℕ) → Grounds f j m → has_bin f j ≡ true → k < length (input_for f j).states
    → record_place word ≡ (layout_of f j).place + (layout_of f j).records + record_offset (input_for f j) k
    → is_single (words_in m word) ≡ is_single (record_word (input_for f j) (record_source (input_for f j) k) (state_at (input_for f j) k).word)
unfolding is_single
flags_there f j m k word grounds some below there =
    let input : InputModel = input_for f j in
    let at : ℕ = record_source input k in
    let flags =
    ap (λ q. u32_at m (q + 4 * 0)) there
    ∙ record_has f j m k 0 grounds some below (omega arith)
    ∙ flags_emitted input at (state_at input k).word (stream_place input at (streams_from f j k)) in
    ap (λ w. w % 2 == 1) flags

pub records_launch_law : RecordsLaunch
unfolding input_for
records_launch_law f j m k word grounds some below there =
    let input : InputModel = input_for f j in
    let at : ℕ = record_source input k in
    let state : ℕ = (state_at input k).word in
    let most : ℕ = (state_at input k).max_index in
    let fine = state_fine input k (grounds.settled.records some) below in
    let vertex = code_fine input at state most 1 fine.of_record (omega arith) in
    let coordinate = code_fine input at state most 2 fine.of_record (omega arith) in
    let flags = flags_there f j m k word grounds some below there in
    let first =
    launch_begins f j m k 0 word (not (is_single (words_in m word))) grounds some below (omega arith) there
    (ap not flags ∙ ap not (agree (is_single (record_word input at state)) (switches (shader_used input at 0)) (flags_fine input at state most fine.of_record)) ∙ not-not (switches (shader_used input at 0))) in
    let second = launch_begins f j m k 1 word false grounds some below (omega arith) there (sym vertex.single) in
    let third = launch_begins f j m k 2 word false grounds some below (omega arith) there (sym coordinate.single) in
    record {
      fragment = first.0;
      vertex = second.0;
      coordinate = third.0;
      of_fragment = first.1;
      of_vertex = second.1;
      of_coordinate = third.1;
      handles = record { number = k; inside = below; fragment_is = first.2; vertex_is = second.2; coordinate_is = third.2 };
    }
