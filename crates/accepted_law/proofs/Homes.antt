-- The homes of a record's three programs.
use Rattle.std.proofs.Common.{◌≡◌, ◌≤◌, ◌<◌, ℕ, ◌+◌, ◌*◌, List, length, slice_index, Some, refl, sym, arith, inl, inr, ◌∙◌, rules}
use Rattle.std.proofs.lemmas.{List.FromFn.get_or-map-range_with_len, Grind.common_steps, Bool.Decides.nat_tests}
use Rattle.field_words.specs.Words.{u32_at, u64_at}
use Rattle.buffer_table.specs.{declared.buffer.Kind.TheVariants.Code, Table.buffer_at, Table.most_place, Handles.code_of}
use Rattle.buffer_table.proofs.Named.{code_is}
use Rattle.job_format.specs.Model.{FileModel}
use Rattle.qpu_isa.specs.Shader.{ShaderModel, sample_at, IsSoundShader}
use Rattle.emitted_facts.specs.Facts.{IsSampleIn, IsStream}
use Rattle.shader_flow.specs.Flow.{word}
use Rattle.uniform_stream.specs.Stream.{uniforms_of}
use Rattle.shader_records.specs.Named.{IsDataIn}
use Rattle.shader_records.proofs.StreamFacts.{same_stream}
use Rattle.job_check.specs.Shaders.{table_of, content_of, words_in, words_of, report_of}
use Rattle.job_check.specs.{Jobs.job_of, Jobs.layout_of, Jobs.streams_of, Emit.lengths_of}
use Rattle.job_check.proofs.Codes.{content_long, length_words, shader_short}
use Rattle.machine_plan.proofs.Words.{word_read}
use Rattle.qpu_law.specs.{Home.Home, Emitted.Emits, Thread.IsHome, Thread.HasSamples}
use Rattle.promises.specs.Holdings.{plain_of, lists_of, rights_at, file_rights}
use Rattle.promises.specs.Rights.{IsOneOf}
use Rattle.qpu_law.proofs.{Reading.one_inside, Emitting.streams_serve_law}
use Rattle.machine_law.specs.Begins.{HomeBegins}
use Rattle.machine_law.proofs.Begins.{fixed_inside}
use Rattle.accepted_law.specs.Settled.{Settled, Grounds}
use Rattle.accepted_law.proofs.{Settling.code_rules, Uses.buffer_inside, Uses.lists_low}
use Rattle.accepted_law.proofs.Streams.{number_at, words_from, word_from, words_fit}

-- the shader in a buffer, with a stream of a memory
unfoldable pub home_of : FileModel → List ℕ → ℕ → ℕ → Home
home_of f m number stream = record {
  code = words_of (content_of f number);
  place = (buffer_at f.buffers number).place;
  words = words_from m stream (uniforms_of (words_of (content_of f number)));
  stream = stream;
}

-- The code of a buffer that a handle names is started with a stream that was made for it, among the streams that were emitted.
pub record IsStarted (f : FileModel) (j : ℕ) (m : List ℕ) (handle number stream : ℕ) : Type 0 where
  pub named : code_of (table_of f) (job_of f j).handles handle ≡ Some number
  pub sound : IsSoundShader (report_of (words_of (content_of f number)))
  pub from : (layout_of f j).place + (layout_of f j).uniforms ≤ stream
  pub upto : stream + 4 * uniforms_of (words_of (content_of f number)) ≤ (layout_of f j).place + (layout_of f j).uniforms + length (streams_of f j)
  pub takes : IsStream (IsDataIn (table_of f) (job_of f j).handles) (report_of (words_of (content_of f number))) stream (λ k. u32_at m (stream + 4 * k))

-- Its words are in its contents, which are in its buffer, which is in the memory.
record IsCodeLow (f : FileModel) (number : ℕ) : Type 0 where
  words : 8 * length (words_of (content_of f number)) ≤ length (content_of f number)
  few : length (words_of (content_of f number)) ≤ 8192
  inside : length (content_of f number) ≤ (buffer_at f.buffers number).size
  upto : (buffer_at f.buffers number).place + (buffer_at f.buffers number).size ≤ most_place

code_low : (f : FileModel) (j number : ℕ) → Settled f j → number < length f.buffers → (buffer_at f.buffers number).kind ≡ Code → IsCodeLow f number
code_low f j number settled below code = search (rules, arith, length_words, buffer_inside, shader_short, content_long)

-- word i is the number of its eight bytes
word_is : (content : List ℕ) (i : ℕ) → i < length (words_of content) → u64_at content (8 * i) ≡ word (words_of content) i
unfolding words_in
word_is content i below = grind (arith, common_steps, nat_tests, length_words, get_or-map-range_with_len)

-- Where data have one name they have another, in a stream's samples.
other_sample : (A B : ℕ → ℕ → Type 0) → ((place size : ℕ) → A place size → B place size) → (shader : ShaderModel) (words : ℕ → ℕ) (i : ℕ) → IsSampleIn A words (sample_at shader i) → IsSampleIn B words (sample_at shader i)
other_sample A B names shader words i is = search (rules, arith)

other_stream : (A B : ℕ → ℕ → Type 0) → ((place size : ℕ) → A place size → B place size) → (shader : ShaderModel) (stream : ℕ) (words : ℕ → ℕ) → IsStream A shader stream words → IsStream B shader stream words
other_stream A B names shader stream words is = record { addresses = is.addresses; samples = λ i below. other_sample A B names shader words i (is.samples i below) }

-- The stream serves the shader's threads.
stream_serves : (f : FileModel) (j : ℕ) (m : List ℕ) (handle number stream : ℕ) → Grounds f j m → IsStarted f j m handle number stream → Emits (plain_of f j) (home_of f m number stream)
unfolding report_of home_of
stream_serves f j m handle number stream grounds started =
    let code : List ℕ = words_of (content_of f number) in
    streams_serve_law (home_of f m number stream) (plain_of f j) (report_of code) (record { samples = refl; address_words = refl })
    (same_stream (IsOneOf (plain_of f j)) (report_of code) stream (λ k. slice_index (words_from m stream (uniforms_of code)) k) (λ k. u32_at m (stream + 4 * k)) started.sound
    (λ k below. word_from m stream (uniforms_of code) k below)
    (other_stream (IsDataIn (table_of f) (job_of f j).handles) (IsOneOf (plain_of f j)) grounds.named_data (report_of code) stream (λ k. u32_at m (stream + 4 * k)) started.takes))

-- the emitted streams are one of the job's lists
uniforms_list : (f : FileModel) (j : ℕ) → IsOneOf (lists_of f j) ((layout_of f j).place + (layout_of f j).uniforms) (length (streams_of f j))
unfolding lists_of lengths_of
uniforms_list f j = inr (inr (inl refl))

-- Code and stream stand in the memory.
home_lies : (f : FileModel) (j : ℕ) (m : List ℕ) (handle number stream : ℕ) → Grounds f j m → IsStarted f j m handle number stream → IsHome m (rights_at f j).region (home_of f m number stream)
unfolding home_of
home_lies f j m handle number stream grounds started =
    let content : List ℕ = content_of f number in
    let place : ℕ = (buffer_at f.buffers number).place in
    let is = code_is (table_of f) (job_of f j).handles handle number started.named in
    let low = code_low f j number grounds.settled is.inside is.kind_is in
    let words = low.words in
    let upto = low.upto in
    let from = started.from in
    let ends = started.upto in
    record {
      sound = code_rules content (grounds.settled.codes number is.inside is.kind_is);
      few = low.few;
      low = omega (arith, words, low.inside, upto);
      stream_low = omega (arith, lists_low f j grounds.settled grounds.ends, grounds.settled.sound.limit, grounds.ends.uniforms, ends);
      addresses = (stream_serves f j m handle number stream grounds started).addresses;
      code_in = λ i below.
          one_inside (rights_at f j).region place (buffer_at f.buffers number).size (place + 8 * i) 8 (grounds.code handle number started.named)
          (record { from = omega arith; upto = omega (arith, below, words, low.inside) });
      code_is = λ i below. number_at m content place i (grounds.holds.contents number is.inside) (omega (arith, below, words)) ∙ word_is content i below;
      stream_in = λ k below.
          one_inside (rights_at f j).region ((layout_of f j).place + (layout_of f j).uniforms) (length (streams_of f j)) (stream + 4 * k) 4
          (grounds.lists ((layout_of f j).place + (layout_of f j).uniforms) (length (streams_of f j)) (uniforms_list f j))
          (record { from = omega (arith, from); upto = omega (arith, below, ends) });
      stream_is = λ k below. word_read m (stream + 4 * k) 4 (omega arith) ∙ sym (word_from m stream (uniforms_of (words_of content)) k below);
    }

-- its samples are fine
home_samples : (f : FileModel) (j : ℕ) (m : List ℕ) (handle number stream : ℕ) → Grounds f j m → IsStarted f j m handle number stream → HasSamples (plain_of f j) (home_of f m number stream)
unfolding home_of
home_samples f j m handle number stream grounds started = search (rules, arith, stream_serves, words_fit)

pub home_begins : (f : FileModel) (j : ℕ) (m : List ℕ) (handle number stream : ℕ) → Grounds f j m → IsStarted f j m handle number stream → HomeBegins (file_rights f) (plain_of f) m j (home_of f m number stream) (plain_of f j)
unfolding home_of
home_begins f j m handle number stream grounds started =
    let place : ℕ = (buffer_at f.buffers number).place in
    let code : List ℕ = words_of (content_of f number) in
    let is = code_is (table_of f) (job_of f j).handles handle number started.named in
    let low = code_low f j number grounds.settled is.inside is.kind_is in
    let words = low.words in
    let inside = low.inside in
    let uniforms : ℕ = (layout_of f j).place + (layout_of f j).uniforms in
    record {
      stands = home_lies f j m handle number stream grounds started;
      code = fixed_inside (file_rights f) place (buffer_at f.buffers number).size place (8 * length code) (grounds.code_fixed handle number started.named) (omega arith) (omega (arith, words, inside));
      stream = fixed_inside (file_rights f) uniforms (length (streams_of f j)) stream (4 * uniforms_of code) (grounds.lists_fixed uniforms (length (streams_of f j)) (uniforms_list f j)) started.from started.upto;
      samples = home_samples f j m handle number stream grounds started;
      named = λ place size one. one;
    }
