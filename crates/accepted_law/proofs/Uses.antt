-- Which shader each program of a record is, and where its code and its stream stand.
use Rattle.std.proofs.Common.{◌≡◌, ◌≤◌, ◌<◌, ℕ, ◌+◌, ◌^◌, true, List, length, Option, Some, arith, ◌∙◌, rules}
use Rattle.std.proofs.lemmas.{Grind.common_steps, Bool.Decides.nat_tests}
use Rattle.buffer_table.specs.declared.buffer.Kind.{Kind, TheVariants.Code}
use Rattle.buffer_table.specs.{Table.buffer_at, Sound.IsSound}
use Rattle.job_format.specs.Model.{FileModel}
use Rattle.qpu_isa.specs.Shader.{ShaderModel}
use Rattle.shader_records.specs.{Inputs.AreInputs, Inputs.shader_in, Named.AreInMemory, Named.IsEmittedIn}
use Rattle.job_check.specs.Shaders.{content_of, words_of, report_of, shader_for, shaders_of}
use Rattle.job_check.specs.Jobs.{has_bin, input_for, layout_of}
use Rattle.job_check.proofs.{Codes.shader_at, Views.records_are, Views.streams_are, Layouts.layout_apart, Layouts.lists_inside}
use Rattle.accepted_law.specs.Settled.{Settled, ListsEnd, Grounds}
use Rattle.accepted_law.proofs.{Streams.piece_at, Tables.buffer_sound, Tables.buffer_low}

-- The input of the job's records is one in which all is known that the laws on records ask.
pub inputs_are : (f : FileModel) (j : ℕ) → Settled f j → AreInputs (input_for f j)
unfolding input_for
inputs_are f j settled = record { handles = settled.numbers; shaders = settled.shaders }

-- a buffer of a sound table is in its memory, with room for its contents
pub buffer_inside : (f : FileModel) (number : ℕ) → IsSound f.mem_size f.regions f.buffers → number < length f.buffers
    → ((buffer_at f.buffers number).place + (buffer_at f.buffers number).size ≤ f.mem_size) × ((buffer_at f.buffers number).content ≤ (buffer_at f.buffers number).size)
buffer_inside f number sound below = let s = buffer_sound f.mem_size f.regions f.buffers sound number below in (s.inside, s.content)

pub inputs_low : (f : FileModel) (j : ℕ) → Settled f j → AreInMemory (input_for f j)
unfolding input_for
inputs_low f j settled = search (rules, arith, buffer_low)

-- The streams begin and end in the memory, so inside the greatest one.
pub streams_low : (f : FileModel) (j : ℕ) → Settled f j → (layout_of f j).place + (layout_of f j).uniforms + length (input_for f j).uniforms < 2 ^ 32
unfolding input_for
streams_low f j settled = grind (arith, common_steps, nat_tests, layout_apart, lists_inside)

-- the lists end in the memory
pub lists_low : (f : FileModel) (j : ℕ) → Settled f j → ListsEnd f j → (layout_of f j).place + (layout_of f j).render ≤ f.mem_size
lists_low f j settled ends = omega (arith, lists_inside f settled.sound, ends.region, ends.render)

-- The memory has what was emitted of the records and their streams.
pub emitted_stand : (f : FileModel) (j : ℕ) (m : List ℕ) → Grounds f j m → has_bin f j ≡ true
    → IsEmittedIn (input_for f j) ((layout_of f j).place + (layout_of f j).records) ((layout_of f j).place + (layout_of f j).uniforms) m
emitted_stand f j m grounds some = search (rules, arith, lists_low, records_are, piece_at, streams_are)

-- What is known of the shader there is what the checker reported of the words that its contents spell.
shader_for_code : (kind : Kind) (content : List ℕ) → kind ≡ Code → shader_for kind content ≡ Some (report_of (words_of content))
shader_for_code kind content is = search (rules, arith)

report_there : (f : FileModel) (number : ℕ) → number < length f.buffers → (buffer_at f.buffers number).kind ≡ Code → shader_in (shaders_of f) number ≡ Some (report_of (words_of (content_of f number)))
report_there f number below code = shader_at f number below ∙ shader_for_code (buffer_at f.buffers number).kind (content_of f number) code

same_some : {X : Type 0} (o : Option X) (x y : X) → o ≡ Some x → o ≡ Some y → x ≡ y
same_some o x y one two = search (rules, arith)

pub report_is : (f : FileModel) (j number : ℕ) (shader : ShaderModel) → number < length f.buffers → (buffer_at f.buffers number).kind ≡ Code → shader_in (input_for f j).shaders number ≡ Some shader
    → shader ≡ report_of (words_of (content_of f number))
unfolding input_for
report_is f j number shader below code is = same_some (shader_in (shaders_of f) number) shader (report_of (words_of (content_of f number))) is (report_there f number below code)
