-- The strict rules of a file, which are asked where it breaks no other rule, in the order of refusal: the shaders by buffer, and then job by
-- job its binner list and its shader records. A job without a binner list has no packets, and is asked nothing.
use Rattle.std.specs.Prelude.{ℕ, ◌+◌, ◌*◌, List, [], ◌∷◌, ◌++◌, length}
use Rattle.field_words.specs.{Questions.Question, Questions.Ask, Questions.each, Questions.with_answers, Words.u32_at}
use Rattle.buffer_table.specs.{declared.buffer.Kind.Kind, declared.buffer.Kind.TheVariants.Plain, declared.buffer.Kind.TheVariants.Code}
use Rattle.buffer_table.specs.Table.{buffer_at}
use Rattle.job_format.specs.declared.rule.Part.TheVariants.{Contents, BinnerList, Records}
use Rattle.job_format.specs.{declared.rule.Refusal.Refusal, declared.rule.Stage.TheVariants.E, Model.FileModel, Places.place_in}
use Rattle.packets.specs.StateWord.{attribute_count}
use Rattle.bin_list.specs.declared.state.State.{State}
use Rattle.shader_records.specs.Sources.{handles_size, source_size}
use Rattle.job_check.specs.{Faults.refusal_by, Jobs.job_of, Jobs.states_in, Shaders.words_of, Shaders.content_of}
use Rattle.strict_rules.specs.{declared.rule.StrictFault.StrictFault, Least.number_of as shader_number, Rules.strict_questions}
use Rattle.strict_lists.specs.{declared.rule.ListFault.ListFault, Rules.number_of as list_number, Rules.list_questions, Records.selection_questions}
use Rattle.strict_check.specs.Uses.{uses_named}

-- E1 to E7: the shader in buffer b, whether or not a job names it; at an instruction of it
abbrev pub code_refused : ℕ → StrictFault → Refusal
code_refused b fault = refusal_by E (shader_number fault.rule) (place_in Contents b (8 * fault.at))

abbrev pub code_questions_in : Kind → List ℕ → List (Question StrictFault)
code_questions_in Plain content = []
code_questions_in Code content = strict_questions (words_of content)

unfoldable pub code_stage : FileModel → ℕ → List (Question Refusal)
code_stage f b = with_answers (code_refused b) (code_questions_in (buffer_at f.buffers b).kind (content_of f b))

unfoldable pub codes_stage : FileModel → List (Question Refusal)
codes_stage f = each (code_stage f) 0 (length f.buffers)

-- E9, E10 and E13: the binner list of job j, at a packet
abbrev pub list_refused : ℕ → ListFault → Refusal
list_refused j fault = refusal_by E (list_number fault.rule) (place_in BinnerList j fault.at)

unfoldable pub list_stage : FileModel → ℕ → List (Question Refusal)
list_stage f j = with_answers (list_refused j) (list_questions (job_of f j).bin)

-- a rule at a place in the records of job j
abbrev pub record_refused : (j number at : ℕ) → Refusal
record_refused j number at = refusal_by E number (place_in Records j at)

-- Of a record whose source begins at a place: what the shader that its handle s names (0 fragment, 1 vertex, 2 coordinate) uses. E8: the
-- fragment shader has what belongs to vertices, or one of the others what belongs to fragments.
abbrev pub handle_at : FileModel → (j at : ℕ) → ℕ
handle_at f j at = u32_at (job_of f j).records at

unfoldable pub use_questions : FileModel → (j at : ℕ) → List (Question Refusal)
use_questions f j at =
    Ask (uses_named f j (handle_at f j at)).vpm (record_refused j 8 at)
    ∷ Ask (uses_named f j (handle_at f j (at + 4))).tile (record_refused j 8 (at + 4))
    ∷ Ask (uses_named f j (handle_at f j (at + 8))).tile (record_refused j 8 (at + 8))
    ∷ []

-- E11: it selects an attribute that the state with this word doesn't have
abbrev pub record_at : (at word : ℕ) → ℕ
record_at at word = at + handles_size word

abbrev pub selection_refused : (j from place : ℕ) → Refusal
selection_refused j from place = record_refused j 11 (from + place)

unfoldable pub record_questions : FileModel → (j at word : ℕ) → List (Question Refusal)
record_questions f j at word =
    use_questions f j at
    ++ with_answers (selection_refused j (record_at at word)) (selection_questions (job_of f j).records (record_at at word) (attribute_count word))

-- those of the records of states; the source of each begins where the one before ends
abbrev pub records_from : FileModel → (j at : ℕ) → List State → List (Question Refusal)
records_from f j at [] = []
records_from f j at (state ∷ states) = record_questions f j at state.word ++ records_from f j (at + source_size state.word) states

-- E8 and E11: the shader records of job j
unfoldable pub records_stage : FileModel → ℕ → List (Question Refusal)
records_stage f j = records_from f j 0 (states_in f j)

-- all of a job, and all of a file
unfoldable pub job_stages : FileModel → ℕ → List (Question Refusal)
job_stages f j = list_stage f j ++ records_stage f j

unfoldable pub strict_stages : FileModel → List (Question Refusal)
strict_stages f = codes_stage f ++ each (job_stages f) 0 (length f.jobs)
