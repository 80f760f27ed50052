-- The walk over a binner list for its shader states, packet by packet.
use Rattle.std.proofs.Common.{◌≡◌, ◌≤◌, ◌+◌, ◌*◌, ℕ, true, false, List, ◌++◌, Some, None, Result, Ok, Err, length, if◌then◌else◌, sym, ap, arith, ◌∙◌, Bool}
use Rattle.std.specs.Prelude.{◌==◌}
use Rattle.std.specs.Result.{IsErrAnd}
use Rattle.field_words.specs.{Questions.Question, Questions.first_of, Questions.GoesOn, Words.u32_at}
use Rattle.field_words.proofs.Questions.{passes, stops, answered_none, answered_some}
use Rattle.packets.specs.{Opcode.gl_shader_state, StateWord.attribute_count}
use Rattle.bin_list.specs.{Packets.opcode, Packets.front_packet, Packets.behind, Packets.packets, States.states_of}
use Rattle.bin_list.proofs.Packets.{packets_none, states_step}
use Rattle.job_format.specs.{declared.rule.Refusal.Refusal, Model.FileModel}
use Rattle.job_check.specs.Jobs.{job_of, states_in}
use Rattle.shader_records.specs.Sources.{source_size}
use Rattle.strict_lists.specs.Records.{selection_questions}
use Rattle.strict_check.specs.Stages.{use_questions, record_at, selection_refused, record_questions, records_from, records_stage}

-- What leaves by a `?` is the fault that it was.
pub leaves : {X F : Type 0} (questions : List (Question F)) (P : X → Type 0) (result : Result X F) (fault : F) → IsErrAnd result (λ e. e ≡ fault)
    → first_of questions ≡ Some fault → GoesOn questions P result
leaves questions P (Ok made) fault is broken = absurd is
leaves questions P (Err other) fault is broken = broken ∙ sym (ap Some is)

-- The rules of a record where its shaders break none.
selected : (f : FileModel) (j at word : ℕ) (records : List ℕ) (from count : ℕ) → records ≡ (job_of f j).records → from ≡ record_at at word → count ≡ attribute_count word
    → first_of (selection_questions (job_of f j).records (record_at at word) (attribute_count word)) ≡ first_of (selection_questions records from count)
selected f j at word records from count records_are from_is count_is =
    sym (ap (λ l. first_of (selection_questions l from count)) records_are
    ∙ ap (λ p. first_of (selection_questions (job_of f j).records p count)) from_is
    ∙ ap (λ n. first_of (selection_questions (job_of f j).records (record_at at word) n)) count_is)

pub record_broken : (f : FileModel) (j at word : ℕ) (records : List ℕ) (from count place : ℕ) → records ≡ (job_of f j).records → from ≡ record_at at word
    → count ≡ attribute_count word → first_of (use_questions f j at) ≡ None → first_of (selection_questions records from count) ≡ Some place
    → first_of (record_questions f j at word) ≡ Some (selection_refused j from place)
unfolding record_questions
record_broken f j at word records from count place records_are from_is count_is none broken =
    passes (use_questions f j at) _ none
    ∙ answered_some (selection_refused j (record_at at word)) (selection_questions (job_of f j).records (record_at at word) (attribute_count word)) place
    (selected f j at word records from count records_are from_is count_is ∙ broken)
    ∙ sym (ap (λ p. Some (selection_refused j p place)) from_is)

pub record_passes : (f : FileModel) (j at word : ℕ) (records : List ℕ) (from count : ℕ) → records ≡ (job_of f j).records → from ≡ record_at at word
    → count ≡ attribute_count word → first_of (use_questions f j at) ≡ None → first_of (selection_questions records from count) ≡ None
    → first_of (record_questions f j at word) ≡ None
unfolding record_questions
record_passes f j at word records from count records_are from_is count_is none broken =
    passes (use_questions f j at) _ none
    ∙ answered_none (selection_refused j (record_at at word)) (selection_questions (job_of f j).records (record_at at word) (attribute_count word))
    (selected f j at word records from count records_are from_is count_is ∙ broken)

-- How far it has come: where T holds, what is asked of the states of the bytes that are left decides; and the place of the next source is
-- small.
pub record IsUnderway (T : Type 0) (f : FileModel) (j : ℕ) (rest : List ℕ) (at : ℕ) : Type 0 where
  pub near : at + 176 * length rest ≤ 176 * length (job_of f j).bin
  pub none : T → first_of (records_from f j at (states_of (packets rest))) ≡ first_of (records_stage f j)

pub begins : (T : Type 0) (f : FileModel) (j : ℕ) (list : List ℕ) → list ≡ (job_of f j).bin → IsUnderway T f j list 0
unfolding records_stage states_in
begins T f j list is = record {
  near = omega (arith, ap length is);
  none = λ holds. ap (λ l. first_of (records_from f j 0 (states_of (packets l)))) is;
}

-- what is asked of the bytes that are left, at a packet
left : (T : Type 0) (f : FileModel) (j : ℕ) (rest packet : List ℕ) (at : ℕ) (b : Bool) → IsUnderway T f j rest at → T → 1 ≤ length rest
    → packet ≡ front_packet rest → (opcode packet == gl_shader_state) ≡ b
    → first_of (records_stage f j)
    ≡ (if b then first_of (record_questions f j at (u32_at (front_packet rest) 1) ++ records_from f j (at + source_size (u32_at (front_packet rest) 1)) (states_of (packets (behind rest))))
    else first_of (records_from f j at (states_of (packets (behind rest)))))
left T f j rest packet at true u holds some is test =
    sym (u.none holds) ∙ ap (λ l. first_of (records_from f j at l)) (states_step rest true some (sym (ap (λ p. opcode p == gl_shader_state) is) ∙ test))
left T f j rest packet at false u holds some is test =
    sym (u.none holds) ∙ ap (λ l. first_of (records_from f j at l)) (states_step rest false some (sym (ap (λ p. opcode p == gl_shader_state) is) ∙ test))

pub stops_at : (T : Type 0) (f : FileModel) (j : ℕ) (rest packet : List ℕ) (at word : ℕ) (refusal : Refusal) → IsUnderway T f j rest at → T → 1 ≤ length rest
    → packet ≡ front_packet rest → (opcode packet == gl_shader_state) ≡ true → word ≡ u32_at packet 1
    → first_of (record_questions f j at word) ≡ Some refusal → first_of (records_stage f j) ≡ Some refusal
stops_at T f j rest packet at word refusal u holds some is test word_is broken =
    let same = word_is ∙ ap (λ p. u32_at p 1) is in
    left T f j rest packet at true u holds some is test
    ∙ stops (record_questions f j at (u32_at (front_packet rest) 1)) _ refusal (sym (ap (λ w. first_of (record_questions f j at w)) same) ∙ broken)

pub goes_on : (T : Type 0) (f : FileModel) (j : ℕ) (rest packet later : List ℕ) (at word size : ℕ) → IsUnderway T f j rest at → 1 ≤ length rest
    → packet ≡ front_packet rest → later ≡ behind rest → 1 ≤ length packet → length packet + length later ≤ length rest
    → (opcode packet == gl_shader_state) ≡ true → word ≡ u32_at packet 1 → (T → first_of (record_questions f j at word) ≡ None)
    → size ≡ source_size word → size ≤ 176 → IsUnderway T f j later (at + size)
goes_on T f j rest packet later at word size u some is rest_is long fits test word_is broken size_is limit =
    let same = word_is ∙ ap (λ p. u32_at p 1) is in
    record {
      near = omega (arith, u.near, fits, long, limit);
      none = λ holds.
          ap (λ l. first_of (records_from f j (at + size) (states_of (packets l)))) rest_is
          ∙ ap (λ n. first_of (records_from f j (at + n) (states_of (packets (behind rest))))) (size_is ∙ ap source_size same)
          ∙ sym (passes (record_questions f j at (u32_at (front_packet rest) 1)) _ (sym (ap (λ w. first_of (record_questions f j at w)) same) ∙ broken holds))
          ∙ sym (left T f j rest packet at true u holds some is test);
    }

-- another packet
pub passes_by : (T : Type 0) (f : FileModel) (j : ℕ) (rest packet later : List ℕ) (at : ℕ) → IsUnderway T f j rest at → 1 ≤ length rest
    → packet ≡ front_packet rest → later ≡ behind rest → length packet + length later ≤ length rest
    → (opcode packet == gl_shader_state) ≡ false → IsUnderway T f j later at
passes_by T f j rest packet later at u some is rest_is fits test =
    record {
      near = omega (arith, u.near, fits);
      none = λ holds.
          ap (λ l. first_of (records_from f j at (states_of (packets l)))) rest_is
          ∙ sym (left T f j rest packet at false u holds some is test);
    }

pub through : (T : Type 0) (f : FileModel) (j : ℕ) (rest : List ℕ) (at : ℕ) → IsUnderway T f j rest at → T → length rest ≡ 0 → first_of (records_stage f j) ≡ None
through T f j rest at u holds none = sym (u.none holds) ∙ ap (λ l. first_of (records_from f j at (states_of l))) (packets_none rest none)
