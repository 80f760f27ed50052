-- The shaders that a record's handles name, in a file that breaks no strict rule, use nothing that belongs to programs of the other kind.
use Rattle.std.proofs.Common.{◌≡◌, ◌≤◌, ◌<◌, ℕ, suc, ◌+◌, ◌*◌, false, List, [], ◌∷◌, length, None, inl, inr, sym, ◌∙◌, ap, subst, arith}
use Rattle.std.proofs.lemmas.Bool.{cases_lt}
use Rattle.std.specs.Prelude.{slice_index_or}
use Rattle.field_words.specs.{Questions.first_of, Questions.each, Questions.with_answers, Words.u32_at}
use Rattle.field_words.proofs.{Nones.front_none, Nones.rest_none, Nones.each_none, Questions.none_broken}
use Rattle.buffer_table.proofs.Named.{code_is}
use Rattle.packets.specs.StateWord.{attribute_count}
use Rattle.bin_list.specs.declared.state.State.{State}
use Rattle.shader_records.specs.Sources.{no_state, state_at, source_size, record_source}
use Rattle.job_format.specs.Model.{FileModel}
use Rattle.job_check.specs.{Jobs.job_of, Jobs.input_for, Jobs.states_in, Shaders.content_of, Shaders.table_of}
use Rattle.strict_rules.specs.Rules.{has_vpm_part, has_tile_part}
use Rattle.strict_lists.specs.Records.{selection_questions}
use Rattle.strict_check.specs.Uses.{uses_of, uses_in, uses_at, uses_behind, uses_named}
use Rattle.strict_check.specs.Stages.{codes_stage, list_stage, job_stages, strict_stages, handle_at, use_questions, record_at, selection_refused, record_questions, records_from, records_stage}
use Rattle.accepted_law.specs.Ends.{IsShaderOf, AreHandlesOf}
use Rattle.accepted_strict.specs.Files.{FileStrict}

-- what the three shaders of the record use whose source begins at a place
pub record HandlesFit (f : FileModel) (j at : ℕ) : Type 0 where
  pub fragment : (uses_named f j (handle_at f j at)).vpm ≡ false
  pub vertex : (uses_named f j (handle_at f j (at + 4))).tile ≡ false
  pub coordinate : (uses_named f j (handle_at f j (at + 8))).tile ≡ false

handles_fit : (f : FileModel) (j at word : ℕ) → first_of (record_questions f j at word) ≡ None → HandlesFit f j at
unfolding record_questions use_questions
handles_fit f j at word none =
    let front = front_none (use_questions f j at) (with_answers (selection_refused j (record_at at word)) (selection_questions (job_of f j).records (record_at at word) (attribute_count word))) none in
    let broken = none_broken (use_questions f j at) front in
    record { fragment = broken.0; vertex = broken.1.0; coordinate = broken.1.1.0 }

from_fit : (f : FileModel) (j n k : ℕ) (rest : List State) → first_of (records_from f j (record_source (input_for f j) n) rest) ≡ None → ((i : ℕ) → i < length rest → slice_index_or rest i no_state ≡ state_at (input_for f j) (n + i))
    → n ≤ k → k < n + length rest → HandlesFit f j (record_source (input_for f j) k)
unfolding record_source
from_fit f j n k [] none same from below = absurd (omega (arith, from, below))
from_fit f j n k (state ∷ rest) none same from below =
    let input = input_for f j in
    let at : ℕ = record_source input n in
    let start : n + 0 ≡ n = omega arith in
    let this : state ≡ state_at input n = same 0 (omega arith) ∙ ap (λ i. state_at input i) start in
    let one_on : suc n ≡ n + 1 = omega arith in
    let next : at + source_size state.word ≡ record_source input (n + 1) = ap (λ (one : State). at + source_size one.word) this ∙ ap (λ i. record_source input i) one_on in
    let front = front_none (record_questions f j at state.word) (records_from f j (at + source_size state.word) rest) none in
    let later = rest_none (record_questions f j at state.word) (records_from f j (at + source_size state.word) rest) none in
    elim (cases_lt n k) [
      | inl past ↦
          from_fit f j (n + 1) k rest (subst (λ p. first_of (records_from f j p rest) ≡ None) next later)
          (λ i inside. (let on : n + suc i ≡ n + 1 + i = omega arith in same (suc i) (omega (arith, inside)) ∙ ap (λ m. state_at input m) on)) (omega (arith, past)) (omega (arith, below))
      | inr here ↦
          (let is : n ≡ k = omega (arith, here, from) in
          subst (λ i. HandlesFit f j (record_source input i)) is (handles_fit f j at state.word front))
    ]

-- so it is of each record of each job
pub records_fit : (f : FileModel) (j k : ℕ) → FileStrict f → j < length f.jobs → k < length (states_in f j) → HandlesFit f j (record_source (input_for f j) k)
unfolding strict_stages job_stages records_stage input_for record_source
records_fit f j k strict inside below =
    let all : first_of (each (job_stages f) 0 (length f.jobs)) ≡ None = rest_none (codes_stage f) (each (job_stages f) 0 (length f.jobs)) strict in
    let one : first_of (job_stages f j) ≡ None = each_none (job_stages f) 0 (length f.jobs) j all (omega arith) (omega (arith, inside)) in
    from_fit f j 0 k (states_in f j) (rest_none (list_stage f j) (records_stage f j) one) (λ i there. (let from : i ≡ 0 + i = omega arith in ap (λ m. state_at (input_for f j) m) from)) (omega arith) (omega (arith, below))

-- What is found of the shader that a handle names is what it uses.
uses_are : (f : FileModel) (j : ℕ) (code : List ℕ) → (is : IsShaderOf f j code) → uses_named f j is.handle ≡ uses_of code
unfolding uses_named uses_at
uses_are f j code is =
    let b : ℕ = is.number in
    let of = code_is (table_of f) (job_of f j).handles is.handle b is.named in
    ap (λ named. uses_behind f named) is.named ∙ ap (λ kind. uses_in kind (content_of f b)) of.kind_is ∙ ap uses_of (sym is.is)

vpm_off : (f : FileModel) (j place handle : ℕ) (code : List ℕ) → (is : IsShaderOf f j code) → is.handle ≡ u32_at (job_of f j).records place → place ≡ handle → (uses_named f j (handle_at f j handle)).vpm ≡ false → has_vpm_part code ≡ false
unfolding uses_of
vpm_off f j place handle code is there same off =
    ap (λ uses. uses.vpm) (sym (uses_are f j code is)) ∙ ap (λ h. (uses_named f j h).vpm) there ∙ ap (λ p. (uses_named f j (handle_at f j p)).vpm) same ∙ off

tile_off : (f : FileModel) (j place handle : ℕ) (code : List ℕ) → (is : IsShaderOf f j code) → is.handle ≡ u32_at (job_of f j).records place → place ≡ handle → (uses_named f j (handle_at f j handle)).tile ≡ false → has_tile_part code ≡ false
unfolding uses_of
tile_off f j place handle code is there same off =
    ap (λ uses. uses.tile) (sym (uses_are f j code is)) ∙ ap (λ h. (uses_named f j h).tile) there ∙ ap (λ p. (uses_named f j (handle_at f j p)).tile) same ∙ off

pub fragment_off : (f : FileModel) (j vertex coordinate : ℕ) (code : List ℕ) → (is : IsShaderOf f j code) → (of : AreHandlesOf f j is.handle vertex coordinate) → HandlesFit f j (record_source (input_for f j) of.number) → has_vpm_part code ≡ false
fragment_off f j vertex coordinate code is of fit = vpm_off f j (record_source (input_for f j) of.number + 4 * 0) (record_source (input_for f j) of.number) code is of.fragment_is (omega arith) fit.fragment

pub vertex_off : (f : FileModel) (j fragment coordinate : ℕ) (code : List ℕ) → (is : IsShaderOf f j code) → (of : AreHandlesOf f j fragment is.handle coordinate) → HandlesFit f j (record_source (input_for f j) of.number) → has_tile_part code ≡ false
vertex_off f j fragment coordinate code is of fit = tile_off f j (record_source (input_for f j) of.number + 4 * 1) (record_source (input_for f j) of.number + 4) code is of.vertex_is (omega arith) fit.vertex

pub coordinate_off : (f : FileModel) (j fragment vertex : ℕ) (code : List ℕ) → (is : IsShaderOf f j code) → (of : AreHandlesOf f j fragment vertex is.handle) → HandlesFit f j (record_source (input_for f j) of.number) → has_tile_part code ≡ false
coordinate_off f j fragment vertex code is of fit = tile_off f j (record_source (input_for f j) of.number + 4 * 2) (record_source (input_for f j) of.number + 8) code is of.coordinate_is (omega arith) fit.coordinate
