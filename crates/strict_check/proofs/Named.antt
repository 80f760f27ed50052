-- What was found of the shader in a buffer, and of that which a handle names, by the list of all.
use Rattle.std.proofs.Common.{◌≡◌, ◌≤◌, ◌<◌, ◌&&◌, ℕ, Bool, true, false, not, Some, None, List, [], ◌∷◌, ◌++◌, ◌+◌, length, get_or, if◌then◌else◌, refl, sym, ap, zero-add, ◌∙◌}
use Rattle.std.proofs.lemmas.Bool.{le-ltb, lt-ltb}
use Rattle.std.proofs.lemmas.List.FromFn.{map-range_with_len_more, length-map-range_with_len, get_or-map-range_with_len}
use Rattle.std.specs.Prelude.{nat_lt, slice_index}
use Rattle.buffer_table.specs.{declared.buffer.Kind.Kind, declared.buffer.Kind.TheVariants.Plain, declared.buffer.Kind.TheVariants.Code}
use Rattle.buffer_table.specs.{Table.buffer_at, Handles.is_plain, Handles.code_of}
use Rattle.job_format.specs.Model.{FileModel}
use Rattle.job_check.specs.{Jobs.job_of, Shaders.content_of}
use Rattle.strict_check.specs.declared.uses.Uses.{Uses}
use Rattle.strict_check.specs.Uses.{uses_nothing, uses_in, uses_at, uses_behind, uses_named}
use Rattle.strict_check.specs.{declared.findings.Findings.Findings, Findings.findings_at, Findings.findings_up_to, Findings.all_findings}
use Rattle.strict_check.specs.Stages.{code_questions_in, code_refused, code_stage}
use Rattle.strict_rules.specs.declared.rule.StrictFault.{StrictFault}
use Rattle.field_words.specs.Questions.{first_of}
use Rattle.field_words.proofs.Questions.{answered_none, answered_some}

-- one buffer more
pub findings_none : (f : FileModel) → findings_up_to f 0 ≡ []
unfolding findings_up_to
findings_none f = refl

pub findings_more : (f : FileModel) (n : ℕ) → findings_up_to f (n + 1) ≡ findings_up_to f n ++ (findings_at f n ∷ [])
unfolding findings_up_to
findings_more f n = map-range_with_len_more (findings_at f) 0 n n (zero-add n)

pub findings_count : (f : FileModel) → length (all_findings f) ≡ length f.buffers
unfolding findings_up_to
findings_count f = length-map-range_with_len (findings_at f) 0 (length f.buffers)

findings_is : (f : FileModel) (b : ℕ) (x : Findings) → b < length f.buffers → get_or (all_findings f) b x ≡ findings_at f b
unfolding findings_up_to
findings_is f b x below = get_or-map-range_with_len (findings_at f) 0 (length f.buffers) b b x below (zero-add b)

-- E1 to E7 of buffer b
fault_is : (f : FileModel) (b : ℕ) (x : Findings) → b < length f.buffers → (get_or (all_findings f) b x).fault ≡ first_of (code_questions_in (buffer_at f.buffers b).kind (content_of f b))
unfolding findings_at
fault_is f b x below = ap (λ (y : Findings). y.fault) (findings_is f b x below)

pub code_passes : (f : FileModel) (b : ℕ) (x : Findings) (findings : List Findings) → b < length f.buffers → findings ≡ all_findings f → (get_or findings b x).fault ≡ None
    → first_of (code_stage f b) ≡ None
unfolding code_stage
code_passes f b x findings below are none =
    answered_none (code_refused b) (code_questions_in (buffer_at f.buffers b).kind (content_of f b))
    (sym (fault_is f b x below) ∙ sym (ap (λ l. (get_or l b x).fault) are) ∙ none)

pub code_broken : (f : FileModel) (b : ℕ) (x : Findings) (findings : List Findings) (fault : StrictFault) → b < length f.buffers → findings ≡ all_findings f
    → (get_or findings b x).fault ≡ Some fault → first_of (code_stage f b) ≡ Some (code_refused b fault)
unfolding code_stage
code_broken f b x findings fault below are some =
    answered_some (code_refused b) (code_questions_in (buffer_at f.buffers b).kind (content_of f b)) fault
    (sym (fault_is f b x below) ∙ sym (ap (λ l. (get_or l b x).fault) are) ∙ some)

-- the handles of job j, and what the one at i names, by whether it is there and has a buffer
abbrev handles_of : FileModel → ℕ → List ℕ
handles_of f j = (job_of f j).handles

abbrev by_tests : (f : FileModel) (number : ℕ) (there named : Bool) (kind : Kind) → Uses
by_tests f number there named kind = uses_behind f (if (there && named) && not (is_plain kind) then Some number else None)

unfolds : (f : FileModel) (j i : ℕ)
    → uses_named f j i ≡ by_tests f (slice_index (handles_of f j) i) (nat_lt i (length (handles_of f j))) (nat_lt (slice_index (handles_of f j) i) (length f.buffers)) (buffer_at f.buffers (slice_index (handles_of f j) i)).kind
unfolding uses_named code_of
unfolds f j i = refl

none_there : (f : FileModel) (number : ℕ) (named : Bool) (kind : Kind) → by_tests f number false named kind ≡ uses_nothing
none_there f number named kind = refl

none_named : (f : FileModel) (number : ℕ) (there : Bool) (kind : Kind) → by_tests f number there false kind ≡ uses_nothing
none_named f number true kind = refl
none_named f number false kind = refl

by_kind : (f : FileModel) (number : ℕ) (kind : Kind) → (buffer_at f.buffers number).kind ≡ kind → by_tests f number true true kind ≡ uses_at f number
unfolding uses_at
by_kind f number Plain is = sym (ap (λ k. uses_in k (content_of f number)) is)
by_kind f number Code is = refl

pub past_handles : (f : FileModel) (j i : ℕ) → length (handles_of f j) ≤ i → uses_nothing ≡ uses_named f j i
past_handles f j i over =
    sym (unfolds f j i ∙ ap (λ b. by_tests f (slice_index (handles_of f j) i) b (nat_lt (slice_index (handles_of f j) i) (length f.buffers)) (buffer_at f.buffers (slice_index (handles_of f j) i)).kind) (le-ltb i _ over))

pub past_buffers : (f : FileModel) (j i : ℕ) → length f.buffers ≤ slice_index (handles_of f j) i → uses_nothing ≡ uses_named f j i
past_buffers f j i over =
    let number = slice_index (handles_of f j) i in
    sym (unfolds f j i
    ∙ ap (λ b. by_tests f number (nat_lt i (length (handles_of f j))) b (buffer_at f.buffers number).kind) (le-ltb number _ over)
    ∙ none_named f number (nat_lt i (length (handles_of f j))) (buffer_at f.buffers number).kind)

pub at_buffer : (f : FileModel) (j i : ℕ) (none : Findings) → i < length (handles_of f j) → slice_index (handles_of f j) i < length f.buffers
    → (get_or (all_findings f) (slice_index (handles_of f j) i) none).uses ≡ uses_named f j i
unfolding findings_at
at_buffer f j i none inside below =
    let number = slice_index (handles_of f j) i in
    ap (λ (x : Findings). x.uses) (findings_is f number none below)
    ∙ sym (unfolds f j i
    ∙ ap (λ b. by_tests f number b (nat_lt number (length f.buffers)) (buffer_at f.buffers number).kind) (lt-ltb i _ inside)
    ∙ ap (λ b. by_tests f number true b (buffer_at f.buffers number).kind) (lt-ltb number _ below)
    ∙ by_kind f number (buffer_at f.buffers number).kind refl)
