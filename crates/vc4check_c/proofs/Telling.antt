-- Shaders of which there are blocks are checked ones.
use Rattle.std.proofs.Common.{◌≡◌, ◌==◌, ◌<◌, ◌≤◌, ◌+◌, ℕ, zero, suc, Bool, true, false, List, [], ◌∷◌, length, map, get_or, refl, sym, ap, subst, Option, Some, None, option_map, is_some, IfSome, arith, ◌∙◌, inl, inr, if◌then◌else◌}
use Rattle.std.proofs.{lemmas.Bool.eqb-true, lemmas.Bool.cases_lt, lemmas.List.length-map, lemmas.List.ext_get_or, lemmas.List.get_or_past}
use Rattle.std.proofs.lemmas.List.FromFn.{length-map-range_with_len, get_or-map-range_with_len}
use Rattle.std.proofs.lemmas.Option.{get_or_from_slice_get, slice_get-map, slice_get_within}
use Rattle.std.specs.List.{slice_get}
use Rattle.field_words.specs.Questions.{Question, first_of, each}
use Rattle.field_words.proofs.Questions.{passes, answered_none}
use Rattle.buffer_table.specs.{declared.buffer.Kind.Kind, declared.buffer.Kind.TheVariants.Plain, declared.buffer.Kind.TheVariants.Code}
use Rattle.buffer_table.specs.Table.{buffer_at, past_end}
use Rattle.qpu_isa.specs.Shader.{ShaderModel, IsSoundShader}
use Rattle.job_check.specs.Shaders.{table_of, words_of, report_of, code_questions, content_of, shader_for, shader_of, shaders_up_to, shaders_of}
use Rattle.job_check.specs.{Faults.shader_questions_in, Faults.shader_refused, Faults.shader_stage, Faults.shaders_stage, Region.AreChecked, Region.Under}
use Rattle.job_check.proofs.Codes.{AllSound, are_shaders}
use Rattle.vc4check_c.specs.{declared.submission.GivenBuffer.GivenBuffer, declared.submission.Submission.Submission, Block.IsBlockOf}
use Rattle.shader_records.specs.Inputs.{IsShaped, AreShaped}
use Rattle.vc4check_c.specs.{Submission.content_in, Submission.entry_in, Submission.file_of, Block.read_of, Block.findings_in_block, Block.IsReadable}
use Rattle.vc4check_c.specs.Telling.{read_in, findings_by_block, AreReadable, AreKnown}
use Rattle.strict_check.specs.{declared.findings.Findings.Findings, Findings.findings_of, Findings.findings_nothing, Findings.findings_at, Findings.findings_up_to, Findings.all_findings}
use Rattle.strict_check.specs.{Stages.code_questions_in, Uses.uses_in, Uses.uses_at}
use Rattle.vc4check_c.proofs.{Submissions.inside_at, Blocks.made_read, Blocks.made_findings}

-- what a check tells of the shader in a buffer
report_in : GivenBuffer → Option ShaderModel
report_in given = if given.kind == 1 then Some (report_of (words_of given.content.now)) else None

-- Each of the first n Code buffers has the block of its shader.
abbrev AreBlocks : List GivenBuffer → ℕ → Type 0
AreBlocks buffers n = (b : ℕ) (given : GivenBuffer) → b < n → slice_get buffers b ≡ Some given → given.kind ≡ 1 → IsBlockOf given.content.now given.known.now

-- no rule is broken by any item
each_nones : {F : Type 0} (questions : ℕ → List (Question F)) (i n : ℕ) → ((k : ℕ) → i ≤ k → k < i + n → first_of (questions k) ≡ None) → first_of (each questions i n) ≡ None
unfolding each
each_nones questions i zero all = refl
each_nones questions i (suc n) all =
    passes (questions i) (each questions (i + 1) n) (all i (omega arith) (omega arith))
    ∙ each_nones questions (i + 1) n (λ k from below. all k (omega (arith, from)) (omega (arith, below)))

-- an item of a list whose items are changed
mapped_at : {X Y : Type 0} (change : X → Y) (xs : List X) (b : ℕ) (x : X) (d : Y) → slice_get xs b ≡ Some x → get_or (map change xs) b d ≡ change x
mapped_at change xs b x d here = get_or_from_slice_get (map change xs) b (change x) d (slice_get-map change xs b ∙ ap (option_map change) here)

buffer_is : (s : Submission) (b : ℕ) (given : GivenBuffer) → slice_get s.buffers.now b ≡ Some given → buffer_at (file_of s).buffers b ≡ entry_in given
unfolding buffer_at file_of
buffer_is s b given here = mapped_at entry_in s.buffers.now b given past_end here

content_is : (s : Submission) (b : ℕ) (given : GivenBuffer) → slice_get s.buffers.now b ≡ Some given → content_of (file_of s) b ≡ content_in given
unfolding content_of file_of
content_is s b given here = mapped_at content_in s.buffers.now b given [] here

-- by the buffer's kind: no rule is broken by its shader, and what is known of it is what is reported
none_by : (is_code : Bool) (content : List ℕ) → (is_code ≡ true → first_of (code_questions content) ≡ None)
    → first_of (shader_questions_in (if is_code then Code else Plain) (if is_code then content else [])) ≡ None
none_by true content none = none refl
none_by false content none = refl

report_by : (is_code : Bool) (content : List ℕ)
    → shader_for (if is_code then Code else Plain) (if is_code then content else []) ≡ (if is_code then Some (report_of (words_of content)) else None)
report_by true content = refl
report_by false content = refl

sound_by : (is_code : Bool) (shader : ShaderModel) → (is_code ≡ true → IsSoundShader shader) → IfSome (if is_code then Some shader else None) IsSoundShader
sound_by true shader sound = sound refl
sound_by false shader sound = tt

none_in : (given : GivenBuffer) → (given.kind ≡ 1 → IsBlockOf given.content.now given.known.now) → first_of (shader_questions_in (entry_in given).kind (content_in given)) ≡ None
unfolding entry_in content_in
none_in given block = none_by (given.kind == 1) given.content.now (λ is. (block (eqb-true given.kind 1 is)).none_broken)

report_is : (given : GivenBuffer) → shader_for (entry_in given).kind (content_in given) ≡ report_in given
unfolding entry_in content_in report_in
report_is given = report_by (given.kind == 1) given.content.now

none_at : (s : Submission) (b : ℕ) → AreBlocks s.buffers.now (length s.buffers.now) → b < length s.buffers.now → (given : GivenBuffer) → slice_get s.buffers.now b ≡ Some given
    → first_of (shader_stage (file_of s) b) ≡ None
unfolding shader_stage
none_at s b blocks inside given here =
    answered_none (shader_refused b) (shader_questions_in (buffer_at (file_of s).buffers b).kind (content_of (file_of s) b))
    (subst (λ e. first_of (shader_questions_in e.kind (content_of (file_of s) b)) ≡ None) (sym (buffer_is s b given here))
    (subst (λ c. first_of (shader_questions_in (entry_in given).kind c) ≡ None) (sym (content_is s b given here)) (none_in given (blocks b given inside here))))

shader_is : (s : Submission) (b : ℕ) (given : GivenBuffer) → slice_get s.buffers.now b ≡ Some given → shader_of (file_of s) b ≡ report_in given
unfolding shader_of
shader_is s b given here =
    ap (λ e. shader_for e.kind (content_of (file_of s) b)) (buffer_is s b given here)
    ∙ ap (shader_for (entry_in given).kind) (content_is s b given here)
    ∙ report_is given

as_many : (s : Submission) → length (file_of s).buffers ≡ length s.buffers.now
unfolding file_of
as_many s = length-map s.buffers.now entry_in

all_sound : (buffers : List GivenBuffer) → ((b : ℕ) (given : GivenBuffer) → slice_get buffers b ≡ Some given → given.kind ≡ 1 → IsBlockOf given.content.now given.known.now)
    → AllSound (map report_in buffers)
unfolding report_in
all_sound [] all = tt
all_sound (given ∷ buffers) all = (
  sound_by (given.kind == 1) (report_of (words_of given.content.now)) (λ is. (all 0 given refl (eqb-true given.kind 1 is)).sound),
  all_sound buffers (λ b. all (suc b)),
)

report_all : (s : Submission) → map report_in s.buffers.now ≡ shaders_of (file_of s)
unfolding shaders_up_to
report_all s =
    let buffers = s.buffers.now in
    let f = file_of s in
    let long : length (map report_in buffers) ≡ length f.buffers = length-map buffers report_in ∙ sym (as_many s) in
    ext_get_or None (map report_in buffers) (shaders_of f) (long ∙ sym (length-map-range_with_len (shader_of f) 0 (length f.buffers)))
    (λ b below.
    let inside : b < length buffers = let many = length-map buffers report_in in omega (arith, below, many) in
    let here = inside_at buffers b inside in
    mapped_at report_in buffers b here.0 None here.1
    ∙ sym (shader_is s b here.0 here.1)
    ∙ sym (get_or-map-range_with_len (shader_of f) 0 (length f.buffers) b b None (omega (arith, below, long)) (omega arith)))

blocks_checked : (s : Submission) → AreBlocks s.buffers.now (length s.buffers.now) → AreChecked (file_of s) (map report_in s.buffers.now)
unfolding shaders_stage
blocks_checked s blocks =
    let buffers = s.buffers.now in
    let f = file_of s in
    record {
      none = each_nones (shader_stage f) 0 (length f.buffers) (λ b from below.
          let inside : b < length buffers = let many = as_many s in omega (arith, below, many) in
          let here = inside_at buffers b inside in
          none_at s b blocks inside here.0 here.1);
      are = are_shaders f (map report_in buffers) (report_all s) (all_sound buffers (λ b given here. blocks b given (slice_get_within buffers b given here) here));
    }

-- What the blocks tell has the shape that the check asks.
shaped_by : (is_code : Bool) (read shader : ShaderModel) → (is_code ≡ true → IsShaped read) → (if is_code then Some read else None) ≡ Some shader → IsShaped shader
shaped_by true read shader shaped is = let same : read ≡ shader = cc is in subst IsShaped same (shaped refl)
shaped_by false read shader shaped is = cc

shaped_in : (given : GivenBuffer) (shader : ShaderModel) → (given.kind ≡ 1 → IsReadable given.known.now) → read_in given ≡ Some shader → IsShaped shader
unfolding read_in
shaped_in given shader readable is = shaped_by (given.kind == 1) (read_of given.known.now) shader (λ code. (readable (eqb-true given.kind 1 code)).shaped) is

pub are_shaped : (s : Submission) → AreReadable s.buffers.now (length s.buffers.now) → AreShaped (table_of (file_of s)) (map read_in s.buffers.now)
are_shaped s readable =
    let buffers = s.buffers.now in
    record {
      count = length-map buffers read_in ∙ sym (as_many s);
      each = λ number shader is.
          elim (cases_lt number (length buffers)) [
            | inl inside ↦
                let here = inside_at buffers number inside in
                shaped_in here.0 shader (readable number here.0 inside here.1) (sym (mapped_at read_in buffers number here.0 None here.1) ∙ is)
            | inr past ↦
                let nothing = get_or_past (map read_in buffers) number None (let many = length-map buffers read_in in omega (arith, past, many)) in
                cc (nothing, is)
          ];
    }

-- what holds where what was reported does
pub where_reported : {X : Type 0} {P : Type 0} (report : Option X) (Holds : X → Type 0) → Under report Holds P → IfSome report Holds → P
where_reported None Holds promise holds = promise
where_reported (Some report) Holds promise holds = promise holds

pub some_readable : {X : Type 0} (A : X → Type 0) {R : Type 0} (report : Option X) → IfSome report (λ x. A x × R) → is_some report ≡ true → R
some_readable A None both is = absurd (cc)
some_readable A (Some report) both is = both.1

-- Blocks that can be read are those of the shaders, where the caller owes no more, and so they tell what is reported of the shaders.
are_blocks : (buffers : List GivenBuffer) → AreKnown buffers → AreReadable buffers (length buffers) → AreBlocks buffers (length buffers)
are_blocks buffers known readable = λ b given inside here code. known b given here code (readable b given inside here code)

same_by : (is_code : Bool) (read report : ShaderModel) → (is_code ≡ true → read ≡ report) → (if is_code then Some read else None) ≡ (if is_code then Some report else None)
same_by true read report same = ap Some (same refl)
same_by false read report same = refl

read_reported : (given : GivenBuffer) → (given.kind ≡ 1 → IsBlockOf given.content.now given.known.now) → read_in given ≡ report_in given
unfolding read_in report_in
read_reported given block =
    same_by (given.kind == 1) (read_of given.known.now) (report_of (words_of given.content.now)) (λ is. made_read given.content.now given.known.now (block (eqb-true given.kind 1 is)))

all_reported : (buffers : List GivenBuffer) → ((b : ℕ) (given : GivenBuffer) → slice_get buffers b ≡ Some given → given.kind ≡ 1 → IsBlockOf given.content.now given.known.now)
    → map read_in buffers ≡ map report_in buffers
all_reported [] blocks = refl
all_reported (given ∷ buffers) blocks = cc (read_reported given (blocks 0 given refl), all_reported buffers (λ b. blocks (suc b)))

pub read_checked : (s : Submission) → AreKnown s.buffers.now → AreReadable s.buffers.now (length s.buffers.now) → AreChecked (file_of s) (map read_in s.buffers.now)
read_checked s known readable =
    let buffers = s.buffers.now in
    let blocks = are_blocks buffers known readable in
    subst (AreChecked (file_of s)) (sym (all_reported buffers (λ b given here. blocks b given (slice_get_within buffers b given here) here))) (blocks_checked s blocks)

-- the block of one buffer more
last_or_before : (buffers : List GivenBuffer) (b i : ℕ) (given other : GivenBuffer) (is_last : Bool) → (i == b) ≡ is_last → i < b + 1 → AreReadable buffers b
    → slice_get buffers b ≡ Some given → slice_get buffers i ≡ Some other → other.kind ≡ 1 → (given.kind ≡ 1 → IsReadable given.known.now) → IsReadable other.known.now
last_or_before buffers b i given other true last below before here there code readable =
    let same : i ≡ b = eqb-true i b last in
    let again : slice_get buffers b ≡ Some other = subst (λ k. slice_get buffers k ≡ Some other) same there in
    let is : given ≡ other = cc (here, again) in
    subst (λ g. IsReadable g.known.now) is (readable (ap (λ g. g.kind) is ∙ code))
last_or_before buffers b i given other false last below before here there code readable = before i other (grind (arith, last, below)) there code

pub readable_more : (buffers : List GivenBuffer) (b : ℕ) (given : GivenBuffer) → AreReadable buffers b → slice_get buffers b ≡ Some given
    → (given.kind ≡ 1 → IsReadable given.known.now) → AreReadable buffers (b + 1)
readable_more buffers b given before here readable = λ i other below there code. last_or_before buffers b i given other (i == b) refl below before here there code readable

-- So is what they tell of the strict check what it would find.
abbrev found_for : Kind → List ℕ → Findings
found_for kind content = record { fault = first_of (code_questions_in kind content); uses = uses_in kind content }

found_by : (is_code : Bool) (content : List ℕ) (read : Findings) → (is_code ≡ true → read ≡ findings_of (words_of content))
    → (if is_code then read else findings_nothing) ≡ found_for (if is_code then Code else Plain) (if is_code then content else [])
unfolding findings_of
found_by true content read is = is refl
found_by false content read is = refl

found_is : (given : GivenBuffer) → (given.kind ≡ 1 → IsBlockOf given.content.now given.known.now) → findings_by_block given ≡ found_for (entry_in given).kind (content_in given)
unfolding findings_by_block entry_in content_in
found_is given block =
    found_by (given.kind == 1) given.content.now (findings_in_block given.known.now) (λ is. made_findings given.content.now given.known.now (block (eqb-true given.kind 1 is)))

finding_is : (s : Submission) (b : ℕ) (given : GivenBuffer) → slice_get s.buffers.now b ≡ Some given → (given.kind ≡ 1 → IsBlockOf given.content.now given.known.now)
    → findings_at (file_of s) b ≡ findings_by_block given
unfolding findings_at uses_at
finding_is s b given here block =
    ap (λ e. found_for e.kind (content_of (file_of s) b)) (buffer_is s b given here)
    ∙ ap (found_for (entry_in given).kind) (content_is s b given here)
    ∙ sym (found_is given block)

pub given_count : (s : Submission) → length (map findings_by_block s.buffers.now) ≡ length (file_of s).buffers
given_count s = length-map s.buffers.now findings_by_block ∙ sym (as_many s)

pub findings_are : (s : Submission) → AreKnown s.buffers.now → AreReadable s.buffers.now (length s.buffers.now) → map findings_by_block s.buffers.now ≡ all_findings (file_of s)
unfolding findings_up_to
findings_are s known readable =
    let buffers = s.buffers.now in
    let f = file_of s in
    ext_get_or findings_nothing (map findings_by_block buffers) (all_findings f) (given_count s ∙ sym (length-map-range_with_len (findings_at f) 0 (length f.buffers)))
    (λ b below.
    let inside : b < length buffers = let many = length-map buffers findings_by_block in omega (arith, below, many) in
    let here = inside_at buffers b inside in
    mapped_at findings_by_block buffers b here.0 findings_nothing here.1
    ∙ sym (finding_is s b here.0 here.1 (are_blocks buffers known readable b here.0 inside here.1))
    ∙ sym (get_or-map-range_with_len (findings_at f) 0 (length f.buffers) b b findings_nothing (omega (arith, below, given_count s)) (omega arith)))
