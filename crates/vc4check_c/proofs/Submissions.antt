-- What a submission's own numbers come to where no rule is broken by them.
use Rattle.std.proofs.Common.{◌≡◌, ◌<◌, ◌≤◌, ◌+◌, ◌-◌, ◌++◌, ℕ, zero, suc, List, [], ◌∷◌, length, map, take, refl, sym, ap, subst, Some, None, add-one, arith, ◌∙◌}
use Rattle.std.proofs.{lemmas.List.length-map, Math.Seq.take-suc, lemmas.Option.slice_get_within, lemmas.Option.get_or_from_slice_get}
use Rattle.std.specs.List.{slice_get, AllByRecursion}
use Rattle.field_words.specs.{declared.stop.Stop.Stop, declared.stop.Stop.TheVariants.Fault, declared.stop.Stop.TheVariants.NoMemory}
use Rattle.field_words.specs.{Questions.Question, Questions.Refuses, Questions.first_of, Questions.each, Sizes.most_code}
use Rattle.field_words.proofs.Questions.{each_stop, none_broken, first_none}
use Rattle.field_words.proofs.Nones.{front_none, rest_none, each_none}
use Rattle.buffer_table.specs.{declared.buffer.Kind.Kind, declared.buffer.Kind.TheVariants.Plain, declared.buffer.Kind.TheVariants.Code}
use Rattle.job_format.specs.{File.FitsShader, File.IsJobWellFormed, File.IsWellFormed}
use Rattle.vc4check_c.specs.Submission.{kind_in, content_in, entry_in, job_in, file_of, entry_questions, entry_questions_at, buffer_questions, entries_questions, job_questions, own_questions}
use Rattle.vc4check_c.specs.{declared.submission.GivenBuffer.GivenBuffer, declared.submission.Submission.Submission}

-- what stops at item b stops the whole, where those before it leave the decision to it
pub refused_at : {F : Type 0} (questions : ℕ → List (Question F)) (b n : ℕ) (stop : Stop F) → b < n
    → first_of (each questions b (n - b)) ≡ first_of (each questions 0 n) → Refuses (questions b) stop → Refuses (each questions 0 n) stop
refused_at questions b n (Fault fault) inside same here = sym same ∙ each_stop questions b n fault inside here
refused_at questions b n NoMemory inside same here = tt

-- an item inside
pub inside_at : {X : Type 0} (xs : List X) (b : ℕ) → b < length xs → (x : X) × (slice_get xs b ≡ Some x)
inside_at [] b inside = absurd (omega (arith, inside))
inside_at (x ∷ xs) zero inside = (x, refl)
inside_at (x ∷ xs) (suc b) inside = inside_at xs b (omega (arith, inside))

-- one item more
pub taken_more : {X : Type 0} (xs : List X) (b : ℕ) (x : X) → slice_get xs b ≡ Some x → take (b + 1) xs ≡ take b xs ++ (x ∷ [])
taken_more xs b x here =
    ap (λ n. take n xs) (add-one b)
    ∙ take-suc xs b x (slice_get_within xs b x here)
    ∙ ap (λ y. take b xs ++ (y ∷ [])) (get_or_from_slice_get xs b x x here)

shader_fits : (kind : Kind) (content : ℕ) → content ≤ most_code → FitsShader kind content
shader_fits Plain content few = tt
shader_fits Code content few = few

-- what a buffer in which no rule is broken comes to
entry_passes : (given : GivenBuffer) (b : ℕ) → first_of (entry_questions given b) ≡ None → length (content_in given) ≤ most_code
unfolding entry_questions
entry_passes given b none = let n = none_broken (entry_questions given b) none in grind (arith, n.1.0)

entry_fits : (given : GivenBuffer) → length (content_in given) ≤ most_code → FitsShader (entry_in given).kind (entry_in given).content
unfolding entry_in
entry_fits given few = shader_fits (kind_in given.kind) (length (content_in given)) few

all_fit : (buffers : List GivenBuffer) → ((b : ℕ) (given : GivenBuffer) → slice_get buffers b ≡ Some given → length (content_in given) ≤ most_code)
    → AllByRecursion (λ b. FitsShader b.kind b.content) (map entry_in buffers)
all_fit [] each = tt
all_fit (given ∷ buffers) each = (entry_fits given (each 0 given refl), all_fit buffers (λ b. each (suc b)))

as_long : (buffers : List GivenBuffer) → map length (map content_in buffers) ≡ map (λ b. b.content) (map entry_in buffers)
unfolding entry_in
as_long [] = refl
as_long (given ∷ buffers) = ap (λ l. length (content_in given) ∷ l) (as_long buffers)

entries_pass : (buffers : List GivenBuffer) → first_of (entries_questions buffers) ≡ None
    → (b : ℕ) (given : GivenBuffer) → slice_get buffers b ≡ Some given → length (content_in given) ≤ most_code
unfolding buffer_questions
entries_pass buffers none b given here =
    let inside = slice_get_within buffers b given here in
    let passes = each_none (buffer_questions buffers) 0 (length buffers) b none (omega arith) (omega (arith, inside)) in
    entry_passes given b (subst (λ g. first_of (entry_questions_at g b) ≡ None) here passes)

job_passes : (s : Submission) → first_of (job_questions s) ≡ None → IsJobWellFormed (job_in s)
unfolding job_questions job_in
job_passes s none =
    let n = none_broken (job_questions s) none in
    let rest = n.1.1.1.1 in
    record {
      handles = grind (arith, n.1.0);
      bin = grind (arith, n.1.1.0);
      records = grind (arith, n.1.1.1.0);
      declared = grind (arith, rest.0);
      uniforms = grind (arith, rest.1.0);
      whole_words = grind (arith, rest.1.1.0);
    }

-- where no rule of its own numbers is broken, no shader is too long
pub shaders_few : (s : Submission) → first_of (own_questions s) ≡ None
    → (b : ℕ) (given : GivenBuffer) → slice_get s.buffers.now b ≡ Some given → length (content_in given) ≤ most_code
unfolding own_questions
shaders_few s none =
    let buffers = s.buffers.now in
    let n = none_broken (own_questions s) none in
    let rest = first_none (entries_questions buffers ++ job_questions s) n.1 in
    entries_pass buffers (front_none (entries_questions buffers) (job_questions s) rest)

-- A submission of whose own numbers no rule is broken is a well-formed file.
pub well_formed : (s : Submission) → first_of (own_questions s) ≡ None → IsWellFormed (file_of s)
unfolding own_questions file_of
well_formed s none =
    let buffers = s.buffers.now in
    let n = none_broken (own_questions s) none in
    let rest = first_none (entries_questions buffers ++ job_questions s) n.1 in
    record {
      a_version = omega arith;
      known = omega arith;
      first = λ is. absurd (omega (arith, is));
      slots = λ is some. omega arith;
      buffers = let few = length-map buffers entry_in in grind (arith, n.0, few);
      code = all_fit buffers (shaders_few s none);
      contents = as_long buffers;
      some_job = omega arith;
      few_jobs = omega arith;
      jobs = (job_passes s (rest_none (entries_questions buffers) (job_questions s) rest), tt);
    }
