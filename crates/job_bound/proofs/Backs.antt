-- A branch that leads back, of a shader that a handle names: there is one exactly where that shader, and so the file, has a loop. An
-- instruction that may wait: there is one exactly where a program may.
use Rattle.std.proofs.Common.{◌≡◌, ℕ, zero, suc, ◌+◌, ◌*◌, ◌<◌, ◌≤◌, Bool, true, false, List, [], ◌∷◌, length, Option, Some, None, refl, arith, ◌∙◌}
use Rattle.std.specs.Prelude.{slice_index}
use Rattle.field_words.specs.Questions.{Question, Ask, first_of, each}
use Rattle.field_words.proofs.{Questions.passes, Questions.answered_none, Nones.each_none, Nones.none_answered}
use Rattle.shader_flow.specs.{Bounded.some_below, Flow.end_of, Flow.checked_of}
use Rattle.shader_flow.proofs.Bounded.{some_below_none, some_below_not}
use Rattle.job_format.specs.Model.{FileModel}
use Rattle.job_check.specs.{Jobs.job_of, Offsets.content_offset}
use Rattle.promises.specs.Finished.{may_wait, waits, job_waits, file_waits}
use Rattle.promises.specs.Bounded.{loops, shader_named, job_loops, file_loops}
use Rattle.promises.specs.Steps.{goes_back, has_loop}
use Rattle.strict_rules.specs.Rules.{waits_at, wait_question, wait_questions}
use Rattle.job_bound.specs.Back.{branch_question, branches, wait_places, sought_questions, handle_places, job_places, file_places, NoneWithoutLoop, NoneWhereServed}
use Rattle.job_bound.specs.declared.named.Sought.{Sought}
use Rattle.job_bound.specs.declared.named.Sought.TheVariants.{LeadsBack, MayWait}

all_none : {F : Type 0} → (questions : ℕ → List (Question F)) (i n : ℕ) → ((k : ℕ) → i ≤ k → k < i + n → first_of (questions k) ≡ None) → first_of (each questions i n) ≡ None
unfolding each
all_none questions i zero none = refl
all_none questions i (suc n) none =
    passes (questions i) (each questions (i + 1) n) (none i (omega arith) (omega arith))
    ∙ all_none questions (i + 1) n (λ k from below. none k (omega (arith, from)) (omega (arith, below)))

asked_none : (b : Bool) (answer : ℕ) → b ≡ false → first_of (Ask b answer ∷ []) ≡ None
asked_none true answer none = cc
asked_none false answer none = refl

none_asked : (b : Bool) (answer : ℕ) → first_of (Ask b answer ∷ []) ≡ None → b ≡ false
none_asked true answer none = cc
none_asked false answer none = refl

-- So it is with a test of the items.
none_from : {F : Type 0} → (questions : ℕ → List (Question F)) (test : ℕ → Bool) (n : ℕ) → ((k : ℕ) → k < n → test k ≡ false → first_of (questions k) ≡ None)
    → some_below n test ≡ false → first_of (each questions 0 n) ≡ None
none_from questions test n each_so none = all_none questions 0 n (λ k from below. each_so k (omega (arith, below)) (some_below_not n k test none (omega (arith, below))))

none_to : {F : Type 0} → (questions : ℕ → List (Question F)) (test : ℕ → Bool) (n : ℕ) → ((k : ℕ) → k < n → first_of (questions k) ≡ None → test k ≡ false)
    → first_of (each questions 0 n) ≡ None → some_below n test ≡ false
none_to questions test n each_so none = some_below_none n test (λ k below. each_so k below (each_none questions 0 n k none (omega arith) (omega (arith, below))))

-- a shader has such a place exactly where the test says so
record Tells (questions : Option (List ℕ) → ℕ → List (Question ℕ)) (test : Option (List ℕ) → Bool) : Type 0 where
  from : (shader : Option (List ℕ)) (place : ℕ) → test shader ≡ false → first_of (questions shader place) ≡ None
  to : (shader : Option (List ℕ)) (place : ℕ) → first_of (questions shader place) ≡ None → test shader ≡ false

back_from : (shader : Option (List ℕ)) (place : ℕ) → loops shader ≡ false → first_of (branches shader place) ≡ None
unfolding has_loop
back_from None place none = refl
back_from (Some code) place none =
    none_from (branch_question code place) (goes_back code) (end_of code) (λ k below. asked_none (goes_back code k) (place + 8 * k)) none

back_to : (shader : Option (List ℕ)) (place : ℕ) → first_of (branches shader place) ≡ None → loops shader ≡ false
unfolding has_loop
back_to None place none = refl
back_to (Some code) place none =
    none_to (branch_question code place) (goes_back code) (end_of code) (λ k below. none_asked (goes_back code k) (place + 8 * k)) none

wait_from : (shader : Option (List ℕ)) (place : ℕ) → waits shader ≡ false → first_of (wait_places shader place) ≡ None
unfolding may_wait wait_question wait_questions
wait_from None place none = refl
wait_from (Some code) place none =
    answered_none (λ i. place + 8 * i) (wait_questions code)
    (none_from (wait_question code) (λ i. waits_at code i) (checked_of code) (λ k below. asked_none (waits_at code k) k) none)

wait_to : (shader : Option (List ℕ)) (place : ℕ) → first_of (wait_places shader place) ≡ None → waits shader ≡ false
unfolding may_wait wait_question wait_questions
wait_to None place none = refl
wait_to (Some code) place none =
    none_to (wait_question code) (λ i. waits_at code i) (checked_of code) (λ k below. none_asked (waits_at code k) k)
    (none_answered (λ i. place + 8 * i) (wait_questions code) none)

abbrev tested : Sought → Option (List ℕ) → Bool
tested LeadsBack shader = loops shader
tested MayWait shader = waits shader

tells : (sought : Sought) → Tells (sought_questions sought) (tested sought)
tells LeadsBack = record { from = back_from; to = back_to }
tells MayWait = record { from = wait_from; to = wait_to }

-- a handle, a job, and the file
handle_from : (sought : Sought) (f : FileModel) (j i : ℕ) → tested sought (shader_named f j i) ≡ false → first_of (handle_places sought f j i) ≡ None
unfolding handle_places
handle_from sought f j i none = (tells sought).from (shader_named f j i) (content_offset f (slice_index (job_of f j).handles i)) none

handle_to : (sought : Sought) (f : FileModel) (j i : ℕ) → first_of (handle_places sought f j i) ≡ None → tested sought (shader_named f j i) ≡ false
unfolding handle_places
handle_to sought f j i none = (tells sought).to (shader_named f j i) (content_offset f (slice_index (job_of f j).handles i)) none

-- one of a job's shaders has it, and one of the file's
abbrev job_tested : Sought → FileModel → ℕ → Bool
job_tested sought f j = some_below (length (job_of f j).handles) (λ i. tested sought (shader_named f j i))

abbrev file_tested : Sought → FileModel → Bool
file_tested sought f = some_below (length f.jobs) (λ j. job_tested sought f j)

job_from : (sought : Sought) (f : FileModel) (j : ℕ) → job_tested sought f j ≡ false → first_of (job_places sought f j) ≡ None
unfolding job_places
job_from sought f j none = none_from (handle_places sought f j) (λ i. tested sought (shader_named f j i)) (length (job_of f j).handles) (λ k below. handle_from sought f j k) none

job_to : (sought : Sought) (f : FileModel) (j : ℕ) → first_of (job_places sought f j) ≡ None → job_tested sought f j ≡ false
unfolding job_places
job_to sought f j none = none_to (handle_places sought f j) (λ i. tested sought (shader_named f j i)) (length (job_of f j).handles) (λ k below. handle_to sought f j k) none

file_from : (sought : Sought) (f : FileModel) → file_tested sought f ≡ false → first_of (file_places sought f) ≡ None
unfolding file_places
file_from sought f none = none_from (job_places sought f) (λ j. job_tested sought f j) (length f.jobs) (λ k below. job_from sought f k) none

file_to : (sought : Sought) (f : FileModel) → first_of (file_places sought f) ≡ None → file_tested sought f ≡ false
unfolding file_places
file_to sought f none = none_to (job_places sought f) (λ j. job_tested sought f j) (length f.jobs) (λ k below. job_to sought f k) none

pub none_without_loop : NoneWithoutLoop
unfolding file_loops job_loops
none_without_loop f = (file_to LeadsBack f, file_from LeadsBack f)

pub none_where_served : NoneWhereServed
unfolding file_waits job_waits
none_where_served f = (file_to MayWait f, file_from MayWait f)
