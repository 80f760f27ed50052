-- The branches that lead back, and the instructions that may wait for a request that isn't there, of the shaders that handles name, by where
-- they stand in the file.
use Rattle.std.specs.Prelude.{◌≡◌, ◌↔◌, ℕ, ◌+◌, ◌*◌, false, List, [], ◌∷◌, length, Option, Some, None, slice_index}
use Rattle.field_words.specs.Questions.{Question, Ask, first_of, each, with_answers}
use Rattle.shader_flow.specs.Flow.{end_of}
use Rattle.job_format.specs.Model.{FileModel}
use Rattle.job_check.specs.{Jobs.job_of, Offsets.content_offset}
use Rattle.promises.specs.{Steps.goes_back, Bounded.shader_named, Bounded.file_loops, Finished.file_waits}
use Rattle.strict_rules.specs.Rules.{wait_questions}
use Rattle.job_bound.specs.declared.named.Sought.{Sought}
use Rattle.job_bound.specs.declared.named.Sought.TheVariants.{LeadsBack, MayWait}

-- Does instruction i of a shader branch back? It is answered by its place in the file, where the shader begins at this one.
abbrev pub branch_question : List ℕ → ℕ → ℕ → List (Question ℕ)
branch_question code place i = Ask (goes_back code i) (place + 8 * i) ∷ []

-- these questions of each instruction before the program end; there are none where there is no shader
abbrev pub branches : Option (List ℕ) → ℕ → List (Question ℕ)
branches None place = []
branches (Some code) place = each (branch_question code place) 0 (end_of code)

-- The instructions at which a program may wait for a request that isn't there, or for room, by their places.
abbrev pub wait_places : Option (List ℕ) → ℕ → List (Question ℕ)
wait_places None place = []
wait_places (Some code) place = with_answers (λ i. place + 8 * i) (wait_questions code)

-- what is sought in a shader
abbrev pub sought_questions : Sought → Option (List ℕ) → ℕ → List (Question ℕ)
sought_questions LeadsBack shader place = branches shader place
sought_questions MayWait shader place = wait_places shader place

-- in that which handle i of job j names; in those of job j, handle by handle; and of all jobs
unfoldable pub handle_places : Sought → FileModel → ℕ → ℕ → List (Question ℕ)
handle_places sought f j i = sought_questions sought (shader_named f j i) (content_offset f (slice_index (job_of f j).handles i))

unfoldable pub job_places : Sought → FileModel → ℕ → List (Question ℕ)
job_places sought f j = each (handle_places sought f j) 0 (length (job_of f j).handles)

unfoldable pub file_places : Sought → FileModel → List (Question ℕ)
file_places sought f = each (job_places sought f) 0 (length f.jobs)

-- Where in the file the first of them stands, by job, by handle and by instruction.
abbrev pub first_place : Sought → FileModel → Option ℕ
first_place sought f = first_of (file_places sought f)

-- There is no branch back exactly where the jobs of the file have no loop.
abbrev pub NoneWithoutLoop : Type 0
NoneWithoutLoop = (f : FileModel) → (first_place LeadsBack f ≡ None) ↔ (file_loops f ≡ false)

-- There is no instruction that may wait so exactly where no program of the jobs may.
abbrev pub NoneWhereServed : Type 0
NoneWhereServed = (f : FileModel) → (first_place MayWait f ≡ None) ↔ (file_waits f ≡ false)
