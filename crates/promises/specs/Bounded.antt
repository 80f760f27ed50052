-- Jobs without loops end: no run of the jobs of an accepted file has more steps than the file says, and so many more for each step in which
-- a renderer stays at an item.
use Rattle.std.specs.Prelude.{◌≤◌, ℕ, ◌+◌, ◌*◌, List, zero, suc, Bool, false, max, length, Option, Some, None, ◌≡◌}
use Rattle.std.specs.List.{range_with_len, sum_by}
use Rattle.field_words.specs.{declared.access.Access.Access, Words.IsBytes}
use Rattle.buffer_table.specs.Handles.{code_of}
use Rattle.bin_list.specs.Packets.{packets}
use Rattle.render_list.specs.Text.{render_slots}
use Rattle.shader_flow.specs.Bounded.{some_below}
use Rattle.job_format.specs.{Model.FileModel, Reading.file_at}
use Rattle.job_check.specs.Jobs.{job_of, bin_list_of, places_in, grid_of, slot_of}
use Rattle.job_check.specs.{Shaders.table_of, Shaders.content_of, Shaders.words_of, Emit.memory_of, Whole.refusal_of}
use Rattle.machine_plan.specs.{Others.Happening, Others.OthersRun, Regions.Rights, Regions.Agree}
use Rattle.machine.specs.{State.Units, State.State, State.units_start, Step.Event, Step.ready, Step.turn}
use Rattle.promises.specs.Steps.{step_count, stay_count, has_loop, program_steps, job_steps}
use Rattle.promises.specs.Holdings.{fixed_of, file_rights, file_starts}

-- Each run from these units over this memory, whichever unit steps next, whatever words answer it, and also while others write, has at
-- most n steps, and w + 1 more for each in which the renderer stays at an item.
pub record Ends (rights : List Rights) (memory : List ℕ) (start : Units) (w n : ℕ) : Type 0 where
  pub every_run : (happenings : List (Happening Event)) (found : List Access) (t : State)
      → OthersRun ready turn rights (record { memory = memory; units = start }) happenings found t
      → step_count happenings ≤ n + (1 + w) * stay_count (record { memory = memory; units = start }) happenings

-- the shader that handle i of job j names, where it names a Code buffer
abbrev pub shader_in : FileModel → Option ℕ → Option (List ℕ)
shader_in f None = None
shader_in f (Some number) = Some (words_of (content_of f number))

unfoldable pub shader_named : FileModel → ℕ → ℕ → Option (List ℕ)
shader_named f j i = shader_in f (code_of (table_of f) (job_of f j).handles i)

-- whether it has a loop, and the most steps that a program of it takes
abbrev pub loops : Option (List ℕ) → Bool
loops None = false
loops (Some code) = has_loop code

abbrev pub steps : Option (List ℕ) → ℕ
steps None = 0
steps (Some code) = program_steps code

-- a shader that a handle of job j names has a loop; and one of some job
unfoldable pub job_loops : FileModel → ℕ → Bool
job_loops f j = some_below (length (job_of f j).handles) (λ i. loops (shader_named f j i))

unfoldable pub file_loops : FileModel → Bool
file_loops f = some_below (length f.jobs) (λ j. job_loops f j)

-- the greatest of the numbers with an index below n
unfoldable pub greatest_below : ℕ → (ℕ → ℕ) → ℕ
greatest_below zero number = 0
greatest_below (suc n) number = max (greatest_below n number) (number n)

-- the most steps that a program of such a shader of job j takes; and of any job
unfoldable pub job_longest : FileModel → ℕ → ℕ
job_longest f j = greatest_below (length (job_of f j).handles) (λ i. steps (shader_named f j i))

unfoldable pub longest_of : FileModel → ℕ
longest_of f = greatest_below (length f.jobs) (λ j. job_longest f j)

-- The most steps of job j, by its emitted lists; and of all jobs together.
unfoldable pub job_bound : FileModel → ℕ → ℕ
job_bound f j =
    job_steps (longest_of f) (packets (bin_list_of f j)) (render_slots (job_of f j).frame (places_in f j) (grid_of f j) (slot_of f j))

unfoldable pub bound_of : FileModel → ℕ
bound_of f = sum_by (job_bound f) (range_with_len 0 (length f.jobs))

-- Where no shader has a loop: from each memory of the emitted one's length that has the emitted lists and the code of all jobs as the
-- emitted one, also while others write all else, a run has at most `bound_of f` steps, and `longest_of f + 1` more for each step in which a
-- renderer stays at an item.
abbrev pub FileEnds : FileModel → Type 0
FileEnds f =
    file_loops f ≡ false → (m : List ℕ) → Agree (fixed_of f) (memory_of f) m
    → Ends (file_rights f) m (units_start (file_starts f)) (longest_of f) (bound_of f)

-- Whatever bytes they are: where no rule is broken by them, and no shader that a handle of their jobs names branches back, no run of their
-- jobs has more steps than their file says, and so many more for each step in which a renderer stays at an item.
abbrev pub AcceptedEnd : Type 0
AcceptedEnd = (bytes : List ℕ) → IsBytes bytes → refusal_of bytes ≡ None → FileEnds (file_at bytes)
