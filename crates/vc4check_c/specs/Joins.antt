-- What a driver owes when it hands a submission in beside the jobs that are live, and that its job may join them then.
use Rattle.std.specs.Prelude.{ℕ, ◌∷◌, ◌++◌, List}
use Rattle.machine_plan.specs.Regions.{Inside, IsOutside, rights_of as rights_of_number}
use Rattle.day_law.specs.Day.{MayHappen}
use Rattle.promises.specs.Days.{Day, Job, Admits, OnlyReads, rights_in}
use Rattle.vc4check_c.specs.declared.{submission.Submission.Submission, submit.Verdict.Verdict}
use Rattle.vc4check_c.specs.Safe.{data_buffers, code_buffers, slot_of, lists_of, rights_of, start_of, IsReady}

-- On this day the memory is ready for the job. No live job may write its lists and its code, and it may write nothing that a live one may
-- only read.
pub record MayHandIn (s : Submission) (window : List ℕ) (answer : Verdict) (d : Day) : Type 0 where
  pub ready : IsReady s window answer d.state.memory
  pub reads : (p : ℕ) → Inside (lists_of answer.lists ++ code_buffers s) p 1 → IsOutside (rights_in d.jobs) p
  pub writes : (p : ℕ) → Inside (slot_of answer.lists ∷ data_buffers s) p 1 → (i : ℕ) → OnlyReads (rights_of_number (rights_in d.jobs) i) p → ⊥

-- the job, as one that is to be admitted
abbrev pub job_of : Submission → Verdict → Job
job_of s answer = record { start = start_of answer.lists; rights = rights_of s answer.lists; plain = data_buffers s }

-- On each such day it may be admitted; and so the machine stays safe for ever, as `days_are_safe` (day_law) says.
abbrev pub MayJoin : Submission → (window : List ℕ) → Verdict → Type 0
MayJoin s window answer = (d : Day) → MayHandIn s window answer d → MayHappen d (Admits (job_of s answer))
