use Rattle.std.proofs.Common.{◌≡◌, ◌-◌, length}
use Rattle.field_words.specs.Questions.{first_of, each}
use Rattle.job_format.specs.Parts.{parts_view}
use Rattle.vc4check_c.specs.Hardware.{slot_stage}
use Rattle.vc4check_c.proofs.hardware.slots_stage.Given as goal

-- no slot of a job before this one crosses
abbrev pub invariant-loop-number : goal.invariant-loop-number
invariant-loop-number l =
    first_of (each (slot_stage (parts_view l.file)) l.number (length l.file.jobs.items - l.number)) ≡ first_of (each (slot_stage (parts_view l.file)) 0 (length l.file.jobs.items))
