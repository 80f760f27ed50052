-- The text of `replay`: what the units did, step by step.
use Rattle.std.specs.Prelude.{ℕ, ◌==◌, ◌&&◌, List, ◌++◌, length, codes, if◌then◌else◌, decimal, flat_map}
use Rattle.field_words.specs.declared.access.Actor.TheVariants.{Binner, Renderer, Qpu, Tmu}
use Rattle.field_words.specs.declared.access.Actor.{Actor}
use Rattle.replay.specs.declared.trace.Ending.TheVariants.{Finished, Waiting, Spent}
use Rattle.replay.specs.{declared.trace.Ending.Ending, declared.trace.Trace.Trace, declared.trace.TraceLine.TraceLine}
use Rattle.dumper.specs.Text.{place_text}

-- a unit's name
unfoldable pub unit_text : Actor → List ℕ
unit_text Binner = codes "binner"
unit_text Renderer = codes "renderer"
unit_text (Qpu q) = codes "qpu" ++ decimal q
unit_text (Tmu q n) = codes "tmu" ++ (decimal q ++ (codes "." ++ decimal n))

-- from where to where a step's accesses reach, by absolute places; of a step without one, two lines
unfoldable pub reach_text : TraceLine → List ℕ
reach_text line =
    if line.reads == 0 && line.writes == 0 then codes "- -"
    else place_text line.low ++ (codes " " ++ place_text line.high)

-- how many reads and writes it did
unfoldable pub counts_text : TraceLine → List ℕ
counts_text line = codes " " ++ (decimal line.reads ++ (codes " " ++ (decimal line.writes ++ codes " ")))

-- the end of a step's line; in version 2 it says for which job the step was done
unfoldable pub step_end : (version job : ℕ) → List ℕ
step_end version job = if version == 1 then codes "\n" else codes " job " ++ (decimal job ++ codes "\n")

-- the line of a step: its unit, how many reads and writes it did, and how far they reach
unfoldable pub step_text : ℕ → TraceLine → List ℕ
step_text version line = unit_text line.unit ++ (counts_text line ++ (reach_text line ++ step_end version line.job))

abbrev pub ending_name : Ending → List ℕ
ending_name Finished = codes "finished"
ending_name Waiting = codes "waiting"
ending_name Spent = codes "steps spent"

-- how it ended, after so many steps
unfoldable pub ending_text : Ending → ℕ → List ℕ
ending_text ending steps = ending_name ending ++ (codes " after " ++ (decimal steps ++ codes "\n"))

-- what is printed of a run of a file of a version
unfoldable pub trace_text : ℕ → Trace → List ℕ
trace_text version trace = flat_map (step_text version) trace.lines.items ++ ending_text trace.ending (length trace.lines.items)
