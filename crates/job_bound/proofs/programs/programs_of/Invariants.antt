use Rattle.job_format.specs.Parts.{parts_view}
use Rattle.job_bound.specs.Bound.{AreProgramsUpTo}
use Rattle.job_bound.proofs.programs.programs_of.Given as goal

-- the shaders of the buffers before this one
abbrev pub invariant-loop-b : goal.invariant-loop-b
invariant-loop-b l = AreProgramsUpTo (parts_view l.file) l.b l.programs.items
