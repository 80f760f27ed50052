use Rattle.std.proofs.Common.{◌≡◌, ◌≤◌, [], length}
use Rattle.std.specs.Prelude.{slice_index_or}
use Rattle.script.specs.Lines.{lines_of}
use Rattle.qpu_asm.specs.Place.{line_at}
use Rattle.qpu_asm.proofs.place.line_at.Given as goal

abbrev pub invariant-loop-rest : goal.invariant-loop-rest
invariant-loop-rest l = (slice_index_or (lines_of l.rest) l.left [] ≡ line_at l.fn.text l.fn.number) × (length l.rest ≤ length l.fn.text)

abbrev pub decreases-loop-rest : goal.decreases-loop-rest
decreases-loop-rest l = length l.rest
