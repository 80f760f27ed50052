use Rattle.std.proofs.Common.{◌≡◌, ◌≤◌, ◌+◌, length}
use Rattle.qpu_asm.specs.Place.{stray_from}
use Rattle.qpu_asm.proofs.place.stray_place.Given as goal

abbrev pub invariant-loop-byte : goal.invariant-loop-byte
invariant-loop-byte l = (stray_from l.column l.rest ≡ stray_from 1 l.fn.line) × (l.column + length l.rest ≤ length l.fn.line + 1)

abbrev pub decreases-loop-byte : goal.decreases-loop-byte
decreases-loop-byte l = length l.rest
