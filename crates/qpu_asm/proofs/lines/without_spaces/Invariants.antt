use Rattle.std.proofs.Common.{◌≡◌, ℕ, ◌+◌, drop}
use Rattle.qpu_asm.specs.Place.{placed_words}
use Rattle.qpu_asm.proofs.lines.without_spaces.Given as goal

abbrev pub invariant-loop-at : goal.invariant-loop-at
invariant-loop-at l = (column : ℕ) → placed_words (column + l.at) (drop l.at l.line) ≡ placed_words column l.fn.line
