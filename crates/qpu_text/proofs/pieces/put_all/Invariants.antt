use Rattle.std.proofs.Common.{◌≡◌, ◌++◌, take}
use Rattle.qpu_text.specs.Pieces.{pieces_joined}
use Rattle.qpu_text.proofs.pieces.put_all.Given as goal

abbrev pub invariant-loop-piece : goal.invariant-loop-piece
invariant-loop-piece l = l.out.items ≡ l.fn.out.items ++ pieces_joined (take l.piece-index l.pieces)
