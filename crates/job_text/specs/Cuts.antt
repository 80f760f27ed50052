-- The lines so far. No part of what the crate claims.
use Rattle.std.specs.Prelude.{ℕ, ◌≡◌, ◌+◌, List, ◌++◌, length}
use Rattle.job_text.specs.{declared.note.Piece.Piece, Shown.Look, Shown.lines_text}

-- Lines of these bytes from an offset on stand behind a text, to which lines of whatever bytes come behind them can be added.
unfoldable pub AreLines : Look → (old new : List ℕ) → ℕ → List ℕ → Type 0
AreLines look old new at bytes =
    (rest : List ℕ) (later : List Piece) → (pieces : List Piece)
    × (new ++ lines_text look (at + length bytes) rest later ≡ old ++ lines_text look at (bytes ++ rest) pieces)

-- Lines of all bytes from an offset on, for some cut into pieces, stand behind a text.
abbrev pub AreAllLines : Look → (old new : List ℕ) → ℕ → List ℕ → Type 0
AreAllLines look old new at bytes = (pieces : List Piece) × (new ≡ old ++ lines_text look at bytes pieces)
