-- What a person reads of notes: a line for each, in the order of their kinds.
use Rattle.std.specs.{Prelude.ℕ, Prelude.Bool, Prelude.false, Prelude.◌||◌, Prelude.List, Prelude.[], Prelude.◌∷◌, Prelude.◌++◌, Prelude.codes, Prelude.Option, Prelude.None, Prelude.Some, Prelude.is_some, Prelude.if◌then◌else◌, Prelude.decimal, List.list_any}
use Rattle.shader_notes.specs.{declared.note.Note.Note, declared.note.Notes.Notes}
use Rattle.shader_notes.specs.declared.note.Note.TheVariants.{LastUnmarked, MarkedEarly, LockedEarly, TileAtStart, EndWrites, Register14, DepthLast, ReadEarly, RotatedEarly}

unfoldable pub sentence_of : Note → List ℕ
sentence_of LastUnmarked = codes "the last switch has signal 2, where 6 would say that it is the last"
sentence_of MarkedEarly = codes "signal 6 says that a switch is the last, and another stands behind it"
sentence_of LockedEarly = codes "the tile buffer is accessed, or the scoreboard waited for, before the last switch"
sentence_of TileAtStart = codes "one of the first two instructions accesses the tile buffer"
sentence_of EndWrites = codes "the program end writes a register of file A or B"
sentence_of Register14 = codes "one of the last three instructions uses register 14 of file A or B"
sentence_of DepthLast = codes "the last instruction writes depth (44)"
sentence_of ReadEarly = codes "r4 is read in the two instructions behind a special function"
sentence_of RotatedEarly = codes "a vector is rotated directly behind a write of the rotated accumulator"

-- "note: SENTENCE (instruction 12)", in a line of its own where another stands before it
unfoldable pub line_text : Bool → Note → Option ℕ → List ℕ
line_text begun note None = []
line_text begun note (Some i) =
    (if begun then codes "\n" else []) ++ (codes "note: " ++ (sentence_of note ++ (codes " (instruction " ++ (decimal i ++ codes ")"))))

-- the lines of the notes that are there, in this order
unfoldable pub lines_text : Bool → List (Note × Option ℕ) → List ℕ
lines_text begun [] = []
lines_text begun (line ∷ later) = line_text begun line.0 line.1 ++ lines_text (begun || is_some line.1) later

-- the notes by their kinds
unfoldable pub lines_of : Notes → List (Note × Option ℕ)
lines_of n =
    (LastUnmarked, n.last_unmarked) ∷ (MarkedEarly, n.marked_early) ∷ (LockedEarly, n.locked_early) ∷ (TileAtStart, n.tile_at_start)
    ∷ (EndWrites, n.end_writes) ∷ (Register14, n.register_14) ∷ (DepthLast, n.depth_last) ∷ (ReadEarly, n.read_early)
    ∷ (RotatedEarly, n.rotated_early) ∷ []

unfoldable pub notes_text : Notes → List ℕ
notes_text n = lines_text false (lines_of n)

-- there is a note
unfoldable pub has_note : Notes → Bool
has_note n = list_any (λ (line : Note × Option ℕ). is_some line.1) (lines_of n)
