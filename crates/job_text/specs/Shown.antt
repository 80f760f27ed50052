-- The text of a file: a line for each of its pieces, and where it is refused a mark and the reason.
use Rattle.std.specs.Prelude.{ℕ, ◌+◌, ◌&&◌, Bool, true, false, not, nat_le, nat_lt, List, [], ◌∷◌, ◌++◌, length, take, drop, codes, decimal, Option, Some, None, if◌then◌else◌}
use Rattle.hex.specs.Hex.{encode_lower}
use Rattle.script.specs.Lines.{before}
use Rattle.job_text.specs.{declared.note.Note.Note, declared.note.Note.TheVariants.Unread, declared.note.Note.TheVariants.Data, declared.note.Note.TheVariants.Instruction}
use Rattle.job_text.specs.{declared.note.Piece.Piece, declared.view.Omitted.Omitted, declared.view.View.View, Notes.note_text}
use Rattle.qpu_text.specs.Pieces.{if_so}

-- How a file is shown: what is left out, the offset of the byte at which it is refused, if it is, or behind which, and the reason.
pub record Look : Type 0 where
  pub omitted : Omitted
  pub refused : Option ℕ
  pub behind : Bool
  pub why : List ℕ

abbrev pub look_of : View → Look
look_of view = record { omitted = view.omitted; refused = view.refused; behind = view.behind; why = view.why.now }

-- the offset of the bytes, unless offsets are left out, and what they are, up to a line's end
unfoldable pub offset_text : Omitted → ℕ → List ℕ
offset_text omitted at = if omitted.offsets then [] else decimal at ++ codes " "

unfoldable pub remark : Omitted → ℕ → List ℕ → Note → List ℕ
remark omitted at bytes note = before 10 (offset_text omitted at ++ note_text note bytes)

-- whether the offset of a refusal lies in so many bytes from another on, and whether it lies in none of so many
unfoldable pub is_in : ℕ → ℕ → Option ℕ → Bool
is_in at count None = false
is_in at count (Some offset) = nat_le at offset && nat_lt offset (at + count)

unfoldable pub is_past : ℕ → Option ℕ → Bool
is_past count None = false
is_past count (Some offset) = nat_le count offset

-- a line of its own below the line of that offset
unfoldable pub reason_text : Bool → List ℕ → List ℕ
reason_text is why = if is then codes "# " ++ (before 10 why ++ codes "\n") else []

-- the lines below it: a mark where it is refused behind it, and the reason
unfoldable pub below_text : Bool → Look → List ℕ
below_text is look = reason_text (is && look.behind) (codes "<== refused here") ++ reason_text is look.why

-- a line's end: a mark where it is refused there, and what is below
unfoldable pub end_text : Bool → Look → List ℕ
end_text is look = if_so (is && not look.behind) (codes " <== refused here") ++ (codes "\n" ++ below_text is look)

-- bytes of a buffer's contents
abbrev pub is_content : Note → Bool
is_content (Data b) = true
is_content (Instruction b i uniform) = true
is_content note = false

-- A line of contents is left out where contents are, unless the file is refused there.
unfoldable pub is_left_out : Omitted → Note → Bool → Bool
is_left_out omitted note refused = omitted.contents && (is_content note && not refused)

-- the line of some bytes, and the reason where they are refused
unfoldable pub whole_line : Look → ℕ → List ℕ → Note → Bool → List ℕ
whole_line look at bytes note refused =
    encode_lower bytes ++ (codes "  # " ++ (remark look.omitted at bytes note ++ end_text refused look))

-- the line of some bytes; none where it is left out, or there is no byte
unfoldable pub line_text : Look → ℕ → List ℕ → Note → List ℕ
line_text look at [] note = []
line_text look at (byte ∷ bytes) note =
    if is_left_out look.omitted note (is_in at (length (byte ∷ bytes)) look.refused) then []
    else whole_line look at (byte ∷ bytes) note (is_in at (length (byte ∷ bytes)) look.refused)

-- the lines of bytes from an offset on, piece by piece
unfoldable pub lines_text : Look → ℕ → List ℕ → List Piece → List ℕ
lines_text look at bytes [] = line_text look at bytes Unread
lines_text look at bytes (piece ∷ pieces) =
    line_text look at (take piece.size bytes) piece.note
    ++ lines_text look (at + length (take piece.size bytes)) (drop piece.size bytes) pieces

-- The whole text. The reason stands at the end where the refusal's offset is no byte's.
unfoldable pub text_shown : Look → List ℕ → List Piece → List ℕ
text_shown look bytes pieces = lines_text look 0 bytes pieces ++ reason_text (is_past (length bytes) look.refused) look.why
