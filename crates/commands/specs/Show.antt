-- What `show` and `make` answer to all of their input.
use Rattle.std.specs.Prelude.{◌≡◌, ◌⊎◌, ℕ, ◌-◌, ◌==◌, ◌&&◌, Bool, true, false, not, List, [], Ok, Err, Option, Some, None, if◌then◌else◌}
use Rattle.job_format.specs.{declared.rule.Place.Place, declared.rule.Refusal.Refusal, Places.offset_of}
use Rattle.job_make.specs.{declared.fault.MakeFault.MakeFault, Made.text_bytes}
use Rattle.job_text.specs.{declared.note.Piece.Piece, declared.view.Omitted.Omitted}
use Rattle.job_text.specs.{Draws.IsDrawsText, Draws.jobs_drawn, Shown.Look, Shown.text_shown}
use Rattle.refusal_facts.specs.{Cuts.size_of, Line.line_text, Line.line_of}
use Rattle.commands.specs.declared.show.Showing.{Showing}

-- a place is the end of a part that has bytes
unfoldable pub is_end : List ℕ → Place → Bool
is_end bytes place = not (place.at == 0) && (place.at == size_of bytes place.part place.index)

-- the offset of the byte that is marked: that of a place, or the last before an end
unfoldable pub marked_at : List ℕ → Place → ℕ
marked_at bytes place = if is_end bytes place then offset_of bytes place - 1 else offset_of bytes place

-- Where a rule refuses bytes, the line of its offset is marked, or a line of its own behind its part, and the line follows that
-- tells the refusal.
abbrev pub look_at : Omitted → List ℕ → Option Refusal → Look
look_at omitted bytes None = record { omitted = omitted; refused = None; behind = false; why = [] }
look_at omitted bytes (Some refusal) =
    record {
      omitted = omitted;
      refused = Some (marked_at bytes refusal.place);
      behind = is_end bytes refusal.place;
      why = line_text (line_of bytes refusal);
    }

-- the lines of bytes, or of their draws alone
abbrev pub IsShown : (draws : Bool) → Look → (bytes text : List ℕ) → Type 0
IsShown true look bytes text = IsDrawsText look bytes (jobs_drawn bytes) text
IsShown false look bytes text = (pieces : List Piece) × (text ≡ text_shown look bytes pieces)

-- Any bytes are answered with lines. Unless only draws are asked for, or contents are left out, all bytes stand on these in order, each
-- once, so that they are the bytes of that text. The mark is that of the first broken rule.
abbrev pub IsShowAnswer : Showing → Option Refusal → List ℕ → ℕ → List ℕ → Type 0
IsShowAnswer showing refusal bytes status text =
    (status ≡ 0) × (showing.draws ≡ false → showing.omitted.contents ≡ false → text_bytes text ≡ Ok bytes)
    × IsShown showing.draws (look_at showing.omitted bytes refusal) bytes text

-- A text without faults is answered with its bytes, any other with nothing, so that no text stands where bytes are expected.
abbrev pub IsMakeAnswer : List ℕ → ℕ → List ℕ → Type 0
IsMakeAnswer text status out =
    ((bytes : List ℕ) × (text_bytes text ≡ Ok bytes) × (status ≡ 0) × (out ≡ bytes))
    ⊎ ((fault : MakeFault) × (text_bytes text ≡ Err fault) × (status ≡ 1) × (out ≡ []))

-- What `make` answers to a text that `show` wrote, contents and all, is the bytes that `show` read.
abbrev pub MakesAgain : Type 0
MakesAgain = (showing : Showing) (refusal : Option Refusal) (bytes text : List ℕ) (shown_status : ℕ) → showing.draws ≡ false
    → showing.omitted.contents ≡ false → IsShowAnswer showing refusal bytes shown_status text
    → (out : List ℕ) (status : ℕ) → IsMakeAnswer text status out → (status ≡ 0) × (out ≡ bytes)
