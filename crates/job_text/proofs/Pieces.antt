-- Lines behind others.
use Rattle.std.proofs.Common.{◌≡◌, ℕ, ◌+◌, List, [], ◌∷◌, ◌++◌, length, length-append, sym, subst, ◌∙◌, ap, append_assoc, append-nil, arith}
use Rattle.std.proofs.Math.Seq.{take-append_seam, drop-append_seam}
use Rattle.job_text.specs.{declared.note.Note.Note, Shown.Look, Shown.line_text, Shown.lines_text, Cuts.AreLines, Cuts.AreAllLines}

pub line_lines : (look : Look) (old new front : List ℕ) (at : ℕ) (note : Note) → new ≡ old ++ line_text look at front note
    → AreLines look old new at front
unfolding AreLines lines_text
line_lines look old new front at note is = λ rest later. (
  record { size = length front; note = note } ∷ later,
  rw (is, take-append_seam front rest, drop-append_seam front rest)
      (append_assoc old (line_text look at front note) (lines_text look (at + length front) rest later)),
)

pub no_lines : (look : Look) (old bytes : List ℕ) (at : ℕ) → length bytes ≡ 0 → AreLines look old old at bytes
unfolding AreLines
no_lines look old [] at none = λ rest later. (later, let place : at + 0 ≡ at = omega arith in ap (λ n. old ++ lines_text look n rest later) place)
no_lines look old (byte ∷ bytes) at none = absurd (omega arith)

more_lines : (look : Look) (old mid new front back : List ℕ) (at : ℕ) → AreLines look old mid at front
    → AreLines look mid new (at + length front) back → AreLines look old new at (front ++ back)
unfolding AreLines
more_lines look old mid new front back at before behind = λ rest later.
    let second = behind rest later in
    let first = before (back ++ rest) second.0 in
    let place : at + length (front ++ back) ≡ (at + length front) + length back = omega (arith, length-append front back) in (
      first.0,
      ap (λ n. new ++ lines_text look n rest later) place
          ∙ (second.1 ∙ (first.1 ∙ ap (λ l. old ++ lines_text look at l first.0) (sym (append_assoc front back rest)))),
    )

-- lines of the front of what is left
pub lines_step : (look : Look) (old pen mid all rest front back : List ℕ) (start at : ℕ) → front ++ back ≡ rest → AreLines look pen mid at front
    → ((new : List ℕ) → AreLines look pen new at rest → AreLines look old new start all)
    → (new : List ℕ) → AreLines look mid new (at + length front) back → AreLines look old new start all
lines_step look old pen mid all rest front back start at split here later = λ new more.
    later new (subst (λ l. AreLines look pen new at l) split (more_lines look pen mid new front back at here more))

-- lines of all bytes
pub whole_lines : (look : Look) (old new bytes : List ℕ) (at : ℕ) → AreLines look old new at bytes → AreAllLines look old new at bytes
unfolding AreLines lines_text line_text
whole_lines look old new bytes at are =
    let all = are [] [] in (all.0, sym (append-nil new) ∙ (all.1 ∙ ap (λ l. old ++ lines_text look at l all.0) (append-nil bytes)))
