-- Bytes of files that differ in places alone are refused alike.
use Rattle.std.proofs.Common.{◌≡◌, ℕ, List, ◌++◌, length, Option, Some, None, refl, sym, ◌∙◌, ap}
use Rattle.field_words.specs.Questions.{Question, first_of, with_answers}
use Rattle.field_words.proofs.Questions.{passes, stops}
use Rattle.job_format.specs.{declared.rule.Refusal.Refusal, Model.FileModel, Reading.file_at, Faults.format_questions}
use Rattle.job_check.specs.{Faults.table_stage, Faults.file_stages, Whole.format_refused, Whole.questions_within, Whole.refusal_of}
use Rattle.places_law.specs.Moved.{MovedAreAlike}
use Rattle.places_law.proofs.{Words.ReadAlike, Words.read_alike, Formats.format_same, Formats.offset_same, Formats.file_buffers, Formats.file_moved}
use Rattle.places_law.proofs.Files.{places_are_free}

-- rules behind the same front
behind_front : (front one two : List (Question Refusal)) → first_of one ≡ first_of two → (found : Option Refusal) → first_of front ≡ found
    → first_of (front ++ one) ≡ first_of (front ++ two)
behind_front front one two same None is = passes front one is ∙ (same ∙ sym (passes front two is))
behind_front front one two same (Some refusal) is = stops front one refusal is ∙ sym (stops front two refusal is)

files_alike : (bytes other : List ℕ) (n : ℕ) → ReadAlike bytes other n → first_of (table_stage (file_at bytes)) ≡ None → first_of (table_stage (file_at other)) ≡ None
    → first_of (file_stages (file_at other)) ≡ first_of (file_stages (file_at bytes))
files_alike bytes other n alike before behind =
    let same = file_moved bytes other n alike in
    ap (λ (f : FileModel). first_of (file_stages f)) (sym same)
    ∙ places_are_free (file_at bytes) (file_at other).buffers (file_buffers bytes other n alike) before
    (ap (λ (f : FileModel). first_of (table_stage f)) same ∙ behind)

alike_by : (bytes other : List ℕ) (n : ℕ) → ReadAlike bytes other n → first_of (table_stage (file_at bytes)) ≡ None → first_of (table_stage (file_at other)) ≡ None
    → refusal_of other ≡ refusal_of bytes
unfolding refusal_of questions_within
alike_by bytes other n alike before behind =
    let front = with_answers format_refused (format_questions bytes) in
    ap (λ questions. first_of (with_answers format_refused questions ++ file_stages (file_at other))) (sym (format_same bytes other n alike))
    ∙ behind_front front (file_stages (file_at other)) (file_stages (file_at bytes)) (files_alike bytes other n alike before behind) (first_of front) refl

pub moved_are_alike : MovedAreAlike
moved_are_alike bytes other are before behind =
    let alike = read_alike bytes other are in (
      alike_by bytes other (length are.buffers) alike before behind,
      λ place. sym (offset_same bytes other (length are.buffers) alike place),
    )
