-- What `check` answers of an accepted file, and `gen` of an example.
use Rattle.std.proofs.Common.{◌≡◌, ◌≤◌, ℕ, List, length, get_or, None, refl, sym, ap, subst, ◌∙◌}
use Rattle.job_format.specs.{File.IsFileOf, Reading.file_at, Text.file_text}
use Rattle.job_format.proofs.Laws.{read_again}
use Rattle.relocation.specs.{declared.layout.Layout.Layout, declared.layout.Lengths.Lengths}
use Rattle.job_check.specs.{Emit.memory_of, Emit.all_lengths_of, Emit.IsEmitted}
use Rattle.job_check.proofs.Counted.{as_many_lengths, first_lengths}
use Rattle.dumper.specs.Example.{example_text}
use Rattle.example_job.specs.Example.{example}
use Rattle.std.specs.Prelude.{Bool}
use Rattle.commands.specs.{Answer.text_of, Asked.questions_by, Asked.refusal_by, Verdict.image_of, Verdict.IsVerdict, Verdict.IsCheckAnswer}

pub image_answers : (strict : Bool) (bytes text : List ℕ) → refusal_by strict bytes ≡ None → IsFileOf bytes (file_at bytes) → text ≡ image_of (file_at bytes)
    → IsCheckAnswer strict bytes 0 text
image_answers strict bytes text none is shown =
    subst (λ refusal. IsVerdict bytes (questions_by strict bytes) refusal (λ f out. out ≡ image_of f) 0 text) (sym none) (refl, shown, is)

-- The example has one job, of which the lengths are reported.
pub some_lengths : (number : ℕ) (bytes memory : List ℕ) (layouts : List Layout) (lengths : List Lengths) → IsFileOf bytes (example number)
    → IsEmitted (file_at bytes) memory layouts lengths → 1 ≤ length lengths
some_lengths number bytes memory layouts lengths is emitted =
    let same = (read_again bytes (example number) is).1 in
    let long : length lengths ≡ length (example number).jobs = ap length emitted.lengths_are ∙ as_many_lengths (file_at bytes) ∙ ap (λ f. length f.jobs) same in
    subst (λ n. 1 ≤ n) (sym long) is.well_formed.some_job

example_reported : (number : ℕ) (bytes memory : List ℕ) (layouts : List Layout) (lengths : List Lengths) (none : Lengths) → IsFileOf bytes (example number)
    → IsEmitted (file_at bytes) memory layouts lengths → example_text number (length bytes) memory (get_or lengths 0 none) ≡ text_of number (example number)
unfolding text_of
example_reported number bytes memory layouts lengths none is emitted =
    let f = example number in
    let same = (read_again bytes f is).1 in
    let one = get_or lengths 0 none in
    ap (λ b. example_text number (length b) memory one) is.text
    ∙ ap (λ m. example_text number (length (file_text f)) m one) (emitted.memory_is ∙ ap memory_of same)
    ∙ ap (example_text number (length (file_text f)) (memory_of f)) (ap (λ ls. get_or ls 0 none) (emitted.lengths_are ∙ ap all_lengths_of same) ∙ first_lengths f none is.well_formed.some_job)

pub example_answered : (number : ℕ) (bytes memory : List ℕ) (layouts : List Layout) (lengths : List Lengths) (none one : Lengths) (text : List ℕ) → IsFileOf bytes (example number)
    → IsEmitted (file_at bytes) memory layouts lengths → one ≡ get_or lengths 0 none → text ≡ example_text number (length bytes) memory one → text ≡ text_of number (example number)
example_answered number bytes memory layouts lengths none one text is emitted first report =
    report ∙ ap (example_text number (length bytes) memory) first ∙ example_reported number bytes memory layouts lengths none is emitted
