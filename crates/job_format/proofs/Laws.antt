-- What the answer of the reader says of the bytes.
use Rattle.std.proofs.Common.{◌≡◌, ◌↔◌, ℕ, List, Result, Ok, Err, Some, None, IfOk, sym, ◌∙◌, subst}
use Rattle.field_words.specs.{declared.stop.Stop.Stop, declared.stop.Stop.TheVariants.Fault, declared.stop.Stop.TheVariants.NoMemory}
use Rattle.field_words.specs.{Words.IsBytes, Questions.first_of, Questions.Answers}
use Rattle.job_format.specs.{declared.rule.FormatFault.FormatFault, Model.FileModel, Faults.format_questions, File.IsFileOf, File.Reads}
use Rattle.job_format.specs.Reading.{file_at}
use Rattle.job_format.proofs.{Passing.passes_all, Fitting.is_file, Nones.format_none, Only.only_file}

-- A file's text holds the file, and has no fault of the format.
pub read_again : (bytes : List ℕ) (f : FileModel) → IsFileOf bytes f → (first_of (format_questions bytes) ≡ None) × (file_at bytes ≡ f)
read_again bytes f is = let only = only_file bytes f is in (format_none bytes only.0, only.1)

pub one_file : (bytes : List ℕ) (f g : FileModel) → IsFileOf bytes f → IsFileOf bytes g → f ≡ g
one_file bytes f g is_f is_g = sym (only_file bytes f is_f).1 ∙ (only_file bytes g is_g).1

-- Where no rule is broken the bytes are the file that they hold.
pub none_file : (bytes : List ℕ) → IsBytes bytes → first_of (format_questions bytes) ≡ None → IsFileOf bytes (file_at bytes)
none_file bytes fits none = is_file bytes fits (passes_all bytes none)

pub found_by : {X : Type 0} (view : X → FileModel) (bytes : List ℕ) → IsBytes bytes → (result : Result X (Stop FormatFault)) → Answers (format_questions bytes) (λ f. view f ≡ file_at bytes) result
    → IfOk result (λ f. IsFileOf bytes (view f))
found_by view bytes fits (Ok file) answers = subst (IsFileOf bytes) (sym answers.1) (none_file bytes fits answers.0)
found_by view bytes fits (Err stop) answers = tt

pub only_by : {X : Type 0} (view : X → FileModel) (bytes : List ℕ) (result : Result X (Stop FormatFault)) → Answers (format_questions bytes) (λ f. view f ≡ file_at bytes) result
    → (f : FileModel) → IsFileOf bytes f → Reads view f result
only_by view bytes (Ok file) answers f is = answers.1 ∙ (read_again bytes f is).1
only_by view bytes (Err (Fault fault)) answers f is = let none = (read_again bytes f is).0 in let wrong : Some fault ≡ None = sym answers ∙ none in cc
only_by view bytes (Err NoMemory) answers f is = tt

-- So no rule is broken exactly where a file belongs to the bytes.
pub exact_by : (bytes : List ℕ) → IsBytes bytes → (first_of (format_questions bytes) ≡ None) ↔ ((f : FileModel) × IsFileOf bytes f)
exact_by bytes fits = (λ none. (file_at bytes, none_file bytes fits none), λ file. (read_again bytes file.0 file.1).0)
