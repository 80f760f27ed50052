-- A file and the same file as version 2 are alike in all but the version and the rules of the format: no other rule asks the version,
-- and no entry moves.
use Rattle.std.specs.Prelude.{◌≡◌, ℕ, List, None}
use Rattle.field_words.specs.{Words.IsBytes, Questions.first_of}
use Rattle.job_format.specs.{Faults.format_questions, File.file_upgraded, Model.FileModel, Reading.file_at, Text.file_text}
use Rattle.job_check.specs.{Jobs.layouts_of, Faults.file_stages, Emit.memory_of, Emit.all_lengths_of, Whole.refusal_of}

-- Both have the same rules with the same places in the file, and where none is broken the same memory, layouts and lengths.
pub record AreAlike (f g : FileModel) : Type 0 where
  pub rules : file_stages f ≡ file_stages g
  pub memory : memory_of f ≡ memory_of g
  pub layouts : layouts_of f ≡ layouts_of g
  pub lengths : all_lengths_of f ≡ all_lengths_of g

-- So the text of the upgraded file is accepted where the file is, and else refused by the same rule at the same place.
pub record UpgradeChangesNothing : Type 0 where
  pub alike : (f : FileModel) → AreAlike (file_upgraded f) f
  pub refusal : (bytes : List ℕ) → IsBytes bytes → first_of (format_questions bytes) ≡ None → refusal_of (file_text (file_upgraded (file_at bytes))) ≡ refusal_of bytes
