-- The rules of the format, and what `upgrade` keeps.
use Rattle.std.specs.Prelude.{◌≡◌, ℕ, List, None}
use Rattle.field_words.specs.{Words.IsBytes, Questions.Question, Questions.first_of, Questions.with_answers}
use Rattle.job_format.specs.{declared.rule.Refusal.Refusal, Faults.format_questions, File.IsFileOf, File.file_upgraded, Reading.file_at, Text.file_text}
use Rattle.job_check.specs.{Emit.memory_of, Emit.all_lengths_of, Jobs.layouts_of, Whole.format_refused, Whole.refusal_of}
use Rattle.promises.specs.Holdings.{plain_of, fixed_of, file_rights, file_starts}

-- the rules of the format, as the program names them
abbrev pub format_rules : List ℕ → List (Question Refusal)
format_rules bytes = with_answers format_refused (format_questions bytes)

-- A file as version 2 is what its text spells. It is refused by the same rule at the same place, or it is accepted with the same
-- memory, with the lists of each job at the same places and as long; each job may reach the same and begins in the same places, and the
-- same bytes are such that no job may write them.
pub record IsUpgradedAlike (bytes : List ℕ) : Type 0 where
  pub spells : IsFileOf (file_text (file_upgraded (file_at bytes))) (file_upgraded (file_at bytes))
  pub refusal : refusal_of (file_text (file_upgraded (file_at bytes))) ≡ refusal_of bytes
  pub memory : memory_of (file_upgraded (file_at bytes)) ≡ memory_of (file_at bytes)
  pub layouts : layouts_of (file_upgraded (file_at bytes)) ≡ layouts_of (file_at bytes)
  pub lengths : all_lengths_of (file_upgraded (file_at bytes)) ≡ all_lengths_of (file_at bytes)
  pub rights : file_rights (file_upgraded (file_at bytes)) ≡ file_rights (file_at bytes)
  pub plains : (j : ℕ) → plain_of (file_upgraded (file_at bytes)) j ≡ plain_of (file_at bytes) j
  pub starts : file_starts (file_upgraded (file_at bytes)) ≡ file_starts (file_at bytes)
  pub fixed : fixed_of (file_upgraded (file_at bytes)) ≡ fixed_of (file_at bytes)

-- So it is of all bytes in which no rule of the format is broken.
abbrev pub UpgradeKeepsAll : Type 0
UpgradeKeepsAll = (bytes : List ℕ) → IsBytes bytes → first_of (format_questions bytes) ≡ None → IsUpgradedAlike bytes
