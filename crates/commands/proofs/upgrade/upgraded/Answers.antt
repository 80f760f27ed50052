-- The file that was read is written with version 2.
use Rattle.std.proofs.Common.{sym, ap, subst, ◌∙◌}
use Rattle.field_words.specs.Questions.{Refuses}
use Rattle.field_words.proofs.Questions.{answered_none}
use Rattle.job_format.specs.{Faults.format_questions, File.file_upgraded, Text.file_text}
use Rattle.job_check.specs.Whole.{format_refused}
use Rattle.commands.specs.Upgrade.{format_rules}
use Rattle.commands.proofs.Versions.{stopped}
use Rattle.commands.proofs.upgrade.upgraded.Goals as goal

pub returns-in_ok-write_job-in-Ok-clause-answers : goal.returns-in_ok-write_job-in-Ok-clause-answers
returns-in_ok-write_job-in-Ok-clause-answers c = (
  answered_none format_refused (format_questions c.args.bytes.now) c.in-Ok.ensures.read.0,
  c.in_ok-write_job-in-Ok.ensures.text ∙ ap file_text (c.upgrade_file.ensures.same ∙ ap file_upgraded c.in-Ok.ensures.read.1),
)

pub returns-in-Err-clause-answers : goal.returns-in-Err-clause-answers
returns-in-Err-clause-answers c =
    subst (λ stop. Refuses (format_rules c.args.bytes.now) stop) (sym c.format_refusal.ensures) (stopped c.args.bytes.now c.in-Err.stop c.in-Err.ensures.read)
