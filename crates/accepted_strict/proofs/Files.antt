-- Runs of the jobs of a strict file.
use Rattle.field_words.proofs.Nones.{front_none, rest_none}
use Rattle.job_format.specs.Reading.{file_at}
use Rattle.job_check.specs.{Emit.memory_of, Whole.all_questions}
use Rattle.promises.specs.Holdings.{plain_of, file_rights, file_starts}
use Rattle.accepted_law.proofs.Joining.{files_begin_law, has_read_only}
use Rattle.job_safety.proofs.Safety.{bytes_spell, faultless}
use Rattle.strict_check.specs.{Stages.strict_stages, Whole.strict_questions, Whole.strict_refusal_of}
use Rattle.strict_law.proofs.Runs.{strict_jobs_obey_law, runs_take_oldest_law}
use Rattle.strict_law.proofs.RoleRuns.{runs_keep_roles_law}
use Rattle.strict_law.proofs.Lists.{strict_lists_obey_law}
use Rattle.strict_law.proofs.SlotRuns.{runs_have_room_law}
use Rattle.accepted_strict.specs.Files.{StrictFilesObey, StrictBytesObey}
use Rattle.accepted_strict.proofs.Jobs.{all_strict}

pub strict_files_obey_law : StrictFilesObey
strict_files_obey_law f file strict =
    let plain = (files_begin_law f file.well_formed file.fits file.none).0 in
    let all = all_strict f file strict in
    record {
      never_forbidden = λ m agree. strict_jobs_obey_law (file_rights f) (plain_of f) (memory_of f) m (file_starts f) plain (has_read_only f m agree) all;
      takes_oldest = λ m agree. record { every_run = runs_take_oldest_law (file_rights f) (plain_of f) (memory_of f) m (file_starts f) plain (has_read_only f m agree) all };
      keeps_roles = λ m agree. record { every_run = runs_keep_roles_law (file_rights f) (plain_of f) (memory_of f) m (file_starts f) plain (has_read_only f m agree) all };
      bins_as_allowed = λ m agree. strict_lists_obey_law (file_rights f) (plain_of f) (memory_of f) m (file_starts f) plain (has_read_only f m agree) all;
      have_room = λ m agree. record { every_run = runs_have_room_law (file_rights f) (plain_of f) (memory_of f) m (file_starts f) plain (has_read_only f m agree) all };
    }

pub strict_bytes_obey_law : StrictBytesObey
unfolding strict_refusal_of strict_questions
strict_bytes_obey_law bytes fits none =
    let front = front_none (all_questions bytes) (strict_stages (file_at bytes)) none in
    strict_files_obey_law (file_at bytes) (faultless bytes (bytes_spell bytes fits front) front) (rest_none (all_questions bytes) (strict_stages (file_at bytes)) none)
