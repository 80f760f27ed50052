-- The jobs of an accepted file may run over each memory that is prepared for them.
use Rattle.field_words.specs.Questions.{with_answers}
use Rattle.field_words.proofs.Nones.{front_none, rest_none, none_answered}
use Rattle.job_format.specs.{Faults.format_questions, Reading.file_at}
use Rattle.job_format.proofs.Laws.{none_file}
use Rattle.job_check.specs.{Faults.place_stages, Whole.format_refused, Whole.questions_within}
use Rattle.accepted_law.proofs.{Joining.files_sound_law, Prepared.prepared_memories_agree_law}
use Rattle.job_safety.specs.Prepared.{PreparedJobsMayRun, PreparedBytesMayRun}

pub prepared_jobs_law : PreparedJobsMayRun
prepared_jobs_law f well_formed fits none m prepared =
    files_sound_law f well_formed fits none m
    (prepared_memories_agree_law f (record { well_formed = well_formed; fits = fits; none = none }) m prepared)

pub prepared_bytes_law : PreparedBytesMayRun
unfolding questions_within
prepared_bytes_law bytes fits none m prepared =
    let format = with_answers format_refused (format_questions bytes) in
    let stages = place_stages (file_at bytes) in
    let is = none_file bytes fits (none_answered format_refused (format_questions bytes) (front_none format stages none)) in
    prepared_jobs_law (file_at bytes) is.well_formed is.fits (rest_none format stages none) m prepared
