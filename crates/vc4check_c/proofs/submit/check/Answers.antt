-- Where no rule of the submission's own numbers is broken, those of its file decide.
use Rattle.field_words.proofs.Questions.{answers_later}
use Rattle.job_check.specs.Region.{IsRegion}
use Rattle.vc4check_c.specs.{Hardware.hardware_stages, Submission.file_of, Submission.own_questions}
use Rattle.vc4check_c.proofs.submit.check.Goals as goal

pub returns-clause-answers : goal.returns-clause-answers
returns-clause-answers c = λ known.
    let s = c.args.given.now in
    answers_later (own_questions s) (hardware_stages (file_of s)) (IsRegion (file_of s)) c.check_file.result c.in_ok-parts.ensures.0 (c.check_file.ensures.answers known)
