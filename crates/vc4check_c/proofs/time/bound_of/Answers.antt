-- Where no rule of a submission is broken, it is a faultless file.
use Rattle.std.proofs.Common.{◌≡◌, None, sym, subst, ◌∙◌}
use Rattle.field_words.specs.Questions.{first_of}
use Rattle.field_words.proofs.Questions.{passes}
use Rattle.job_check.specs.Faults.{place_stages}
use Rattle.promises.specs.Prepared.{IsFaultless}
use Rattle.vc4check_c.specs.Submission.{file_of, own_questions, submission_questions}
use Rattle.vc4check_c.proofs.MayRun.{faultless}
use Rattle.vc4check_c.proofs.time.bound_of.Goals as goal

pub bound_with-requires-clause-faultless : goal.bound_with-requires-clause-faultless
bound_with-requires-clause-faultless c =
    let s = c.args.given.now in
    let none : first_of (submission_questions s) ≡ None = passes (own_questions s) (place_stages (file_of s)) c.in_ok-parts.ensures.0 ∙ c.in_ok-region.ensures.0 in
    subst IsFaultless (sym c.in_ok-parts.ensures.1) (faultless s c.requires.types none)
