-- The job of an accepted submission keeps to its bound, as that of each faultless file does.
use Rattle.std.proofs.Common.{refl}
use Rattle.job_bound.proofs.{Holds.keeps_bound, Holds.keeps_end, Live.keeps_live}
use Rattle.vc4check_c.specs.Submission.{file_of}
use Rattle.vc4check_c.proofs.MayRun.{faultless}
use Rattle.vc4check_c.proofs.time.vc4check_submission_bound.Goals as goal

pub returns-in-Ok-clause-bounds : goal.returns-in-Ok-clause-bounds
returns-in-Ok-clause-bounds c = λ zero. keeps_bound (file_of c.args.submission.now) (faultless c.args.submission.now c.requires.types c.in-Ok.ensures.0)

pub returns-in-Ok-clause-ends : goal.returns-in-Ok-clause-ends
returns-in-Ok-clause-ends c = λ zero. keeps_end (file_of c.args.submission.now) (faultless c.args.submission.now c.requires.types c.in-Ok.ensures.0)

pub returns-in-Ok-clause-lives : goal.returns-in-Ok-clause-lives
unfolding file_of
returns-in-Ok-clause-lives c = λ zero. keeps_live (file_of c.args.submission.now) refl
