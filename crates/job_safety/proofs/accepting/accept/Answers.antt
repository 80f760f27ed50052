-- What was checked is the file's, and so is its machine.
use Rattle.std.proofs.Common.{refl}
use Rattle.job_format.specs.Reading.{file_at}
use Rattle.job_safety.proofs.Safety.{header_there, accepted_is_safe, accepted_is_same, accepted_is_apart, accepted_may_join, file_ends}
use Rattle.job_safety.proofs.{Starts.AreOfJobs, Starts.are_of_jobs, Starts.is_accepted, accepting.accept.Goals.In-Ok}
use Rattle.job_safety.proofs.accepting.accept.Goals as goal

of_jobs : (c : In-Ok) → AreOfJobs c.in-Ok.checked.layouts.items c.in-Ok.checked.lengths.items
of_jobs c =
    are_of_jobs (file_at c.args.bytes.now) c.in-Ok.checked.memory c.in-Ok.checked.layouts.items c.in-Ok.checked.lengths.items
    (c.in-Ok.ensures.spelled refl).well_formed c.in-Ok.ensures.answers.1

pub version_of-requires : goal.version_of-requires
version_of-requires c = header_there c.args.bytes.now c.in-Ok.ensures.answers.0

pub set_up-requires-clause-as_many : goal.set_up-requires-clause-as_many
set_up-requires-clause-as_many c = (of_jobs (goal.at.set_up-requires-clause-as_many c).In-Ok).as_many

pub set_up-requires-clause-some : goal.set_up-requires-clause-some
set_up-requires-clause-some c = (of_jobs (goal.at.set_up-requires-clause-some c).In-Ok).some

pub set_up-requires-clause-few : goal.set_up-requires-clause-few
set_up-requires-clause-few c = (of_jobs (goal.at.set_up-requires-clause-few c).In-Ok).few

pub returns-in-Ok-set_up-clause-answers : goal.returns-in-Ok-set_up-clause-answers
returns-in-Ok-set_up-clause-answers c = (
  c.in-Ok.ensures.answers.0,
  is_accepted (file_at c.args.bytes.now) c.version_of.result c.in-Ok.checked c.in-Ok-set_up.accepted c.version_of.ensures c.in-Ok.ensures.answers.1 c.in-Ok-set_up.ensures,
)

pub returns-in-Ok-set_up-clause-safe : goal.returns-in-Ok-set_up-clause-safe
returns-in-Ok-set_up-clause-safe c ok = accepted_is_safe c.args.bytes.now (c.in-Ok.ensures.spelled refl) c.in-Ok.ensures.answers.0

pub returns-in-Ok-set_up-clause-same : goal.returns-in-Ok-set_up-clause-same
returns-in-Ok-set_up-clause-same c ok = accepted_is_same c.args.bytes.now (c.in-Ok.ensures.spelled refl) c.in-Ok.ensures.answers.0

pub returns-in-Ok-set_up-clause-apart : goal.returns-in-Ok-set_up-clause-apart
returns-in-Ok-set_up-clause-apart c ok = accepted_is_apart c.args.bytes.now (c.in-Ok.ensures.spelled refl) c.in-Ok.ensures.answers.0

pub returns-in-Ok-set_up-clause-ends : goal.returns-in-Ok-set_up-clause-ends
returns-in-Ok-set_up-clause-ends c ok = file_ends c.args.bytes.now (c.in-Ok.ensures.spelled refl) c.in-Ok.ensures.answers.0

pub returns-in-Ok-set_up-clause-joins : goal.returns-in-Ok-set_up-clause-joins
returns-in-Ok-set_up-clause-joins c ok = accepted_may_join c.args.bytes.now (c.in-Ok.ensures.spelled refl) c.in-Ok.ensures.answers.0
