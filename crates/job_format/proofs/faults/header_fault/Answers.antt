-- The counts that pass are those that any version may have.
use Rattle.std.proofs.Common.{◌≡◌, sym, ◌∙◌, subst, ◌≤◌, false, arith}
use Rattle.job_format.specs.{Faults.is_miscounted, Offsets.most_jobs}
use Rattle.job_format.proofs.Versions.{buffer_limit_most, jobs_pass}
use Rattle.job_format.proofs.faults.header_fault.Goals as goal

pub returns-clause-few_buffers : goal.returns-clause-few_buffers
returns-clause-few_buffers c =
    let most = buffer_limit_most c.word_at-version.result in
    omega (arith, most, c.if-word_at-buffer_limit.false, c.buffer_limit.ensures, c.word_at-2.ensures)

pub returns-clause-few_jobs : goal.returns-clause-few_jobs
returns-clause-few_jobs c =
    let passes : is_miscounted c.word_at-version.result c.word_at-jobs.result ≡ false = sym c.is_miscounted.ensures ∙ c.if-is_miscounted.false in
    subst (λ n. n ≤ most_jobs) c.word_at-jobs.ensures (jobs_pass c.word_at-version.result c.word_at-jobs.result passes).1.0
