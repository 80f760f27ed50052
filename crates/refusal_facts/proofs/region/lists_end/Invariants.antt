-- Where the lists of the next job begin.
use Rattle.std.proofs.Common.{◌≡◌, ◌≤◌, ◌+◌, ◌*◌, ◌^◌}
use Rattle.job_format.specs.Parts.{parts_view}
use Rattle.job_check.specs.Jobs.{lists_begin}
use Rattle.refusal_facts.proofs.region.lists_end.Given as goal

abbrev pub invariant-loop-number : goal.invariant-loop-number
invariant-loop-number l = (l.place ≡ lists_begin (parts_view l.file) l.number) × (l.place ≤ 2 ^ 33 * (l.number + 1))
