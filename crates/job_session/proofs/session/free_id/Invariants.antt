use Rattle.std.proofs.Common.{◌≡◌, ◌-◌}
use Rattle.overflow_slots.specs.Search.{first_where}
use Rattle.job_session.specs.Desk.{is_vacant, least_id}
use Rattle.job_session.proofs.session.free_id.Given as goal

abbrev pub invariant-loop-id : goal.invariant-loop-id
invariant-loop-id l = first_where (is_vacant l.counts l.client) l.id (64 - l.id) ≡ least_id l.counts l.client
