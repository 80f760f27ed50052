use Rattle.std.proofs.Common.{◌≡◌, ◌≤◌, take}
use Rattle.qpu_machine.specs.Qpu.{queue_count}
use Rattle.qpu_machine.proofs.qpu.queued.Given as goal

abbrev pub invariant-loop-request : goal.invariant-loop-request
invariant-loop-request l = record {
  value : l.count ≡ queue_count l.second (take l.request-index l.requests.items);
  limit : l.count ≤ l.request-index;
}
