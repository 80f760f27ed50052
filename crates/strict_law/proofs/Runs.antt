-- In each run of strict jobs, no step is forbidden, and loads take the oldest requests.
use Rattle.std.proofs.Common.{[]}
use Rattle.machine.specs.State.{units_start}
use Rattle.strict_law.specs.{Strict.StrictJobsObey, Known.IsHomeOf, Order.Orders, Order.orders_along, Order.RunsTakeOldest}
use Rattle.strict_law.proofs.{Machine.orders_watch, Machine.orders_watched, Obey.known, Obey.obeys, Oldest.oldest_at, WatchRuns.runs_find, WatchRuns.run_watched}

pub strict_jobs_obey_law : StrictJobsObey
strict_jobs_obey_law rights plains first m starts plain has all = record {
  every_run = λ happenings found s run event.
      let last = run_watched orders_watch orders_watched (λ j tmu. []) rights plains first m starts plain has all happenings found s run in
      obeys (IsHomeOf rights first) (orders_along (record { memory = m; units = units_start starts }) happenings (λ j tmu. [])) s event (runs_find rights first s.memory last.holds.has) last.known.qpus;
}

pub runs_take_oldest_law : RunsTakeOldest
runs_take_oldest_law rights plains first m starts plain has all happenings found s run event q t word one tmu small load =
    let last = run_watched orders_watch orders_watched (λ j n. []) rights plains first m starts plain has all happenings found s run in
    let orders : Orders = orders_along (record { memory = m; units = units_start starts }) happenings (λ j n. []) in
    oldest_at (IsHomeOf rights first) (orders one.k) s.memory q t word (known (IsHomeOf rights first) orders s event q t word (runs_find rights first s.memory last.holds.has) last.known.qpus one) tmu small load
