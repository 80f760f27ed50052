-- Where only strict jobs are admitted, no step is forbidden, and loads take the oldest requests.
use Rattle.std.proofs.Common.{[]}
use Rattle.promises.specs.Days.{Day, after, dawn}
use Rattle.strict_law.specs.{Days.StrictDaysObey, Order.Orders, Order.orders_of, Order.LoadsTakeOldest}
use Rattle.strict_law.proofs.{Machine.orders_watch, Machine.orders_watched, Obey.known, Obey.obeys, Oldest.oldest_at, WatchDays.IsOf, WatchDays.days_find, WatchDays.days_watched}

pub strict_days_obey_law : StrictDaysObey
strict_days_obey_law memory happenings may begins event =
    let d : Day = after (dawn memory) happenings in
    let last = days_watched orders_watch orders_watched (λ j tmu. []) memory happenings may begins in
    obeys (IsOf d.jobs) (orders_of (dawn memory) happenings (λ j tmu. [])) d.state event (days_find d.jobs d.state.memory last.known.holds) last.now.qpus

pub loads_take_oldest_law : LoadsTakeOldest
loads_take_oldest_law memory happenings may begins event q t word one tmu small load =
    let d : Day = after (dawn memory) happenings in
    let orders : Orders = orders_of (dawn memory) happenings (λ j n. []) in
    let last = days_watched orders_watch orders_watched (λ j n. []) memory happenings may begins in
    oldest_at (IsOf d.jobs) (orders one.k) d.state.memory q t word (known (IsOf d.jobs) orders d.state event q t word (days_find d.jobs d.state.memory last.known.holds) last.now.qpus one) tmu small load
