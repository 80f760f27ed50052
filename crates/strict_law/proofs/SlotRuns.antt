-- In each run of strict jobs, and where they come and go, each processor's requests have room.
use Rattle.std.proofs.Common.{[], refl}
use Rattle.promises.specs.Days.{Day, after, dawn}
use Rattle.machine.specs.State.{State, units_start}
use Rattle.strict_law.specs.{Known.LaunchStrict, Known.IsHomeOf, Known.JobKnown, Order.Orders, Order.orders_along, Order.orders_of}
use Rattle.strict_law.specs.Slots.{Slots, slots_kept, slots_along, slots_of, RunsHaveRoom, DaysHaveRoom}
use Rattle.strict_law.proofs.Slots.{QpuSlots, launch_slots, went_slots, other_slots, served_slots, qpu_goes, qpu_found, has_room}
use Rattle.strict_law.proofs.{Watch.Watch, Watch.Watches, WatchRuns.run_watched, WatchRuns.runs_find, WatchDays.IsOf, WatchDays.days_find, WatchDays.days_watched}
use Rattle.strict_law.proofs.Machine.{orders_watch, orders_watched}

-- The slots are watched; of jobs the same is known as where requests are.
abbrev slots_watch : Watch
slots_watch = record {
  Kept = Slots;
  keeping = slots_kept;
  OfJob = JobKnown;
  Binned = LaunchStrict;
  Rendered = λ words. LaunchStrict;
  OfQpu = λ IsOf slots k q. QpuSlots IsOf (slots k) q;
}

slots_watched : Watches slots_watch
slots_watched = record {
  begins = orders_watched.begins;
  binner = orders_watched.binner;
  renderer = orders_watched.renderer;
  wider_binned = orders_watched.wider_binned;
  wider_rendered = orders_watched.wider_rendered;
  binned = λ IsOf u words m slots j launch started qpus. launch_slots IsOf j launch slots u.qpus started qpus;
  rendered = λ IsOf u words m slots j launch started qpus. launch_slots IsOf j launch slots u.qpus started qpus;
  thread = λ IsOf u k q t words m slots is active here left may. went_slots IsOf u k q t words m slots is active here left;
  others = λ IsOf u k words m slots i q other was. other_slots IsOf u k m slots i q other was;
  texture = λ u k tmu words m slots. refl;
  served = λ IsOf slots k tmu q request row left is. served_slots IsOf (slots k) tmu q request row left;
  moves = λ IsHere IsThere N goes slots k q first other left. qpu_goes IsHere IsThere N goes (slots k) q first other left;
  found = λ IsOf second files slots k q left. qpu_found IsOf second files q (slots k) left;
  admitted = λ j slots. refl;
  idle = λ IsOf slots k. record { first = (refl, refl); other = (refl, refl) };
}

pub runs_have_room_law : RunsHaveRoom
runs_have_room_law rights plains first m starts plain has all happenings found s run k q is =
    let none : Orders = λ j tmu. [] in
    let empty : Slots = λ j tmu second. [] in
    let begin : State = record { memory = m; units = units_start starts } in
    let last = run_watched orders_watch orders_watched none rights plains first m starts plain has all happenings found s run in
    let room = run_watched slots_watch slots_watched empty rights plains first m starts plain has all happenings found s run in
    has_room (IsHomeOf rights first) (orders_along begin happenings none) (slots_along begin happenings empty) s.units s.memory k q (runs_find rights first s.memory last.holds.has) last.known.qpus room.known.qpus is

-- So it is where jobs come and go.
pub days_have_room_law : DaysHaveRoom
days_have_room_law memory happenings may begins k q is =
    let d : Day = after (dawn memory) happenings in
    let none : Orders = λ j tmu. [] in
    let empty : Slots = λ j tmu second. [] in
    let last = days_watched orders_watch orders_watched none memory happenings may begins in
    let room = days_watched slots_watch slots_watched empty memory happenings may begins in
    has_room (IsOf d.jobs) (orders_of (dawn memory) happenings none) (slots_of (dawn memory) happenings empty) d.state.units d.state.memory k q (days_find d.jobs d.state.memory last.known.holds) last.now.qpus room.now.qpus is
