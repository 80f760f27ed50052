-- A step for another client's job leaves the client's part alone; and each step leaves requests tied to the threads of their jobs.
use Rattle.std.proofs.Common.{◌≡◌, ◌≢◌, ℕ, ◌==◌, true, false, List, Some, None, refl, sym, ◌∙◌, ap, arith, rules}
use Rattle.std.proofs.lemmas.Bool.{false≢true}
use Rattle.machine_plan.specs.Regions.{Every}
use Rattle.qpu_machine.specs.Qpu.{active_of, left_by, went, after_stop, oldest, queue_of, after_drop, after_service}
use Rattle.qpu_machine.specs.{declared.state.Fate.Fate, declared.state.Qpu.Qpu, declared.state.Request.Request, Step.ThreadTurn}
use Rattle.qpu_machine.specs.declared.state.Thread.{Thread}
use Rattle.machine.specs.{State.Units, State.item_at, Step.with_qpu, Step.unit_turn, Step.job_of, Step.turn}
use Rattle.apart_law.specs.{Part.thread_seen, Part.part_of, Part.UnitsAlike, Steps.OthersStepsAreSilent, Steps.StepsKeepTied}
use Rattle.promises.specs.Trail.{Client}
use Rattle.apart_law.specs.Tied.{IsTied, QpuTied, AreTied, RestsFresh}
use Rattle.apart_law.proofs.Parts.{some_same, some_none, sees_none, other_settled, other_dropped, other_served}
use Rattle.apart_law.proofs.{Places.chosen, Places.put_elsewhere, Places.map_same, Places.every_at, Places.put_every, Plans.none_reported}
use Rattle.apart_law.proofs.{Slots.launches_silent, Tied.IsOf, Tied.settled_tied, Tied.dropped_tied, Tied.served_tied, Tied.launches_tied}
use Rattle.apart_law.proofs.Turns.{AllTurns, unit_left, job_is}

-- a job of the client is none of another's
other_job : (mine : Client) (i j : ℕ) → mine i ≡ true → mine j ≡ false → i ≢ j
other_job mine i j own others same = false≢true (sym others ∙ (sym (ap mine same) ∙ own))

-- processor k is left alone
alone : (mine : Client) (u : Units) (k : ℕ) (q next : Qpu) → item_at u.qpus k ≡ Some q → part_of mine next ≡ part_of mine q → UnitsAlike mine (with_qpu u k next) u
alone mine u k q next here same = record { jobs = λ j own. refl; qpus = map_same (part_of mine) u.qpus k q next here same }

-- what an instruction of another client's thread left
unseen : (mine : Client) (fate : Fate) (t : Thread) → mine t.job ≡ false → thread_seen mine (left_by fate t) ≡ None
unseen mine fate t others = search (rules, arith, sees_none)

went_alone : (mine : Client) (q : Qpu) (t : Thread) (turn : ThreadTurn) → active_of q ≡ Some t → turn.thread.job ≡ t.job → mine t.job ≡ false → RestsFresh q → part_of mine (went q t turn) ≡ part_of mine q
went_alone mine q t turn active same others fresh = search (rules, arith, other_settled, unseen, sees_none)

stopped_alone : (mine : Client) (q : Qpu) (t : Thread) → active_of q ≡ Some t → mine t.job ≡ false → RestsFresh q → part_of mine (after_stop q t) ≡ part_of mine q
stopped_alone mine q t active others fresh = other_settled mine q t.job None true None others refl fresh (ap (thread_seen mine) active ∙ sees_none mine t others)

-- the oldest request is tied
oldest_tied : (q : Qpu) (requests : List Request) (r : Request) → oldest requests ≡ Some r → Every (IsTied q) requests → IsTied q r
oldest_tied q requests r is all = search (rules, arith, some_none, some_same)

queue_tied : (q : Qpu) (tmu : ℕ) → QpuTied q → Every (IsTied q) (queue_of q tmu)
queue_tied q tmu tied = chosen (Every (IsTied q)) (tmu == 0) q.queue0.items q.queue1.items tied.queue0 tied.queue1

abbrev Leaves : Client → Units → ℕ → Units → Type 0
Leaves mine u j next = mine j ≡ false → UnitsAlike mine next u

all_silent : (mine : Client) (u : Units) → AreTied u.qpus → Every RestsFresh u.qpus → AllTurns u (Leaves mine u)
all_silent mine u tied fresh = record {
  none = λ j others. record { jobs = λ i own. refl; qpus = refl };
  lists = λ j turned others. record { jobs = λ i own. put_elsewhere u.jobs j i turned.lists (other_job mine i j own others); qpus = launches_silent mine j turned.launch u.qpus others };
  idle = λ j k q here others. alone mine u k q q here refl;
  goes = λ k q t turn here active same others. alone mine u k q (went q t turn) here (went_alone mine q t turn active same others (every_at RestsFresh u.qpus k q here fresh));
  stops = λ k q t here active others. alone mine u k q (after_stop q t) here (stopped_alone mine q t active others (every_at RestsFresh u.qpus k q here fresh));
  serves = λ k n q r row here is others.
      alone mine u k q (after_service q n r row) here (other_served mine q n r row is others (oldest_tied q (queue_of q n) r is (queue_tied q n (every_at QpuTied u.qpus k q here tied))));
  drops = λ k n q r here is others. alone mine u k q (after_drop q n) here (other_dropped mine q n r is others);
}

pub others_silent_law : OthersStepsAreSilent
unfolding turn job_of
others_silent_law mine s event others tied fresh =
    let t = unit_turn s.units event.unit event.words in
    let other : mine t.who.job ≡ false = ap mine (job_is s.units event.unit event.words) ∙ others in
    (none_reported mine t.who t.plan s.memory other, unit_left s.units (Leaves mine s.units) (all_silent mine s.units tied fresh) event.unit event.words s.memory other)

-- requests stay tied
left_of : (fate : Fate) (t : Thread) (job : ℕ) → t.job ≡ job → IsOf job (left_by fate t)
left_of fate t job same = search (rules, arith)

all_tied : (u : Units) → AreTied u.qpus → AllTurns u (λ j next. AreTied next.qpus)
all_tied u tied = search (rules, arith, put_every, every_at, launches_tied, settled_tied, left_of, served_tied, dropped_tied)

pub keep_tied_law : StepsKeepTied
unfolding turn
keep_tied_law s event tied = unit_left s.units (λ j next. AreTied next.qpus) (all_tied s.units tied) event.unit event.words s.memory
