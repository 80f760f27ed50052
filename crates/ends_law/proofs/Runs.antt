-- A run has no more steps than are left where it begins, and those that stays add.
use Rattle.std.proofs.Common.{◌≡◌, ◌≤◌, ℕ, ◌+◌, ◌-◌, ◌*◌, true, List, [], ◌∷◌, arith}
use Rattle.std.proofs.lemmas.Grind.{common_steps}
use Rattle.machine_plan.specs.Others.{Happening, Steps, Changes, AllMayHappen}
use Rattle.machine_plan.specs.Regions.{Interval, Rights, rights_of, HasReadOnly}
use Rattle.machine_plan.proofs.Others.{Holds, run_holds}
use Rattle.machine.specs.{declared.job.Start.Start, State.State, State.units_start, Step.Event, Step.ready, Step.turn, Step.step}
use Rattle.machine_law.specs.{Begins.JobBegins, Jobs.ArePlain, Laws.AreFine, Units.EachAt}
use Rattle.machine_law.proofs.{Begins.each_begins, Owes.units_owe_law, Owes.start_fine}
use Rattle.ends_law.specs.{Ends.JobShort, Ends.JobsEnd, Left.EachWithin, Left.UnitsLeft}
use Rattle.promises.specs.Steps.{one_if, unit_stays, step_count, stay_count}
use Rattle.ends_law.proofs.{Begins.start_left, Machine.steps_less_law}

pub one_more : (w n rest cost stay steps stays : ℕ) → rest + cost ≤ n + (1 + w) * stay → steps ≤ rest + (1 + w) * stays → cost + steps ≤ n + (1 + w) * (stay + stays)
one_more w n rest cost stay steps stays less later =
    let both : (1 + w) * (stay + stays) ≡ (1 + w) * stay + (1 + w) * stays = grind (arith, common_steps) in
    omega (arith, less, later, both)

run_steps : (rights : List Rights) (plains : ℕ → List Interval) (first : List ℕ) (w n : ℕ) (happenings : List (Happening Event)) (s : State) → ArePlain rights plains → Holds rights first (AreFine rights plains first) s
    → UnitsLeft (rights_of rights) (HasReadOnly rights first) (λ j. true) w n s.units → AllMayHappen ready turn rights s happenings → step_count happenings ≤ n + (1 + w) * stay_count s happenings
run_steps rights plains first w n [] s plain holds left may = omega arith
run_steps rights plains first w n (Steps event ∷ later) s plain holds left may =
    let I = AreFine rights plains first in
    let next = run_holds ready turn rights first I (units_owe_law rights plains first plain) (Steps event ∷ []) s holds (may.0, tt) in
    let less = steps_less_law rights plains first (λ j. true) w n s event plain holds.has holds.units left may.0 in
    let ran = run_steps rights plains first w less.rest later (step s event).state plain next.0 less.left may.1 in
    one_more w n less.rest 1 (one_if (unit_stays s.units event.unit event.words)) (step_count later) (stay_count (step s event).state later) less.less ran
run_steps rights plains first w n (Changes m ∷ later) s plain holds left may =
    let I = AreFine rights plains first in
    let next = run_holds ready turn rights first I (units_owe_law rights plains first plain) (Changes m ∷ []) s holds (may.0, tt) in
    run_steps rights plains first w n later (record { memory = m; units = s.units }) plain next.0 left may.1

each_short : (rights : List Rights) (plains : ℕ → List Interval) (first : List ℕ) (w k n : ℕ) (starts : List Start) → EachWithin (JobShort rights plains first w) k n starts → EachAt (JobBegins rights plains first) k starts
each_short rights plains first w k n [] all = tt
each_short rights plains first w k n (start ∷ starts) all = (all.1.begins, each_short rights plains first w (k + 1) (n - all.0) starts all.3)

pub jobs_end_law : JobsEnd
jobs_end_law rights plains first m starts w n plain has all = record {
  every_run = λ happenings found t run.
      let fine = start_fine rights plains first starts (each_begins rights plains first 0 starts (each_short rights plains first w 0 n starts all)) in
      run_steps rights plains first w n happenings (record { memory = m; units = units_start starts }) plain (record { units = fine; has = has }) (start_left rights plains first w n starts all) run.allowed;
}
