-- The machine of any jobs is sound. Where texture units read: by what is known of their requests.
use Rattle.std.proofs.Common.{◌≡◌, ℕ, Bool, true, false, IsTrue, if◌then◌else◌, List, Option, Some, None, sym, subst, arith, rules}
use Rattle.std.proofs.lemmas.Bool.{false≢true}
use Rattle.std.specs.Prelude.{IfSome, is_some}
use Rattle.field_words.specs.declared.access.Actor.TheVariants.{Tmu as TheTmu}
use Rattle.machine_plan.specs.{declared.who.Who.Who, World.plan_mapped, Glance.Glance, Glance.Now, Glance.glance_result}
use Rattle.machine_plan.specs.{Plan.Plan, Plan.outcome_of, Regions.Interval}
use Rattle.machine_plan.proofs.{Plans.keeps_accesses, Worlds.keeps_mapped}
use Rattle.machine_plan.proofs.Others.{run_holds, safe_law, same_law, safe_alone, same_alone}
use Rattle.qpu_machine.specs.{declared.state.Qpu.Qpu, declared.state.Ask.Ask, declared.state.Request.Request, Request.ask_plan}
use Rattle.qpu_machine.specs.Qpu.{job_of_request, after_service, serving}
use Rattle.qpu_law.specs.Asks.{IsFineAsk}
use Rattle.promises.specs.{Rights.IsOneOf, Sound.IsReadIn, Sound.ReadInOne, Sound.TexturesReadIn}
use Rattle.qpu_law.proofs.Reading.{asks_stay_in_law}
use Rattle.machine.specs.State.{Units, State, item_at}
use Rattle.machine.specs.Step.{with_qpu, tmu_may, tmu_turn, tmu_job, is_enabled, job_of, ready, turn}
use Rattle.machine_law.specs.{Units.AskOf, Units.Facts, Units.QpuFine, Units.UnitsFine, Jobs.facts_of, Laws.AreFine}
use Rattle.machine_law.specs.Sound.{MachineSound, JobsSound, SoundJobsAreSafe}
use Rattle.machine_law.proofs.Owes.{item_fine, oldest_fine, queue_of_fine, units_owe_law, start_fine}
use Rattle.machine_law.proofs.Begins.{each_begins}

-- each request that is known reads inside one buffer of its job
abbrev pub ReadsIn : Facts → (ℕ → List Interval) → Type 0
ReadsIn f plains = (j : ℕ) (ask : Ask) → f.OfAsk j ask → IsFineAsk (IsOneOf (plains j)) ask

-- a texture unit by its oldest request
request_reads : (f : Facts) (plains : ℕ → List Interval) → ReadsIn f plains → (u : Units) (k n : ℕ) (q : Qpu) (found : Option Request) (words m : List ℕ) → IfSome found (AskOf f) → is_some found ≡ true
    → ReadInOne (plains (job_of_request found)) (outcome_of (record { unit = TheTmu k n; job = job_of_request found }) (plan_mapped (with_qpu u k) (serving found q n words)) m).accesses
request_reads f plains in_one u k n q None words m known on = absurd (false≢true on)
request_reads f plains in_one u k n q (Some request) words m known on =
    let asked = in_one request.job request.ask known in
    let who : Who = record { unit = TheTmu k n; job = request.job } in
    let within : Interval = record { place = asked.place; size = asked.size } in
    let L : ℕ → ℕ → Type 0 = λ place len. ⊥ in
    let G = IsReadIn within in
    let plan : Plan (Option (List ℕ)) = ask_plan request.ask words in
    let asks = asks_stay_in_law within request.ask asked.reads who words m in
    let serves = keeps_mapped (after_service q n request) who L G (λ i next. i ≡ m) plan m asks in
    record {
      place = asked.place;
      size = asked.size;
      named = asked.named;
      reads = keeps_accesses who L G (λ i next. i ≡ m) (plan_mapped (with_qpu u k) (plan_mapped (after_service q n request) plan)) m (keeps_mapped (with_qpu u k) who L G (λ i next. i ≡ m) (plan_mapped (after_service q n request) plan) m serves);
    }

pub there_on : (there : Bool) (glance : Glance Bool) (m : List ℕ) → IsTrue (glance_result (if there then glance else Now false) m) → glance_result glance m ≡ true
there_on there glance m on = search (rules, arith, false≢true)

tmu_reads : (f : Facts) (plains : ℕ → List Interval) → ReadsIn f plains → (u : Units) (k n : ℕ) (found : Option Qpu) (words m : List ℕ) → IfSome found (QpuFine f) → IsTrue (glance_result (tmu_may found n) m)
    → ReadInOne (plains (tmu_job found n)) (outcome_of (tmu_turn u k n found words).who (tmu_turn u k n found words).plan m).accesses
tmu_reads f plains in_one u k n found words m known on = search (rules, arith, false≢true, request_reads, oldest_fine, queue_of_fine, there_on)

pub textures_read : (f : Facts) (plains : ℕ → List Interval) → ReadsIn f plains → (s : State) → UnitsFine f s.units → TexturesReadIn plains s
unfolding turn is_enabled job_of
textures_read f plains in_one s known k n words on =
    tmu_reads f plains in_one s.units k n (item_at s.units.qpus k) words s.memory (item_fine (QpuFine f) s.units.qpus k known.qpus) on

pub machine_sound_law : MachineSound
machine_sound_law rights plains first m u plain has fine =
    let owes = units_owe_law rights plains first plain in
    let I : Units → Type 0 = AreFine rights plains first in
    record {
      safe = safe_law ready turn rights first m I u owes has fine;
      same = same_law ready turn rights first m I u owes has fine;
      textures = λ happenings found t run.
          let ran = run_holds ready turn rights first I owes happenings (record { memory = m; units = u }) (record { units = fine; has = has }) run.allowed in
          textures_read (facts_of rights plains first) plains (λ j ask known. known) t (subst (λ s. I s.units) (sym run.last) ran.0.units);
    }

pub jobs_sound_law : JobsSound
jobs_sound_law rights plains first m starts plain has all = search (rules, arith, machine_sound_law, start_fine, each_begins)

pub sound_jobs_are_safe_law : SoundJobsAreSafe
sound_jobs_are_safe_law rights plains m u sound = (safe_alone ready turn rights m u sound.safe, same_alone ready turn rights m u sound.safe sound.same)
