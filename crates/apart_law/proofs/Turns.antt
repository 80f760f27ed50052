-- What a step of each unit leaves, said over any property of what all units keep, by the job that it was for.
use Rattle.std.proofs.Common.{◌≡◌, ℕ, Bool, if◌then◌else◌, List, Option, Some, None, refl, arith, rules}
use Rattle.std.specs.{Prelude.unwrap_or}
use Rattle.field_words.specs.declared.access.Actor.TheVariants.{Qpu as TheQpu, Tmu as TheTmu}
use Rattle.field_words.specs.{Words.u32_at, declared.access.Actor.Actor}
use Rattle.machine_plan.specs.{declared.who.Who.Who, Plan.Plan, Plan.Done, Plan.Wilds, Plan.Reads, Plan.outcome_of}
use Rattle.machine_plan.specs.World.{Turn, plan_mapped}
use Rattle.machine_plan.proofs.{Plans.keeps_weaker, Worlds.keeps_mapped}
use Rattle.list_machine.specs.Lists.{Lists, Turned, quiet}
use Rattle.qpu_machine.specs.Qpu.{active_of, job_of_thread, plan_by, went, after_stop, stopped_by, queue_of, oldest, job_of_request, after_drop, after_service, serving}
use Rattle.qpu_machine.specs.Writes.{awake, past_uniform, written_at, after_add, after_multiply, after_writes, after_setup, after_load, went_on, after_work, after_rest}
use Rattle.qpu_machine.specs.{declared.state.Qpu.Qpu, declared.state.Request.Request, declared.state.Thread.Thread, Request.ask_plan}
use Rattle.qpu_machine.specs.Step.{ThreadTurn, turn_executed, executed_with, word_plan, thread_plan}
use Rattle.machine.specs.Step.{Event, job_of, turn, with_lists, with_qpu, binner_turn, renderer_turn, qpu_turn, tmu_turn, unit_turn, number_or_zero, qpu_job, tmu_job, unit_job}
use Rattle.machine.specs.State.{Units, State, Picked, item_at}
use Rattle.apart_law.proofs.Plans.{ComesTo, comes_to, comes_to_any}

-- an instruction leaves its thread to its job
job_stays : (word uniform : ℕ) (words : List ℕ) (t : Thread) → (turn_executed word uniform words t).thread.job ≡ t.job
unfolding turn_executed executed_with after_rest after_work went_on after_load after_setup after_writes after_multiply after_add written_at
job_stays word uniform words t = refl

job_awake : (words : List ℕ) (t : Thread) → (awake words t).job ≡ t.job
unfolding awake
job_awake words t = refl

job_past : (t : Thread) → (past_uniform t).job ≡ t.job
unfolding past_uniform
job_past t = refl

word_by : (t : Thread) (who : Who) (word : ℕ) (words m : List ℕ) (wild one : Bool)
    → ComesTo who (λ turn. turn.thread.job ≡ t.job) (if wild then Wilds else (if one then Reads t.uniforms 4 (λ bytes. Done (turn_executed word (u32_at bytes 0) words (awake words (past_uniform t)))) else Done (turn_executed word 0 words (awake words t)))) m
word_by t who word words m wild one = search (rules, arith, job_stays, job_awake, job_past)

thread_comes : (t : Thread) (who : Who) (words m : List ℕ) → ComesTo who (λ turn. turn.thread.job ≡ t.job) (thread_plan t words) m
unfolding thread_plan word_plan
thread_comes t who words m = search (rules, arith, word_by)

-- P of the job that a step was for, and of all that a step of a unit for it can leave
pub record AllTurns (u : Units) (P : ℕ → Units → Type 0) : Type 0 where
  pub none : (j : ℕ) → P j u
  pub lists : (j : ℕ) (turned : Turned) → P j (with_lists u j turned)
  pub idle : (j k : ℕ) (q : Qpu) → item_at u.qpus k ≡ Some q → P j (with_qpu u k q)
  pub goes : (k : ℕ) (q : Qpu) (t : Thread) (turn : ThreadTurn) → item_at u.qpus k ≡ Some q → active_of q ≡ Some t → turn.thread.job ≡ t.job → P t.job (with_qpu u k (went q t turn))
  pub stops : (k : ℕ) (q : Qpu) (t : Thread) → item_at u.qpus k ≡ Some q → active_of q ≡ Some t → P t.job (with_qpu u k (after_stop q t))
  pub serves : (k n : ℕ) (q : Qpu) (r : Request) (row : Option (List ℕ)) → item_at u.qpus k ≡ Some q → oldest (queue_of q n) ≡ Some r → P r.job (with_qpu u k (after_service q n r row))
  pub drops : (k n : ℕ) (q : Qpu) (r : Request) → item_at u.qpus k ≡ Some q → oldest (queue_of q n) ≡ Some r → P r.job (with_qpu u k (after_drop q n))

-- what the units keep after a turn
abbrev pub left_by_turn : Turn Units → List ℕ → Units
left_by_turn t m = unwrap_or (outcome_of t.who t.plan m).result t.wild

lists_left : (u : Units) (P : ℕ → Units → Type 0) → AllTurns u P → (who : Who) (plan : Plan Turned) (ended : Lists) (m : List ℕ)
    → P who.job (left_by_turn (record { who = who; plan = plan_mapped (with_lists u who.job) plan; wild = with_lists u who.job (quiet ended) }) m)
lists_left u P all who plan ended m =
    let put : Turned → Units = with_lists u who.job in
    comes_to who (P who.job) (plan_mapped put plan) m (put (quiet ended))
    (keeps_mapped put who (λ p n. Unit {0}) (λ a. Unit {0}) (λ k next. P who.job next) plan m (comes_to_any who (λ turned. P who.job (put turned)) (λ turned. all.lists who.job turned) plan m))
    (all.lists who.job (quiet ended))

binner_left : (u : Units) (P : ℕ → Units → Type 0) → AllTurns u P → (found : Option (Picked Lists)) (words m : List ℕ) → P (binner_turn u found words).who.job (left_by_turn (binner_turn u found words) m)
binner_left u P all found words m = search (rules, arith, lists_left)

renderer_left : (u : Units) (P : ℕ → Units → Type 0) → AllTurns u P → (found : Option (Picked Lists)) (words m : List ℕ) → P (renderer_turn u found words).who.job (left_by_turn (renderer_turn u found words) m)
renderer_left u P all found words m = search (rules, arith, lists_left)

-- a processor by its active thread
abbrev pub thread_turn : Units → ℕ → Qpu → Option Thread → List ℕ → Turn Units
thread_turn u k q slot words = record {
  who = record { unit = TheQpu k; job = job_of_thread slot };
  plan = plan_mapped (with_qpu u k) (plan_by slot q words);
  wild = with_qpu u k (stopped_by slot q);
}

thread_left : (u : Units) (P : ℕ → Units → Type 0) → AllTurns u P → (k : ℕ) (q : Qpu) (slot : Option Thread) (words m : List ℕ) → item_at u.qpus k ≡ Some q → active_of q ≡ slot
    → P (job_of_thread slot) (left_by_turn (thread_turn u k q slot words) m)
thread_left u P all k q None words m here active = all.idle 0 k q here
thread_left u P all k q (Some t) words m here active =
    let who : Who = record { unit = TheQpu k; job = t.job } in
    let put : Qpu → Units = with_qpu u k in
    let L : ℕ → ℕ → Type 0 = λ p n. Unit {0} in
    comes_to who (P t.job) (plan_mapped put (plan_mapped (went q t) (thread_plan t words))) m (put (after_stop q t))
    (keeps_mapped put who L (λ a. Unit {0}) (λ i next. P t.job next) (plan_mapped (went q t) (thread_plan t words)) m
    (keeps_mapped (went q t) who L (λ a. Unit {0}) (λ i next. P t.job (put next)) (thread_plan t words) m
    (keeps_weaker who L L (λ a. Unit {0}) (λ a. Unit {0}) (λ i turn. turn.thread.job ≡ t.job) (λ i turn. P t.job (put (went q t turn))) (λ p n h. h) (λ a h. h) (λ i turn same. all.goes k q t turn here active same) (thread_plan t words) m
    (thread_comes t who words m))))
    (all.stops k q t here active)

qpu_left : (u : Units) (P : ℕ → Units → Type 0) → AllTurns u P → (k : ℕ) (found : Option Qpu) (words m : List ℕ) → item_at u.qpus k ≡ found → P (qpu_turn u k found words).who.job (left_by_turn (qpu_turn u k found words) m)
qpu_left u P all k found words m here = search (rules, arith, thread_left)

-- a TMU by its oldest request
abbrev pub request_turn : Units → ℕ → ℕ → Qpu → Option Request → List ℕ → Turn Units
request_turn u k n q found words = record {
  who = record { unit = TheTmu k n; job = job_of_request found };
  plan = plan_mapped (with_qpu u k) (serving found q n words);
  wild = with_qpu u k (after_drop q n);
}

request_left : (u : Units) (P : ℕ → Units → Type 0) → AllTurns u P → (k n : ℕ) (q : Qpu) (found : Option Request) (words m : List ℕ) → item_at u.qpus k ≡ Some q → oldest (queue_of q n) ≡ found
    → P (job_of_request found) (left_by_turn (request_turn u k n q found words) m)
request_left u P all k n q None words m here is = all.idle 0 k q here
request_left u P all k n q (Some r) words m here is =
    let who : Who = record { unit = TheTmu k n; job = r.job } in
    let put : Qpu → Units = with_qpu u k in
    let L : ℕ → ℕ → Type 0 = λ p n. Unit {0} in
    comes_to who (P r.job) (plan_mapped put (plan_mapped (after_service q n r) (ask_plan r.ask words))) m (put (after_drop q n))
    (keeps_mapped put who L (λ a. Unit {0}) (λ i next. P r.job next) (plan_mapped (after_service q n r) (ask_plan r.ask words)) m
    (keeps_mapped (after_service q n r) who L (λ a. Unit {0}) (λ i next. P r.job (put next)) (ask_plan r.ask words) m
    (comes_to_any who (λ row. P r.job (put (after_service q n r row))) (λ row. all.serves k n q r row here is) (ask_plan r.ask words) m)))
    (all.drops k n q r here is)

tmu_left : (u : Units) (P : ℕ → Units → Type 0) → AllTurns u P → (k n : ℕ) (found : Option Qpu) (words m : List ℕ) → item_at u.qpus k ≡ found → P (tmu_turn u k n found words).who.job (left_by_turn (tmu_turn u k n found words) m)
tmu_left u P all k n found words m here = search (rules, arith, request_left)

-- each unit
pub unit_left : (u : Units) (P : ℕ → Units → Type 0) → AllTurns u P → (unit : Actor) (words m : List ℕ) → P (unit_turn u unit words).who.job (left_by_turn (unit_turn u unit words) m)
unit_left u P all unit words m = search (rules, arith, binner_left, renderer_left, qpu_left, tmu_left)

-- the job for which a unit steps is that of its turn
list_job : (u : Units) (found : Option (Picked Lists)) (words : List ℕ) → ((binner_turn u found words).who.job ≡ number_or_zero found) × ((renderer_turn u found words).who.job ≡ number_or_zero found)
list_job u found words = search (rules, arith)

qpu_job_is : (u : Units) (k : ℕ) (found : Option Qpu) (words : List ℕ) → (qpu_turn u k found words).who.job ≡ qpu_job found
qpu_job_is u k found words = search (rules, arith)

tmu_job_is : (u : Units) (k n : ℕ) (found : Option Qpu) (words : List ℕ) → (tmu_turn u k n found words).who.job ≡ tmu_job found n
tmu_job_is u k n found words = search (rules, arith)

pub job_is : (u : Units) (unit : Actor) (words : List ℕ) → (unit_turn u unit words).who.job ≡ unit_job u unit
job_is u unit words = search (rules, arith, list_job, qpu_job_is, tmu_job_is)

pub turn_job : (s : State) (event : Event) → (turn s.units event).who.job ≡ job_of s event.unit
unfolding turn job_of
turn_job s event = job_is s.units event.unit event.words
