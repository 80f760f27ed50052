-- From two states that are alike to a client, two steps for jobs of it that have the same entry are alike.
use Rattle.std.proofs.Common.{◌≡◌, ℕ, ◌==◌, Bool, true, false, IsTrue, if◌then◌else◌, List, Option, Some, None, refl, sym, ◌∙◌, ap, subst, arith, rules}
use Rattle.std.proofs.lemmas.Bool.{false≢true}
use Rattle.std.specs.Prelude.{is_some, nat_lt}
use Rattle.field_words.specs.declared.access.Actor.TheVariants.{Binner as TheBinner, Renderer as TheRenderer, Qpu as TheQpu, Tmu as TheTmu}
use Rattle.field_words.specs.declared.access.Actor.{Actor}
use Rattle.machine_plan.specs.{declared.launch.Free.Free, declared.who.Who.Who, Glance.Now, Glance.glance_result, Regions.Interval}
use Rattle.machine_plan.specs.{Plan.Plan, Plan.Outcome, Plan.outcome_of, World.plan_mapped, World.world_turned}
use Rattle.machine_plan.proofs.Plans.{SameBut}
use Rattle.list_machine.specs.Lists.{Lists, Turned, quiet, binner_of, renderer_of, binner_ended, renderer_ended}
use Rattle.list_machine.specs.{Binner.has_binner_work, Binner.binner_plan, Renderer.has_renderer_work, Renderer.renderer_plan}
use Rattle.qpu_machine.specs.Qpu.{active_of, job_of_thread, left_by, gives_way, after_turn, went, after_stop, ready_by, queue_of, oldest, job_of_request, after_drop, after_service, free_in}
use Rattle.qpu_machine.specs.{declared.state.Asked.Asked, declared.state.Qpu.Qpu, declared.state.Request.Request, Request.ask_plan}
use Rattle.qpu_machine.specs.{declared.state.Thread.Thread, Step.thread_plan}
use Rattle.machine.specs.Step.{Event, with_lists, with_qpu, binner_may, renderer_may, qpu_may, tmu_may, binner_turn, renderer_turn, qpu_turn, tmu_turn, unit_ready, unit_turn, number_or_zero, qpu_job, tmu_job, unit_job, job_of, may, step, ready, turn}
use Rattle.machine.specs.State.{Units, State, Picked, first_where, item_at, binner_job, renderer_job}
use Rattle.promises.specs.Trail.{is_second, active_in, slot_for, launch_in, binner_starts, renderer_starts, starts_in, entry_of, Client}
use Rattle.apart_law.specs.Part.{thread_seen, requests_of, part_of, UnitsAlike, StatesAlike}
use Rattle.apart_law.specs.Steps.{StaysIn, GaveAlike, OwnStepsAreAlike}
use Rattle.apart_law.proofs.Parts.{some_same, sees, chosen_of, own_request, part_settled, settled_part, part_dropped, dropped_part, part_served, served_part}
use Rattle.apart_law.proofs.{Places.put_alike, Places.map_alike, Places.map_at, Places.one_first, Slots.launches_alike}
use Rattle.apart_law.proofs.Plans.{mapped_twice, Stays, stays_before, same_over, turns_alike}
use Rattle.apart_law.proofs.Starting.{DoesSame, binner_does_same, renderer_does_same}
use Rattle.apart_law.proofs.Turns.{thread_turn, request_turn}

-- what a list unit came to, put in both
lists_put : (mine : Client) (u v : Units) (j : ℕ) (turned : Turned) → UnitsAlike mine u v → slot_for turned.launch u.qpus ≡ slot_for turned.launch v.qpus → UnitsAlike mine (with_lists u j turned) (with_lists v j turned)
lists_put mine u v j turned alike same = search (rules, arith, put_alike, launches_alike)

lists_alike : (mine : Client) (all : List Interval) (s t : State) (who : Who) (plan : Free → Plan Turned) (ended : Lists) → DoesSame who t.memory s.units.qpus t.units.qpus plan → StatesAlike mine all s t
    → slot_for (launch_in (outcome_of who (plan (free_in s.units.qpus)) s.memory).result) s.units.qpus ≡ slot_for (launch_in (outcome_of who (plan (free_in t.units.qpus)) t.memory).result) t.units.qpus
    → Stays all who (plan_mapped (with_lists s.units who.job) (plan (free_in s.units.qpus))) s.memory
    → GaveAlike mine all (world_turned s (record { who = who; plan = plan_mapped (with_lists s.units who.job) (plan (free_in s.units.qpus)); wild = with_lists s.units who.job (quiet ended) }))
    (world_turned t (record { who = who; plan = plan_mapped (with_lists t.units who.job) (plan (free_in t.units.qpus)); wild = with_lists t.units who.job (quiet ended) }))
lists_alike mine all s t who plan ended does alike starts stays =
    let us = s.units.qpus in
    let vs = t.units.qpus in
    let o : Outcome Turned = outcome_of who (plan (free_in us)) s.memory in
    let o_there : Outcome Turned = outcome_of who (plan (free_in us)) t.memory in
    let q : Outcome Turned = outcome_of who (plan (free_in vs)) t.memory in
    let over : SameBut all o o_there = same_over all who (plan (free_in us)) s.memory t.memory alike.memory (stays_before (with_lists s.units who.job) all who (plan (free_in us)) s.memory stays) in
    let freely : o_there ≡ q = does (ap (λ result. slot_for (launch_in result) us) (sym over.result) ∙ starts) in
    let same : SameBut all o q = subst (λ x. SameBut all o x) freely over in
    turns_alike mine all s t who (plan (free_in us)) (plan (free_in vs)) (with_lists s.units who.job) (with_lists t.units who.job) (with_lists s.units who.job (quiet ended)) (with_lists t.units who.job (quiet ended)) same
    (λ r is. lists_put mine s.units t.units who.job r alike.units
    (ap (λ result. slot_for (launch_in result) us) (sym is) ∙ (starts ∙ ap (λ result. slot_for (launch_in result) vs) (sym same.result ∙ is))))
    (lists_put mine s.units t.units who.job (quiet ended) alike.units refl)

-- the least jobs with work are one, where both are the client's
same_job : (mine : Client) (work : Lists → Bool) (u v : Units) (one other : Picked Lists) → first_where work 0 u.jobs ≡ Some one → first_where work 0 v.jobs ≡ Some other → mine one.number ≡ true → mine other.number ≡ true → UnitsAlike mine u v → one ≡ other
same_job mine work u v one other first second own also alike = one_first work u.jobs v.jobs one other first second (alike.jobs one.number own) (alike.jobs other.number also)

binner_alike : (mine : Client) (all : List Interval) (s t : State) (words : List ℕ) (one other : Option (Picked Lists)) → binner_job s.units ≡ one → binner_job t.units ≡ other
    → IsTrue (glance_result (binner_may s.units one) s.memory) → IsTrue (glance_result (binner_may t.units other) t.memory) → mine (number_or_zero one) ≡ true → mine (number_or_zero other) ≡ true → StatesAlike mine all s t
    → binner_starts s one words ≡ binner_starts t other words → StaysIn all (binner_turn s.units one words) s.memory → GaveAlike mine all (world_turned s (binner_turn s.units one words)) (world_turned t (binner_turn t.units other words))
binner_alike mine all s t words None other first second may might own also alike starts stays = absurd (false≢true may)
binner_alike mine all s t words (Some b) None first second may might own also alike starts stays = absurd (false≢true might)
binner_alike mine all s t words (Some b) (Some c) first second may might own also alike starts stays =
    let same : b ≡ c = same_job mine has_binner_work s.units t.units b c first second own also alike.units in
    subst (λ (x : Picked Lists). binner_starts s (Some b) words ≡ binner_starts t (Some x) words → GaveAlike mine all (world_turned s (binner_turn s.units (Some b) words)) (world_turned t (binner_turn t.units (Some x) words))) same
    (λ begin. lists_alike mine all s t (binner_of b.number) (λ free. binner_plan b.item free words) (binner_ended b.item) (binner_does_same b.item words (binner_of b.number) t.memory s.units.qpus t.units.qpus) alike begin stays) starts

renderer_alike : (mine : Client) (all : List Interval) (s t : State) (words : List ℕ) (one other : Option (Picked Lists)) → renderer_job s.units ≡ one → renderer_job t.units ≡ other
    → IsTrue (glance_result (renderer_may one) s.memory) → IsTrue (glance_result (renderer_may other) t.memory) → mine (number_or_zero one) ≡ true → mine (number_or_zero other) ≡ true → StatesAlike mine all s t
    → renderer_starts s one words ≡ renderer_starts t other words → StaysIn all (renderer_turn s.units one words) s.memory
    → GaveAlike mine all (world_turned s (renderer_turn s.units one words)) (world_turned t (renderer_turn t.units other words))
renderer_alike mine all s t words None other first second may might own also alike starts stays = absurd (false≢true may)
renderer_alike mine all s t words (Some b) None first second may might own also alike starts stays = absurd (false≢true might)
renderer_alike mine all s t words (Some b) (Some c) first second may might own also alike starts stays =
    let same : b ≡ c = same_job mine has_renderer_work s.units t.units b c first second own also alike.units in
    subst (λ (x : Picked Lists). renderer_starts s (Some b) words ≡ renderer_starts t (Some x) words → GaveAlike mine all (world_turned s (renderer_turn s.units (Some b) words)) (world_turned t (renderer_turn t.units (Some x) words))) same
    (λ begin. lists_alike mine all s t (renderer_of b.number) (λ free. renderer_plan b.item free words) (renderer_ended b.item) (renderer_does_same b.item words (renderer_of b.number) t.memory s.units.qpus t.units.qpus) alike begin stays) starts

-- processors whose parts are alike, put in both
qpu_put : (mine : Client) (u v : Units) (k : ℕ) (q p : Qpu) → UnitsAlike mine u v → part_of mine q ≡ part_of mine p → UnitsAlike mine (with_qpu u k q) (with_qpu v k p)
qpu_put mine u v k q p alike same = record { jobs = alike.jobs; qpus = map_alike (part_of mine) u.qpus v.qpus k q p alike.qpus same }

-- a plan whose result is handed on twice, from two states that are alike
twice_alike : {R : Type 0} (mine : Client) (all : List Interval) (s t : State) (who : Who) (k : ℕ) (plan : Plan R) (first other : R → Qpu) (wild ends : Qpu) → StatesAlike mine all s t
    → ((r : R) → part_of mine (first r) ≡ part_of mine (other r)) → part_of mine wild ≡ part_of mine ends → Stays all who (plan_mapped (with_qpu s.units k) (plan_mapped first plan)) s.memory
    → GaveAlike mine all (world_turned s (record { who = who; plan = plan_mapped (with_qpu s.units k) (plan_mapped first plan); wild = with_qpu s.units k wild })) (world_turned t (record { who = who; plan = plan_mapped (with_qpu t.units k) (plan_mapped other plan); wild = with_qpu t.units k ends }))
twice_alike {R = R} mine all s t who k plan first other wild ends alike parts wilds stays =
    let put : R → Units = λ r. with_qpu s.units k (first r) in
    let also : R → Units = λ r. with_qpu t.units k (other r) in
    let here : GaveAlike mine all (world_turned s (record { who = who; plan = plan_mapped put plan; wild = with_qpu s.units k wild })) (world_turned t (record { who = who; plan = plan_mapped also plan; wild = with_qpu t.units k ends })) =
    turns_alike mine all s t who plan plan put also (with_qpu s.units k wild) (with_qpu t.units k ends)
    (same_over all who plan s.memory t.memory alike.memory (stays_before first all who plan s.memory (stays_before (with_qpu s.units k) all who (plan_mapped first plan) s.memory stays)))
    (λ r is. qpu_put mine s.units t.units k (first r) (other r) alike.units (parts r)) (qpu_put mine s.units t.units k wild ends alike.units wilds) in
    subst (λ one. GaveAlike mine all (world_turned s (record { who = who; plan = one; wild = with_qpu s.units k wild })) (world_turned t (record { who = who; plan = plan_mapped (with_qpu t.units k) (plan_mapped other plan); wild = with_qpu t.units k ends })))
    (sym (mapped_twice (with_qpu s.units k) first plan))
    (subst (λ one. GaveAlike mine all (world_turned s (record { who = who; plan = plan_mapped put plan; wild = with_qpu s.units k wild })) (world_turned t (record { who = who; plan = one; wild = with_qpu t.units k ends })))
    (sym (mapped_twice (with_qpu t.units k) other plan)) here)

-- the active thread goes on
settled_alike : (mine : Client) (q p : Qpu) (job : ℕ) (own : Option Thread) (over : Bool) (asked : Option Asked) → mine job ≡ true → q.second ≡ p.second → part_of mine q ≡ part_of mine p
    → part_of mine (after_turn q job own over asked) ≡ part_of mine (after_turn p job own over asked)
settled_alike mine q p job own over asked is second parts = search (rules, arith, settled_part, part_settled)

active_part : (mine : Client) (q : Qpu) → thread_seen mine (active_of q) ≡ (if q.second then (part_of mine q).other else (part_of mine q).first)
active_part mine q = chosen_of (thread_seen mine) q.second q.other q.first

same_thread : (mine : Client) (q p : Qpu) (a b : Thread) → active_of q ≡ Some a → active_of p ≡ Some b → mine a.job ≡ true → mine b.job ≡ true → q.second ≡ p.second → part_of mine q ≡ part_of mine p → a ≡ b
same_thread mine q p a b first other own also second parts = search (rules, arith, sees, some_same, active_part)

thread_alike : (mine : Client) (all : List Interval) (s t : State) (k : ℕ) (q p : Qpu) (slot also : Option Thread) (words : List ℕ) → active_of q ≡ slot → active_of p ≡ also → q.second ≡ p.second → part_of mine q ≡ part_of mine p
    → IsTrue (glance_result (ready_by slot q) s.memory) → IsTrue (glance_result (ready_by also p) t.memory) → mine (job_of_thread slot) ≡ true → mine (job_of_thread also) ≡ true → StatesAlike mine all s t
    → StaysIn all (thread_turn s.units k q slot words) s.memory → GaveAlike mine all (world_turned s (thread_turn s.units k q slot words)) (world_turned t (thread_turn t.units k p also words))
thread_alike mine all s t k q p None also words first other second parts may might own owns alike stays = absurd (false≢true may)
thread_alike mine all s t k q p (Some a) None words first other second parts may might own owns alike stays = absurd (false≢true might)
thread_alike mine all s t k q p (Some a) (Some b) words first other second parts may might own owns alike stays =
    subst (λ (x : Thread). GaveAlike mine all (world_turned s (thread_turn s.units k q (Some a) words)) (world_turned t (thread_turn t.units k p (Some x) words))) (same_thread mine q p a b first other own owns second parts)
    (twice_alike mine all s t (record { unit = TheQpu k; job = a.job }) k (thread_plan a words) (went q a) (went p a) (after_stop q a) (after_stop p a) alike
    (λ turn. settled_alike mine q p a.job (left_by turn.leaves.fate turn.thread) (gives_way turn.leaves.fate) turn.leaves.asked own second parts)
    (settled_alike mine q p a.job None true None own second parts) stays)

qpu_alike : (mine : Client) (all : List Interval) (s t : State) (k : ℕ) (words : List ℕ) (one other : Option Qpu) → item_at s.units.qpus k ≡ one → item_at t.units.qpus k ≡ other → is_second one ≡ is_second other
    → IsTrue (glance_result (qpu_may one) s.memory) → IsTrue (glance_result (qpu_may other) t.memory) → mine (qpu_job one) ≡ true → mine (qpu_job other) ≡ true → StatesAlike mine all s t
    → StaysIn all (qpu_turn s.units k one words) s.memory → GaveAlike mine all (world_turned s (qpu_turn s.units k one words)) (world_turned t (qpu_turn t.units k other words))
qpu_alike mine all s t k words None other here there second may might own also alike stays = absurd (false≢true may)
qpu_alike mine all s t k words (Some q) None here there second may might own also alike stays = absurd (false≢true might)
qpu_alike mine all s t k words (Some q) (Some p) here there second may might own also alike stays =
    thread_alike mine all s t k q p (active_of q) (active_of p) words refl refl second (map_at (part_of mine) s.units.qpus t.units.qpus k q p alike.units.qpus here there) may might own also alike stays

-- the oldest request is served
oldest_own : (mine : Client) (requests : List Request) (r : Request) → oldest requests ≡ Some r → mine r.job ≡ true → oldest (requests_of mine requests) ≡ Some r
oldest_own mine requests r is own = search (rules, arith, some_same, own_request)

queue_part : (mine : Client) (q : Qpu) (tmu : ℕ) → requests_of mine (queue_of q tmu) ≡ (if tmu == 0 then (part_of mine q).queue0 else (part_of mine q).queue1)
queue_part mine q tmu = chosen_of (requests_of mine) (tmu == 0) q.queue0.items q.queue1.items

same_request : (mine : Client) (q p : Qpu) (tmu : ℕ) (a b : Request) → oldest (queue_of q tmu) ≡ Some a → oldest (queue_of p tmu) ≡ Some b → mine a.job ≡ true → mine b.job ≡ true → part_of mine q ≡ part_of mine p → a ≡ b
same_request mine q p tmu a b first other own also parts = search (rules, arith, queue_part, some_same, oldest_own)

never_ready : (there : Bool) (m : List ℕ) → IsTrue (glance_result (if there then Now false else Now false) m) → ⊥
never_ready there m may = search (rules, arith, false≢true)

request_alike : (mine : Client) (all : List Interval) (s t : State) (k n : ℕ) (q p : Qpu) (found also : Option Request) (words : List ℕ) → oldest (queue_of q n) ≡ found → oldest (queue_of p n) ≡ also → part_of mine q ≡ part_of mine p
    → IsTrue (glance_result (if nat_lt n 2 then Now (is_some found) else Now false) s.memory) → IsTrue (glance_result (if nat_lt n 2 then Now (is_some also) else Now false) t.memory)
    → mine (job_of_request found) ≡ true → mine (job_of_request also) ≡ true → StatesAlike mine all s t
    → StaysIn all (request_turn s.units k n q found words) s.memory → GaveAlike mine all (world_turned s (request_turn s.units k n q found words)) (world_turned t (request_turn t.units k n p also words))
request_alike mine all s t k n q p None also words first other parts may might own owns alike stays = absurd (never_ready (nat_lt n 2) s.memory may)
request_alike mine all s t k n q p (Some a) None words first other parts may might own owns alike stays = absurd (never_ready (nat_lt n 2) t.memory might)
request_alike mine all s t k n q p (Some a) (Some b) words first other parts may might own owns alike stays =
    let same : a ≡ b = same_request mine q p n a b first other own owns parts in
    let there : oldest (queue_of p n) ≡ Some a = other ∙ ap Some (sym same) in
    subst (λ (x : Request). GaveAlike mine all (world_turned s (request_turn s.units k n q (Some a) words)) (world_turned t (request_turn t.units k n p (Some x) words))) same
    (twice_alike mine all s t (record { unit = TheTmu k n; job = a.job }) k (ask_plan a.ask words) (after_service q n a) (after_service p n a) (after_drop q n) (after_drop p n) alike
    (λ row. served_part mine q n a row first own ∙ (ap (part_served n a row) parts ∙ sym (served_part mine p n a row there own)))
    (dropped_part mine q n a first own ∙ (ap (part_dropped n) parts ∙ sym (dropped_part mine p n a there own))) stays)

tmu_alike : (mine : Client) (all : List Interval) (s t : State) (k n : ℕ) (words : List ℕ) (one other : Option Qpu) → item_at s.units.qpus k ≡ one → item_at t.units.qpus k ≡ other
    → IsTrue (glance_result (tmu_may one n) s.memory) → IsTrue (glance_result (tmu_may other n) t.memory) → mine (tmu_job one n) ≡ true → mine (tmu_job other n) ≡ true → StatesAlike mine all s t
    → StaysIn all (tmu_turn s.units k n one words) s.memory → GaveAlike mine all (world_turned s (tmu_turn s.units k n one words)) (world_turned t (tmu_turn t.units k n other words))
tmu_alike mine all s t k n words None other here there may might own also alike stays = absurd (false≢true may)
tmu_alike mine all s t k n words (Some q) None here there may might own also alike stays = absurd (false≢true might)
tmu_alike mine all s t k n words (Some q) (Some p) here there may might own also alike stays =
    request_alike mine all s t k n q p (oldest (queue_of q n)) (oldest (queue_of p n)) words refl refl (map_at (part_of mine) s.units.qpus t.units.qpus k q p alike.units.qpus here there) may might own also alike stays

-- each unit
unit_alike : (mine : Client) (all : List Interval) (s t : State) (unit : Actor) (words : List ℕ) → IsTrue (glance_result (unit_ready s.units unit) s.memory) → IsTrue (glance_result (unit_ready t.units unit) t.memory)
    → mine (unit_job s.units unit) ≡ true → mine (unit_job t.units unit) ≡ true → StatesAlike mine all s t → active_in s unit ≡ active_in t unit → starts_in s unit words ≡ starts_in t unit words
    → StaysIn all (unit_turn s.units unit words) s.memory → GaveAlike mine all (world_turned s (unit_turn s.units unit words)) (world_turned t (unit_turn t.units unit words))
unit_alike mine all s t TheBinner words may might own also alike second starts stays = binner_alike mine all s t words (binner_job s.units) (binner_job t.units) refl refl may might own also alike starts stays
unit_alike mine all s t TheRenderer words may might own also alike second starts stays = renderer_alike mine all s t words (renderer_job s.units) (renderer_job t.units) refl refl may might own also alike starts stays
unit_alike mine all s t (TheQpu k) words may might own also alike second starts stays = qpu_alike mine all s t k words (item_at s.units.qpus k) (item_at t.units.qpus k) refl refl second may might own also alike stays
unit_alike mine all s t (TheTmu k n) words may might own also alike second starts stays = tmu_alike mine all s t k n words (item_at s.units.qpus k) (item_at t.units.qpus k) refl refl may might own also alike stays

pub own_alike_law : OwnStepsAreAlike
unfolding ready turn job_of
own_alike_law mine all s t event other may_step might own also alike same stays =
    let one : event ≡ other = λ i. record { unit = (same i).unit; words = (same i).words } in
    subst (λ (x : Event). IsTrue (may t x) → mine (job_of t x.unit) ≡ true → entry_of s event ≡ entry_of t x → GaveAlike mine all (step s event) (step t x)) one
    (λ may_there there entries. unit_alike mine all s t event.unit event.words may_step may_there own there alike (λ i. (entries i).second) (λ i. (entries i).starts) stays)
    might also same
