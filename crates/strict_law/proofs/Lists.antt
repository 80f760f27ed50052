-- Which packets the binner executes for each job, whichever unit steps, and in each run of strict jobs.
use Rattle.std.proofs.Common.{◌≡◌, ◌<◌, ℕ, ◌+◌, ◌/◌, ◌^◌, ◌==◌, ◌||◌, not, true, nat_lt, IsTrue, List, [], ◌∷◌, map, slice_index, Option, Some, None, IfSome, if◌then◌else◌, refl, sym, ◌∙◌, ap, subst, arith}
use Rattle.std.proofs.lemmas.Bool.{eq-eqb, false≢true, ne_eqb}
use Rattle.std.proofs.{lemmas.Grind.common_steps, lemmas.Bool.Decides.nat_tests}
use Rattle.std.specs.Prelude.{is_some}
use Rattle.field_words.specs.declared.access.Actor.TheVariants.{Binner as TheBinner, Renderer as TheRenderer, Qpu as TheQpu, Tmu as TheTmu}
use Rattle.field_words.specs.declared.access.Actor.{Actor}
use Rattle.machine_plan.specs.{declared.launch.Free.Free, Glance.glance_result}
use Rattle.machine_plan.specs.Regions.{Interval, Rights, rights_of, HasReadOnly}
use Rattle.list_machine.specs.{declared.state.Work.Work, Binner.has_binner_work, Binner.binner_ready, Binner.binner_plan, Renderer.has_renderer_work, Renderer.renderer_ready, Renderer.renderer_plan}
use Rattle.list_machine.specs.Lists.{Lists, binner_of, renderer_of}
use Rattle.list_law.proofs.Bytes.{none_left}
use Rattle.qpu_machine.specs.{declared.state.Qpu.Qpu, Qpu.free_in, Qpu.qpu_plan, Qpu.tmu_plan}
use Rattle.machine.specs.{declared.job.Start.Start, State.Picked, State.State, State.Units, State.binner_job, State.item_at, State.job_start, State.renderer_job, State.units_start}
use Rattle.machine.specs.Step.{Event, with_lists, with_qpu, is_ahead, binner_may, renderer_may, binner_turn, renderer_turn, qpu_turn, tmu_turn, unit_ready, unit_turn}
use Rattle.machine_law.specs.{Units.EachAt}
use Rattle.machine_law.proofs.Owes.{PickedFine, put_each, first_fine, not_held}
use Rattle.machine_law.proofs.Begins.{fixed_part}
use Rattle.apart_law.proofs.Places.{first_is}
use Rattle.ends_law.proofs.{Begins.bin_starts, Plans.Comes, Plans.comes_any, Plans.comes_into}
use Rattle.strict_law.specs.{Records.selects_missing, Strict.DrawStrict, Strict.JobStrict}
use Rattle.bin_walks.specs.Walks.{nothing_kept}
use Rattle.list_law.proofs.Start.{walks_so}
use Rattle.packets.specs.StateWord.{attribute_count, record_size}
use Rattle.list_machine.specs.Fetch.{record_place}
use Rattle.list_law.specs.Emitted.{RecordLies}
use Rattle.emitted_facts.proofs.Records.{header_in}
use Rattle.promises.specs.Rights.{IsFixed}
use Rattle.machine_plan.specs.Memory.{bytes_at}
use Rattle.machine_plan.proofs.Memory.{inside_part}
use Rattle.strict_law.specs.Lists.{packet_at, ExecutesPacket, Executed, executed_by, executed_in, executed_after, executed_kept, executed_along, IsForbiddenPacket, StrictListsObey}
use Rattle.strict_law.proofs.{Watch.each_put, WatchRuns.run_known}
use Rattle.strict_law.proofs.{Packets.breaks_none, Packets.packet_obeys, Packets.selects_there, Binners.Selects, Binners.BinLeft, Binners.BinGoes, Binners.ListsGo, Binners.packet_is, Binners.binner_goes, Binners.renderer_stays}

-- What is known of a job's lists, by the packets that its binner has executed, is known again after a step of one of them over this memory.
pub record Goes (OfJob : ℕ → List (List ℕ) → Lists → Type 0) (m : List ℕ) : Type 0 where
  pub binner : (j : ℕ) (executed : List (List ℕ)) (s : Lists) (free : Free) (words : List ℕ) → OfJob j executed s → glance_result (binner_ready s free) m ≡ true
      → Comes (binner_of j) (λ turned. OfJob j (executed_by s.binner.work s.binner.place m executed) turned.lists) (binner_plan s free words) m
  pub renderer : (j : ℕ) (executed : List (List ℕ)) (s : Lists) (free : Free) (words : List ℕ) → OfJob j executed s → glance_result (renderer_ready s) m ≡ true
      → Comes (renderer_of j) (λ turned. OfJob j executed turned.lists) (renderer_plan s free words) m

-- so it is of each job
abbrev pub EachGoes : (ℕ → List (List ℕ) → Lists → Type 0) → Executed → Units → Type 0
EachGoes OfJob executed u = EachAt (λ j s. OfJob j (executed j) s) 0 u.jobs

binner_comes : (OfJob : ℕ → List (List ℕ) → Lists → Type 0) (executed : Executed) (u : Units) (found : Option (Picked Lists)) (words m : List ℕ) → Goes OfJob m → EachGoes OfJob executed u → IfSome found (PickedFine (λ j s. OfJob j (executed j) s))
    → IsTrue (glance_result (binner_may u found) m) → Comes (binner_turn u found words).who (EachGoes OfJob (executed_in found m executed)) (binner_turn u found words).plan m
binner_comes OfJob executed u None words m goes all job may = absurd (false≢true may)
binner_comes OfJob executed u (Some b) words m goes all job may =
    let free : Free = free_in u.qpus in
    let j : ℕ = b.number in
    let after : List (List ℕ) = executed_by b.item.binner.work b.item.binner.place m (executed j) in
    comes_into (binner_of j) (with_lists u j) (λ turned. OfJob j after turned.lists) (EachGoes OfJob (executed_in (Some b) m executed))
    (λ turned one. each_put (λ i s. OfJob i (executed i) s) (λ i s. OfJob i (executed_in (Some b) m executed i) s) 0 j j u.jobs turned.lists (omega arith)
    (λ i s other known. subst (λ here. OfJob i (if here then executed_by b.item.binner.work b.item.binner.place m (executed i) else executed i) s) (sym (ne_eqb i j other)) known)
    (subst (λ here. OfJob j (if here then after else executed j) turned.lists) (sym (eq-eqb j j refl)) one) all)
    (binner_plan b.item free words) m (goes.binner j (executed j) b.item free words job (not_held (is_ahead j (renderer_job u)) (binner_ready b.item free) m may))

renderer_comes : (OfJob : ℕ → List (List ℕ) → Lists → Type 0) (executed : Executed) (u : Units) (found : Option (Picked Lists)) (words m : List ℕ) → Goes OfJob m → EachGoes OfJob executed u → IfSome found (PickedFine (λ j s. OfJob j (executed j) s))
    → IsTrue (glance_result (renderer_may found) m) → Comes (renderer_turn u found words).who (EachGoes OfJob executed) (renderer_turn u found words).plan m
renderer_comes OfJob executed u None words m goes all job may = absurd (false≢true may)
renderer_comes OfJob executed u (Some r) words m goes all job may =
    let free : Free = free_in u.qpus in
    let j : ℕ = r.number in
    comes_into (renderer_of j) (with_lists u j) (λ turned. OfJob j (executed j) turned.lists) (EachGoes OfJob executed)
    (λ turned one. put_each (λ i s. OfJob i (executed i) s) 0 j j u.jobs turned.lists (omega arith) one all) (renderer_plan r.item free words) m (goes.renderer j (executed j) r.item free words job may)

qpu_comes : (OfJob : ℕ → List (List ℕ) → Lists → Type 0) (executed : Executed) (u : Units) (k : ℕ) (found : Option Qpu) (words m : List ℕ) → EachGoes OfJob executed u → Comes (qpu_turn u k found words).who (EachGoes OfJob executed) (qpu_turn u k found words).plan m
qpu_comes OfJob executed u k None words m all = all
qpu_comes OfJob executed u k (Some q) words m all = comes_any (qpu_turn u k (Some q) words).who (EachGoes OfJob executed) (with_qpu u k) (λ next. all) (qpu_plan q words) m

tmu_comes : (OfJob : ℕ → List (List ℕ) → Lists → Type 0) (executed : Executed) (u : Units) (k n : ℕ) (found : Option Qpu) (words m : List ℕ) → EachGoes OfJob executed u → Comes (tmu_turn u k n found words).who (EachGoes OfJob executed) (tmu_turn u k n found words).plan m
tmu_comes OfJob executed u k n None words m all = all
tmu_comes OfJob executed u k n (Some q) words m all = comes_any (tmu_turn u k n (Some q) words).who (EachGoes OfJob executed) (with_qpu u k) (λ next. all) (tmu_plan q n words) m

pub unit_goes : (OfJob : ℕ → List (List ℕ) → Lists → Type 0) (executed : Executed) (u : Units) (unit : Actor) (words m : List ℕ) → Goes OfJob m → EachGoes OfJob executed u → IsTrue (glance_result (unit_ready u unit) m)
    → Comes (unit_turn u unit words).who (EachGoes OfJob (executed_after u unit m executed)) (unit_turn u unit words).plan m
unit_goes OfJob executed u TheBinner words m goes all may = binner_comes OfJob executed u (binner_job u) words m goes all (first_fine (λ j s. OfJob j (executed j) s) has_binner_work 0 u.jobs all) may
unit_goes OfJob executed u TheRenderer words m goes all may = renderer_comes OfJob executed u (renderer_job u) words m goes all (first_fine (λ j s. OfJob j (executed j) s) has_renderer_work 0 u.jobs all) may
unit_goes OfJob executed u (TheQpu k) words m goes all may = qpu_comes OfJob executed u k (item_at u.qpus k) words m all
unit_goes OfJob executed u (TheTmu k n) words m goes all may = tmu_comes OfJob executed u k n (item_at u.qpus k) words m all

-- The binner's job has work, and what is known of all is known of it.
pub record Picks (OfJob : ℕ → List (List ℕ) → Lists → Type 0) (executed : Executed) (j : ℕ) (lists : Lists) : Type 0 where
  pub known : OfJob j (executed j) lists
  pub works : has_binner_work lists ≡ true

pub picks : (OfJob : ℕ → List (List ℕ) → Lists → Type 0) (executed : Executed) (s : State) (event : Event) (j : ℕ) (packet : List ℕ) → EachGoes OfJob executed s.units → (one : ExecutesPacket s event j packet) → Picks OfJob executed j one.lists
picks OfJob executed s event j packet all one = record {
  known = subst (λ (found : Option (Picked Lists)). IfSome found (PickedFine (λ i lists. OfJob i (executed i) lists))) one.is (first_fine (λ i lists. OfJob i (executed i) lists) has_binner_work 0 s.units.jobs all);
  works = (first_is has_binner_work s.units.jobs (record { number = j; item = one.lists }) one.is).passes;
}

below_by : (place end : ℕ) (work : Option Work) → work ≡ None → (nat_lt place end || is_some work) ≡ true → place < end
below_by place end (Some work) none works = absurd cc
below_by place end None none works = grind (arith, common_steps, nat_tests, works)

-- It executes no packet that is forbidden.
next_obeys : (K : List ℕ → Type 0) (executed : List (List ℕ)) (place end : ℕ) (m packet : List ℕ) (rest : List (List ℕ)) → K m → BinLeft K executed place end rest → place < end → packet ≡ packet_at m place → IsForbiddenPacket m executed packet → ⊥
next_obeys K executed place end m packet [] here left below is forbidden = none_left place end left.bin.ends below
next_obeys K executed place end m packet (next ∷ packets) here left below is forbidden =
    packet_obeys m executed next (let walks = left.selects in selects_there m left.config (Selects K) executed next (λ word none. none m here) walks.0) left.few (breaks_none executed next packets left.strict)
    (subst (λ p. IsForbiddenPacket m executed p) (is ∙ sym (packet_is K place end m next packets here left.bin)) forbidden)

pub lists_obey : (K : List ℕ → Type 0) (executed : List (List ℕ)) (s : State) (event : Event) (j : ℕ) (packet : List ℕ) → K s.memory → (one : ExecutesPacket s event j packet) → ListsGo K executed one.lists → has_binner_work one.lists ≡ true
    → IsForbiddenPacket s.memory executed packet → ⊥
lists_obey K executed s event j packet here one left works forbidden =
    let binner = one.lists.binner in
    next_obeys K executed binner.place binner.end s.memory packet left.0 here left.1 (below_by binner.place binner.end binner.work one.no_work works) one.next forbidden

-- Along a run.
abbrev OfRun : List Rights → List ℕ → ℕ → List (List ℕ) → Lists → Type 0
OfRun rights first j executed s = ListsGo (HasReadOnly rights first) executed s

run_goes : (rights : List Rights) (first m : List ℕ) → HasReadOnly rights first m → Goes (OfRun rights first) m
run_goes rights first m has = record {
  binner = λ j executed s free words left on. binner_goes (binner_of j) (HasReadOnly rights first) executed s free words m has left on;
  renderer = λ j executed s free words left on. renderer_stays (renderer_of j) (λ place end. BinGoes (HasReadOnly rights first) executed place end) s free words m left;
}

-- The record of a primitive of a strict job stays as it is.
byte_stays : (m first : List ℕ) (place : ℕ) → bytes_at m place 1 ≡ bytes_at first place 1 → slice_index m place ≡ slice_index first place
unfolding bytes_at
byte_stays m first place same = ap (λ bytes. slice_index bytes 0) same

record_byte : (rights : List Rights) (first m : List ℕ) (j word i : ℕ) → RecordLies (rights_of rights j).region first word → IsFixed rights (record_place word) (record_size word) → HasReadOnly rights first m → i < 36 → slice_index m (record_place word + i) ≡ slice_index first (record_place word + i)
record_byte rights first m j word i stands fixed has small =
    let room = header_in word in
    byte_stays m first (record_place word + i)
    (fixed_part rights first m j (record_place word) (record_size word) (record_place word + i) 1 fixed has (omega arith) (omega (arith, room, small))
    (inside_part (rights_of rights j).region (record_place word) (record_size word) (record_place word + i) 1 stands.inside (omega arith) (omega (arith, room, small))))

pub draw_selects : (rights : List Rights) (plains : ℕ → List Interval) (first : List ℕ) (j word : ℕ) (packet : List ℕ) → DrawStrict rights plains first j word packet → Selects (HasReadOnly rights first) word packet
unfolding selects_missing
draw_selects rights plains first j word packet draws m has =
    let begins = draws.begins in
    let stays : (i : ℕ) → i < 36 → slice_index m (record_place word + i) ≡ slice_index first (record_place word + i) = λ i small. record_byte rights first m j word i begins.record_lies begins.record_fixed has small in
    ap (λ b. not (b / 2 ^ attribute_count word == 0) || not (slice_index m (record_place word + 26) / 2 ^ attribute_count word == 0)) (stays 14 (omega arith))
    ∙ (ap (λ b. not (slice_index first (record_place word + 14) / 2 ^ attribute_count word == 0) || not (b / 2 ^ attribute_count word == 0)) (stays 26 (omega arith)) ∙ draws.selects)

-- A strict job begins so.
pub job_goes : (rights : List Rights) (plains : ℕ → List Interval) (first : List ℕ) (j : ℕ) (start : Start) → JobStrict rights plains first j start → ListsGo (HasReadOnly rights first) [] (job_start start)
job_goes rights plains first j start job = (
  job.begins.packets,
  record { bin = bin_starts rights plains first j start (DrawStrict rights plains first j) job.begins job.draws; few = omega arith; strict = job.list; config = job.begins.config; selects = walks_so job.begins.config (DrawStrict rights plains first j) (Selects (HasReadOnly rights first)) (λ word packet draws kind. draw_selects rights plains first j word packet draws) nothing_kept job.begins.packets job.draws },
)

each_start : (rights : List Rights) (plains : ℕ → List Interval) (first : List ℕ) (k : ℕ) (starts : List Start) → EachAt (JobStrict rights plains first) k starts → EachAt (λ j s. OfRun rights first j [] s) k (map job_start starts)
each_start rights plains first k [] all = tt
each_start rights plains first k (start ∷ starts) all = (job_goes rights plains first k start all.0, each_start rights plains first (k + 1) starts all.1)

pub strict_lists_obey_law : StrictListsObey
strict_lists_obey_law rights plains first m starts plain has all = record {
  every_run = λ happenings found s run event j packet one forbidden.
      let executed : Executed = executed_along (record { memory = m; units = units_start starts }) happenings (λ k. []) in
      let last = run_known Executed executed_kept (EachGoes (OfRun rights first)) rights plains first m starts (λ k. []) plain has all
      (λ n same u unit words was goes may. unit_goes (OfRun rights first) was u unit words n (run_goes rights first n same) goes may) (each_start rights plains first 0 starts all) happenings found s run in
      let picked = picks (OfRun rights first) executed s event j packet last.known one in
      lists_obey (HasReadOnly rights first) (executed j) s event j packet last.holds.has one picked.known picked.works forbidden;
}
