-- Code that carried out a unit's plan took the machine's turn, unit by unit.
use Rattle.std.proofs.Common.{◌≡◌, ◌<◌, ℕ, zero, suc, Bool, true, false, IsTrue, List, [], ◌∷◌, length, slice_index_or, slice_set, Option, Some, None, refl, sym, ◌∙◌, ap, subst, arith}
use Rattle.std.proofs.{lemmas.List.length-set, lemmas.Option.slice_get_read, lemmas.Grind.common_steps}
use Rattle.std.specs.Prelude.{option_map, unwrap_or}
use Rattle.field_words.specs.{declared.access.Access.Access, declared.access.Actor.Actor}
use Rattle.field_words.specs.declared.access.Actor.TheVariants.{Qpu as TheQpu, Tmu as TheTmu}
use Rattle.machine_plan.specs.{declared.launch.Free.Free, declared.launch.Launch.Launch, declared.who.Who.Who, Glance.glance_result, Glance.Now}
use Rattle.machine_plan.specs.{Plan.Plan, Plan.Shows, Plan.outcome_of, Turn.if_tame, World.Moves, World.Turn, World.world_turned, World.plan_mapped}
use Rattle.machine_plan.specs.Runs.{Moved}
use Rattle.machine_plan.proofs.Worlds.{unit_done}
use Rattle.list_machine.specs.{Lists.Lists, Lists.Turned, Lists.turned_to, Lists.quiet, Binner.binner_ready}
use Rattle.qpu_machine.specs.Qpu.{active_of, job_of_thread, qpu_plan, qpu_stopped, queue_of, oldest, job_of_request, tmu_plan, after_drop, free_in, idle_qpu}
use Rattle.qpu_machine.specs.{declared.state.Qpu.Qpu, Bounds.IsBounded}
use Rattle.machine.specs.State.{Units, State, item_at, put_at, job_at, AreWhole}
use Rattle.machine.specs.Step.{qpu_may, tmu_may, with_launch, with_lists, with_qpu, qpu_turn, tmu_turn}
use Rattle.qpu_machine.proofs.Starts.{inside_any, set_bounded}

-- a unit that may step is there
pub qpu_there : (qpus : List Qpu) (k : ℕ) (m : List ℕ) → IsTrue (glance_result (qpu_may (item_at qpus k)) m) → k < length qpus
qpu_there [] k m may = absurd cc
qpu_there (q ∷ qpus) zero m may = omega arith
qpu_there (q ∷ qpus) (suc k) m may = let h = qpu_there qpus k m may in omega (arith, h)

pub tmu_there : (qpus : List Qpu) (k n : ℕ) (m : List ℕ) → IsTrue (glance_result (tmu_may (item_at qpus k) n) m) → k < length qpus
tmu_there [] k n m may = absurd cc
tmu_there (q ∷ qpus) zero n m may = omega arith
tmu_there (q ∷ qpus) (suc k) n m may = let h = tmu_there qpus k n m may in omega (arith, h)

pub qpu_below : (s was : State) (k : ℕ) → s ≡ was → IsTrue (glance_result (qpu_may (item_at was.units.qpus k)) was.memory) → k < length s.units.qpus
qpu_below s was k is may = qpu_there s.units.qpus k s.memory (subst (λ (w : State). IsTrue (glance_result (qpu_may (item_at w.units.qpus k)) w.memory)) (sym is) may)

pub tmu_below : (s was : State) (k n : ℕ) → s ≡ was → IsTrue (glance_result (tmu_may (item_at was.units.qpus k) n) was.memory) → k < length s.units.qpus
tmu_below s was k n is may = tmu_there s.units.qpus k n s.memory (subst (λ (w : State). IsTrue (glance_result (tmu_may (item_at w.units.qpus k) n) w.memory)) (sym is) may)

-- the code's processor k is that of the list
pub qpu_here : (s was : State) (k : ℕ) (q : Qpu) → s ≡ was → IsTrue (glance_result (qpu_may (item_at was.units.qpus k)) was.memory) → q ≡ slice_index_or s.units.qpus k q → q ≡ slice_index_or s.units.qpus k idle_qpu
qpu_here s was k q is may here =
    here ∙ inside_any s.units.qpus k q (qpu_below s was k is may)

pub tmu_here : (s was : State) (k n : ℕ) (q : Qpu) → s ≡ was → IsTrue (glance_result (tmu_may (item_at was.units.qpus k) n) was.memory) → q ≡ slice_index_or s.units.qpus k q → q ≡ slice_index_or s.units.qpus k idle_qpu
tmu_here s was k n q is may here =
    here ∙ inside_any s.units.qpus k q (tmu_below s was k n is may)

-- what a processor's step leaves, undefined or not
qpu_after : (u : Units) (k : ℕ) (next wild : Qpu) (done : Bool) → (done ≡ false → next ≡ wild) → with_qpu u k next ≡ unwrap_or (option_map (with_qpu u k) (if_tame done next)) (with_qpu u k wild)
qpu_after u k next wild true h = refl
qpu_after u k next wild false h = ap (with_qpu u k) (h refl)

-- the state with this at processor k
abbrev pub PutQpu : State → ℕ → Qpu → State
PutQpu s k q = record { memory = s.memory; units = with_qpu s.units k q }

-- the turn of processor k, or of one of its TMUs
processor_done : (s was : State) → s ≡ was → (k job own : ℕ) (unit : Actor) (plan : Plan Qpu) (turn : Units → Turn Units) (next wild : Qpu) (done : Bool) (before listed : List Access) → before ≡ [] → job ≡ own
    → turn s.units ≡ record { who = record { unit = unit; job = own }; plan = plan_mapped (with_qpu s.units k) plan; wild = with_qpu s.units k wild }
    → Shows (outcome_of (record { unit = unit; job = job }) plan s.memory) before listed s.memory (if_tame done next) → (done ≡ false → next ≡ wild) → Moves (world_turned was (turn was.units)) listed (PutQpu s k next)
processor_done s was is k job own unit plan turn next wild done before listed empty job_is turn_is shows stops =
    let shown : Shows (outcome_of (record { unit = unit; job = own }) plan s.memory) [] listed s.memory (if_tame done next) =
    subst (λ j. Shows (outcome_of (record { unit = unit; job = j }) plan s.memory) [] listed s.memory (if_tame done next)) job_is
    (subst (λ b. Shows (outcome_of (record { unit = unit; job = job }) plan s.memory) b listed s.memory (if_tame done next)) empty shows) in
    let moves = unit_done s (record { unit = unit; job = own }) plan (with_qpu s.units k) (with_qpu s.units k wild) listed s.memory (if_tame done next) shown in
    subst (λ (w : State). Moves (world_turned w (turn w.units)) listed (PutQpu s k next)) is
    (subst (λ (t : Turn Units). Moves (world_turned s t) listed (PutQpu s k next)) (sym turn_is)
    (record { accesses_are = moves.accesses_are; state_is = ap (λ u. record { memory = s.memory; units = u }) (qpu_after s.units k next wild done stops) ∙ moves.state_is }))

pub qpu_done : (s was : State) → s ≡ was → (k job : ℕ) (words : List ℕ) (q next : Qpu) (done : Bool) (before listed : List Access) → before ≡ [] → k < length s.units.qpus → q ≡ slice_index_or s.units.qpus k q → job ≡ job_of_thread (active_of q)
    → Shows (outcome_of (record { unit = TheQpu k; job = job }) (qpu_plan q words) s.memory) before listed s.memory (if_tame done next) → (done ≡ false → next ≡ qpu_stopped q)
    → Moves (world_turned was (qpu_turn was.units k (item_at was.units.qpus k) words)) listed (PutQpu s k next)
qpu_done s was is k job words q next done before listed empty below here job_is shows stops =
    processor_done s was is k job (job_of_thread (active_of q)) (TheQpu k) (qpu_plan q words) (λ u. qpu_turn u k (item_at u.qpus k) words) next (qpu_stopped q) done before listed empty job_is
    (ap (λ found. qpu_turn s.units k found words) (slice_get_read s.units.qpus (length s.units.qpus) k q refl below here)) shows stops

pub tmu_done : (s was : State) → s ≡ was → (k n job : ℕ) (words : List ℕ) (q next : Qpu) (done : Bool) (before listed : List Access) → before ≡ [] → k < length s.units.qpus → q ≡ slice_index_or s.units.qpus k q → job ≡ job_of_request (oldest (queue_of q n))
    → Shows (outcome_of (record { unit = TheTmu k n; job = job }) (tmu_plan q n words) s.memory) before listed s.memory (if_tame done next) → (done ≡ false → next ≡ after_drop q n)
    → Moves (world_turned was (tmu_turn was.units k n (item_at was.units.qpus k) words)) listed (PutQpu s k next)
tmu_done s was is k n job words q next done before listed empty below here job_is shows stops =
    processor_done s was is k job (job_of_request (oldest (queue_of q n))) (TheTmu k n) (tmu_plan q n words) (λ u. tmu_turn u k n (item_at u.qpus k) words) next (after_drop q n) done before listed empty job_is
    (ap (λ found. tmu_turn s.units k n found words) (slice_get_read s.units.qpus (length s.units.qpus) k q refl below here)) shows stops

-- the processors stay bounded
pub whole_with : (jobs : List Lists) (qpus : List Qpu) (k : ℕ) (q : Qpu) → AreWhole jobs qpus → IsBounded q → AreWhole jobs (slice_set qpus k q)
whole_with jobs qpus k q are fine = record { some = are.some; few = are.few; twelve = length-set qpus k q ∙ are.twelve; bounded = set_bounded qpus k q are.bounded fine }

-- what a list unit's step leaves, undefined or not
abbrev pub PutLists : State → ℕ → Lists → Option (Option Launch) → List ℕ → State
PutLists s j next started memory = record { memory = memory; units = record { jobs = slice_set s.units.jobs j next; qpus = with_launch j (unwrap_or started None) s.units.qpus } }

lists_after : (u : Units) (j : ℕ) (next ended : Lists) (started : Option (Option Launch)) → (started ≡ None → next ≡ ended)
    → record { jobs = put_at u.jobs j next; qpus = with_launch j (unwrap_or started None) u.qpus } ≡ unwrap_or (option_map (with_lists u j) (option_map (turned_to next) started)) (with_lists u j (quiet ended))
lists_after u j next ended None h = ap (λ one. record { jobs = put_at u.jobs j one; qpus = u.qpus }) (h refl)
lists_after u j next ended (Some launch) h = refl

-- the turn of a list unit for job j
abbrev pub lists_turn : Who → (Lists → Free → List ℕ → Plan Turned) → (Lists → Lists) → Units → ℕ → List ℕ → Turn Units
lists_turn who plan ended u j words = record {
  who = who;
  plan = plan_mapped (with_lists u j) (plan (job_at u.jobs j) (free_in u.qpus) words);
  wild = with_lists u j (quiet (ended (job_at u.jobs j)));
}

pub lists_done : (who : Who) (plan : Lists → Free → List ℕ → Plan Turned) (ended : Lists → Lists) (s was : State) → s ≡ was → (j : ℕ) (words : List ℕ) (old next : Lists) (free : Free) (started : Option (Option Launch)) (before listed : List Access) (memory : List ℕ)
    → before ≡ [] → old ≡ job_at s.units.jobs j → free ≡ free_in s.units.qpus → Shows (outcome_of who (plan old free words) s.memory) before listed memory (option_map (turned_to next) started) → (started ≡ None → next ≡ ended old)
    → Moves (world_turned was (lists_turn who plan ended was.units j words)) listed (PutLists s j next started memory)
lists_done who plan ended s was is j words old next free started before listed memory empty old_is free_is shows stops =
    let here = job_at s.units.jobs j in
    let result = option_map (turned_to next) started in
    let shown : Shows (outcome_of who (plan here (free_in s.units.qpus) words) s.memory) [] listed memory result =
    subst (λ b. Shows (outcome_of who (plan here (free_in s.units.qpus) words) s.memory) b listed memory result) empty
    (subst (λ f. Shows (outcome_of who (plan here f words) s.memory) before listed memory result) free_is
    (subst (λ l. Shows (outcome_of who (plan l free words) s.memory) before listed memory result) old_is shows)) in
    let moves = unit_done s who (plan here (free_in s.units.qpus) words) (with_lists s.units j) (with_lists s.units j (quiet (ended here))) listed memory result shown in
    subst (λ (w : State). Moves (world_turned w (lists_turn who plan ended w.units j words)) listed (PutLists s j next started memory)) is
    (record {
      accesses_are = moves.accesses_are;
      state_is = ap (λ u. record { memory = memory; units = u }) (lists_after s.units j next (ended here) started (λ none. stops none ∙ ap ended old_is)) ∙ moves.state_is;
    })

-- a binner that may step is ready as it is
pub binner_now : (s : Lists) (free : Free) (m : List ℕ) → IsTrue (glance_result (binner_ready s free) m) → binner_ready s free ≡ Now true
unfolding binner_ready
binner_now s free m may = ap Now may

-- job j as the code finds it
pub job_here : (jobs : List Lists) (j : ℕ) (old : Lists) → j < length jobs → old ≡ slice_index_or jobs j old → old ≡ job_at jobs j
job_here jobs j old below here = here ∙ grind (arith, common_steps, below)

-- where the processors after the launch are what the code made of them
pub with_qpus : (s : State) (j : ℕ) (next : Lists) (started : Option (Option Launch)) (launch : Option Launch) (memory : List ℕ) (old now : List Qpu) (moved : Moved State) (listed : List Access)
    → now ≡ with_launch j launch old → old ≡ s.units.qpus → launch ≡ unwrap_or started None → Moves moved listed (PutLists s j next started memory)
    → Moves moved listed (record { memory = memory; units = record { jobs = slice_set s.units.jobs j next; qpus = now } })
with_qpus s j next started launch memory old now moved listed now_is old_is launch_is moves = record {
  accesses_are = moves.accesses_are;
  state_is = ap (λ qpus. record { memory = memory; units = record { jobs = slice_set s.units.jobs j next; qpus = qpus } }) (now_is ∙ (ap (with_launch j launch) old_is ∙ ap (λ l. with_launch j l s.units.qpus) launch_is)) ∙ moves.state_is;
}
