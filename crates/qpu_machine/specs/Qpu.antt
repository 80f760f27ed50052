-- A shader processor with its two threads and the queues of its two TMUs: its own step, that of a TMU,
-- and where a program can start.
use Rattle.std.specs.Prelude.{ℕ, ◌+◌, ◌==◌, ◌&&◌, ◌||◌, not, Bool, true, false, if◌then◌else◌, List, [], ◌∷◌, ◌++◌, drop, length, Option, None, Some, is_some, is_none, option_map, count_by}
use Rattle.machine_plan.specs.{Glance.Glance, Glance.Now, Plan.Plan, Plan.Done, World.plan_mapped}
use Rattle.qpu_machine.specs.State.{Asked, Ends, Fate, Free, GoesOn, Launch, Leaves, Qpu, Request, Slot, Thread}
use Rattle.qpu_machine.specs.{Request.ask_plan, Start.thread_of, Step.ThreadTurn, Step.thread_plan, Step.thread_ready}

-- the thread that is active, where it runs, and the other one
abbrev pub active_of : Qpu → Option Thread
active_of q = if q.second then q.other else q.first

abbrev pub resting_of : Qpu → Option Thread
resting_of q = if q.second then q.first else q.other

abbrev pub job_of_thread : Option Thread → ℕ
job_of_thread None = 0
job_of_thread (Some t) = t.job

-- it is one of this thread's
abbrev pub is_of : Bool → Request → Bool
is_of second request = if second then request.second else not request.second

-- how many requests of one of the two threads a queue has
abbrev pub queue_count : Bool → List Request → ℕ
queue_count second requests = count_by (λ r. is_of second r) requests

abbrev pub ready_by : Option Thread → Qpu → Glance Bool
ready_by None q = Now false
ready_by (Some t) q = thread_ready t (queue_count q.second q.queue0.items) (queue_count q.second q.queue1.items)

-- a processor may step where its active thread runs and isn't held up
abbrev pub qpu_ready : Qpu → Glance Bool
qpu_ready q = ready_by (active_of q) q

-- an end leaves no thread, and gives way to the other one, as a switch does
abbrev pub left_by : Fate → Thread → Option Thread
left_by Ends t = None
left_by other t = Some t

abbrev pub kept_by : Fate → Option Thread → Option Thread
kept_by Ends slot = None
kept_by other slot = slot

abbrev pub gives_way : Fate → Bool
gives_way GoesOn = false
gives_way other = true

-- a thread that becomes active is fresh
abbrev pub fresh_thread : Thread → Thread
fresh_thread t = record t { fresh = true }

abbrev pub woken_slot : Bool → Option Thread → Option Thread
woken_slot over slot = if over then option_map fresh_thread slot else slot

-- a TMU's queue with what was asked of it
abbrev pub queue_with : ℕ → Bool → ℕ → Option Asked → List Request → List Request
queue_with tmu second job None requests = requests
queue_with tmu second job (Some asked) requests =
    if asked.tmu == tmu then requests ++ (record { second = second; job = job; ask = asked.ask }) ∷ [] else requests

-- The processor after a step of its active thread for this job, which left this of the thread. Where
-- the thread gives way, the other one becomes active if it runs.
unfoldable pub after_turn : Qpu → ℕ → Option Thread → Bool → Option Asked → Qpu
after_turn q job own over asked = record q {
  second = if over && is_some (resting_of q) then not q.second else q.second;
  first = if q.second then woken_slot over q.first else own;
  other = if q.second then own else woken_slot over q.other;
  queue0 = record { items = queue_with 0 q.second job asked q.queue0.items };
  queue1 = record { items = queue_with 1 q.second job asked q.queue1.items };
}

-- the thread that is active is this, or none
abbrev pub with_active : Qpu → Option Thread → Qpu
with_active q slot = record q { first = if q.second then q.first else slot; other = if q.second then slot else q.other }

-- The processor after a step whose thread stands in its slot already; an undefined one leaves nothing.
abbrev pub left_slot : Option Leaves → Option Thread → Option Thread
left_slot None slot = None
left_slot (Some leaves) slot = kept_by leaves.fate slot

abbrev pub gives_way_by : Option Leaves → Bool
gives_way_by None = true
gives_way_by (Some leaves) = gives_way leaves.fate

abbrev pub asked_by : Option Leaves → Option Asked
asked_by None = None
asked_by (Some leaves) = leaves.asked

unfoldable pub settled_by : Qpu → ℕ → Option Leaves → Qpu
settled_by q job left = after_turn q job (left_slot left (active_of q)) (gives_way_by left) (asked_by left)

abbrev pub went : Qpu → Thread → ThreadTurn → Qpu
went q t turn = after_turn q t.job (left_by turn.leaves.fate turn.thread) (gives_way turn.leaves.fate) turn.leaves.asked

-- an undefined instruction ends its thread
abbrev pub after_stop : Qpu → Thread → Qpu
after_stop q t = after_turn q t.job None true None

abbrev pub plan_by : Option Thread → Qpu → List ℕ → Plan Qpu
plan_by None q words = Done q
plan_by (Some t) q words = plan_mapped (went q t) (thread_plan t words)

-- the step of a processor, and what it keeps after an undefined one
abbrev pub qpu_plan : Qpu → List ℕ → Plan Qpu
qpu_plan q words = plan_by (active_of q) q words

abbrev pub stopped_by : Option Thread → Qpu → Qpu
stopped_by None q = q
stopped_by (Some t) q = after_stop q t

abbrev pub qpu_stopped : Qpu → Qpu
qpu_stopped q = stopped_by (active_of q) q

-- TMU 0 or TMU 1
abbrev pub queue_of : Qpu → ℕ → List Request
queue_of q tmu = if tmu == 0 then q.queue0.items else q.queue1.items

-- a TMU may step where its queue isn't empty, and serves the oldest request
abbrev pub oldest : List Request → Option Request
oldest [] = None
oldest (request ∷ requests) = Some request

abbrev pub job_of_request : Option Request → ℕ
job_of_request None = 0
job_of_request (Some request) = request.job

abbrev pub tmu_ready : Qpu → ℕ → Glance Bool
tmu_ready q tmu = Now (is_some (oldest (queue_of q tmu)))

-- the thread with one more result of a TMU
abbrev pub with_result : ℕ → Option (List ℕ) → Thread → Thread
with_result tmu row t = record t {
  results0 = record { items = if tmu == 0 then t.results0.items ++ row ∷ [] else t.results0.items };
  results1 = record { items = if tmu == 0 then t.results1.items else t.results1.items ++ row ∷ [] };
}

-- The oldest request is gone.
unfoldable pub after_drop : Qpu → ℕ → Qpu
after_drop q tmu = record q {
  queue0 = record { items = if tmu == 0 then drop 1 q.queue0.items else q.queue0.items };
  queue1 = record { items = if tmu == 0 then q.queue1.items else drop 1 q.queue1.items };
}

abbrev pub slot_of : Qpu → Bool → Option Thread
slot_of q second = if second then q.other else q.first

-- The thread has the result, unless it is idle.
unfoldable pub result_given : Qpu → ℕ → Bool → Option (List ℕ) → Qpu
result_given q tmu second row = record q {
  first = if second then q.first else option_map (with_result tmu row) q.first;
  other = if second then option_map (with_result tmu row) q.other else q.other;
}

-- The oldest request is gone, and its thread has the result, unless that is idle by now.
abbrev pub after_service : Qpu → ℕ → Request → Option (List ℕ) → Qpu
after_service q tmu request row = result_given (after_drop q tmu) tmu request.second row

abbrev pub serving : Option Request → Qpu → ℕ → List ℕ → Plan Qpu
serving None q tmu words = Done q
serving (Some request) q tmu words = plan_mapped (after_service q tmu request) (ask_plan request.ask words)

-- the step of a TMU; after an undefined one its request is dropped without a result
abbrev pub tmu_plan : Qpu → ℕ → List ℕ → Plan Qpu
tmu_plan q tmu words = serving (oldest (queue_of q tmu)) q tmu words

-- a thread's own queues are empty
abbrev pub has_none : Bool → Qpu → Bool
has_none second q = queue_count second q.queue0.items == 0 && queue_count second q.queue1.items == 0

-- beside a thread that is idle, or runs a threaded program
abbrev pub is_beside : Option Thread → Bool
is_beside None = true
is_beside (Some t) = t.threaded

-- A threaded program can start in a thread that is idle with empty queues, beside one that is idle or
-- runs a threaded program. Any other starts in the first thread, of a processor where both threads are
-- idle and all queues are empty.
unfoldable pub takes_first : Bool → Qpu → Bool
takes_first threaded q =
    (is_none q.first && has_none false q) && (if threaded then is_beside q.other else (is_none q.other && has_none true q))

unfoldable pub takes_other : Bool → Qpu → Bool
takes_other threaded q = threaded && ((is_none q.other && has_none true q) && is_beside q.first)

-- A thread that starts becomes active where the other one is idle.
unfoldable pub in_first : Qpu → Thread → Qpu
in_first q t = record q { first = Some t; second = q.second && is_some q.other }

unfoldable pub in_other : Qpu → Thread → Qpu
in_other q t = record q { other = Some t; second = q.second || is_none q.first }

abbrev pub in_slot : Bool → Qpu → Thread → Qpu
in_slot second q t = if second then in_other q t else in_first q t

-- a program starts in the first thread of the first processor that can take it, if there is one
abbrev pub started_in : Bool → Thread → List Qpu → List Qpu
started_in threaded t [] = []
started_in threaded t (q ∷ qpus) =
    if takes_first threaded q then in_first q t ∷ qpus
    else (if takes_other threaded q then in_other q t ∷ qpus else q ∷ started_in threaded t qpus)

abbrev pub after_launch : ℕ → Launch → List Qpu → List Qpu
after_launch job launch qpus = started_in launch.threaded (thread_of job launch) qpus

-- where it would start, from processor n on
abbrev pub slot_from : Bool → ℕ → List Qpu → Option Slot
slot_from threaded n [] = None
slot_from threaded n (q ∷ qpus) =
    if takes_first threaded q then Some (record { qpu = n; second = false })
    else (if takes_other threaded q then Some (record { qpu = n; second = true }) else slot_from threaded (n + 1) qpus)

abbrev pub free_in : List Qpu → Free
free_in qpus = record { threaded = slot_from true 0 qpus; plain = slot_from false 0 qpus }

-- A processor has no work where both threads are idle and both queues are empty.
abbrev pub is_idle : Qpu → Bool
is_idle q = (is_none q.first && is_none q.other) && (length q.queue0.items == 0 && length q.queue1.items == 0)

-- a processor at the start
abbrev pub idle_qpu : Qpu
idle_qpu = record { first = None; other = None; second = false; queue0 = record { items = [] }; queue1 = record { items = [] } }
