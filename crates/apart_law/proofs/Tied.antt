-- What a step of each unit leaves, said over any property of what all units keep; and requests stay tied to the threads of their jobs.
use Rattle.std.proofs.Common.{◌≡◌, ℕ, zero, suc, ◌+◌, Bool, true, false, not, if◌then◌else◌, List, [], ◌∷◌, replicate, Option, Some, refl, sym, ◌∙◌, arith, rules}
use Rattle.std.proofs.{lemmas.Bool.and_parts, lemmas.Bool.false≢true, lemmas.List.Sums.sum_by-cons}
use Rattle.std.specs.Prelude.{IfSome, option_map}
use Rattle.machine_plan.specs.{declared.launch.Launch.Launch, Regions.Every}
use Rattle.machine_plan.proofs.Runs.{every-append, every-weaker}
use Rattle.qpu_machine.specs.Qpu.{active_of, is_of, queue_count, has_none, woken_slot, queue_with, after_turn, with_result, after_drop, result_given, after_service, slot_of, takes_first, takes_other, in_first, in_other, started_in, idle_qpu}
use Rattle.qpu_machine.specs.{declared.state.Asked.Asked, declared.state.Qpu.Qpu, declared.state.Request.Request}
use Rattle.qpu_machine.specs.declared.state.Thread.{Thread}
use Rattle.machine.specs.Step.{with_launch}
use Rattle.apart_law.specs.Tied.{IsTied, QpuTied, AreTied}
use Rattle.apart_law.proofs.{Parts.some_same, Parts.some_none, Places.chosen, Places.drop_every}

-- a slot's thread is of this job, where one runs
abbrev pub IsOf : ℕ → Option Thread → Type 0
IsOf job slot = IfSome slot (λ t. t.job ≡ job)

-- the slot keeps its thread's job, or its thread ends
abbrev JobStays : Option Thread → Option Thread → Type 0
JobStays slot next = (job : ℕ) → IsOf job slot → IsOf job next

stays_mapped : (f : Thread → Thread) → ((t : Thread) → (f t).job ≡ t.job) → (slot : Option Thread) → JobStays slot (option_map f slot)
stays_mapped f same slot job is = search (rules, arith)

stays_woken : (over : Bool) (slot : Option Thread) → JobStays slot (woken_slot over slot)
stays_woken over slot job is = search (rules, arith, stays_mapped)

of_chosen : (second : Bool) (job : ℕ) (first other next also : Option Thread) → JobStays first next → JobStays other also → IsOf job (if second then other else first) → IsOf job (if second then also else next)
of_chosen second job first other next also one two is = search (rules, arith)

-- each request stays tied where both slots keep their threads' jobs
tied_stays : (q p : Qpu) → JobStays q.first p.first → JobStays q.other p.other → (requests : List Request) → Every (IsTied q) requests → Every (IsTied p) requests
tied_stays q p first other requests all = every-weaker (IsTied q) (IsTied p) (λ r tied. of_chosen r.second r.job q.first q.other p.first p.other first other tied) requests all

-- a step of the active thread
queue_tied : (p : Qpu) (tmu : ℕ) (second : Bool) (job : ℕ) (asked : Option Asked) (requests : List Request) → IsOf job (slot_of p second) → Every (IsTied p) requests → Every (IsTied p) (queue_with tmu second job asked requests)
queue_tied p tmu second job asked requests own all = search (rules, arith, chosen, every-append)

own_stays : (job : ℕ) (slot own : Option Thread) (t : Thread) → slot ≡ Some t → t.job ≡ job → IsOf job own → JobStays slot own
own_stays job slot own t is same of j tied = search (rules, arith, some_none, some_same)

settled_by : (q : Qpu) (second : Bool) (own : Option Thread) (over : Bool) (asked : Option Asked) (t : Thread) → active_of (record q { second = second }) ≡ Some t → IsOf t.job own → QpuTied q → QpuTied (after_turn (record q { second = second }) t.job own over asked)
unfolding after_turn
settled_by q true own over asked t is of tied = search (rules, arith, stays_woken, own_stays, queue_tied, tied_stays)
settled_by q false own over asked t is of tied = search (rules, arith, own_stays, stays_woken, queue_tied, tied_stays)

pub settled_tied : (q : Qpu) (own : Option Thread) (over : Bool) (asked : Option Asked) (t : Thread) → active_of q ≡ Some t → IsOf t.job own → QpuTied q → QpuTied (after_turn q t.job own over asked)
settled_tied q own over asked t is of tied = settled_by q q.second own over asked t is of tied

-- a step of a TMU
pub dropped_tied : (q : Qpu) (tmu : ℕ) → QpuTied q → QpuTied (after_drop q tmu)
unfolding after_drop
dropped_tied q tmu tied = search (rules, arith, chosen, drop_every)

given_stays : (second : Bool) (tmu : ℕ) (row : Option (List ℕ)) (first other : Option Thread)
    → (JobStays first (if second then first else option_map (with_result tmu row) first)) × (JobStays other (if second then option_map (with_result tmu row) other else other))
given_stays second tmu row first other = search (rules, arith, stays_mapped)

given_tied : (q : Qpu) (tmu : ℕ) (second : Bool) (row : Option (List ℕ)) → QpuTied q → QpuTied (result_given q tmu second row)
unfolding result_given
given_tied q tmu second row tied = search (rules, arith, given_stays, tied_stays)

pub served_tied : (q : Qpu) (tmu : ℕ) (r : Request) (row : Option (List ℕ)) → QpuTied q → QpuTied (after_service q tmu r row)
served_tied q tmu r row tied = given_tied (after_drop q tmu) tmu r.second row (dropped_tied q tmu tied)

-- A program starts in a slot that no request names.
abbrev IsOther : Bool → Request → Type 0
IsOther second r = is_of second r ≡ false

none_by : (second : Bool) (r : Request) (rest : ℕ) (here : Bool) → is_of second r ≡ here → (if here then 1 else 0) + rest ≡ 0 → (IsOther second r) × (rest ≡ 0)
none_by second r rest here is none = search (rules, arith)

none_of : (second : Bool) (requests : List Request) → queue_count second requests ≡ 0 → Every (IsOther second) requests
none_of second [] none = tt
none_of second (r ∷ requests) none =
    let both = none_by second r (queue_count second requests) (is_of second r) refl (sym (sum_by-cons (λ (x : Request). if is_of second x then 1 else 0) r requests) ∙ none) in
    (both.0, none_of second requests both.1)

none_queued : (second : Bool) (q : Qpu) → has_none second q ≡ true → (Every (IsOther second) q.queue0.items) × (Every (IsOther second) q.queue1.items)
none_queued second q none = search (rules, arith, and_parts, none_of)

first_stays : (q : Qpu) (t : Thread) (job : ℕ) (second : Bool) → not second ≡ false → IsOf job (if second then q.other else q.first) → IsOf job (if second then q.other else Some t)
first_stays q t job second elsewhere tied = search (rules, arith, false≢true)

other_stays : (q : Qpu) (t : Thread) (job : ℕ) (second : Bool) → second ≡ false → IsOf job (if second then q.other else q.first) → IsOf job (if second then Some t else q.first)
other_stays q t job second elsewhere tied = search (rules, arith, false≢true)

both_give : {X : Type 0} (P Q R : X → Type 0) → ((x : X) → P x → Q x → R x) → (xs : List X) → Every P xs → Every Q xs → Every R xs
both_give P Q R f [] a b = tt
both_give P Q R f (x ∷ xs) a b = (f x a.0 b.0, both_give P Q R f xs a.1 b.1)

first_empty : (threaded : Bool) (q : Qpu) → takes_first threaded q ≡ true → has_none false q ≡ true
unfolding takes_first
first_empty threaded q takes = (and_parts _ _ (and_parts _ _ takes).0).1

other_empty : (threaded : Bool) (q : Qpu) → takes_other threaded q ≡ true → has_none true q ≡ true
unfolding takes_other
other_empty threaded q takes = (and_parts _ _ (and_parts _ _ (and_parts _ _ takes).1).0).1

in_first_tied : (threaded : Bool) (q : Qpu) (t : Thread) → takes_first threaded q ≡ true → QpuTied q → QpuTied (in_first q t)
unfolding in_first
in_first_tied threaded q t takes tied =
    let none = none_queued false q (first_empty threaded q takes) in
    let p : Qpu = in_first q t in
    record {
      queue0 = both_give (IsOther false) (IsTied q) (IsTied p) (λ r elsewhere here. first_stays q t r.job r.second elsewhere here) q.queue0.items none.0 tied.queue0;
      queue1 = both_give (IsOther false) (IsTied q) (IsTied p) (λ r elsewhere here. first_stays q t r.job r.second elsewhere here) q.queue1.items none.1 tied.queue1;
    }

in_other_tied : (threaded : Bool) (q : Qpu) (t : Thread) → takes_other threaded q ≡ true → QpuTied q → QpuTied (in_other q t)
unfolding in_other
in_other_tied threaded q t takes tied =
    let none = none_queued true q (other_empty threaded q takes) in
    let p : Qpu = in_other q t in
    record {
      queue0 = both_give (IsOther true) (IsTied q) (IsTied p) (λ r elsewhere here. other_stays q t r.job r.second elsewhere here) q.queue0.items none.0 tied.queue0;
      queue1 = both_give (IsOther true) (IsTied q) (IsTied p) (λ r elsewhere here. other_stays q t r.job r.second elsewhere here) q.queue1.items none.1 tied.queue1;
    }

started_by : (threaded first other : Bool) (t : Thread) (q : Qpu) (qpus rest : List Qpu) → takes_first threaded q ≡ first → takes_other threaded q ≡ other → QpuTied q → AreTied qpus → AreTied rest
    → AreTied (if first then in_first q t ∷ qpus else (if other then in_other q t ∷ qpus else q ∷ rest))
started_by threaded first other t q qpus rest takes there tied all later = search (rules, arith, in_first_tied, in_other_tied)

started_tied : (threaded : Bool) (t : Thread) (qpus : List Qpu) → AreTied qpus → AreTied (started_in threaded t qpus)
started_tied threaded t [] all = tt
started_tied threaded t (q ∷ qpus) all = search (rules, arith, started_by, started_tied threaded t qpus all.1)

pub launches_tied : (j : ℕ) (launch : Option Launch) (qpus : List Qpu) → AreTied qpus → AreTied (with_launch j launch qpus)
launches_tied j launch qpus all = search (rules, arith, started_tied)

-- at the start no request is queued
pub idle_tied : (n : ℕ) → AreTied (replicate n idle_qpu)
idle_tied zero = tt
idle_tied (suc n) = (record { queue0 = tt; queue1 = tt }, idle_tied n)
