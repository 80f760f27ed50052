-- Each thread keeps to what it was started as.
use Rattle.std.proofs.Common.{◌≡◌, ◌≢◌, ◌<◌, ℕ, suc, ◌+◌, ◌&&◌, Bool, true, false, List, [], ◌∷◌, length, Option, Some, None, IfSome, if◌then◌else◌, refl, sym, ◌∙◌, ap, subst, arith}
use Rattle.std.proofs.lemmas.Bool.{and_parts}
use Rattle.std.specs.Prelude.{is_none, option_map}
use Rattle.std.specs.Int.{from_le_bytes, w64}
use Rattle.field_words.specs.declared.access.Actor.TheVariants.{Qpu as TheQpu}
use Rattle.shader_flow.specs.{Flow.word, Flow.checked_of}
use Rattle.shader_flow.proofs.{Bounded.some_below_not, Ends.checked_of-le}
use Rattle.strict_rules.specs.{Words.reads_address, Words.uses_vpm, Words.uses_tile, Words.names_tile, Words.has_tile_signal, Rules.has_vpm_part, Rules.has_tile_part}
use Rattle.machine_plan.specs.{declared.launch.Launch.Launch, declared.who.Who.Who, Memory.bytes_at, Regions.Interval}
use Rattle.list_machine.specs.declared.state.Program.{Program, TheVariants.Fragment, TheVariants.Vertex, TheVariants.Coordinate}
use Rattle.qpu_machine.specs.{declared.state.Asked.Asked, declared.state.Qpu.Qpu, declared.state.Request.Request, declared.state.Thread.Thread}
use Rattle.qpu_machine.specs.{Start.thread_of, Step.thread_plan}
use Rattle.qpu_machine.specs.declared.state.Fate.{Fate, TheVariants.Ends, TheVariants.Switches, TheVariants.GoesOn}
use Rattle.qpu_machine.specs.Qpu.{active_of, left_by, gives_way, woken_slot, fresh_thread, after_turn, went, with_result, after_drop, result_given, after_service, slot_of, has_none, is_beside, takes_first, takes_other, in_first, in_other, started_in}
use Rattle.qpu_law.specs.{Home.Home, Home.IsAt, Home.turn_done, Thread.IsHome}
use Rattle.qpu_law.proofs.{Going.in_checked, Going.is_went, Going.stays_in_code_law, Starting.starts_stand_law}
use Rattle.machine.specs.Step.{Event, with_launch}
use Rattle.machine.specs.State.{State, Units, item_at}
use Rattle.machine_law.specs.Units.{EachAt}
use Rattle.apart_law.proofs.Places.{chosen}
use Rattle.promises.specs.Days.{Files, found_in, with_files}
use Rattle.ends_law.proofs.{Plans.Comes, Plans.weaker, Threads.thread_comes}
use Rattle.served_law.proofs.Processors.{chosen_by}
use Rattle.strict_law.specs.{Forbidden.Executes, Forbidden.reads, Forbidden.touches, Forbidden.touches_vertices, Known.Finds}
use Rattle.strict_law.specs.Roles.{Roles, thread_in, roles_with, touches_fragments, is_foreign, KeepsRole}
use Rattle.strict_law.proofs.Staying.{Stays, stays_same, stays_fresh, stays_given, stays_filed}
use Rattle.strict_law.proofs.{Watch.each_item, Programs.has_foreign, Programs.LaunchFits}

-- The thread stands before an instruction of such a shader, which has nothing foreign to this role.
pub record ThreadFits (IsOf : ℕ → Home → Type 0) (role : Option Program) (t : Thread) : Type 0 where
  pub home : Home
  pub stands : IsOf t.job home
  pub index : ℕ
  pub at : IsAt home index t
  pub program : Program
  pub is : role ≡ Some program
  pub fits : has_foreign program home.code ≡ false

abbrev pub SlotFits : (ℕ → Home → Type 0) → Option Program → Option Thread → Type 0
SlotFits IsOf role slot = IfSome slot (ThreadFits IsOf role)

-- so do both threads of a processor
pub record QpuFits (IsOf : ℕ → Home → Type 0) (role : Bool → Option Program) (q : Qpu) : Type 0 where
  pub first : SlotFits IsOf (role false) q.first
  pub other : SlotFits IsOf (role true) q.other

abbrev pub EachFits : (ℕ → Home → Type 0) → Roles → ℕ → List Qpu → Type 0
EachFits IsOf roles n qpus = EachAt (λ k q. QpuFits IsOf (roles k) q) n qpus

-- The word at a thread's place is its instruction.
pub word_there : (m : List ℕ) (region : List Interval) (h : Home) (n : ℕ) (t : Thread) → IsHome m region h → IsAt h n t → from_le_bytes w64 (bytes_at m t.place 8) ≡ word h.code n
word_there m region h n t home at =
    let inside : n < checked_of h.code = in_checked h.code n home.sound at.inside in
    let size = checked_of-le h.code in
    let there : n < length h.code = omega (arith, inside, size) in
    ap (λ q. from_le_bytes w64 (bytes_at m q 8)) at.place ∙ home.code_is n there

-- A step of a thread.
done_fits : (IsOf : ℕ → Home → Type 0) (role : Option Program) (t : Thread) (u uniforms : ℕ) (words m : List ℕ) → Finds IsOf m → (left : ThreadFits IsOf role t)
    → (turn_done (word left.home.code left.index) u uniforms words t).leaves.fate ≢ Ends → ThreadFits IsOf role (turn_done (word left.home.code left.index) u uniforms words t).thread
done_fits IsOf role t u uniforms words m here left lives =
    let h = left.home in
    let i : ℕ = left.index in
    let home = (here t.job h left.stands).is in
    let goes = stays_in_code_law h i u uniforms words t home.sound home.low left.at lives in
    let went_on = is_went (word h.code i) u uniforms words t in
    record { home = h; stands = subst (λ j. IsOf j h) (sym went_on.job) left.stands; index = goes.to; at = goes.at; program = left.program; is = left.is; fits = left.fits }

thread_fits : (IsOf : ℕ → Home → Type 0) (role : Option Program) (t : Thread) (who : Who) (words m : List ℕ) → Finds IsOf m → ThreadFits IsOf role t
    → Comes who (λ turn. turn.leaves.fate ≢ Ends → ThreadFits IsOf role turn.thread) (thread_plan t words) m
thread_fits IsOf role t who words m here left =
    let home = (here t.job left.home left.stands).is in
    thread_comes who (λ turn. turn.leaves.fate ≢ Ends → ThreadFits IsOf role turn.thread) (word left.home.code left.index) t words m
    (word_there m (here t.job left.home left.stands).region left.home left.index t home left.at) (λ u uniforms. done_fits IsOf role t u uniforms words m here left)

-- What is known of a thread stays known where it stays, and does so of its job.
thread_stays : (IsHere IsThere : ℕ → Home → Type 0) (role : Option Program) (t next : Thread) → Stays t next → ((home : Home) → IsHere t.job home → IsThere t.job home) → ThreadFits IsHere role t → ThreadFits IsThere role next
thread_stays IsHere IsThere role t next stays goes left = record {
  home = left.home;
  stands = subst (λ j. IsThere j left.home) (sym stays.job) (goes left.home left.stands);
  index = left.index;
  at = stays.at left.home left.index left.at;
  program = left.program;
  is = left.is;
  fits = left.fits;
}

slot_stays : (IsOf : ℕ → Home → Type 0) (role : Option Program) (change : Thread → Thread) → ((t : Thread) → Stays t (change t)) → (slot : Option Thread) → SlotFits IsOf role slot → SlotFits IsOf role (option_map change slot)
slot_stays IsOf role change stays None left = tt
slot_stays IsOf role change stays (Some t) left = thread_stays IsOf IsOf role t (change t) (stays t) (λ home stands. stands) left

woken_fits : (IsOf : ℕ → Home → Type 0) (role : Option Program) (over : Bool) (slot : Option Thread) → SlotFits IsOf role slot → SlotFits IsOf role (woken_slot over slot)
woken_fits IsOf role false slot left = left
woken_fits IsOf role true slot left = slot_stays IsOf role fresh_thread stays_fresh slot left

left_fits : (IsOf : ℕ → Home → Type 0) (role : Option Program) (fate : Fate) (t : Thread) → (fate ≢ Ends → ThreadFits IsOf role t) → SlotFits IsOf role (left_by fate t)
left_fits IsOf role GoesOn t one = one (λ e. cc)
left_fits IsOf role Switches t one = one (λ e. cc)
left_fits IsOf role Ends t one = tt

-- The processor whose thread has stepped.
first_by : (IsOf : ℕ → Home → Type 0) (role : Bool → Option Program) (second : Bool) (rest own : Option Thread) → SlotFits IsOf (role false) rest → SlotFits IsOf (role second) own → SlotFits IsOf (role false) (if second then rest else own)
first_by IsOf role true rest own other mine = other
first_by IsOf role false rest own other mine = mine

other_by : (IsOf : ℕ → Home → Type 0) (role : Bool → Option Program) (second : Bool) (own rest : Option Thread) → SlotFits IsOf (role second) own → SlotFits IsOf (role true) rest → SlotFits IsOf (role true) (if second then own else rest)
other_by IsOf role true own rest mine other = mine
other_by IsOf role false own rest mine other = other

settled_fits : (IsOf : ℕ → Home → Type 0) (role : Bool → Option Program) (q : Qpu) (job : ℕ) (own : Option Thread) (over : Bool) (asked : Option Asked) → QpuFits IsOf role q → SlotFits IsOf (role q.second) own → QpuFits IsOf role (after_turn q job own over asked)
unfolding after_turn
settled_fits IsOf role q job own over asked left mine = record {
  first = first_by IsOf role q.second (woken_slot over q.first) own (woken_fits IsOf (role false) over q.first left.first) mine;
  other = other_by IsOf role q.second own (woken_slot over q.other) mine (woken_fits IsOf (role true) over q.other left.other);
}

active_by : (IsOf : ℕ → Home → Type 0) (role : Bool → Option Program) (second : Bool) (first other : Option Thread) → SlotFits IsOf (role false) first → SlotFits IsOf (role true) other → SlotFits IsOf (role second) (if second then other else first)
active_by IsOf role true first other one two = two
active_by IsOf role false first other one two = one

active_fits : (IsOf : ℕ → Home → Type 0) (role : Bool → Option Program) (q : Qpu) → QpuFits IsOf role q → SlotFits IsOf (role q.second) (active_of q)
active_fits IsOf role q left = active_by IsOf role q.second q.first q.other left.first left.other

-- one that has a result
pub served_fits : (IsOf : ℕ → Home → Type 0) (role : Bool → Option Program) (tmu : ℕ) (q : Qpu) (request : Request) (row : Option (List ℕ)) → QpuFits IsOf role q → QpuFits IsOf role (after_service q tmu request row)
unfolding result_given after_drop
served_fits IsOf role tmu q request row left = record {
  first = chosen (SlotFits IsOf (role false)) request.second q.first (option_map (with_result tmu row) q.first) left.first (slot_stays IsOf (role false) (with_result tmu row) (stays_given tmu row) q.first left.first);
  other = chosen (SlotFits IsOf (role true)) request.second (option_map (with_result tmu row) q.other) q.other (slot_stays IsOf (role true) (with_result tmu row) (stays_given tmu row) q.other left.other) left.other;
}

-- A program that starts.
begins_fits : (IsOf : ℕ → Home → Type 0) (program : Program) (j : ℕ) (launch : Launch) → LaunchFits (IsOf j) program launch → ThreadFits IsOf (Some program) (thread_of j launch)
unfolding thread_of
begins_fits IsOf program j launch known = record {
  home = known.home;
  stands = known.stands;
  index = 0;
  at = (starts_stand_law known.home j launch known.code known.uniforms known.threaded).at;
  program = program;
  is = refl;
  fits = known.fits;
}

-- With roles where no thread is already those of the program, if one starts there.
pub record IsReady (IsOf : ℕ → Home → Type 0) (program : Program) (role : Bool → Option Program) (q : Qpu) : Type 0 where
  pub fits : QpuFits IsOf role q
  pub next : (second : Bool) → is_none (slot_of q second) ≡ true → role second ≡ Some program

slot_kept : (IsOf : ℕ → Home → Type 0) (role next : Option Program) (slot : Option Thread) → SlotFits IsOf role slot → SlotFits IsOf (if is_none slot then next else role) slot
slot_kept IsOf role next None left = tt
slot_kept IsOf role next (Some t) left = left

ready_one : (IsOf : ℕ → Home → Type 0) (program : Program) (role : Bool → Option Program) (q : Qpu) → QpuFits IsOf role q → IsReady IsOf program (λ second. if is_none (slot_of q second) then Some program else role second) q
ready_one IsOf program role q left = record {
  fits = record { first = slot_kept IsOf (role false) (Some program) q.first left.first; other = slot_kept IsOf (role true) (Some program) q.other left.other };
  next = λ second none. ap (λ b. if b then Some program else role second) none;
}

ready_from : (IsOf : ℕ → Home → Type 0) (program : Program) (roles : Roles) (u : Units) (n : ℕ) (qpus : List Qpu) → ((i : ℕ) → item_at qpus i ≡ item_at u.qpus (n + i)) → EachFits IsOf roles n qpus
    → EachAt (λ k q. IsReady IsOf program (roles_with u program roles k) q) n qpus
ready_from IsOf program roles u n [] same all = tt
ready_from IsOf program roles u n (q ∷ qpus) same all =
    let here : Some q ≡ item_at u.qpus n = same 0 ∙ ap (λ i. item_at u.qpus i) (omega arith) in (
      subst (λ (found : Option Qpu). IsReady IsOf program (λ second. if is_none (thread_in found second) then Some program else roles n second) q) here (ready_one IsOf program (roles n) q all.0),
      ready_from IsOf program roles u (n + 1) qpus (λ i. same (suc i) ∙ ap (λ k. item_at u.qpus k) (omega arith)) all.1,
    )

each_fits : (IsOf : ℕ → Home → Type 0) (program : Program) (next : Roles) (n : ℕ) (qpus : List Qpu) → EachAt (λ k q. IsReady IsOf program (next k) q) n qpus → EachFits IsOf next n qpus
each_fits IsOf program next n [] all = tt
each_fits IsOf program next n (q ∷ qpus) all = (all.0.fits, each_fits IsOf program next (n + 1) qpus all.1)

in_first_fits : (IsOf : ℕ → Home → Type 0) (program : Program) (threaded : Bool) (role : Bool → Option Program) (q : Qpu) (t : Thread) → takes_first threaded q ≡ true → ThreadFits IsOf (Some program) t → IsReady IsOf program role q → QpuFits IsOf role (in_first q t)
unfolding takes_first in_first
in_first_fits IsOf program threaded role q t takes thread ready =
    let parts = and_parts (is_none q.first && has_none false q) (if threaded then is_beside q.other else (is_none q.other && has_none true q)) takes in
    let idle = and_parts (is_none q.first) (has_none false q) parts.0 in
    record { first = subst (λ (one : Option Program). ThreadFits IsOf one t) (sym (ready.next false idle.0)) thread; other = ready.fits.other }

in_other_fits : (IsOf : ℕ → Home → Type 0) (program : Program) (threaded : Bool) (role : Bool → Option Program) (q : Qpu) (t : Thread) → takes_other threaded q ≡ true → ThreadFits IsOf (Some program) t → IsReady IsOf program role q → QpuFits IsOf role (in_other q t)
unfolding takes_other in_other
in_other_fits IsOf program threaded role q t takes thread ready =
    let parts = and_parts threaded ((is_none q.other && has_none true q) && is_beside q.first) takes in
    let more = and_parts (is_none q.other && has_none true q) (is_beside q.first) parts.1 in
    let idle = and_parts (is_none q.other) (has_none true q) more.0 in
    record { first = ready.fits.first; other = subst (λ (one : Option Program). ThreadFits IsOf one t) (sym (ready.next true idle.0)) thread }

started_fits : (IsOf : ℕ → Home → Type 0) (program : Program) (threaded : Bool) (t : Thread) (next : Roles) (n : ℕ) (qpus : List Qpu) → ThreadFits IsOf (Some program) t → EachAt (λ k q. IsReady IsOf program (next k) q) n qpus
    → EachFits IsOf next n (started_in threaded t qpus)
started_fits IsOf program threaded t next n [] thread all = tt
started_fits IsOf program threaded t next n (q ∷ qpus) thread all =
    let All : List Qpu → Type 0 = λ qs. EachFits IsOf next n qs in
    let rest = each_fits IsOf program next (n + 1) qpus all.1 in
    chosen_by All (takes_first threaded q) (in_first q t ∷ qpus) (if takes_other threaded q then in_other q t ∷ qpus else q ∷ started_in threaded t qpus)
    (λ takes. (in_first_fits IsOf program threaded (next n) q t takes thread all.0, rest))
    (λ off. chosen_by All (takes_other threaded q) (in_other q t ∷ qpus) (q ∷ started_in threaded t qpus)
    (λ takes. (in_other_fits IsOf program threaded (next n) q t takes thread all.0, rest))
    (λ none. (all.0.fits, started_fits IsOf program threaded t next (n + 1) qpus thread all.1)))

launch_fits : (IsOf : ℕ → Home → Type 0) (program : Program) (j : ℕ) (launch : Option Launch) (next : Roles) (qpus : List Qpu) → IfSome launch (LaunchFits (IsOf j) program) → EachAt (λ k q. IsReady IsOf program (next k) q) 0 qpus
    → EachFits IsOf next 0 (with_launch j launch qpus)
launch_fits IsOf program j None next qpus known all = each_fits IsOf program next 0 qpus all
launch_fits IsOf program j (Some launch) next qpus known all = started_fits IsOf program launch.threaded (thread_of j launch) next 0 qpus (begins_fits IsOf program j launch known) all

pub starts_fit : (IsOf : ℕ → Home → Type 0) (program : Program) (roles : Roles) (u : Units) (j : ℕ) (launch : Option Launch) → IfSome launch (LaunchFits (IsOf j) program) → EachFits IsOf roles 0 u.qpus → EachFits IsOf (roles_with u program roles) 0 (with_launch j launch u.qpus)
starts_fit IsOf program roles u j launch known all = launch_fits IsOf program j launch (roles_with u program roles) u.qpus known (ready_from IsOf program roles u 0 u.qpus (λ i. ap (λ k. item_at u.qpus k) (omega arith)) all)

pub went_fits : (IsOf : ℕ → Home → Type 0) (k : ℕ) (q : Qpu) (t : Thread) (words m : List ℕ) (roles : Roles) → active_of q ≡ Some t → Finds IsOf m → QpuFits IsOf (roles k) q → Comes (record { unit = TheQpu k; job = t.job }) (λ turn. QpuFits IsOf (roles k) (went q t turn)) (thread_plan t words) m
went_fits IsOf k q t words m roles active here known =
    let who : Who = record { unit = TheQpu k; job = t.job } in
    let thread : ThreadFits IsOf (roles k q.second) t = subst (λ (slot : Option Thread). SlotFits IsOf (roles k q.second) slot) active (active_fits IsOf (roles k) q known) in
    weaker who (λ turn. turn.leaves.fate ≢ Ends → ThreadFits IsOf (roles k q.second) turn.thread) (λ turn. QpuFits IsOf (roles k) (went q t turn))
    (λ turn one. settled_fits IsOf (roles k) q t.job (left_by turn.leaves.fate turn.thread) (gives_way turn.leaves.fate) turn.leaves.asked known (left_fits IsOf (roles k q.second) turn.leaves.fate turn.thread one)) (thread_plan t words) m
    (thread_fits IsOf (roles k q.second) t who words m here thread)

-- What is known of a thread stays known, where it does of its job.
slot_goes : (IsHere IsThere : ℕ → Home → Type 0) (N : ℕ → Type 0) → ((j : ℕ) (home : Home) → N j → IsHere j home → IsThere j home) → (role : Option Program) (slot : Option Thread) → IfSome slot (λ t. N t.job)
    → SlotFits IsHere role slot → SlotFits IsThere role slot
slot_goes IsHere IsThere N goes role None only left = tt
slot_goes IsHere IsThere N goes role (Some t) only left = thread_stays IsHere IsThere role t t (stays_same t) (λ home stands. goes t.job home only stands) left

pub qpu_goes : (IsHere IsThere : ℕ → Home → Type 0) (N : ℕ → Type 0) → ((j : ℕ) (home : Home) → N j → IsHere j home → IsThere j home) → (role : Bool → Option Program) (q : Qpu) → IfSome q.first (λ t. N t.job) → IfSome q.other (λ t. N t.job)
    → QpuFits IsHere role q → QpuFits IsThere role q
qpu_goes IsHere IsThere N goes role q first other left = record {
  first = slot_goes IsHere IsThere N goes (role false) q.first first left.first;
  other = slot_goes IsHere IsThere N goes (role true) q.other other left.other;
}

-- A program finds what the last one left in the files.
pub qpu_found : (IsHere : ℕ → Home → Type 0) (second : Bool) (files : Files) (q : Qpu) (role : Bool → Option Program) → QpuFits IsHere role q → QpuFits IsHere role (found_in second files q)
qpu_found IsHere true files q role left = record { first = left.first; other = slot_stays IsHere (role true) (with_files files) (stays_filed files) q.other left.other }
qpu_found IsHere false files q role left = record { first = slot_stays IsHere (role false) (with_files files) (stays_filed files) q.first left.first; other = left.other }

-- An instruction of a shader that has nothing foreign isn't foreign.
pub vertices_are : (w : ℕ) → touches_vertices w ≡ uses_vpm w
unfolding touches_vertices touches reads uses_vpm reads_address
vertices_are w = refl

fragments_are : (w : ℕ) → touches_fragments w ≡ uses_tile w
unfolding touches_fragments reads uses_tile names_tile has_tile_signal reads_address
fragments_are w = refl

no_tile : (code : List ℕ) (n : ℕ) → n < checked_of code → has_tile_part code ≡ false → touches_fragments (word code n) ≡ false
unfolding has_tile_part
no_tile code n inside none = fragments_are (word code n) ∙ some_below_not (checked_of code) n (λ k. uses_tile (word code k)) none inside

none_foreign : (program : Program) (code : List ℕ) (n : ℕ) → n < checked_of code → has_foreign program code ≡ false → is_foreign program (word code n) ≡ false
unfolding has_vpm_part
none_foreign Fragment code n inside none = vertices_are (word code n) ∙ some_below_not (checked_of code) n (λ k. uses_vpm (word code k)) none inside
none_foreign Vertex code n inside none = no_tile code n inside none
none_foreign Coordinate code n inside none = no_tile code n inside none

pub keeps_role : (IsOf : ℕ → Home → Type 0) (roles : Roles) (s : State) (event : Event) (q : Qpu) (t : Thread) (w : ℕ) → Finds IsOf s.memory → EachFits IsOf roles 0 s.units.qpus → (one : Executes s event q t w)
    → KeepsRole (roles one.k q.second) w
keeps_role IsOf roles s event q t w here all one =
    let k : ℕ = one.k in
    let processor : QpuFits IsOf (roles k) q = subst (λ (slot : Option Qpu). IfSome slot (QpuFits IsOf (roles k))) one.is (each_item (λ i p. QpuFits IsOf (roles i) p) 0 k k s.units.qpus (omega arith) all) in
    let thread : ThreadFits IsOf (roles k q.second) t = subst (λ (slot : Option Thread). SlotFits IsOf (roles k q.second) slot) one.active (active_fits IsOf (roles k) q processor) in
    let stands = here t.job thread.home thread.stands in
    let is : w ≡ word thread.home.code thread.index = one.next ∙ word_there s.memory stands.region thread.home thread.index t stands.is thread.at in
    record {
      program = thread.program;
      is = thread.is;
      own = ap (λ v. is_foreign thread.program v) is ∙ none_foreign thread.program thread.home.code thread.index (in_checked thread.home.code thread.index stands.is.sound thread.at.inside) thread.fits;
    }
