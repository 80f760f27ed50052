-- A processor's requests have room in its slots.
use Rattle.std.proofs.Common.{◌≡◌, ◌≢◌, ◌≤◌, ◌<◌, ◌⊎◌, inl, inr, ℕ, zero, suc, ◌+◌, ◌&&◌, ◌||◌, not, Bool, true, false, List, [], ◌∷◌, ◌++◌, drop, length, map, Option, Some, None, IfSome, if◌then◌else◌, nat_le, refl, sym, ◌∙◌, ap, subst, arith}
use Rattle.std.proofs.lemmas.Bool.{and_parts, eq-eqb, leb-false, ne_eqb, true≢false}
use Rattle.std.proofs.lemmas.List.{map-append}
use Rattle.std.proofs.lemmas.List.Sums.{sum-map, sum_by-append, sum_by-cons}
use Rattle.std.specs.Prelude.{is_none, option_map, sum, sum_by}
use Rattle.std.specs.Int.{from_le_bytes, w64}
use Rattle.field_words.specs.declared.access.Actor.TheVariants.{Qpu as TheQpu}
use Rattle.qpu_isa.specs.Terms.{writes_s, writes_tmu, loads}
use Rattle.shader_flow.specs.{Flow.word, Flow.checked_of, Flow.is_threaded, Pending.pending_of}
use Rattle.shader_flow.proofs.{Counts.pending_inside}
use Rattle.shader_check.proofs.{Clean.clean, Setups.one_tmu, Setups.s_writes}
use Rattle.strict_rules.specs.{declared.state.Request.Request as Sent, Queue.request_at, Queue.queue_after, Queue.queue_of, Queue.slots_of, Queue.most_slots, Rules.lacks_slot}
use Rattle.strict_rules.proofs.Requests.{queue_inside}
use Rattle.machine_plan.specs.{declared.launch.Launch.Launch, declared.who.Who.Who, Memory.bytes_at}
use Rattle.qpu_machine.specs.{declared.state.Asked.Asked, declared.state.Qpu.Qpu, declared.state.Request.Request, declared.state.Thread.Thread}
use Rattle.qpu_machine.specs.{Start.thread_of, Step.ThreadTurn, Step.thread_plan}
use Rattle.qpu_machine.specs.declared.state.Fate.{Fate, TheVariants.Ends, TheVariants.Switches, TheVariants.GoesOn}
use Rattle.qpu_machine.specs.Qpu.{active_of, left_by, gives_way, woken_slot, fresh_thread, after_turn, went, with_result, after_drop, result_given, after_service, has_none, is_beside, takes_first, takes_other, in_first, in_other, started_in}
use Rattle.qpu_law.specs.{Home.Home, Home.HasNoFault, Home.IsAt, Home.ArePending, Home.Lands, Home.turn_done}
use Rattle.qpu_law.proofs.{Going.behind, Going.fate_is, Going.in_checked, Going.is_went, Going.setups0_are, Going.setups1_are, Going.stays_in_code_law, Starting.starts_stand_law}
use Rattle.machine.specs.{State.Units, State.item_at, Step.with_launch}
use Rattle.machine_law.specs.Units.{EachAt}
use Rattle.apart_law.proofs.Places.{chosen}
use Rattle.promises.specs.Steps.{one_if}
use Rattle.promises.specs.Days.{Files, found_in, with_files}
use Rattle.ends_law.proofs.{Plans.Comes, Plans.weaker, Threads.thread_comes}
use Rattle.served_law.specs.Known.{AreBeside}
use Rattle.served_law.proofs.{Processors.chosen_by, Shaders.jump_from, Marks.at_end}
use Rattle.strict_law.specs.{Strict.IsStrict, Known.Finds, Known.LaunchStrict, Known.QpuStrict, Order.Orders}
use Rattle.strict_law.specs.Slots.{words_kept, slots_with, slots_by, slots_in, Slots, slots_after, words_in, HasRoom}
use Rattle.strict_law.proofs.Staying.{Stays, stays_same, stays_fresh, stays_given, stays_filed}
use Rattle.strict_law.proofs.Shaders.{strict_here, writes_one, kept_long, empty_at}
use Rattle.strict_law.proofs.{Processors.EachStrict, Watch.each_item, Roles.word_there, Threads.goes_same, Threads.none_left}

-- the slots of each of a shader's requests to a TMU before an instruction
abbrev pub slot_list : List Sent → List ℕ
slot_list queue = map (λ (r : Sent). r.slots) queue

-- The thread stands before an instruction of a strict shader, with the set-up words that its rules count, and its requests have the slots
-- that its rules count.
pub record ThreadSlots (IsOf : ℕ → Home → Type 0) (slots0 slots1 : List ℕ) (t : Thread) : Type 0 where
  pub home : Home
  pub strict : IsStrict home.code
  pub stands : IsOf t.job home
  pub index : ℕ
  pub at : IsAt home index t
  pub pending : ArePending home.code index t
  pub tmu0 : slots0 ≡ slot_list (queue_of home.code 0 index)
  pub tmu1 : slots1 ≡ slot_list (queue_of home.code 1 index)

-- one that is idle has none
abbrev pub SlotHas : (ℕ → Home → Type 0) → (slots0 slots1 : List ℕ) → Option Thread → Type 0
SlotHas IsOf slots0 slots1 None = (slots0 ≡ []) × (slots1 ≡ [])
SlotHas IsOf slots0 slots1 (Some t) = ThreadSlots IsOf slots0 slots1 t

pub record QpuSlots (IsOf : ℕ → Home → Type 0) (slots : ℕ → Bool → List ℕ) (q : Qpu) : Type 0 where
  pub first : SlotHas IsOf (slots 0 false) (slots 1 false) q.first
  pub other : SlotHas IsOf (slots 0 true) (slots 1 true) q.other

abbrev pub EachSlots : (ℕ → Home → Type 0) → Slots → ℕ → List Qpu → Type 0
EachSlots IsOf slots n qpus = EachAt (λ k q. QpuSlots IsOf (slots k) q) n qpus

-- A shader's requests before the next instruction.
map_drop : (queue : List Sent) → drop 1 (slot_list queue) ≡ slot_list (drop 1 queue)
map_drop [] = refl
map_drop (one ∷ queue) = refl

map_after : (load send : Bool) (request : Sent) (queue : List Sent) → (if load then drop 1 (slot_list queue) else slot_list queue) ++ (if send then request.slots ∷ [] else [])
    ≡ slot_list ((if load then drop 1 queue else queue) ++ (if send then request ∷ [] else []))
map_after true true request queue = ap (λ l. l ++ request.slots ∷ []) (map_drop queue) ∙ sym (map-append (λ (r : Sent). r.slots) (drop 1 queue) (request ∷ []))
map_after true false request queue = ap (λ (l : List ℕ). l ++ []) (map_drop queue) ∙ sym (map-append (λ (r : Sent). r.slots) (drop 1 queue) [])
map_after false true request queue = sym (map-append (λ (r : Sent). r.slots) queue (request ∷ []))
map_after false false request queue = sym (map-append (λ (r : Sent). r.slots) queue [])

slots_on : (code : List ℕ) (tmu n kept : ℕ) (slots : List ℕ) → n < checked_of code → kept ≡ pending_of code tmu n → slots ≡ slot_list (queue_of code tmu n)
    → slots_with tmu (word code n) kept slots ≡ slot_list (queue_of code tmu (n + 1))
unfolding queue_after request_at
slots_on code tmu n kept slots inside pending is =
    let w : ℕ = word code n in
    ap (λ (l : List ℕ). (if loads w tmu then drop 1 l else l) ++ (if writes_s w tmu then (kept + 1) ∷ [] else [])) is
    ∙ ap (λ k. (if loads w tmu then drop 1 (slot_list (queue_of code tmu n)) else slot_list (queue_of code tmu n)) ++ (if writes_s w tmu then (k + 1) ∷ [] else [])) pending
    ∙ map_after (loads w tmu) (writes_s w tmu) (request_at code tmu n) (queue_of code tmu n)
    ∙ ap (λ queue. slot_list queue) (sym (queue_inside code tmu n inside))

empty_list : (queue : List Sent) → length queue ≡ 0 → slot_list queue ≡ []
empty_list [] none = refl
empty_list (one ∷ queue) none = absurd (omega (arith, none))

-- where the thread comes to, they are the same
ahead : (h : Home) (n to : ℕ) (t next : Thread) → HasNoFault h.code → IsStrict h.code → n < checked_of h.code → (to ≡ n + 1) ⊎ Lands h.code n to t next
    → (slot_list (queue_of h.code 0 (n + 1)) ≡ slot_list (queue_of h.code 0 to)) × (slot_list (queue_of h.code 1 (n + 1)) ≡ slot_list (queue_of h.code 1 to))
ahead h n to t next sound strict inside (inl same) = (ap (λ i. slot_list (queue_of h.code 0 i)) (sym same), ap (λ i. slot_list (queue_of h.code 1 i)) (sym same))
ahead h n to t next sound strict inside (inr lands) =
    let from = empty_at h.code (n + 1) sound strict (jump_from h.code n to sound inside lands.jump) in
    let there = empty_at h.code to sound strict lands.jump.target in (
      empty_list (queue_of h.code 0 (n + 1)) from.queue0 ∙ sym (empty_list (queue_of h.code 0 to) there.queue0),
      empty_list (queue_of h.code 1 (n + 1)) from.queue1 ∙ sym (empty_list (queue_of h.code 1 to) there.queue1),
    )

-- What an instruction leaves.
pub record SlotsGo (IsOf : ℕ → Home → Type 0) (slots0 slots1 : List ℕ) (t : Thread) (w : ℕ) (turn : ThreadTurn) : Type 0 where
  pub left : turn.leaves.fate ≢ Ends → ThreadSlots IsOf (slots_with 0 w (words_kept 0 t) slots0) (slots_with 1 w (words_kept 1 t) slots1) turn.thread
  pub over : turn.leaves.fate ≡ Ends → (slots_with 0 w (words_kept 0 t) slots0 ≡ []) × (slots_with 1 w (words_kept 1 t) slots1 ≡ [])

done_slots : (IsOf : ℕ → Home → Type 0) (slots0 slots1 : List ℕ) (t : Thread) (u uniforms : ℕ) (words m : List ℕ) → Finds IsOf m → (left : ThreadSlots IsOf slots0 slots1 t)
    → SlotsGo IsOf slots0 slots1 t (word left.home.code left.index) (turn_done (word left.home.code left.index) u uniforms words t)
done_slots IsOf slots0 slots1 t u uniforms words m here left =
    let h = left.home in
    let i : ℕ = left.index in
    let w : ℕ = word h.code i in
    let home = (here t.job h left.stands).is in
    let inside : i < checked_of h.code = in_checked h.code i home.sound left.at.inside in
    let next = (turn_done w u uniforms words t).thread in
    let on0 = slots_on h.code 0 i (words_kept 0 t) slots0 inside left.pending.tmu0 left.tmu0 in
    let on1 = slots_on h.code 1 i (words_kept 1 t) slots1 inside left.pending.tmu1 left.tmu1 in
    record {
      left = λ lives.
          let goes = stays_in_code_law h i u uniforms words t home.sound home.low left.at lives in
          let there = goes_same h i t next home.sound left.strict inside goes in
          let same = ahead h i goes.to t next home.sound left.strict inside goes.way in
          record {
            home = h;
            strict = left.strict;
            stands = subst (λ j. IsOf j h) (sym (is_went w u uniforms words t).job) left.stands;
            index = goes.to;
            at = goes.at;
            pending = record {
              tmu0 = ap (λ (xs : List ℕ). length xs) (setups0_are w u uniforms words t) ∙ kept_long h.code i 0 u t.setups0.items home.sound inside left.pending.tmu0 ∙ there.pending0;
              tmu1 = ap (λ (xs : List ℕ). length xs) (setups1_are w u uniforms words t) ∙ kept_long h.code i 1 u t.setups1.items home.sound inside left.pending.tmu1 ∙ there.pending1;
            };
            tmu0 = on0 ∙ same.0;
            tmu1 = on1 ∙ same.1;
          };
      over = λ over.
          let none = none_left h.code home.sound left.strict i (at_end h i t left.at (sym (fate_is w u uniforms words t) ∙ over)) in
          (on0 ∙ empty_list (queue_of h.code 0 (i + 1)) none.queue0, on1 ∙ empty_list (queue_of h.code 1 (i + 1)) none.queue1);
    }

thread_slots : (IsOf : ℕ → Home → Type 0) (slots0 slots1 : List ℕ) (t : Thread) (who : Who) (words m : List ℕ) → Finds IsOf m → ThreadSlots IsOf slots0 slots1 t
    → Comes who (SlotsGo IsOf slots0 slots1 t (from_le_bytes w64 (bytes_at m t.place 8))) (thread_plan t words) m
thread_slots IsOf slots0 slots1 t who words m here left =
    let stands = here t.job left.home left.stands in
    let read = word_there m stands.region left.home left.index t stands.is left.at in
    subst (λ w. Comes who (SlotsGo IsOf slots0 slots1 t w) (thread_plan t words) m) (sym read)
    (thread_comes who (SlotsGo IsOf slots0 slots1 t (word left.home.code left.index)) (word left.home.code left.index) t words m read (λ u uniforms. done_slots IsOf slots0 slots1 t u uniforms words m here left))

left_slots : (IsOf : ℕ → Home → Type 0) (slots0 slots1 : List ℕ) (fate : Fate) (t : Thread) → (fate ≢ Ends → ThreadSlots IsOf slots0 slots1 t) → (fate ≡ Ends → (slots0 ≡ []) × (slots1 ≡ [])) → SlotHas IsOf slots0 slots1 (left_by fate t)
left_slots IsOf slots0 slots1 GoesOn t lives over = lives (λ e. cc)
left_slots IsOf slots0 slots1 Switches t lives over = lives (λ e. cc)
left_slots IsOf slots0 slots1 Ends t lives over = over refl

-- What is known of a thread stays known where it stays, and does so of its job.
thread_stays : (IsHere IsThere : ℕ → Home → Type 0) (slots0 slots1 : List ℕ) (t next : Thread) → Stays t next → ((home : Home) → IsHere t.job home → IsThere t.job home) → ThreadSlots IsHere slots0 slots1 t → ThreadSlots IsThere slots0 slots1 next
thread_stays IsHere IsThere slots0 slots1 t next stays goes left = record {
  home = left.home;
  strict = left.strict;
  stands = subst (λ j. IsThere j left.home) (sym stays.job) (goes left.home left.stands);
  index = left.index;
  at = stays.at left.home left.index left.at;
  pending = stays.pending left.home.code left.index left.pending;
  tmu0 = left.tmu0;
  tmu1 = left.tmu1;
}

slot_stays : (IsOf : ℕ → Home → Type 0) (slots0 slots1 : List ℕ) (change : Thread → Thread) → ((t : Thread) → Stays t (change t)) → (slot : Option Thread) → SlotHas IsOf slots0 slots1 slot → SlotHas IsOf slots0 slots1 (option_map change slot)
slot_stays IsOf slots0 slots1 change stays None left = left
slot_stays IsOf slots0 slots1 change stays (Some t) left = thread_stays IsOf IsOf slots0 slots1 t (change t) (stays t) (λ home stands. stands) left

woken_slots : (IsOf : ℕ → Home → Type 0) (slots0 slots1 : List ℕ) (over : Bool) (slot : Option Thread) → SlotHas IsOf slots0 slots1 slot → SlotHas IsOf slots0 slots1 (woken_slot over slot)
woken_slots IsOf slots0 slots1 false slot left = left
woken_slots IsOf slots0 slots1 true slot left = slot_stays IsOf slots0 slots1 fresh_thread stays_fresh slot left

-- The processor whose thread has stepped: `by` is what the step leaves of that thread's, by TMU.
abbrev SlotsBy : (ℕ → List ℕ → List ℕ) → Bool → (ℕ → Bool → List ℕ) → ℕ → Bool → List ℕ
SlotsBy by active slots tmu second = if (if active then second else not second) then by tmu (slots tmu second) else slots tmu second

first_by : (IsOf : ℕ → Home → Type 0) (by : ℕ → List ℕ → List ℕ) (active : Bool) (slots : ℕ → Bool → List ℕ) (rest own : Option Thread) → SlotHas IsOf (slots 0 false) (slots 1 false) rest
    → SlotHas IsOf (by 0 (slots 0 active)) (by 1 (slots 1 active)) own → SlotHas IsOf (SlotsBy by active slots 0 false) (SlotsBy by active slots 1 false) (if active then rest else own)
first_by IsOf by true slots rest own other mine = other
first_by IsOf by false slots rest own other mine = mine

other_by : (IsOf : ℕ → Home → Type 0) (by : ℕ → List ℕ → List ℕ) (active : Bool) (slots : ℕ → Bool → List ℕ) (own rest : Option Thread) → SlotHas IsOf (by 0 (slots 0 active)) (by 1 (slots 1 active)) own
    → SlotHas IsOf (slots 0 true) (slots 1 true) rest → SlotHas IsOf (SlotsBy by active slots 0 true) (SlotsBy by active slots 1 true) (if active then own else rest)
other_by IsOf by true slots own rest mine other = mine
other_by IsOf by false slots own rest mine other = other

settled_slots : (IsOf : ℕ → Home → Type 0) (by : ℕ → List ℕ → List ℕ) (slots : ℕ → Bool → List ℕ) (q : Qpu) (job : ℕ) (own : Option Thread) (over : Bool) (asked : Option Asked) → QpuSlots IsOf slots q
    → SlotHas IsOf (by 0 (slots 0 q.second)) (by 1 (slots 1 q.second)) own → QpuSlots IsOf (SlotsBy by q.second slots) (after_turn q job own over asked)
unfolding after_turn
settled_slots IsOf by slots q job own over asked left mine = record {
  first = first_by IsOf by q.second slots (woken_slot over q.first) own (woken_slots IsOf (slots 0 false) (slots 1 false) over q.first left.first) mine;
  other = other_by IsOf by q.second slots own (woken_slot over q.other) mine (woken_slots IsOf (slots 0 true) (slots 1 true) over q.other left.other);
}

active_by : (IsOf : ℕ → Home → Type 0) (slots : ℕ → Bool → List ℕ) (second : Bool) (first other : Option Thread) → SlotHas IsOf (slots 0 false) (slots 1 false) first → SlotHas IsOf (slots 0 true) (slots 1 true) other
    → SlotHas IsOf (slots 0 second) (slots 1 second) (if second then other else first)
active_by IsOf slots true first other one two = two
active_by IsOf slots false first other one two = one

pub served_slots : (IsOf : ℕ → Home → Type 0) (slots : ℕ → Bool → List ℕ) (tmu : ℕ) (q : Qpu) (request : Request) (row : Option (List ℕ)) → QpuSlots IsOf slots q → QpuSlots IsOf slots (after_service q tmu request row)
unfolding result_given after_drop
served_slots IsOf slots tmu q request row left = record {
  first = chosen (SlotHas IsOf (slots 0 false) (slots 1 false)) request.second q.first (option_map (with_result tmu row) q.first) left.first (slot_stays IsOf (slots 0 false) (slots 1 false) (with_result tmu row) (stays_given tmu row) q.first left.first);
  other = chosen (SlotHas IsOf (slots 0 true) (slots 1 true)) request.second (option_map (with_result tmu row) q.other) q.other (slot_stays IsOf (slots 0 true) (slots 1 true) (with_result tmu row) (stays_given tmu row) q.other left.other) left.other;
}

-- A program that starts has none.
begins_slots : (IsOf : ℕ → Home → Type 0) (j : ℕ) (launch : Launch) → LaunchStrict (IsOf j) launch → ThreadSlots IsOf [] [] (thread_of j launch)
unfolding thread_of queue_of pending_of
begins_slots IsOf j launch known = record {
  home = known.home;
  strict = known.strict;
  stands = known.stands;
  index = 0;
  at = (starts_stand_law known.home j launch known.code known.uniforms known.threaded).at;
  pending = record { tmu0 = refl; tmu1 = refl };
  tmu0 = refl;
  tmu1 = refl;
}

idle_has : (IsOf : ℕ → Home → Type 0) (slots0 slots1 : List ℕ) (slot : Option Thread) → is_none slot ≡ true → SlotHas IsOf slots0 slots1 slot → (slots0 ≡ []) × (slots1 ≡ [])
idle_has IsOf slots0 slots1 None none left = left
idle_has IsOf slots0 slots1 (Some t) none left = absurd cc

new_slots : (IsOf : ℕ → Home → Type 0) (slots0 slots1 : List ℕ) (slot : Option Thread) (t : Thread) → is_none slot ≡ true → SlotHas IsOf slots0 slots1 slot → ThreadSlots IsOf [] [] t → ThreadSlots IsOf slots0 slots1 t
new_slots IsOf slots0 slots1 slot t none left thread =
    let empty = idle_has IsOf slots0 slots1 slot none left in
    subst (λ one. ThreadSlots IsOf one slots1 t) (sym empty.0) (subst (λ one. ThreadSlots IsOf [] one t) (sym empty.1) thread)

in_first_slots : (IsOf : ℕ → Home → Type 0) (threaded : Bool) (slots : ℕ → Bool → List ℕ) (q : Qpu) (t : Thread) → takes_first threaded q ≡ true → ThreadSlots IsOf [] [] t → QpuSlots IsOf slots q → QpuSlots IsOf slots (in_first q t)
unfolding takes_first in_first
in_first_slots IsOf threaded slots q t takes thread left =
    let parts = and_parts (is_none q.first && has_none false q) (if threaded then is_beside q.other else (is_none q.other && has_none true q)) takes in
    let idle = and_parts (is_none q.first) (has_none false q) parts.0 in
    record { first = new_slots IsOf (slots 0 false) (slots 1 false) q.first t idle.0 left.first thread; other = left.other }

in_other_slots : (IsOf : ℕ → Home → Type 0) (threaded : Bool) (slots : ℕ → Bool → List ℕ) (q : Qpu) (t : Thread) → takes_other threaded q ≡ true → ThreadSlots IsOf [] [] t → QpuSlots IsOf slots q → QpuSlots IsOf slots (in_other q t)
unfolding takes_other in_other
in_other_slots IsOf threaded slots q t takes thread left =
    let parts = and_parts threaded ((is_none q.other && has_none true q) && is_beside q.first) takes in
    let more = and_parts (is_none q.other && has_none true q) (is_beside q.first) parts.1 in
    let idle = and_parts (is_none q.other) (has_none true q) more.0 in
    record { first = left.first; other = new_slots IsOf (slots 0 true) (slots 1 true) q.other t idle.0 left.other thread }

started_slots : (IsOf : ℕ → Home → Type 0) (threaded : Bool) (t : Thread) (slots : Slots) (n : ℕ) (qpus : List Qpu) → ThreadSlots IsOf [] [] t → EachSlots IsOf slots n qpus → EachSlots IsOf slots n (started_in threaded t qpus)
started_slots IsOf threaded t slots n [] thread all = tt
started_slots IsOf threaded t slots n (q ∷ qpus) thread all =
    let All : List Qpu → Type 0 = λ qs. EachSlots IsOf slots n qs in
    chosen_by All (takes_first threaded q) (in_first q t ∷ qpus) (if takes_other threaded q then in_other q t ∷ qpus else q ∷ started_in threaded t qpus)
    (λ takes. (in_first_slots IsOf threaded (slots n) q t takes thread all.0, all.1))
    (λ off. chosen_by All (takes_other threaded q) (in_other q t ∷ qpus) (q ∷ started_in threaded t qpus)
    (λ takes. (in_other_slots IsOf threaded (slots n) q t takes thread all.0, all.1))
    (λ none. (all.0, started_slots IsOf threaded t slots (n + 1) qpus thread all.1)))

pub launch_slots : (IsOf : ℕ → Home → Type 0) (j : ℕ) (launch : Option Launch) (slots : Slots) (qpus : List Qpu) → IfSome launch (LaunchStrict (IsOf j)) → EachSlots IsOf slots 0 qpus → EachSlots IsOf slots 0 (with_launch j launch qpus)
launch_slots IsOf j None slots qpus known all = all
launch_slots IsOf j (Some launch) slots qpus known all = started_slots IsOf launch.threaded (thread_of j launch) slots 0 qpus (begins_slots IsOf j launch known) all

-- A step of a thread: the slots of processor k go on.
pub went_slots : (IsOf : ℕ → Home → Type 0) (u : Units) (k : ℕ) (q : Qpu) (t : Thread) (words m : List ℕ) (slots : Slots) → item_at u.qpus k ≡ Some q → active_of q ≡ Some t → Finds IsOf m → QpuSlots IsOf (slots k) q
    → Comes (record { unit = TheQpu k; job = t.job }) (λ turn. QpuSlots IsOf (slots_after u (TheQpu k) m slots k) (went q t turn)) (thread_plan t words) m
went_slots IsOf u k q t words m slots is active here known =
    let who : Who = record { unit = TheQpu k; job = t.job } in
    let w : ℕ = from_le_bytes w64 (bytes_at m t.place 8) in
    let by : ℕ → List ℕ → List ℕ = λ tmu one. slots_with tmu w (words_kept tmu t) one in
    let thread = subst (λ (slot : Option Thread). SlotHas IsOf (slots k 0 q.second) (slots k 1 q.second) slot) active (active_by IsOf (slots k) q.second q.first q.other known.first known.other) in
    weaker who (SlotsGo IsOf (slots k 0 q.second) (slots k 1 q.second) t w) (λ turn. QpuSlots IsOf (slots_after u (TheQpu k) m slots k) (went q t turn))
    (λ turn one. subst (λ here. QpuSlots IsOf (λ tmu second. if here then slots_in (item_at u.qpus k) m tmu second (slots k tmu second) else slots k tmu second) (went q t turn)) (sym (eq-eqb k k refl))
    (subst (λ (found : Option Qpu). QpuSlots IsOf (λ tmu second. slots_in found m tmu second (slots k tmu second)) (went q t turn)) (sym is)
    (subst (λ (found : Option Thread). QpuSlots IsOf (λ tmu second. if (if q.second then second else not second) then slots_by found m tmu (slots k tmu second) else slots k tmu second) (went q t turn)) (sym active)
    (settled_slots IsOf by (slots k) q t.job (left_by turn.leaves.fate turn.thread) (gives_way turn.leaves.fate) turn.leaves.asked known
    (left_slots IsOf (by 0 (slots k 0 q.second)) (by 1 (slots k 1 q.second)) turn.leaves.fate turn.thread one.left one.over)))))
    (thread_plan t words) m (thread_slots IsOf (slots k 0 q.second) (slots k 1 q.second) t who words m here thread)

pub other_slots : (IsOf : ℕ → Home → Type 0) (u : Units) (k : ℕ) (m : List ℕ) (slots : Slots) (i : ℕ) (q : Qpu) → i ≢ k → QpuSlots IsOf (slots i) q → QpuSlots IsOf (slots_after u (TheQpu k) m slots i) q
other_slots IsOf u k m slots i q other was = subst (λ here. QpuSlots IsOf (λ tmu second. if here then slots_in (item_at u.qpus k) m tmu second (slots i tmu second) else slots i tmu second) q) (sym (ne_eqb i k other)) was

-- What is known of a thread stays known, where it does of its job.
slot_goes : (IsHere IsThere : ℕ → Home → Type 0) (N : ℕ → Type 0) → ((j : ℕ) (home : Home) → N j → IsHere j home → IsThere j home) → (slots0 slots1 : List ℕ) (slot : Option Thread) → IfSome slot (λ t. N t.job)
    → SlotHas IsHere slots0 slots1 slot → SlotHas IsThere slots0 slots1 slot
slot_goes IsHere IsThere N goes slots0 slots1 None only left = left
slot_goes IsHere IsThere N goes slots0 slots1 (Some t) only left = thread_stays IsHere IsThere slots0 slots1 t t (stays_same t) (λ home stands. goes t.job home only stands) left

pub qpu_goes : (IsHere IsThere : ℕ → Home → Type 0) (N : ℕ → Type 0) → ((j : ℕ) (home : Home) → N j → IsHere j home → IsThere j home) → (slots : ℕ → Bool → List ℕ) (q : Qpu) → IfSome q.first (λ t. N t.job) → IfSome q.other (λ t. N t.job)
    → QpuSlots IsHere slots q → QpuSlots IsThere slots q
qpu_goes IsHere IsThere N goes slots q first other left = record {
  first = slot_goes IsHere IsThere N goes (slots 0 false) (slots 1 false) q.first first left.first;
  other = slot_goes IsHere IsThere N goes (slots 0 true) (slots 1 true) q.other other left.other;
}

-- A program finds what the last one left in the files.
pub qpu_found : (IsHere : ℕ → Home → Type 0) (second : Bool) (files : Files) (q : Qpu) (slots : ℕ → Bool → List ℕ) → QpuSlots IsHere slots q → QpuSlots IsHere slots (found_in second files q)
qpu_found IsHere true files q slots left = record { first = left.first; other = slot_stays IsHere (slots 0 true) (slots 1 true) (with_files files) (stays_filed files) q.other left.other }
qpu_found IsHere false files q slots left = record { first = slot_stays IsHere (slots 0 false) (slots 1 false) (with_files files) (stays_filed files) q.first left.first; other = left.other }

-- A strict shader's slots have room. One TMU's, and the words that it keeps, grow by what an instruction writes to it.
abbrev total : List Sent → ℕ
total queue = sum_by (λ (r : Sent). r.slots) queue

less_drop : (queue : List Sent) → total (drop 1 queue) ≤ total queue
less_drop [] = omega arith
less_drop (one ∷ queue) = let more = sum_by-cons (λ (r : Sent). r.slots) one queue in omega (arith, more)

fill_by : (load send : Bool) (request : Sent) (queue : List Sent) (pending written : ℕ) → request.slots ≡ pending + 1 → (send ≡ true → written ≡ 1)
    → total ((if load then drop 1 queue else queue) ++ (if send then request ∷ [] else [])) + (if send then 0 else pending + written) ≤ total queue + pending + written
fill_by true true request queue pending written is one =
    let less = less_drop queue in
    let all = sum_by-append (λ (r : Sent). r.slots) (drop 1 queue) (request ∷ []) in
    let last = sum_by-cons (λ (r : Sent). r.slots) request [] in
    let w = one refl in
    omega (arith, less, all, last, is, w)
fill_by true false request queue pending written is one =
    let less = less_drop queue in
    let all = sum_by-append (λ (r : Sent). r.slots) (drop 1 queue) [] in
    omega (arith, less, all)
fill_by false true request queue pending written is one =
    let all = sum_by-append (λ (r : Sent). r.slots) queue (request ∷ []) in
    let last = sum_by-cons (λ (r : Sent). r.slots) request [] in
    let w = one refl in
    omega (arith, all, last, is, w)
fill_by false false request queue pending written is one =
    let all = sum_by-append (λ (r : Sent). r.slots) queue [] in
    omega (arith, all)

fill_next : (code : List ℕ) (tmu i : ℕ) → HasNoFault code → i < checked_of code
    → total (queue_of code tmu (i + 1)) + pending_of code tmu (i + 1) ≤ total (queue_of code tmu i) + pending_of code tmu i + one_if (writes_tmu (word code i) tmu)
unfolding queue_after request_at
fill_next code tmu i sound inside =
    let w : ℕ = word code i in
    let written = writes_one code i tmu (writes_tmu w tmu) sound inside refl in
    let sent : writes_s w tmu ≡ true → one_if (writes_tmu w tmu) ≡ 1 = λ on. ap (λ b. one_if b) (s_writes w tmu on) in
    let queue = ap (λ (one : List Sent). total one) (queue_inside code tmu i inside) in
    let pending = pending_inside code tmu i inside ∙ ap (λ k. if writes_s w tmu then 0 else pending_of code tmu i + k) written in
    let fills = fill_by (loads w tmu) (writes_s w tmu) (request_at code tmu i) (queue_of code tmu i) (pending_of code tmu i) (one_if (writes_tmu w tmu)) refl sent in
    omega (arith, queue, pending, fills)

fuller : (a b c d most : ℕ) (first second : Bool) → c ≤ a + one_if first → d ≤ b + one_if second → ((first || second) ≡ true → a + b < most) → (first ≡ true → second ≡ false) → a + b ≤ most → c + d ≤ most
fuller a b c d most true true one two room only few = absurd (true≢false (only refl))
fuller a b c d most true false one two room only few = let below : a + b < most = room refl in omega (arith, one, two, below)
fuller a b c d most false true one two room only few = let below : a + b < most = room refl in omega (arith, one, two, below)
fuller a b c d most false false one two room only few = omega (arith, one, two, few)

-- an instruction writes one TMU
one_written : (code : List ℕ) (i : ℕ) → HasNoFault code → i < checked_of code → (second : Bool) → writes_tmu (word code i) 1 ≡ second → writes_tmu (word code i) 0 ≡ true → second ≡ false
one_written code i sound inside true is on = let same : 0 ≡ 1 = one_tmu code i 0 1 (clean code sound i inside) on is in absurd (omega (arith, same))
one_written code i sound inside false is on = refl

abbrev filled_at : List ℕ → ℕ → ℕ
filled_at code i = (total (queue_of code 0 i) + pending_of code 0 i) + (total (queue_of code 1 i) + pending_of code 1 i)

filled_is : (code : List ℕ) (i : ℕ) → slots_of code i ≡ filled_at code i
unfolding slots_of
filled_is code i =
    let first = sum-map (λ (r : Sent). r.slots) (queue_of code 0 i) in
    let second = sum-map (λ (r : Sent). r.slots) (queue_of code 1 i) in
    omega (arith, first, second)

slot_free : (code : List ℕ) (i : ℕ) → lacks_slot code i ≡ false → (writes_tmu (word code i) 0 || writes_tmu (word code i) 1) ≡ true → filled_at code i < most_slots code
unfolding lacks_slot
slot_free code i off written =
    let below = leb-false (most_slots code) (slots_of code i) (behind (writes_tmu (word code i) 0 || writes_tmu (word code i) 1) (nat_le (most_slots code) (slots_of code i)) written off) in
    omega (arith, below, filled_is code i)

few_slots : (code : List ℕ) → HasNoFault code → IsStrict code → (i : ℕ) → i ≤ checked_of code → filled_at code i ≤ most_slots code
unfolding queue_of pending_of
few_slots code sound strict zero inside = omega arith
few_slots code sound strict (suc i) inside =
    let here : i < checked_of code = omega (arith, inside) in
    let e : i + 1 ≡ suc i = omega arith in
    let less : filled_at code (i + 1) ≤ most_slots code =
    fuller (total (queue_of code 0 i) + pending_of code 0 i) (total (queue_of code 1 i) + pending_of code 1 i) (total (queue_of code 0 (i + 1)) + pending_of code 0 (i + 1)) (total (queue_of code 1 (i + 1)) + pending_of code 1 (i + 1)) (most_slots code)
    (writes_tmu (word code i) 0) (writes_tmu (word code i) 1) (fill_next code 0 i sound here) (fill_next code 1 i sound here) (slot_free code i (strict_here code strict i here).requests.slot)
    (one_written code i sound here (writes_tmu (word code i) 1) refl) (few_slots code sound strict i (omega (arith, here))) in
    subst (λ n. filled_at code n ≤ most_slots code) e less

-- So do a processor's.
abbrev filled_of : List ℕ → List ℕ → Option Thread → ℕ
filled_of slots0 slots1 slot = (sum slots0 + sum slots1) + words_in slot

most_is : (code : List ℕ) (threaded : Bool) → threaded ≡ is_threaded code → most_slots code ≡ (if threaded then 4 else 8)
unfolding most_slots
most_is code threaded is = ap (λ b. if b then 4 else 8) (sym is)

thread_room : (IsOf : ℕ → Home → Type 0) (slots0 slots1 : List ℕ) (t : Thread) (m : List ℕ) → Finds IsOf m → ThreadSlots IsOf slots0 slots1 t → filled_of slots0 slots1 (Some t) ≤ (if t.threaded then 4 else 8)
thread_room IsOf slots0 slots1 t m here left =
    let code = left.home.code in
    let i : ℕ = left.index in
    let home = (here t.job left.home left.stands).is in
    let inside = in_checked code i home.sound left.at.inside in
    let few = few_slots code home.sound left.strict i (omega (arith, inside)) in
    let most = most_is code t.threaded left.at.threaded in
    let first = ap (λ (l : List ℕ). sum l) left.tmu0 ∙ sum-map (λ (r : Sent). r.slots) (queue_of code 0 i) in
    let second = ap (λ (l : List ℕ). sum l) left.tmu1 ∙ sum-map (λ (r : Sent). r.slots) (queue_of code 1 i) in
    let kept0 = left.pending.tmu0 in
    let kept1 = left.pending.tmu1 in
    omega (arith, few, most, first, second, kept0, kept1)

idle_room : (slots0 slots1 : List ℕ) → slots0 ≡ [] → slots1 ≡ [] → filled_of slots0 slots1 None ≡ 0
idle_room slots0 slots1 first second = ap (λ (l : List ℕ). (sum l + sum slots1) + 0) first ∙ ap (λ (l : List ℕ). (0 + sum l) + 0) second

most_eight : (threaded : Bool) (n : ℕ) → n ≤ (if threaded then 4 else 8) → n ≤ 8
most_eight true n few = omega (arith, few)
most_eight false n few = few

half_by : (threaded : Bool) (n : ℕ) → threaded ≡ true → n ≤ (if threaded then 4 else 8) → n ≤ 4
half_by true n is few = few
half_by false n is few = absurd (true≢false (sym is))

both_room : (IsOf : ℕ → Home → Type 0) (a0 a1 b0 b1 : List ℕ) (first other : Option Thread) (m : List ℕ) → Finds IsOf m → AreBeside first other → SlotHas IsOf a0 a1 first → SlotHas IsOf b0 b1 other → filled_of a0 a1 first + filled_of b0 b1 other ≤ 8
both_room IsOf a0 a1 b0 b1 None None m here beside one two = let x = idle_room a0 a1 one.0 one.1 in let y = idle_room b0 b1 two.0 two.1 in omega (arith, x, y)
both_room IsOf a0 a1 b0 b1 None (Some o) m here beside one two =
    let x = idle_room a0 a1 one.0 one.1 in
    let y = most_eight o.threaded (filled_of b0 b1 (Some o)) (thread_room IsOf b0 b1 o m here two) in
    omega (arith, x, y)
both_room IsOf a0 a1 b0 b1 (Some t) None m here beside one two =
    let x = most_eight t.threaded (filled_of a0 a1 (Some t)) (thread_room IsOf a0 a1 t m here one) in
    let y = idle_room b0 b1 two.0 two.1 in
    omega (arith, x, y)
both_room IsOf a0 a1 b0 b1 (Some t) (Some o) m here beside one two =
    let x = half_by t.threaded (filled_of a0 a1 (Some t)) beside.0 (thread_room IsOf a0 a1 t m here one) in
    let y = half_by o.threaded (filled_of b0 b1 (Some o)) beside.1 (thread_room IsOf b0 b1 o m here two) in
    omega (arith, x, y)

own_room : (IsOf : ℕ → Home → Type 0) (slots0 slots1 : List ℕ) (slot : Option Thread) (m : List ℕ) → Finds IsOf m → SlotHas IsOf slots0 slots1 slot → IfSome slot (λ t. t.threaded ≡ true → filled_of slots0 slots1 slot ≤ 4)
own_room IsOf slots0 slots1 None m here left = tt
own_room IsOf slots0 slots1 (Some t) m here left = λ is. half_by t.threaded (filled_of slots0 slots1 (Some t)) is (thread_room IsOf slots0 slots1 t m here left)

pub has_room : (IsOf : ℕ → Home → Type 0) (orders : Orders) (slots : Slots) (u : Units) (m : List ℕ) (k : ℕ) (q : Qpu) → Finds IsOf m → EachStrict IsOf orders 0 u.qpus → EachSlots IsOf slots 0 u.qpus → item_at u.qpus k ≡ Some q
    → HasRoom (slots k) q
has_room IsOf orders slots u m k q here strict all is =
    let known : QpuStrict IsOf (orders k 0) (orders k 1) q = subst (λ (slot : Option Qpu). IfSome slot (QpuStrict IsOf (orders k 0) (orders k 1))) is (each_item (λ i p. QpuStrict IsOf (orders i 0) (orders i 1) p) 0 k k u.qpus (omega arith) strict) in
    let one : QpuSlots IsOf (slots k) q = subst (λ (slot : Option Qpu). IfSome slot (QpuSlots IsOf (slots k))) is (each_item (λ i p. QpuSlots IsOf (slots i) p) 0 k k u.qpus (omega arith) all) in
    record {
      all = both_room IsOf (slots k 0 false) (slots k 1 false) (slots k 0 true) (slots k 1 true) q.first q.other m here known.beside one.first one.other;
      first = own_room IsOf (slots k 0 false) (slots k 1 false) q.first m here one.first;
      other = own_room IsOf (slots k 0 true) (slots k 1 true) q.other m here one.other;
    }
