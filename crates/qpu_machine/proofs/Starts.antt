-- Where a program starts.
use Rattle.std.proofs.Common.{◌≡◌, ◌≢◌, ◌≤◌, ◌<◌, ℕ, suc, ◌+◌, ◌-◌, ◌==◌, ◌&&◌, eqb, Bool, true, false, if◌then◌else◌, ◌⊎◌, inl, inr, List, [], ◌∷◌, length, slice_index_or, slice_set, Option, None, Some, refl, sym, ◌∙◌, ap, subst, arith, ◌^◌}
use Rattle.std.proofs.{lemmas.Grind.common_steps, lemmas.List.get_or-set_same, lemmas.List.get_or-set_other, lemmas.List.length-set}
use Rattle.std.proofs.{lemmas.Bool.and_parts, lemmas.Bool.Decides.eqb_tells}
use Rattle.qpu_machine.specs.Qpu.{queue_count, has_none, takes_first, takes_other, in_first, in_other, in_slot, started_in, after_launch, slot_from, idle_qpu}
use Rattle.qpu_machine.specs.{State.Launch, State.Qpu, State.Slot, State.Thread, Start.thread_of}
use Rattle.qpu_machine.specs.Bounds.{IsNear, IsFew, IsBounded, AreBounded}

-- the search goes on past a processor that takes nothing
abbrev pub slot_by : Bool → Bool → ℕ → Option Slot → Option Slot
slot_by first other n rest = if first then Some (record { qpu = n; second = false }) else (if other then Some (record { qpu = n; second = true }) else rest)

-- the slot that is found is below the end, its processor takes the program there, and the program starts there
pub record Found (threaded : Bool) (qpus : List Qpu) (at : ℕ) (second : Bool) : Type 0 where
  pub below : at < length qpus
  pub takes : (if second then takes_other threaded (slice_index_or qpus at idle_qpu) else takes_first threaded (slice_index_or qpus at idle_qpu)) ≡ true
  pub starts : (t : Thread) → started_in threaded t qpus ≡ slice_set qpus at (in_slot second (slice_index_or qpus at idle_qpu) t)

abbrev pub Finds : Bool → List Qpu → ℕ → Option Slot → Type 0
Finds threaded qpus n None = (t : Thread) → started_in threaded t qpus ≡ qpus
Finds threaded qpus n (Some slot) = (n ≤ slot.qpu) × Found threaded qpus (slot.qpu - n) slot.second

abbrev started_by : Bool → Bool → Thread → Qpu → List Qpu → List Qpu → List Qpu
started_by first other t q qpus rest = if first then in_first q t ∷ qpus else (if other then in_other q t ∷ qpus else q ∷ rest)

zero_found : (threaded : Bool) (q : Qpu) (qpus : List Qpu) (n : ℕ) (second : Bool) → Found threaded (q ∷ qpus) 0 second → Found threaded (q ∷ qpus) (n - n) second
zero_found threaded q qpus n second h = let none : 0 ≡ n - n = omega arith in subst (λ k. Found threaded (q ∷ qpus) k second) none h

next_found : (threaded : Bool) (q : Qpu) (qpus : List Qpu) (n at : ℕ) (second : Bool) → takes_first threaded q ≡ false → takes_other threaded q ≡ false → n + 1 ≤ at → Found threaded qpus (at - (n + 1)) second → Found threaded (q ∷ qpus) (at - n) second
next_found threaded q qpus n at second first other up h =
    let more : suc (at - (n + 1)) ≡ at - n = omega (arith, up) in
    subst (λ k. Found threaded (q ∷ qpus) k second) more (record {
      below = omega (arith, h.below);
      takes = h.takes;
      starts = λ t. ap (λ b. started_by b (takes_other threaded q) t q qpus (started_in threaded t qpus)) first ∙ (ap (λ b. started_by false b t q qpus (started_in threaded t qpus)) other ∙ ap (λ rest. q ∷ rest) (h.starts t));
    })

next_finds : (threaded : Bool) (q : Qpu) (qpus : List Qpu) (n : ℕ) (slot : Option Slot) → takes_first threaded q ≡ false → takes_other threaded q ≡ false → Finds threaded qpus (n + 1) slot → Finds threaded (q ∷ qpus) n slot
next_finds threaded q qpus n None first other h = λ t. ap (λ b. started_by b (takes_other threaded q) t q qpus (started_in threaded t qpus)) first ∙ (ap (λ b. started_by false b t q qpus (started_in threaded t qpus)) other ∙ ap (λ rest. q ∷ rest) (h t))
next_finds threaded q qpus n (Some slot) first other h = (omega (arith, h.0), next_found threaded q qpus n slot.qpu slot.second first other h.0 h.1)

finds_by : (threaded : Bool) (q : Qpu) (qpus : List Qpu) (n : ℕ) (first other : Bool) → takes_first threaded q ≡ first → takes_other threaded q ≡ other → Finds threaded qpus (n + 1) (slot_from threaded (n + 1) qpus)
    → Finds threaded (q ∷ qpus) n (slot_by first other n (slot_from threaded (n + 1) qpus))
finds_by threaded q qpus n true other first_is other_is rest =
    (omega arith, zero_found threaded q qpus n false (record { below = omega arith; takes = first_is; starts = λ t. ap (λ b. started_by b (takes_other threaded q) t q qpus (started_in threaded t qpus)) first_is }))
finds_by threaded q qpus n false true first_is other_is rest = (
  omega arith,
  zero_found threaded q qpus n true (record {
    below = omega arith;
    takes = other_is;
    starts = λ t. ap (λ b. started_by b (takes_other threaded q) t q qpus (started_in threaded t qpus)) first_is ∙ ap (λ b. started_by false b t q qpus (started_in threaded t qpus)) other_is;
  }),
)
finds_by threaded q qpus n false false first_is other_is rest = next_finds threaded q qpus n (slot_from threaded (n + 1) qpus) first_is other_is rest

pub finds : (threaded : Bool) (n : ℕ) (qpus : List Qpu) → Finds threaded qpus n (slot_from threaded n qpus)
finds threaded n [] = λ t. refl
finds threaded n (q ∷ qpus) =
    subst (λ slot. Finds threaded (q ∷ qpus) n slot) refl
    (finds_by threaded q qpus n (takes_first threaded q) (takes_other threaded q) refl refl (finds threaded (n + 1) qpus))

-- a slot that takes a program has no requests
none_queued : (a b : ℕ) → ((a == 0) && (b == 0)) ≡ true → (a ≡ 0) × (b ≡ 0)
none_queued a b e = let h = and_parts (a == 0) (b == 0) e in (grind (arith, common_steps, h.0), grind (arith, common_steps, h.1))

started_few : (second : Bool) (q : Qpu) (job : ℕ) (launch : Launch) → has_none second q ≡ true → IsFew second (Some (thread_of job launch)) q.queue0.items q.queue1.items
unfolding thread_of
started_few second q job launch none =
    let h = none_queued (queue_count second q.queue0.items) (queue_count second q.queue1.items) none in
    record { tmu0 = omega (arith, h.0); tmu1 = omega (arith, h.1) }

started_near : (job : ℕ) (launch : Launch) → launch.code < 2 ^ 32 → IsNear (Some (thread_of job launch))
unfolding thread_of
started_near job launch code = omega (arith, code)

pub in_slot_bounded : (threaded second : Bool) (q : Qpu) (job : ℕ) (launch : Launch) → launch.code < 2 ^ 32 → IsBounded q → (if second then takes_other threaded q else takes_first threaded q) ≡ true → IsBounded (in_slot second q (thread_of job launch))
unfolding takes_first takes_other in_first in_other
in_slot_bounded threaded true q job launch code h takes =
    let part = and_parts _ _ (and_parts _ _ takes).1 in
    record {
      first_near = h.first_near;
      other_near = started_near job launch code;
      first_few = h.first_few;
      other_few = started_few true q job launch (and_parts _ _ part.0).1;
    }
in_slot_bounded threaded false q job launch code h takes =
    record {
      first_near = started_near job launch code;
      other_near = h.other_near;
      first_few = started_few false q job launch (and_parts _ _ (and_parts _ _ takes).0).1;
      other_few = h.other_few;
    }

set_bounded_at : (qpus : List Qpu) (at k : ℕ) (new : Qpu) → AreBounded qpus → IsBounded new → k < length qpus → ((eqb at k ≡ true) × (at ≡ k)) ⊎ ((eqb at k ≡ false) × (at ≢ k)) → IsBounded (slice_index_or (slice_set qpus at new) k idle_qpu)
set_bounded_at qpus at k new are fine below (inl e) =
    let here : slice_index_or (slice_set qpus at new) k idle_qpu ≡ new = ap (λ n. slice_index_or (slice_set qpus at new) n idle_qpu) (sym e.1) ∙ get_or-set_same qpus at new idle_qpu (omega (arith, e.1, below)) in
    subst IsBounded (sym here) fine
set_bounded_at qpus at k new are fine below (inr n) =
    let here : slice_index_or (slice_set qpus at new) k idle_qpu ≡ slice_index_or qpus k idle_qpu = get_or-set_other qpus at k new idle_qpu (λ e. n.1 (sym e)) in
    subst IsBounded (sym here) (are k below)

pub set_bounded : (qpus : List Qpu) (at : ℕ) (new : Qpu) → AreBounded qpus → IsBounded new → AreBounded (slice_set qpus at new)
set_bounded qpus at new are fine = λ k below. set_bounded_at qpus at k new are fine (omega (arith, below, length-set qpus at new)) (eqb_tells at k)

-- a program starts where a slot was found
pub found_in : (threaded : Bool) (qpus : List Qpu) (slot : Slot) → slot_from threaded 0 qpus ≡ Some slot → Found threaded qpus slot.qpu slot.second
found_in threaded qpus slot is =
    let h : Finds threaded qpus 0 (Some slot) = subst (λ s. Finds threaded qpus 0 s) is (finds threaded 0 qpus) in
    let same : slot.qpu - 0 ≡ slot.qpu = omega arith in
    subst (λ k. Found threaded qpus k slot.second) same h.1

pub started_none : (job : ℕ) (launch : Launch) (qpus : List Qpu) → slot_from launch.threaded 0 qpus ≡ None → qpus ≡ after_launch job launch qpus
started_none job launch qpus is =
    let h : Finds launch.threaded qpus 0 None = subst (λ s. Finds launch.threaded qpus 0 s) is (finds launch.threaded 0 qpus) in
    sym (h (thread_of job launch))

code_near : (job : ℕ) (launch : Launch) → (thread_of job launch).place < 2 ^ 32 → launch.code < 2 ^ 32
unfolding thread_of
code_near job launch near = near

pub started_at : (job : ℕ) (launch : Launch) (qpus : List Qpu) (slot : Slot) (old new : Qpu) (t : Thread) → slot_from launch.threaded 0 qpus ≡ Some slot → old ≡ slice_index_or qpus slot.qpu idle_qpu → t ≡ thread_of job launch → new ≡ in_slot slot.second old t
    → slice_set qpus slot.qpu new ≡ after_launch job launch qpus
started_at job launch qpus slot old new t is old_is t_is new_is =
    let found = found_in launch.threaded qpus slot is in
    ap (slice_set qpus slot.qpu) (new_is ∙ (ap (λ q. in_slot slot.second q t) old_is ∙ ap (in_slot slot.second (slice_index_or qpus slot.qpu idle_qpu)) t_is)) ∙ sym (found.starts (thread_of job launch))

pub started_bounded : (job : ℕ) (launch : Launch) (qpus : List Qpu) (slot : Slot) (old new : Qpu) (t : Thread) → slot_from launch.threaded 0 qpus ≡ Some slot → old ≡ slice_index_or qpus slot.qpu idle_qpu → t ≡ thread_of job launch → t.place < 2 ^ 32
    → new ≡ in_slot slot.second old t → AreBounded qpus → AreBounded (slice_set qpus slot.qpu new)
started_bounded job launch qpus slot old new t is old_is t_is near new_is are =
    let found = found_in launch.threaded qpus slot is in
    let code = code_near job launch (subst (λ (x : Thread). x.place < 2 ^ 32) t_is near) in
    let new_here : new ≡ in_slot slot.second (slice_index_or qpus slot.qpu idle_qpu) (thread_of job launch) = new_is ∙ (ap (λ q. in_slot slot.second q t) old_is ∙ ap (in_slot slot.second (slice_index_or qpus slot.qpu idle_qpu)) t_is) in
    set_bounded qpus slot.qpu new are (subst IsBounded (sym new_here) (in_slot_bounded launch.threaded slot.second (slice_index_or qpus slot.qpu idle_qpu) job launch code (are slot.qpu found.below) found.takes))

-- below the end of a list the value for places past it plays no part
pub inside_any : (qpus : List Qpu) (k : ℕ) (q : Qpu) → k < length qpus → slice_index_or qpus k q ≡ slice_index_or qpus k idle_qpu
inside_any qpus k q below = grind (arith, common_steps, below)
