-- The book stands for the run, call by call.
use Rattle.std.proofs.Common.{get_or-set_other, get_or-set_same, length-set, ◌≡◌, ℕ, zero, suc, ◌+◌, ◌-◌, ◌≤◌, ◌<◌, ◌==◌, Bool, true, false, not, List, [], ◌∷◌, length, get_or, set, replicate, refl, sym, ◌∙◌, ap, subst, arith, Option, None, Some, Ok, Err, eq-eqb, ne_eqb, if◌then◌else◌}
use Rattle.std.proofs.lemmas.Bool.Decides.{nat_tests}
use Rattle.std.specs.Prelude.{slice_index, slice_set}
use Rattle.overflow_slots.specs.declared.call.Call.TheVariants.{Begin, Take, Overflow, End}
use Rattle.overflow_slots.specs.SlotRun.{Held, Run, start, holds, is_free, least_free, free_count, front, slot_answer, is_running, has_room, begin_answer, take_answer, overflow_answer, end_answer, after}
use Rattle.overflow_slots.specs.{declared.pool.Block.Block, Search.count_where}
use Rattle.overflow_slots.specs.Desk.{Desk, IsNewest, Agrees, free_slot, with_slot, AreFreed}
use Rattle.tile_memory.specs.Slots.{slot_fits}
use Rattle.overflow_slots.specs.SlotRun as run
use Rattle.overflow_slots.proofs.Searches.{apart_by, first_found, first_same, count_same, any_none, any_is}
use Rattle.std.proofs.lemmas.Bool.{eqb-true}

-- a slot without an owner is one that no job holds
is_free_by : (r : Run) (desk : Desk) → Agrees r desk → (slot owner : ℕ) → slot < 32 → slice_index desk.owners slot ≡ owner
    → is_free r slot ≡ (owner == 0)
unfolding is_free
is_free_by r desk agrees slot zero inside is =
    ap not (any_none (λ job. holds slot (r.held job)) 32
    (λ job low. agrees.owners slot job inside low ∙ ap (λ n. n == job + 1) is ∙ ne_eqb zero (job + 1) (λ e. absurd (omega arith))))
is_free_by r desk agrees slot (suc owner) inside is =
    let known : owner < 32 = omega (arith, agrees.known slot inside, is) in
    ap not (any_is (λ job. holds slot (r.held job)) 32 owner known
    (agrees.owners slot owner inside known ∙ ap (λ n. n == owner + 1) is ∙ eq-eqb (suc owner) (owner + 1) (omega arith)))
    ∙ sym (ne_eqb (suc owner) 0 (λ e. absurd (omega (arith, e))))

pub is_free_same : (r : Run) (desk : Desk) → Agrees r desk → (slot : ℕ) → slot < 32 → is_free r slot ≡ (slice_index desk.owners slot == 0)
is_free_same r desk agrees slot inside = is_free_by r desk agrees slot (slice_index desk.owners slot) inside refl

pub least_same : (r : Run) (desk : Desk) → Agrees r desk → free_slot desk ≡ least_free r
unfolding least_free
least_same r desk agrees =
    rw agrees.slots (sym (first_same (is_free r) (λ slot. slice_index desk.owners slot == 0) 0 r.slots
    (λ slot low. is_free_same r desk agrees slot (omega (arith, agrees.slots, agrees.few)))))

pub count_free : (r : Run) (desk : Desk) → Agrees r desk → count_where (λ slot. slice_index desk.owners slot == 0) desk.slots ≡ free_count r
unfolding free_count
count_free r desk agrees =
    rw agrees.slots (sym (count_same (is_free r) (λ slot. slice_index desk.owners slot == 0) r.slots
    (λ slot low. is_free_same r desk agrees slot (omega (arith, agrees.slots, agrees.few)))))

-- one item of a list set
set_same : (xs : List ℕ) (i k x : ℕ) → length xs ≡ 32 → k < 32 → (k == i) ≡ true → slice_index (slice_set xs i x) k ≡ x
set_same xs i k x size inside is =
    let e : k ≡ i = eqb-true k i is in
    ap (λ n. get_or (set xs n x) k 0) (sym e) ∙ get_or-set_same xs k x 0 (omega arith)

set_other : (xs : List ℕ) (i k x : ℕ) → (k == i) ≡ false → slice_index (slice_set xs i x) k ≡ slice_index xs k
set_other xs i k x apart = get_or-set_other xs i k x 0 (λ e. apart_by k i apart e)

-- what a job holds after a change of one job's
held_same : (r : Run) (job other : ℕ) (helds : List Held) → (other == job) ≡ true → (if other == job then helds else r.held other) ≡ helds
held_same r job other helds is = rw is refl

-- a job without a newest slot holds none
idle : (helds : List Held) (newest used : ℕ) → IsNewest helds newest used → newest ≡ 0 → helds ≡ []
idle [] newest used is none = refl
idle (one ∷ others) newest used is none = absurd (omega (arith, is.0, none))

running : (helds : List Held) (newest used : ℕ) → IsNewest helds newest used → (newest ≡ 0 → ⊥) → is_running helds ≡ true
running [] newest used is some = absurd (some is)
running (one ∷ others) newest used is some = refl

-- a refusal changes nothing
pub begin_refused : (r : Run) (desk : Desk) (job tiles k : ℕ) → begin_answer r job tiles ≡ Err k → Agrees r desk
    → (Err k ≡ begin_answer r job tiles) × Agrees (after r (Begin job tiles)) desk
unfolding after
begin_refused r desk job tiles k e agrees =
    (sym e, subst (λ answer. Agrees (run.with_slot r job (front tiles) [] [] answer) desk) (sym e) agrees)

pub begin_1 : (r : Run) (desk : Desk) (job tiles : ℕ) → job < 32 → (slice_index desk.newest job ≡ 0 → ⊥) → Agrees r desk → begin_answer r job tiles ≡ Err 1
unfolding begin_answer
begin_1 r desk job tiles low some agrees =
    rw (running (r.held job) (slice_index desk.newest job) (slice_index desk.used job) (agrees.newest job low) some) refl

pub begin_6 : (r : Run) (desk : Desk) (job tiles : ℕ) → job < 32 → slice_index desk.newest job ≡ 0 → tiles ≡ 0 → Agrees r desk → begin_answer r job tiles ≡ Err 6
unfolding begin_answer
begin_6 r desk job tiles low none no_tiles agrees =
    rw (idle (r.held job) (slice_index desk.newest job) (slice_index desk.used job) (agrees.newest job low) none, eq-eqb tiles 0 no_tiles) refl

pub begin_6_fits : (r : Run) (desk : Desk) (job tiles : ℕ) → job < 32 → slice_index desk.newest job ≡ 0 → (tiles ≡ 0 → ⊥) → slot_fits tiles ≡ false
    → Agrees r desk → begin_answer r job tiles ≡ Err 6
unfolding begin_answer
begin_6_fits r desk job tiles low none some fits agrees =
    rw (idle (r.held job) (slice_index desk.newest job) (slice_index desk.used job) (agrees.newest job low) none, ne_eqb tiles 0 some, fits) refl

pub begin_given : (r : Run) (desk : Desk) (job tiles : ℕ) → job < 32 → slice_index desk.newest job ≡ 0 → (tiles ≡ 0 → ⊥) → slot_fits tiles ≡ true
    → Agrees r desk → begin_answer r job tiles ≡ slot_answer (free_slot desk)
unfolding begin_answer
begin_given r desk job tiles low none some fits agrees =
    rw (idle (r.held job) (slice_index desk.newest job) (slice_index desk.used job) (agrees.newest job low) none, ne_eqb tiles 0 some, fits)
    (ap slot_answer (sym (least_same r desk agrees)))

-- the book after a slot was given
given_newest : (r : Run) (desk : Desk) (job used slot : ℕ) (others : List Held) → job < 32 → Agrees r desk → (other : ℕ) → other < 32 → (b : Bool) → (other == job) ≡ b
    → IsNewest (if other == job then record { slot = slot; front = used; used = used } ∷ others else r.held other)
    (slice_index (slice_set desk.newest job (slot + 1)) other) (slice_index (slice_set desk.used job used) other)
given_newest r desk job used slot others low agrees other inside true is =
    rw (is, set_same desk.newest job other (slot + 1) agrees.newest_size inside is, set_same desk.used job other used agrees.used_size inside is) (refl, refl)
given_newest r desk job used slot others low agrees other inside false is =
    rw (is, set_other desk.newest job other (slot + 1) is, set_other desk.used job other used is) (agrees.newest other inside)

given_owners : (r : Run) (desk : Desk) (job used slot : ℕ) (others : List Held) → others ≡ r.held job → slice_index desk.owners slot ≡ 0 → Agrees r desk
    → (s other : ℕ) → s < 32 → other < 32 → (b : Bool) → (other == job) ≡ b → (here : Bool) → (s == slot) ≡ here
    → holds s (if other == job then record { slot = slot; front = used; used = used } ∷ others else r.held other)
    ≡ (slice_index (slice_set desk.owners slot (job + 1)) s == other + 1)
unfolding holds
given_owners r desk job used slot others same free agrees s other inside low true is true here =
    rw (is, set_same desk.owners slot s (job + 1) agrees.owners_size inside here) (grind (arith, nat_tests))
given_owners r desk job used slot others same free agrees s other inside low true is false here =
    rw (is, set_other desk.owners slot s (job + 1) here, same) (
    let apart : (slot == s) ≡ false = grind (arith, nat_tests) in
    let e : other ≡ job = eqb-true other job is in
    rw (apart, e) (agrees.owners s job inside (omega (arith, low, e))))
given_owners r desk job used slot others same free agrees s other inside low false is true here =
    rw (is, set_same desk.owners slot s (job + 1) agrees.owners_size inside here) (
    agrees.owners s other inside low ∙ (
    let e : s ≡ slot = eqb-true s slot here in
    let zero_owner : slice_index desk.owners s ≡ 0 = ap (λ n. slice_index desk.owners n) e ∙ free in
    rw zero_owner (grind (arith, nat_tests))))
given_owners r desk job used slot others same free agrees s other inside low false is false here =
    rw (is, set_other desk.owners slot s (job + 1) here) (agrees.owners s other inside low)

given_known : (desk : Desk) (job slot s : ℕ) → job < 32 → length desk.owners ≡ 32 → s < 32 → slice_index desk.owners s ≤ 32 → (here : Bool) → (s == slot) ≡ here
    → slice_index (slice_set desk.owners slot (job + 1)) s ≤ 32
given_known desk job slot s low size inside before true here = rw (set_same desk.owners slot s (job + 1) size inside here) (omega arith)
given_known desk job slot s low size inside before false here = rw (set_other desk.owners slot s (job + 1) here) before

pub given : (r : Run) (desk : Desk) (job used slot : ℕ) (others : List Held) (blocks : List Block) → job < 32 → others ≡ r.held job → slice_index desk.owners slot ≡ 0
    → Agrees r desk
    → Agrees (run.with r job (record { slot = slot; front = used; used = used } ∷ others) blocks) (with_slot desk job used (Some slot))
given r desk job used slot others blocks low same free agrees = record {
  slots = agrees.slots;
  few = agrees.few;
  owners_size = length-set desk.owners slot (job + 1) ∙ agrees.owners_size;
  newest_size = length-set desk.newest job (slot + 1) ∙ agrees.newest_size;
  used_size = length-set desk.used job used ∙ agrees.used_size;
  newest = λ other inside. given_newest r desk job used slot others low agrees other inside (other == job) refl;
  owners = λ s other inside below. given_owners r desk job used slot others same free agrees s other inside below (other == job) refl (s == slot) refl;
  known = λ s inside. given_known desk job slot s low agrees.owners_size inside (agrees.known s inside) (s == slot) refl;
}

-- a job that is given the first free slot, or none
pub given_first : (r : Run) (desk : Desk) (job used : ℕ) (others : List Held) (blocks : List Block) (free : Option ℕ) → free_slot desk ≡ free
    → job < 32 → others ≡ r.held job → Agrees r desk
    → Agrees (run.with_slot r job used others blocks (slot_answer free)) (with_slot desk job used free)
given_first r desk job used others blocks None is low same agrees = agrees
given_first r desk job used others blocks (Some slot) is low same agrees =
    let found = first_found (λ s. slice_index desk.owners s == 0) 0 desk.slots slot is in
    given r desk job used slot others blocks low same (eqb-true (slice_index desk.owners slot) 0 found.1) agrees

pub begin_done : (r : Run) (desk : Desk) (job tiles : ℕ) → job < 32 → slice_index desk.newest job ≡ 0 → (tiles ≡ 0 → ⊥) → slot_fits tiles ≡ true
    → Agrees r desk
    → (slot_answer (free_slot desk) ≡ begin_answer r job tiles) × Agrees (after r (Begin job tiles)) (with_slot desk job (front tiles) (free_slot desk))
unfolding after
begin_done r desk job tiles low none some fits agrees =
    let answer = begin_given r desk job tiles low none some fits agrees in
    let no_slots = idle (r.held job) (slice_index desk.newest job) (slice_index desk.used job) (agrees.newest job low) none in
    (sym answer, rw answer (given_first r desk job (front tiles) [] [] (free_slot desk) refl low (sym no_slots) agrees))

block_refused : (r : Run) (desk : Desk) (job : ℕ) (helds : List Held) (k : ℕ) → Agrees r desk → Agrees (run.with_block r job helds (Err k)) desk
block_refused r desk job [] k agrees = agrees
block_refused r desk job (one ∷ others) k agrees = agrees

-- a block of the newest slot
pub take_refused : (r : Run) (desk : Desk) (job k : ℕ) → take_answer r job ≡ Err k → Agrees r desk
    → (Err k ≡ take_answer r job) × Agrees (after r (Take job)) desk
unfolding after
take_refused r desk job k e agrees = (sym e, rw e (block_refused r desk job (r.held job) k agrees))

pub take_2 : (r : Run) (desk : Desk) (job : ℕ) → job < 32 → slice_index desk.newest job ≡ 0 → Agrees r desk → take_answer r job ≡ Err 2
unfolding take_answer
take_2 r desk job low none agrees =
    ap run.take_answer_of (idle (r.held job) (slice_index desk.newest job) (slice_index desk.used job) (agrees.newest job low) none)

four : (helds : List Held) (newest used : ℕ) → IsNewest helds newest used → (newest ≡ 0 → ⊥) → has_room used ≡ false → run.take_answer_of helds ≡ Err 4
four [] newest used is some full = absurd (some is)
four (one ∷ others) newest used is some full =
    let room : has_room one.used ≡ false = ap has_room (sym is.1) ∙ full in
    rw room refl

pub take_4 : (r : Run) (desk : Desk) (job : ℕ) → job < 32 → (slice_index desk.newest job ≡ 0 → ⊥) → has_room (slice_index desk.used job) ≡ false
    → Agrees r desk → take_answer r job ≡ Err 4
unfolding take_answer
take_4 r desk job low some full agrees = four (r.held job) (slice_index desk.newest job) (slice_index desk.used job) (agrees.newest job low) some full

abbrev pub with_used : Desk → ℕ → ℕ → Desk
with_used desk job used = record { slots = desk.slots; owners = desk.owners; newest = desk.newest; used = slice_set desk.used job used }

taken_newest : (r : Run) (desk : Desk) (job : ℕ) (one : Held) (others : List Held) → job < 32 → r.held job ≡ one ∷ others → Agrees r desk
    → (other : ℕ) → other < 32 → (b : Bool) → (other == job) ≡ b
    → IsNewest (if other == job then record { slot = one.slot; front = one.front; used = one.used + 128 } ∷ others else r.held other)
    (slice_index desk.newest other) (slice_index (slice_set desk.used job (one.used + 128)) other)
taken_newest r desk job one others low is agrees other inside true same =
    let e : other ≡ job = eqb-true other job same in
    let before : IsNewest (one ∷ others) (slice_index desk.newest job) (slice_index desk.used job) =
    subst (λ helds. IsNewest helds (slice_index desk.newest job) (slice_index desk.used job)) is (agrees.newest job low) in
    rw (same, set_same desk.used job other (one.used + 128) agrees.used_size inside same) (ap (λ n. slice_index desk.newest n) e ∙ before.0, refl)
taken_newest r desk job one others low is agrees other inside false same =
    rw (same, set_other desk.used job other (one.used + 128) same) (agrees.newest other inside)

taken_owners : (r : Run) (desk : Desk) (job : ℕ) (one : Held) (others : List Held) → r.held job ≡ one ∷ others → Agrees r desk
    → (s other : ℕ) → s < 32 → other < 32 → (b : Bool) → (other == job) ≡ b
    → holds s (if other == job then record { slot = one.slot; front = one.front; used = one.used + 128 } ∷ others else r.held other)
    ≡ (slice_index desk.owners s == other + 1)
unfolding holds
taken_owners r desk job one others is agrees s other inside low true same =
    let e : other ≡ job = eqb-true other job same in
    rw same (ap (holds s) (sym (ap r.held e ∙ is)) ∙ agrees.owners s other inside low)
taken_owners r desk job one others is agrees s other inside low false same = rw same (agrees.owners s other inside low)

taken : (r : Run) (desk : Desk) (job : ℕ) (one : Held) (others : List Held) (blocks : List Block) → job < 32 → r.held job ≡ one ∷ others → Agrees r desk
    → Agrees (run.with r job (record { slot = one.slot; front = one.front; used = one.used + 128 } ∷ others) blocks) (with_used desk job (one.used + 128))
taken r desk job one others blocks low is agrees = record {
  slots = agrees.slots;
  few = agrees.few;
  owners_size = agrees.owners_size;
  newest_size = agrees.newest_size;
  used_size = length-set desk.used job (one.used + 128) ∙ agrees.used_size;
  newest = λ other inside. taken_newest r desk job one others low is agrees other inside (other == job) refl;
  owners = λ s other inside below. taken_owners r desk job one others is agrees s other inside below (other == job) refl;
  known = agrees.known;
}

taken_of : (r : Run) (desk : Desk) (job newest used : ℕ) (helds : List Held) → job < 32 → r.held job ≡ helds → IsNewest helds newest used
    → (newest ≡ 0 → ⊥) → has_room used ≡ true → Agrees r desk
    → (Ok (record { slot = newest - 1; at = used }) ≡ run.take_answer_of helds)
    × Agrees (run.with_block r job helds (run.take_answer_of helds)) (with_used desk job (used + 128))
taken_of r desk job newest used [] low held is some room agrees = absurd (some is)
taken_of r desk job newest used (one ∷ others) low held is some room agrees =
    let room_here : has_room one.used ≡ true = ap has_room (sym is.1) ∙ room in
    let slot : newest - 1 ≡ one.slot = omega (arith, is.0) in
    rw (room_here, slot, is.1) (refl, taken r desk job one others (record { slot = one.slot; at = one.used } ∷ r.blocks job) low held agrees)

pub take_done : (r : Run) (desk : Desk) (job newest used : ℕ) → job < 32 → slice_index desk.newest job ≡ newest → slice_index desk.used job ≡ used
    → (newest ≡ 0 → ⊥) → has_room used ≡ true → Agrees r desk
    → (Ok (record { slot = newest - 1; at = used }) ≡ take_answer r job) × Agrees (after r (Take job)) (with_used desk job (used + 128))
unfolding after take_answer
take_done r desk job newest used low newest_is used_is some room agrees =
    taken_of r desk job newest used (r.held job) low refl
    (subst (λ u. IsNewest (r.held job) newest u) used_is (subst (λ n. IsNewest (r.held job) n (slice_index desk.used job)) newest_is (agrees.newest job low)))
    some room agrees

-- another slot
pub overflow_refused : (r : Run) (desk : Desk) (job k : ℕ) → overflow_answer r job ≡ Err k → Agrees r desk
    → (Err k ≡ overflow_answer r job) × Agrees (after r (Overflow job)) desk
unfolding after
overflow_refused r desk job k e agrees = (sym e, rw e agrees)

pub overflow_2 : (r : Run) (desk : Desk) (job : ℕ) → job < 32 → slice_index desk.newest job ≡ 0 → Agrees r desk → overflow_answer r job ≡ Err 2
unfolding overflow_answer
overflow_2 r desk job low none agrees =
    ap (run.overflow_answer_of (least_free r)) (idle (r.held job) (slice_index desk.newest job) (slice_index desk.used job) (agrees.newest job low) none)

full_or_not : (free : Option ℕ) (helds : List Held) (newest used : ℕ) (room : Bool) → IsNewest helds newest used → (newest ≡ 0 → ⊥) → has_room used ≡ room
    → run.overflow_answer_of free helds ≡ (if room then Err 5 else slot_answer free)
full_or_not free [] newest used room is some report = absurd (some is)
full_or_not free (one ∷ others) newest used room is some report =
    let here : has_room one.used ≡ room = ap has_room (sym is.1) ∙ report in
    rw here refl

pub overflow_5 : (r : Run) (desk : Desk) (job : ℕ) → job < 32 → (slice_index desk.newest job ≡ 0 → ⊥) → has_room (slice_index desk.used job) ≡ true
    → Agrees r desk → overflow_answer r job ≡ Err 5
unfolding overflow_answer
overflow_5 r desk job low some room agrees =
    full_or_not (least_free r) (r.held job) (slice_index desk.newest job) (slice_index desk.used job) true (agrees.newest job low) some room

pub overflow_done : (r : Run) (desk : Desk) (job : ℕ) → job < 32 → (slice_index desk.newest job ≡ 0 → ⊥) → has_room (slice_index desk.used job) ≡ false
    → Agrees r desk
    → (slot_answer (free_slot desk) ≡ overflow_answer r job) × Agrees (after r (Overflow job)) (with_slot desk job 0 (free_slot desk))
unfolding after overflow_answer
overflow_done r desk job low some full agrees =
    let answer : run.overflow_answer_of (least_free r) (r.held job) ≡ slot_answer (free_slot desk) =
    full_or_not (least_free r) (r.held job) (slice_index desk.newest job) (slice_index desk.used job) false (agrees.newest job low) some full
    ∙ ap slot_answer (sym (least_same r desk agrees)) in
    (sym answer, rw answer (given_first r desk job 0 (r.held job) (r.blocks job) (free_slot desk) refl low refl agrees))

-- a job's slots come back
pub end_refused : (r : Run) (desk : Desk) (job : ℕ) → job < 32 → slice_index desk.newest job ≡ 0 → Agrees r desk
    → (Err 2 ≡ end_answer r job) × Agrees (after r (End job)) desk
unfolding after end_answer
end_refused r desk job low none agrees =
    let answer : run.end_answer_of (free_count (run.after_end r job)) (r.held job) ≡ Err 2 =
    ap (run.end_answer_of (free_count (run.after_end r job))) (idle (r.held job) (slice_index desk.newest job) (slice_index desk.used job) (agrees.newest job low) none) in
    (sym answer, rw answer agrees)

ended_newest : (r : Run) (desk : Desk) (job : ℕ) → Agrees r desk → (other : ℕ) → other < 32 → (b : Bool) → (other == job) ≡ b
    → IsNewest (if other == job then [] else r.held other) (slice_index (slice_set desk.newest job 0) other) (slice_index desk.used other)
ended_newest r desk job agrees other inside true same = rw (same, set_same desk.newest job other 0 agrees.newest_size inside same) refl
ended_newest r desk job agrees other inside false same = rw (same, set_other desk.newest job other 0 same) (agrees.newest other inside)

ended_owners : (r : Run) (desk : Desk) (job : ℕ) (owners : List ℕ) → AreFreed (job + 1) desk.owners owners → Agrees r desk
    → (s other : ℕ) → s < 32 → other < 32 → (b : Bool) → (other == job) ≡ b → (here : Bool) → (slice_index desk.owners s == job + 1) ≡ here
    → holds s (if other == job then [] else r.held other) ≡ (slice_index owners s == other + 1)
unfolding holds
ended_owners r desk job owners freed agrees s other inside low true same true here =
    rw (same, freed s inside, here) (grind (arith, nat_tests))
ended_owners r desk job owners freed agrees s other inside low true same false here =
    let e : other ≡ job = eqb-true other job same in
    rw (same, freed s inside, here, e) (sym here)
ended_owners r desk job owners freed agrees s other inside low false same true here =
    let owner : slice_index desk.owners s ≡ job + 1 = eqb-true (slice_index desk.owners s) (job + 1) here in
    let apart : (job + 1 == other + 1) ≡ false = grind (arith, nat_tests) in
    let none : (0 == other + 1) ≡ false = grind (arith, nat_tests) in
    rw (same, freed s inside, here, none) (agrees.owners s other inside low ∙ ap (λ n. n == other + 1) owner ∙ apart)
ended_owners r desk job owners freed agrees s other inside low false same false here =
    rw (same, freed s inside, here) (agrees.owners s other inside low)

ended_known : (owner old : ℕ) (here : Bool) → (old == owner) ≡ here → old ≤ 32 → (if old == owner then 0 else old) ≤ 32
ended_known owner old true here low = rw here (omega arith)
ended_known owner old false here low = rw here low

abbrev pub with_owners : Desk → ℕ → List ℕ → Desk
with_owners desk job owners = record { slots = desk.slots; owners = owners; newest = slice_set desk.newest job 0; used = desk.used }

end_agrees : (r : Run) (desk : Desk) (job : ℕ) (owners : List ℕ) → AreFreed (job + 1) desk.owners owners → length owners ≡ 32 → Agrees r desk
    → Agrees (run.after_end r job) (with_owners desk job owners)
end_agrees r desk job owners freed size agrees = record {
  slots = agrees.slots;
  few = agrees.few;
  owners_size = size;
  newest_size = length-set desk.newest job 0 ∙ agrees.newest_size;
  used_size = agrees.used_size;
  newest = λ other inside. ended_newest r desk job agrees other inside (other == job) refl;
  owners = λ s other inside below.
      ended_owners r desk job owners freed agrees s other inside below (other == job) refl (slice_index desk.owners s == job + 1) refl;
  known = λ s inside. subst (λ n. n ≤ 32) (sym (freed s inside))
      (ended_known (job + 1) (slice_index desk.owners s) (slice_index desk.owners s == job + 1) refl (agrees.known s inside));
}

some_end : (count : ℕ) (helds : List Held) (newest used : ℕ) → IsNewest helds newest used → (newest ≡ 0 → ⊥) → run.end_answer_of count helds ≡ Ok count
some_end count [] newest used is some = absurd (some is)
some_end count (one ∷ others) newest used is some = refl

pub end_done : (r : Run) (desk : Desk) (job count : ℕ) (owners : List ℕ) → job < 32 → (slice_index desk.newest job ≡ 0 → ⊥)
    → AreFreed (job + 1) desk.owners owners → length owners ≡ 32 → count ≡ count_where (λ slot. slice_index owners slot == 0) desk.slots → Agrees r desk
    → (Ok count ≡ end_answer r job) × Agrees (after r (End job)) (with_owners desk job owners)
unfolding after end_answer
end_done r desk job count owners low some freed size counted agrees =
    let after_end = end_agrees r desk job owners freed size agrees in
    let answer : run.end_answer_of (free_count (run.after_end r job)) (r.held job) ≡ Ok count =
    some_end (free_count (run.after_end r job)) (r.held job) (slice_index desk.newest job) (slice_index desk.used job) (agrees.newest job low) some
    ∙ ap (λ n. Ok n) (sym (counted ∙ count_free (run.after_end r job) (with_owners desk job owners) after_end)) in
    (sym answer, rw answer after_end)

replicate_zero : (n k : ℕ) → slice_index (replicate n 0) k ≡ 0
replicate_zero zero k = refl
replicate_zero (suc n) zero = refl
replicate_zero (suc n) (suc k) = replicate_zero n k

-- thirty-two noughts
abbrev noughts : List ℕ
noughts = replicate 32 0

nought : (k : ℕ) → slice_index noughts k ≡ 0
nought k = replicate_zero 32 k

pub new_agrees : (slots : ℕ) → slots ≤ 32 → Agrees (start slots) (record { slots = slots; owners = noughts; newest = noughts; used = noughts })
unfolding holds
new_agrees slots few = record {
  slots = refl;
  few = few;
  owners_size = refl;
  newest_size = refl;
  used_size = refl;
  newest = λ job low. nought job;
  owners = λ slot job inside low. sym (ap (λ n. n == job + 1) (nought slot) ∙ ne_eqb 0 (job + 1) (λ e. absurd (omega (arith, e))));
  known = λ slot inside. subst (λ n. n ≤ 32) (sym (nought slot)) (omega arith);
}
