-- No slot belongs to two jobs, and blocks lie apart, after any list of calls.
use Rattle.std.proofs.Common.{inl, inr, ◌≡◌, ◌⊎◌, ℕ, ◌+◌, ◌≤◌, ◌<◌, ◌==◌, Bool, true, false, not, ◌||◌, List, [], ◌∷◌, refl, sym, ◌∙◌, ap, subst, arith, Option, None, Some, Result, Ok, Err, if◌then◌else◌, eq-eqb}
use Rattle.std.proofs.{lemmas.Bool.false≢true, lemmas.Bool.Decides.nat_tests}
use Rattle.std.specs.List.{AllByRecursion}
use Rattle.field_words.specs.Sizes.{slot_size}
use Rattle.overflow_slots.specs.declared.call.Call.TheVariants.{Begin, Take, Overflow, End}
use Rattle.overflow_slots.specs.SlotRun.{Held, Run, holds, is_free, least_free, front, start, after, run_of, with, slot_answer, has_room, begin_answer, take_answer, take_answer_of, overflow_answer, overflow_answer_of, end_answer, with_slot, with_block, with_end, is_running}
use Rattle.overflow_slots.specs.Laws.{NoneShared, LiesInOne, AreApart, AllApart, IsOrdered, StaysOrdered}
use Rattle.overflow_slots.specs.{declared.pool.Block.Block, declared.call.Call.Call, Calls.IsInRange, Search.any_where}
use Rattle.tile_memory.specs.Slots.{slot_fits}
use Rattle.overflow_slots.proofs.Searches.{apart_by, any_is, first_found, or_true}
use Rattle.std.proofs.lemmas.Bool.{eqb-true}

-- a job's slots differ, and what is used of each has its front
abbrev AreOrderly : List Held → Type 0
AreOrderly [] = Unit {0}
AreOrderly (one ∷ others) = (holds one.slot others ≡ false) × ((one.front ≤ one.used) × AreOrderly others)

record Core (run : Run) : Type 0 where
  none_shared : NoneShared run
  orderly : (job : ℕ) → job < 32 → AreOrderly (run.held job)
  lie : (job : ℕ) → job < 32 → AllByRecursion (LiesInOne (run.held job)) (run.blocks job)
  own_apart : (job : ℕ) → job < 32 → AllApart (run.blocks job)

-- no other job holds one of these slots
abbrev Fresh : Run → ℕ → List Held → Type 0
Fresh run job helds = (slot other : ℕ) → other < 32 → (other ≡ job → ⊥) → holds slot helds ≡ true → holds slot (run.held other) ≡ true → ⊥

shared : (run : Run) (job : ℕ) (helds : List Held) → Core run → Fresh run job helds → (slot a b : ℕ) → a < 32 → b < 32
    → (is_a : Bool) → (a == job) ≡ is_a → (is_b : Bool) → (b == job) ≡ is_b
    → holds slot (if a == job then helds else run.held a) ≡ true → holds slot (if b == job then helds else run.held b) ≡ true → a ≡ b
shared run job helds core fresh slot a b low_a low_b true ea true eb ha hb = eqb-true a job ea ∙ sym (eqb-true b job eb)
shared run job helds core fresh slot a b low_a low_b true ea false eb ha hb =
    absurd (fresh slot b low_b (apart_by b job eb) (ap (λ t. holds slot (if t then helds else run.held a)) (sym ea) ∙ ha) (ap (λ t. holds slot (if t then helds else run.held b)) (sym eb) ∙ hb))
shared run job helds core fresh slot a b low_a low_b false ea true eb ha hb =
    absurd (fresh slot a low_a (apart_by a job ea) (ap (λ t. holds slot (if t then helds else run.held b)) (sym eb) ∙ hb) (ap (λ t. holds slot (if t then helds else run.held a)) (sym ea) ∙ ha))
shared run job helds core fresh slot a b low_a low_b false ea false eb ha hb =
    core.none_shared slot a b low_a low_b (ap (λ t. holds slot (if t then helds else run.held a)) (sym ea) ∙ ha) (ap (λ t. holds slot (if t then helds else run.held b)) (sym eb) ∙ hb)

of_held : (P : List Held → Type 0) (helds old : List Held) (b : Bool) → (b ≡ true → P helds) → (b ≡ false → P old) → P (if b then helds else old)
of_held P helds old true new kept = new refl
of_held P helds old false new kept = kept refl

of_blocks : (P : List Block → Type 0) (blocks old : List Block) (b : Bool) → P blocks → P old → P (if b then blocks else old)
of_blocks P blocks old true new kept = new
of_blocks P blocks old false new kept = kept

of_both : (P : List Held → List Block → Type 0) (helds held : List Held) (blocks old : List Block) (b : Bool) → P helds blocks → P held old
    → P (if b then helds else held) (if b then blocks else old)
of_both P helds held blocks old true new kept = new
of_both P helds held blocks old false new kept = kept

changed : (run : Run) (job : ℕ) (helds : List Held) (blocks : List Block) → Core run → Fresh run job helds → AreOrderly helds → AllByRecursion (LiesInOne helds) blocks → AllApart blocks
    → Core (with run job helds blocks)
changed run job helds blocks core fresh orderly lie apart = record {
  none_shared = λ slot a b low_a low_b ha hb. shared run job helds core fresh slot a b low_a low_b (a == job) refl (b == job) refl ha hb;
  orderly = λ other low. of_held AreOrderly helds (run.held other) (other == job) (λ e. orderly) (λ e. core.orderly other low);
  lie = λ other low. of_both (λ h b. AllByRecursion (LiesInOne h) b) helds (run.held other) blocks (run.blocks other) (other == job) lie (core.lie other low);
  own_apart = λ other low. of_blocks AllApart blocks (run.blocks other) (other == job) apart (core.own_apart other low);
}

-- a free slot is held by none
not_true : (b : Bool) → not b ≡ true → b ≡ false
not_true true e = sym e
not_true false e = refl

not_any : (passes : ℕ → Bool) (n k : ℕ) (b : Bool) → passes k ≡ b → k < n → any_where passes n ≡ false → b ≡ true → ⊥
not_any passes n k b is low none here = false≢true (sym none ∙ any_is passes n k low (is ∙ here))

free_held : (run : Run) (slot job : ℕ) → job < 32 → is_free run slot ≡ true → holds slot (run.held job) ≡ true → ⊥
unfolding is_free
free_held run slot job low free here =
    not_any (λ j. holds slot (run.held j)) 32 job (holds slot (run.held job)) refl low (not_true (any_where (λ j. holds slot (run.held j)) 32) free) here

least_is_free : (run : Run) (slot : ℕ) → least_free run ≡ Some slot → is_free run slot ≡ true
unfolding least_free
least_is_free run slot e = (first_found (is_free run) 0 run.slots slot e).1

or_either : (a b : Bool) → (a || b) ≡ true → (a ≡ true) ⊎ (b ≡ true)
or_either true b e = inl refl
or_either false b e = inr e

fresh_more : (run : Run) (job : ℕ) (one : Held) (others : List Held) → is_free run one.slot ≡ true
    → ((slot other : ℕ) → other < 32 → (other ≡ job → ⊥) → holds slot others ≡ true → holds slot (run.held other) ≡ true → ⊥) → Fresh run job (one ∷ others)
unfolding holds
fresh_more run job one others free old = λ slot other low apart mine theirs.
    elim (or_either (one.slot == slot) (holds slot others) mine) [
      | inl is ↦ free_held run one.slot other low free (ap (λ s. holds s (run.held other)) (eqb-true one.slot slot is) ∙ theirs)
      | inr later ↦ old slot other low apart later theirs
    ]

fresh_none : (run : Run) (job : ℕ) → Fresh run job []
unfolding holds
fresh_none run job = λ slot other low apart mine theirs. false≢true mine

fresh_own : (run : Run) (job : ℕ) (helds : List Held) → job < 32 → run.held job ≡ helds → Core run → Fresh run job helds
fresh_own run job helds low is core = λ slot other low_o apart mine theirs.
    apart (sym (core.none_shared slot job other low low_o (ap (holds slot) is ∙ mine) theirs))

-- what an answer says
unless : (b : Bool) (k slot : ℕ) (x : Result ℕ ℕ) → (if b then Err k else x) ≡ Ok slot → x ≡ Ok slot
unless true k slot x e = let no : ⊥ = cc in absurd no
unless false k slot x e = e

when : (b : Bool) (k slot : ℕ) (x : Result ℕ ℕ) → (if b then x else Err k) ≡ Ok slot → x ≡ Ok slot
when true k slot x e = e
when false k slot x e = let no : ⊥ = cc in absurd no

slot_is : (free : Option ℕ) (slot : ℕ) → slot_answer free ≡ Ok slot → free ≡ Some slot
slot_is None slot e = let no : ⊥ = cc in absurd no
slot_is (Some other) slot e = let same : other ≡ slot = cc in ap (λ s. Some s) same

begin_slot : (run : Run) (job tiles slot : ℕ) → begin_answer run job tiles ≡ Ok slot → least_free run ≡ Some slot
unfolding begin_answer
begin_slot run job tiles slot e =
    slot_is (least_free run) slot
    (when (slot_fits tiles) 6 slot (slot_answer (least_free run))
    (unless (tiles == 0) 6 slot (if slot_fits tiles then slot_answer (least_free run) else Err 6)
    (unless (is_running (run.held job)) 1 slot (if tiles == 0 then Err 6 else (if slot_fits tiles then slot_answer (least_free run) else Err 6)) e)))

overflow_slot : (free : Option ℕ) (helds : List Held) (slot : ℕ) → overflow_answer_of free helds ≡ Ok slot → free ≡ Some slot
overflow_slot free [] slot e = let no : ⊥ = cc in absurd no
overflow_slot free (one ∷ others) slot e = slot_is free slot (unless (has_room one.used) 5 slot (slot_answer free) e)

begin_step : (run : Run) (job tiles : ℕ) (answer : Result ℕ ℕ) → begin_answer run job tiles ≡ answer → Core run → Core (with_slot run job (front tiles) [] [] answer)
unfolding holds
begin_step run job tiles (Err k) e core = core
begin_step run job tiles (Ok slot) e core =
    changed run job (record { slot = slot; front = front tiles; used = front tiles } ∷ []) [] core
    (fresh_more run job (record { slot = slot; front = front tiles; used = front tiles }) [] (least_is_free run slot (begin_slot run job tiles slot e)) (fresh_none run job))
    (refl, (omega arith, tt)) tt tt

-- slots that a block lies in
lies_more : (one : Held) (helds : List Held) (blocks : List Block) → AllByRecursion (LiesInOne helds) blocks → AllByRecursion (LiesInOne (one ∷ helds)) blocks
lies_more one helds [] lie = tt
lies_more one helds (block ∷ blocks) lie = (inr lie.0, lies_more one helds blocks lie.1)

held_free : (run : Run) (slot job : ℕ) (b : Bool) → job < 32 → is_free run slot ≡ true → holds slot (run.held job) ≡ b → b ≡ false
held_free run slot job true low free is = absurd (free_held run slot job low free is)
held_free run slot job false low free is = refl

overflow_step : (run : Run) (job : ℕ) (answer : Result ℕ ℕ) → job < 32 → overflow_answer_of (least_free run) (run.held job) ≡ answer → Core run
    → Core (with_slot run job 0 (run.held job) (run.blocks job) answer)
overflow_step run job (Err k) low e core = core
overflow_step run job (Ok slot) low e core =
    let free = least_is_free run slot (overflow_slot (least_free run) (run.held job) slot e) in
    changed run job (record { slot = slot; front = 0; used = 0 } ∷ run.held job) (run.blocks job) core
    (fresh_more run job (record { slot = slot; front = 0; used = 0 }) (run.held job) free (fresh_own run job (run.held job) low refl core))
    (held_free run slot job (holds slot (run.held job)) low free refl, (omega arith, core.orderly job low))
    (lies_more (record { slot = slot; front = 0; used = 0 }) (run.held job) (run.blocks job) (core.lie job low))
    (core.own_apart job low)

lies_grown : (one : Held) (others : List Held) (blocks : List Block) → AllByRecursion (LiesInOne (one ∷ others)) blocks
    → AllByRecursion (LiesInOne (record { slot = one.slot; front = one.front; used = one.used + 128 } ∷ others)) blocks
lies_grown one others [] lie = tt
lies_grown one others (block ∷ blocks) lie = (
  elim (lie.0) [
    | inl here ↦ inl (record { slot = here.slot; front = here.front; used = omega (arith, here.used); inside = here.inside })
    | inr there ↦ inr there
  ],
  lies_grown one others blocks lie.1,
)

held_of : (helds : List Held) (block : Block) → LiesInOne helds block → holds block.slot helds ≡ true
unfolding holds
held_of [] block lie = absurd lie
held_of (one ∷ others) block lie = elim lie [
  | inl here ↦ ap (λ b. b || holds block.slot others) (eq-eqb one.slot block.slot (sym here.slot))
  | inr there ↦ ap (λ b. (one.slot == block.slot) || b) (held_of others block there) ∙ or_true (one.slot == block.slot)
]

apart_of : (one : Held) (others : List Held) (block : Block) → holds one.slot others ≡ false → LiesInOne (one ∷ others) block
    → AreApart (record { slot = one.slot; at = one.used }) block
apart_of one others block differ lie = elim lie [
  | inl here ↦ inr (inr here.used)
  | inr there ↦ inl (λ e. false≢true (sym differ ∙ (ap (λ s. holds s others) e ∙ held_of others block there)))
]

all_apart : (one : Held) (others : List Held) (blocks : List Block) → holds one.slot others ≡ false → AllByRecursion (LiesInOne (one ∷ others)) blocks
    → AllByRecursion (AreApart (record { slot = one.slot; at = one.used })) blocks
all_apart one others [] differ lie = tt
all_apart one others (block ∷ blocks) differ lie = (apart_of one others block differ lie.0, all_apart one others blocks differ lie.1)

room_left : (used : ℕ) → has_room used ≡ true → used + 128 ≤ slot_size
room_left used room = grind (arith, nat_tests)

take_by : (run : Run) (job : ℕ) (one : Held) (others : List Held) (room : Bool) → job < 32 → run.held job ≡ one ∷ others → has_room one.used ≡ room → Core run
    → Core (with_block run job (one ∷ others) (if room then Ok (record { slot = one.slot; at = one.used }) else Err 4))
unfolding holds
take_by run job one others false low is room core = core
take_by run job one others true low is room core =
    let orderly = subst AreOrderly is (core.orderly job low) in
    let lie = subst (λ helds. AllByRecursion (LiesInOne helds) (run.blocks job)) is (core.lie job low) in
    changed run job (record { slot = one.slot; front = one.front; used = one.used + 128 } ∷ others) (record { slot = one.slot; at = one.used } ∷ run.blocks job) core
    (fresh_own run job (one ∷ others) low is core)
    (orderly.0, (omega (arith, orderly.1.0), orderly.1.1))
    (inl (record { slot = refl; front = orderly.1.0; used = omega arith; inside = room_left one.used room }), lies_grown one others (run.blocks job) lie)
    (all_apart one others (run.blocks job) orderly.0 lie, core.own_apart job low)

take_step : (run : Run) (job : ℕ) (helds : List Held) → job < 32 → run.held job ≡ helds → Core run → Core (with_block run job helds (take_answer_of helds))
take_step run job [] low is core = core
take_step run job (one ∷ others) low is core = take_by run job one others (has_room one.used) low is refl core

end_step : (run : Run) (job : ℕ) (answer : Result ℕ ℕ) → Core run → Core (with_end run job answer)
end_step run job (Err k) core = core
end_step run job (Ok count) core = changed run job [] [] core (fresh_none run job) tt tt tt

step : (run : Run) (call : Call) → IsInRange call → Core run → Core (after run call)
unfolding after take_answer overflow_answer
step run (Begin job tiles) low core = begin_step run job tiles (begin_answer run job tiles) refl core
step run (Take job) low core = take_step run job (run.held job) low refl core
step run (Overflow job) low core = overflow_step run job (overflow_answer_of (least_free run) (run.held job)) low refl core
step run (End job) low core = end_step run job (end_answer run job) core

core_start : (slots : ℕ) → Core (start slots)
unfolding holds
core_start slots = record {
  none_shared = λ slot job other low low_o mine theirs. absurd (false≢true mine);
  orderly = λ job low. tt;
  lie = λ job low. tt;
  own_apart = λ job low. tt;
}

core_of : (run : Run) (calls : List Call) → AllByRecursion IsInRange calls → Core run → Core (run_of run calls)
unfolding run_of
core_of run [] low core = core
core_of run (call ∷ calls) low core = core_of (after run call) calls low.1 (step run call low.0 core)

-- blocks of two jobs
from_other : (run : Run) (job other : ℕ) (block : Block) (blocks : List Block) → job < 32 → other < 32 → (job ≡ other → ⊥) → Core run
    → holds block.slot (run.held job) ≡ true → AllByRecursion (LiesInOne (run.held other)) blocks → AllByRecursion (AreApart block) blocks
from_other run job other block [] low low_o apart core mine lie = tt
from_other run job other block (one ∷ blocks) low low_o apart core mine lie = (
  inl (λ e. apart (core.none_shared block.slot job other low low_o mine (ap (λ s. holds s (run.held other)) e ∙ held_of (run.held other) one lie.0))),
  from_other run job other block blocks low low_o apart core mine lie.1,
)

from_each : (run : Run) (job other : ℕ) (blocks others : List Block) → job < 32 → other < 32 → (job ≡ other → ⊥) → Core run
    → AllByRecursion (LiesInOne (run.held job)) blocks → AllByRecursion (LiesInOne (run.held other)) others → AllByRecursion (λ block. AllByRecursion (AreApart block) others) blocks
from_each run job other [] others low low_o apart core lie theirs = tt
from_each run job other (block ∷ blocks) others low low_o apart core lie theirs = (
  from_other run job other block others low low_o apart core (held_of (run.held job) block lie.0) theirs,
  from_each run job other blocks others low low_o apart core lie.1 theirs,
)

ordered : (run : Run) → Core run → IsOrdered run
ordered run core = record {
  none_shared = core.none_shared;
  lie = core.lie;
  own_apart = core.own_apart;
  apart = λ job other low low_o apart. from_each run job other (run.blocks job) (run.blocks other) low low_o apart core (core.lie job low) (core.lie other low_o);
}

pub stays_ordered : StaysOrdered
stays_ordered = λ slots calls low. ordered (run_of (start slots) calls) (core_of (start slots) calls low (core_start slots))
