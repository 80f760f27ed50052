-- In a strict shader that switches, each request is loaded in the stretch that the next switch begins.
use Rattle.std.proofs.Common.{◌≡◌, ◌≢◌, ◌≤◌, ◌<◌, inl, inr, ℕ, zero, suc, ◌+◌, ◌-◌, Bool, true, false, ◌&&◌, ◌||◌, not, List, [], ◌∷◌, ◌++◌, length, if◌then◌else◌, nat_le, nat_lt, refl, sym, ◌∙◌, ap, subst, arith, append-nil, append_assoc, length-append}
use Rattle.std.proofs.lemmas.Bool.{and_parts, cases_Bool, cases_lt, false_from_ne_true, le-leb, le-ltb, lt-ltb, or_parts, true≢false}
use Rattle.std.proofs.lemmas.Bool.Decides.{nat_tests}
use Rattle.std.specs.{Prelude.drop}
use Rattle.qpu_isa.specs.{Terms.is_end, Terms.is_switch, Terms.is_address_write, Terms.writes_tmu, Terms.writes_s, Setups.is_direct, Terms.loads}
use Rattle.shader_flow.specs.{Flow.word, Flow.checked_of, Flow.after_switch, Flow.is_target, Flow.is_threaded, Pending.pending_of, Pending.takes}
use Rattle.shader_flow.proofs.Bounded.{some_below_here}
use Rattle.shader_flow.specs.Rules.{s11}
use Rattle.shader_flow.specs.Bounded.{is_back}
use Rattle.uniform_stream.specs.{Rules.s18, Rules.after_address_write, Stream.is_known, Stream.writes_address}
use Rattle.uniform_stream.proofs.Restarts.{known_not}
use Rattle.shader_check.proofs.{Clean.clean, Parts.directs, Setups.sets_one, Setups.s_writes}
use Rattle.shader_check.proofs.Roles.{address_parts, address_or_direct, clamped_parts, direct_parts, reads_takes, sets_or_reads, sets_takes, sum_parts}
use Rattle.machine_plan.specs.Regions.{Every}
use Rattle.machine_plan.proofs.Runs.{every-append, every-weaker}
use Rattle.qpu_law.specs.Home.{Home, HasNoFault, IsAt, IsBlank}
use Rattle.qpu_law.proofs.Going.{behind, fine_at}
use Rattle.qpu_law.proofs.Pointer.{lost_writes, unknown_next}
use Rattle.qpu_machine.specs.{declared.state.Mark.Mark, declared.state.Thread.Thread, Writes.fate_of}
use Rattle.qpu_machine.specs.declared.state.Fate.{Fate, TheVariants.Ends, TheVariants.Switches, TheVariants.GoesOn}
use Rattle.promises.specs.Steps.{one_if}
use Rattle.strict_rules.specs.{declared.state.Request.Request, Queue.request_at, Queue.queue_after, Queue.queue_of, Queue.last_act, Rules.e4, Rules.has_older, Rules.loads_early, Rules.switches_late}
use Rattle.strict_rules.proofs.Requests.{queue_inside, acted_near, acted_here, acted_same, acted_early}
use Rattle.strict_law.specs.{Strict.IsStrict, Known.IsSplit, Known.next_old}
use Rattle.served_law.proofs.Shaders.{next_queue}
use Rattle.strict_law.proofs.Shaders.{strict_here, empty_at}
use Rattle.served_law.proofs.Marks.{at_switch}

-- The oldest requests of a queue, so many, were sent before an instruction, and the others weren't.
abbrev Before : ℕ → Request → Type 0
Before a r = nat_lt r.sent a ≡ true

abbrev Behind : ℕ → Request → Type 0
Behind a r = nat_lt r.sent a ≡ false

pub split_few : (a : ℕ) (queue : List Request) (old : ℕ) → IsSplit a queue old → old ≤ length queue
split_few a queue old split =
    let is = ap (λ (q : List Request). length q) split.is in
    let count = split.count in
    let long = length-append split.older split.newer in
    omega (arith, is, count, long)

split_drop : (a : ℕ) (older newer : List Request) → Every (Before a) older → Every (Behind a) newer → IsSplit a (drop 1 (older ++ newer)) (length older - 1)
split_drop a [] [] early late = record { older = []; newer = []; is = refl; count = refl; early = tt; late = tt }
split_drop a [] (r ∷ newer) early late = record { older = []; newer = newer; is = refl; count = refl; early = tt; late = late.1 }
split_drop a (r ∷ older) newer early late = record { older = older; newer = newer; is = refl; count = omega arith; early = early.1; late = late }

split_load : (a : ℕ) (load : Bool) (queue : List Request) (old : ℕ) → IsSplit a queue old → IsSplit a (if load then drop 1 queue else queue) (old - one_if load)
split_load a true queue old split =
    subst (λ n. IsSplit a (drop 1 queue) (n - 1)) split.count (subst (λ q. IsSplit a (drop 1 q) (length split.older - 1)) (sym split.is) (split_drop a split.older split.newer split.early split.late))
split_load a false queue old split = let e : old ≡ old - 0 = omega arith in subst (λ n. IsSplit a queue n) e split

split_send : (a : ℕ) (send : Bool) (r : Request) (queue : List Request) (old : ℕ) → Behind a r → IsSplit a queue old → IsSplit a (queue ++ (if send then r ∷ [] else [])) old
split_send a true r queue old after split = record {
  older = split.older;
  newer = split.newer ++ r ∷ [];
  is = ap (λ q. q ++ r ∷ []) split.is ∙ append_assoc split.older split.newer (r ∷ []);
  count = split.count;
  early = split.early;
  late = every-append (Behind a) split.newer (r ∷ []) split.late (after, tt);
}
split_send a false r queue old after split = subst (λ q. IsSplit a q old) (sym (append-nil queue)) split

sent_late : (code : List ℕ) (tmu n a : ℕ) → a ≤ n → Behind a (request_at code tmu n)
unfolding request_at
sent_late code tmu n a near = le-ltb n a near

-- after an instruction, by the same switch
pub split_on : (code : List ℕ) (tmu n old : ℕ) → n < checked_of code → IsSplit (last_act code n) (queue_of code tmu n) old
    → IsSplit (last_act code n) (queue_of code tmu (n + 1)) (old - one_if (loads (word code n) tmu))
unfolding queue_after
split_on code tmu n old inside split =
    let w = word code n in
    let r : Request = request_at code tmu n in
    let queue : List Request = queue_of code tmu n in
    let one = split_load (last_act code n) (loads w tmu) queue old split in
    let all = split_send (last_act code n) (writes_s w tmu) r (if loads w tmu then drop 1 queue else queue) (old - one_if (loads w tmu)) (sent_late code tmu n (last_act code n) (acted_near code n)) one in
    subst (λ q. IsSplit (last_act code n) q (old - one_if (loads w tmu))) (sym (queue_inside code tmu n inside)) all

-- all were sent before where they are counted
earlier : (n : ℕ) (r : Request) → Before n r → Before (n + 1) r
earlier n r before = grind (arith, nat_tests, before)

each_left : (n : ℕ) (load : Bool) (queue : List Request) → Every (Before n) queue → Every (Before n) (if load then drop 1 queue else queue)
each_left n true [] all = tt
each_left n true (r ∷ queue) all = all.1
each_left n false queue all = all

each_sent : (n : ℕ) (send : Bool) (r : Request) (queue : List Request) → Before n r → Every (Before n) queue → Every (Before n) (queue ++ (if send then r ∷ [] else []))
each_sent n true r queue before all = every-append (Before n) queue (r ∷ []) all (before, tt)
each_sent n false r queue before all = subst (λ q. Every (Before n) q) (sym (append-nil queue)) all

all_before : (code : List ℕ) (tmu n : ℕ) → n ≤ checked_of code → Every (Before n) (queue_of code tmu n)
unfolding queue_of queue_after request_at
all_before code tmu zero inside = tt
all_before code tmu (suc n) inside =
    let here : n < checked_of code = omega (arith, inside) in
    let e : n + 1 ≡ suc n = omega arith in
    let r : Request = request_at code tmu n in
    let queue : List Request = queue_of code tmu n in
    let now : Before (n + 1) r = lt-ltb n (n + 1) (omega arith) in
    let old : Every (Before (n + 1)) queue = every-weaker (Before n) (Before (n + 1)) (λ x before. earlier n x before) queue (all_before code tmu n (omega (arith, here))) in
    let next = each_sent (n + 1) (writes_s (word code n) tmu) r (if loads (word code n) tmu then drop 1 queue else queue) now (each_left (n + 1) (loads (word code n) tmu) queue old) in
    subst (λ i. Every (Before i) (queue_of code tmu i)) e (subst (λ q. Every (Before (n + 1)) q) (sym (queue_inside code tmu n here)) next)

pub split_all : (code : List ℕ) (tmu n : ℕ) → n ≤ checked_of code → IsSplit n (queue_of code tmu n) (length (queue_of code tmu n))
split_all code tmu n inside = record {
  older = queue_of code tmu n;
  newer = [];
  is = sym (append-nil (queue_of code tmu n));
  count = refl;
  early = all_before code tmu n inside;
  late = tt;
}

none_of : (queue : List Request) → length queue ≡ 0 → queue ≡ []
none_of [] none = refl
none_of (r ∷ queue) none = absurd (omega (arith, none))

pub split_none : (a : ℕ) (queue : List Request) (old : ℕ) → length queue ≡ 0 → old ≡ 0 → IsSplit a queue old
split_none a queue old none is =
    subst (λ n. IsSplit a queue n) (sym is) (subst (λ q. IsSplit a q 0) (sym (none_of queue none)) (record { older = []; newer = []; is = refl; count = refl; early = tt; late = tt }))

-- where none is older
any_first : (a : ℕ) (older newer : List Request) → Every (Before a) older → has_older a (older ++ newer) ≡ false → length older ≡ 0
any_first a [] newer early none = refl
any_first a (r ∷ older) newer early none = absurd (true≢false (sym early.0 ∙ (or_parts (nat_lt r.sent a) (has_older a (older ++ newer)) none).0))

none_older : (a : ℕ) (queue : List Request) (old : ℕ) → IsSplit a queue old → has_older a queue ≡ false → old ≡ 0
none_older a queue old split none = sym split.count ∙ any_first a split.older split.newer split.early (ap (has_older a) (sym split.is) ∙ none)

-- where one is older
late_none : (a : ℕ) (newer : List Request) → Every (Behind a) newer → has_older a newer ≡ false
late_none a [] late = refl
late_none a (r ∷ newer) late = ap (λ b. b || has_older a newer) late.0 ∙ late_none a newer late.1

some_first : (a : ℕ) (older newer : List Request) → Every (Behind a) newer → has_older a (older ++ newer) ≡ true → 1 ≤ length older
some_first a [] newer late some = absurd (true≢false (sym some ∙ late_none a newer late))
some_first a (r ∷ older) newer late some = omega arith

some_older : (a : ℕ) (queue : List Request) (old : ℕ) → IsSplit a queue old → has_older a queue ≡ true → 1 ≤ old
some_older a queue old split some =
    let first = some_first a split.older split.newer split.late (ap (has_older a) (sym split.is) ∙ some) in
    let count = split.count in
    omega (arith, first, count)

-- A load takes one that is older.
not_off : (b : Bool) → not b ≡ false → b ≡ true
not_off true off = refl
not_off false off = absurd (true≢false off)

above_zero : (n : ℕ) → 1 ≤ n → nat_lt 0 n ≡ true
above_zero n some = grind (arith, nat_tests, some)

no_early : (code : List ℕ) (n : ℕ) → is_threaded code ≡ true → e4 code n ≡ false → (loads_early code 0 n ≡ false) × ((loads_early code 1 n ≡ false) × (switches_late code n ≡ false))
unfolding e4
no_early code n threaded off =
    let three = or_parts (loads_early code 0 n || loads_early code 1 n) (switches_late code n) (behind (is_threaded code) ((loads_early code 0 n || loads_early code 1 n) || switches_late code n) threaded off) in
    let two = or_parts (loads_early code 0 n) (loads_early code 1 n) three.0 in
    (two.0, (two.1, three.1))

pub takes_old : (code : List ℕ) (tmu n old : ℕ) → loads_early code tmu n ≡ false → loads (word code n) tmu ≡ true → 1 ≤ length (queue_of code tmu n) → IsSplit (last_act code n) (queue_of code tmu n) old → 1 ≤ old
unfolding loads_early
takes_old code tmu n old off load some split =
    let queue : List Request = queue_of code tmu n in
    let rest = behind (loads (word code n) tmu) (nat_lt 0 (length queue) && not (has_older (last_act code n) queue)) load off in
    some_older (last_act code n) queue old split (not_off (has_older (last_act code n) queue) (behind (nat_lt 0 (length queue)) (not (has_older (last_act code n) queue)) (above_zero (length queue) some) rest))

pub early_at : (code : List ℕ) (n : ℕ) → is_threaded code ≡ true → e4 code n ≡ false → (tmu : ℕ) → tmu < 2 → loads_early code tmu n ≡ false
early_at code n threaded off zero small = (no_early code n threaded off).0
early_at code n threaded off (suc zero) small = (no_early code n threaded off).1.0
early_at code n threaded off (suc (suc tmu)) small = absurd (omega (arith, small))

-- Where a switch acts, none is left that is older.
not_switch : (code : List ℕ) (s : ℕ) → s11 code s ≡ false → is_switch (word code s) ≡ true → (1 ≤ s → is_switch (word code (s - 1)) ≡ false) × (2 ≤ s → is_switch (word code (s - 2)) ≡ false)
unfolding s11 after_switch is_back
not_switch code s off switch =
    let two = or_parts (nat_le 1 s && is_switch (word code (s - 1))) (nat_le 2 s && is_switch (word code (s - 2))) (behind (is_switch (word code s)) ((nat_le 1 s && is_switch (word code (s - 1))) || (nat_le 2 s && is_switch (word code (s - 2)))) switch off) in (
      λ from. behind (nat_le 1 s) (is_switch (word code (s - 1))) (le-leb 1 s from) two.0,
      λ from. behind (nat_le 2 s) (is_switch (word code (s - 2))) (le-leb 2 s from) two.1,
    )

acted_by : (code : List ℕ) (i : ℕ) → (2 ≤ i → is_switch (word code (i - 2)) ≡ false) → last_act code (i + 1) ≡ last_act code i
acted_by code i none = elim (cases_lt i 2) [
  | inl early ↦ acted_early code i early
  | inr late ↦ acted_same code i late (none late)
]

acted_still : (code : List ℕ) (s : ℕ) → s11 code s ≡ false → is_switch (word code s) ≡ true → last_act code (s + 2) ≡ last_act code s
acted_still code s off switch =
    let none = not_switch code s off switch in
    let e : s + 2 ≡ s + 1 + 1 = omega arith in
    ap (last_act code) e
    ∙ (acted_by code (s + 1) (λ from. let same : s + 1 - 2 ≡ s - 1 = omega arith in ap (λ k. is_switch (word code k)) same ∙ none.0 (omega (arith, from)))
    ∙ acted_by code s none.1)

has_switch : (code : List ℕ) (s : ℕ) → s < checked_of code → is_switch (word code s) ≡ true → is_threaded code ≡ true
unfolding is_threaded
has_switch code s here switch = some_below_here (checked_of code) s (λ k. is_switch (word code k)) here switch

by_tmu : (p : ℕ → Bool) (tmu : ℕ) → tmu < 2 → p 0 ≡ false → p 1 ≡ false → p tmu ≡ false
by_tmu p zero small first second = first
by_tmu p (suc zero) small first second = second
by_tmu p (suc (suc tmu)) small first second = absurd (omega (arith, small))

pub by_count : (f : ℕ → ℕ) (tmu : ℕ) → tmu < 2 → f 0 ≡ 0 → f 1 ≡ 0 → f tmu ≡ 0
by_count f zero small first second = first
by_count f (suc zero) small first second = second
by_count f (suc (suc tmu)) small first second = absurd (omega (arith, small))

pub switch_old : (code : List ℕ) (tmu n old : ℕ) → HasNoFault code → IsStrict code → n < checked_of code → tmu < 2 → 2 ≤ n → is_switch (word code (n - 2)) ≡ true
    → IsSplit (last_act code n) (queue_of code tmu (n + 1)) old → old ≡ 0
unfolding switches_late
switch_old code tmu n old sound strict inside small from switch split =
    let s : ℕ = n - 2 in
    let here : s < checked_of code = omega (arith, inside) in
    let threaded : is_threaded code ≡ true = has_switch code s here switch in
    let off = (no_early code s threaded (strict_here code strict s here).no4).1.1 in
    let two = or_parts (has_older (last_act code s) (queue_of code 0 (s + 3))) (has_older (last_act code s) (queue_of code 1 (s + 3))) (behind (is_switch (word code s)) (has_older (last_act code s) (queue_of code 0 (s + 3)) || has_older (last_act code s) (queue_of code 1 (s + 3))) switch off) in
    let none : has_older (last_act code s) (queue_of code tmu (s + 3)) ≡ false = by_tmu (λ k. has_older (last_act code s) (queue_of code k (s + 3))) tmu small two.0 two.1 in
    let still : last_act code n ≡ last_act code s = (let e : n ≡ s + 2 = omega (arith, from) in ap (last_act code) e ∙ acted_still code s (fine_at code sound s here).no11 switch) in
    let e : s + 3 ≡ n + 1 = omega (arith, from) in
    none_older (last_act code n) (queue_of code tmu (n + 1)) old split
    (ap (λ a. has_older a (queue_of code tmu (n + 1))) still ∙ (ap (λ i. has_older (last_act code s) (queue_of code tmu i)) (sym e) ∙ none))

-- In a switch's slots to which a branch leads nothing is sent: each TMU write takes a uniform, and no position is known there.
tmu_write : (code : List ℕ) (i tmu : ℕ) → tmu < 2 → HasNoFault code → i < checked_of code → writes_tmu (word code i) tmu ≡ true
    → (takes code i ≡ true) × (is_address_write (word code i) ≡ true → ⊥)
tmu_write code i tmu small sound inside writes =
    let at = clean code sound i inside in
    elim (cases_Bool (is_direct (word code i) tmu (pending_of code tmu i))) [
      | inl direct ↦
          (let parts = direct_parts code i at (directs code i tmu small direct) in
          (reads_takes code i inside (sum_parts (word code i) (clamped_parts code i parts.1).0).0, λ address. address_or_direct code i (address_parts code i at address).1 parts.0))
      | inr other ↦
          (let sets_it = sets_one code tmu i small writes other in
          (sets_takes code i inside sets_it, λ address. sets_or_reads code i at sets_it (sum_parts (word code i) (address_parts code i at address).0).0))
    ]

address_of : (code : List ℕ) (i : ℕ) → writes_address code i ≡ true → is_address_write (word code i) ≡ true
unfolding writes_address
address_of code i is = (and_parts (nat_lt i (checked_of code)) (is_address_write (word code i)) is).1

writes_none : (code : List ℕ) (i : ℕ) → is_address_write (word code i) ≡ false → writes_address code i ≡ false
writes_none code i none = false_from_ne_true (writes_address code i) (λ writes. true≢false (sym (address_of code i writes) ∙ none))

lost_none : (code : List ℕ) (i tmu : ℕ) → tmu < 2 → HasNoFault code → i < checked_of code → is_known code i ≡ false → writes_s (word code i) tmu ≡ false
lost_none code i tmu small sound inside unknown =
    false_from_ne_true (writes_s (word code i) tmu)
    (λ sent. let both = tmu_write code i tmu small sound inside (s_writes (word code i) tmu sent) in both.1 (address_of code i (lost_writes code i sound unknown both.0)))

after_none : (code : List ℕ) (i tmu : ℕ) → tmu < 2 → HasNoFault code → i + 1 < checked_of code → is_address_write (word code i) ≡ true → writes_s (word code (i + 1)) tmu ≡ false
unfolding s18 after_address_write is_back
after_none code i tmu small sound inside address =
    false_from_ne_true (writes_s (word code (i + 1)) tmu)
    (λ sent.
    let both = tmu_write code (i + 1) tmu small sound inside (s_writes (word code (i + 1)) tmu sent) in
    let e : i + 1 - 1 ≡ i = omega arith in
    let none = or_parts (nat_le 1 (i + 1) && is_address_write (word code (i + 1 - 1))) (nat_le 2 (i + 1) && is_address_write (word code (i + 1 - 2)))
    (behind (takes code (i + 1)) ((nat_le 1 (i + 1) && is_address_write (word code (i + 1 - 1))) || (nat_le 2 (i + 1) && is_address_write (word code (i + 1 - 2)))) both.0 (fine_at code sound (i + 1) inside).no18) in
    true≢false (sym (ap (λ k. is_address_write (word code k)) e ∙ address) ∙ behind (nat_le 1 (i + 1)) (is_address_write (word code (i + 1 - 1))) (le-leb 1 (i + 1) (omega arith)) none.0))

still_none : (code : List ℕ) (tmu i : ℕ) → i < checked_of code → length (queue_of code tmu i) ≡ 0 → writes_s (word code i) tmu ≡ false → length (queue_of code tmu (i + 1)) ≡ 0
still_none code tmu i inside none silent =
    let next = next_queue code tmu i inside in
    let send = ap (λ b. one_if b) silent in
    omega (arith, next, none, send)

target_none : (code : List ℕ) (root tmu : ℕ) → tmu < 2 → HasNoFault code → IsStrict code → root < checked_of code → is_target code root ≡ true → length (queue_of code tmu (root + 1)) ≡ 0
target_none code root tmu small sound strict inside target =
    let empty = empty_at code root sound strict target in
    still_none code tmu root inside (by_count (λ k. length (queue_of code k root)) tmu small empty.queue0 empty.queue1) (lost_none code root tmu small sound inside (known_not code root target))

behind_none : (code : List ℕ) (root tmu : ℕ) → tmu < 2 → HasNoFault code → IsStrict code → root + 1 < checked_of code → is_target code root ≡ true → length (queue_of code tmu (root + 2)) ≡ 0
behind_none code root tmu small sound strict inside target =
    let e : root + 1 + 1 ≡ root + 2 = omega arith in
    let silent : writes_s (word code (root + 1)) tmu ≡ false = elim (cases_Bool (is_address_write (word code root))) [
      | inl address ↦ after_none code root tmu small sound inside address
      | inr none ↦ lost_none code (root + 1) tmu small sound inside (unknown_next code root (known_not code root target) (writes_none code root none))
    ] in
    ap (λ i. length (queue_of code tmu i)) (sym e) ∙ still_none code tmu (root + 1) inside (target_none code root tmu small sound strict (omega (arith, inside)) target) silent

-- a thread that comes there by a branch has nothing outstanding behind the slots
blank_none : (code : List ℕ) (n tmu : ℕ) (m : Mark) → tmu < 2 → HasNoFault code → IsStrict code → n < checked_of code → 2 ≤ n → IsBlank code n 2 m → length (queue_of code tmu (n + 1)) ≡ 0
blank_none code n tmu m small sound strict inside from blank =
    let root : ℕ = blank.root in
    let upto = blank.from in
    let near = blank.near in
    let target : is_target code root ≡ true = elim blank.is [
      | inl first ↦ absurd (omega (arith, first, near, from))
      | inr is ↦ is
    ] in
    elim (cases_lt root n) [
      | inl less ↦
          (let e : n + 1 ≡ root + 2 = omega (arith, less, near) in
          ap (λ i. length (queue_of code tmu i)) e ∙ behind_none code root tmu small sound strict (omega (arith, less, inside)) target)
      | inr same ↦
          (let e : n + 1 ≡ root + 1 = omega (arith, same, upto) in
          ap (λ i. length (queue_of code tmu i)) e ∙ target_none code root tmu small sound strict (omega (arith, upto, inside)) target)
    ]

-- the fate says whether the instruction two before was a switch
goes_by : (ends switches : Bool) → (if ends then Ends else (if switches then Switches else GoesOn)) ≡ GoesOn → switches ≡ false
goes_by true switches is = absurd cc
goes_by false true is = absurd cc
goes_by false false is = refl

no_switch : (t : Thread) → fate_of t ≡ GoesOn → is_switch t.last2.word ≡ false
unfolding fate_of
no_switch t is = goes_by (is_end t.last2.word) (is_switch t.last2.word) is

-- After an instruction of a thread that lives on, whether a switch acted or not.
goes_split : (h : Home) (n : ℕ) (t : Thread) (tmu old : ℕ) → tmu < 2 → HasNoFault h.code → IsStrict h.code → n < checked_of h.code → IsAt h n t → is_switch t.last2.word ≡ false
    → IsSplit (last_act h.code n) (queue_of h.code tmu n) old → IsSplit (last_act h.code (n + 1)) (queue_of h.code tmu (n + 1)) (old - one_if (loads (word h.code n) tmu))
goes_split h n t tmu old small sound strict inside at quiet split =
    let code = h.code in
    let left : ℕ = old - one_if (loads (word code n) tmu) in
    let on : IsSplit (last_act code n) (queue_of code tmu (n + 1)) left = split_on code tmu n old inside split in
    let stays : last_act code (n + 1) ≡ last_act code n → IsSplit (last_act code (n + 1)) (queue_of code tmu (n + 1)) left = λ same. subst (λ a. IsSplit a (queue_of code tmu (n + 1)) left) (sym same) on in
    elim (cases_lt n 2) [
      | inl early ↦ stays (acted_early code n early)
      | inr late ↦
          elim (cases_Bool (is_switch (word code (n - 2)))) [
            | inl switch ↦
                elim at.mark2 [
                  | inl exact ↦ absurd (true≢false (sym (ap is_switch exact.is ∙ switch) ∙ quiet))
                  | inr blank ↦
                      (let none = blank_none code n tmu t.last2 small sound strict inside late blank in
                      let few = split_few (last_act code n) (queue_of code tmu (n + 1)) left on in
                      split_none (last_act code (n + 1)) (queue_of code tmu (n + 1)) left none (omega (arith, none, few)))
                ]
            | inr none ↦ stays (acted_same code n late none)
          ]
    ]

switch_split : (code : List ℕ) (tmu n : ℕ) → n < checked_of code → 2 ≤ n → is_switch (word code (n - 2)) ≡ true → IsSplit (last_act code (n + 1)) (queue_of code tmu (n + 1)) (length (queue_of code tmu (n + 1)))
switch_split code tmu n inside from switch =
    subst (λ a. IsSplit a (queue_of code tmu (n + 1)) (length (queue_of code tmu (n + 1)))) (sym (acted_here code n from switch)) (split_all code tmu (n + 1) (omega (arith, inside)))

-- how many are older then: all, where the thread switches
pub next_split : (h : Home) (n : ℕ) (t : Thread) (tmu old : ℕ) (fate : Fate) → tmu < 2 → HasNoFault h.code → IsStrict h.code → n < checked_of h.code → IsAt h n t → fate_of t ≡ fate → fate ≢ Ends
    → IsSplit (last_act h.code n) (queue_of h.code tmu n) old
    → IsSplit (last_act h.code (n + 1)) (queue_of h.code tmu (n + 1)) (next_old fate (old - one_if (loads (word h.code n) tmu)) (length (queue_of h.code tmu (n + 1))))
next_split h n t tmu old GoesOn small sound strict inside at is lives split = goes_split h n t tmu old small sound strict inside at (no_switch t is) split
next_split h n t tmu old Switches small sound strict inside at is lives split = let switch = at_switch h n t at is in switch_split h.code tmu n inside switch.0 switch.1
next_split h n t tmu old Ends small sound strict inside at is lives split = absurd (lives refl)
