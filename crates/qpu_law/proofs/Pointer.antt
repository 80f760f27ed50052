-- Where a thread's uniform pointer stands.
use Rattle.std.proofs.Common.{◌≡◌, ◌<◌, ◌≤◌, inl, inr, ◌⊎◌, ℕ, zero, suc, ◌+◌, ◌-◌, Bool, true, false, ◌&&◌, not, List, length, refl, sym, ap, subst, arith, ◌∙◌, nat_lt, ◌==◌, ◌||◌, [], ◌∷◌, ◌++◌, map, if◌then◌else◌, ◌*◌, ◌/◌, ◌%◌, ◌^◌, rules}
use Rattle.std.proofs.lemmas.Bool.{cases_Bool, cases_eq, and_from, and_right, lt-ltb, false_from_ne_true, true≢false, or_from, leb-true, and_parts, not_from_false, or_parts, eqb-true, leb-false, not-true, not-false}
use Rattle.std.proofs.lemmas.{List.map-append, List.length-map, Grind.common_steps, Bool.Decides.nat_tests}
use Rattle.qpu_isa.specs.Terms.{is_backward, is_address_write, writes_s, writes_tmu, is_branch, target_of, add_names, mul_names, names_on_a, names_on_b, is_relative_address_write, is_add_packed}
use Rattle.qpu_isa.specs.Setups.{takes_with, setups_kept}
use Rattle.qpu_isa.specs.Word.{ws_of, waddr_add_of, waddr_mul_of, cond_add_of}
use Rattle.shader_flow.specs.{Bounded.some_in, Bounded.is_back, Flow.word, Flow.checked_of, Flow.is_target}
use Rattle.shader_flow.specs.Pending.{count_of, takes, pending_of}
use Rattle.shader_flow.proofs.Bounded.{some_below_here, some_below_found, some_in_none, some_in_not}
use Rattle.shader_flow.proofs.{Counts.count_same, Counts.count_taken, Ends.checked_of-le}
use Rattle.uniform_stream.specs.Stream.{writes_address, is_known, is_restart, is_open, leaves_open, uniforms_of}
use Rattle.uniform_stream.specs.Rules.{s19, s25, s15}
use Rattle.uniform_stream.proofs.Restarts.{known_not, known_on}
use Rattle.shader_check.proofs.SoundInfo.{address_takes, address_write_at, IsAddressWord, Written, Open, address_below, count_total, total_le}
use Rattle.shader_check.proofs.{Clean.clean, Held.held_is, Setups.sets_one, Setups.not_sent, Positions.held_next, Roles.sets_takes}
use Rattle.qpu_law.specs.Stream.{IsAddressCount, TakesNone, GoesForward, uniform_at, held_words, AreSetups, HoldsAddresses, IsStreamLow, IsRight, IsLost, IsOver, PointerIs}
use Rattle.qpu_law.specs.Home.{HasNoFault, Home, ArePending, Jumps, turn_done, Lands, thread_readied}
use Rattle.qpu_law.proofs.Going.{fine_at, behind, makes_on, setups0_are, setups1_are, is_went, uniforms_are}
use Rattle.shader_check.specs.{Info.setups_held, Rules.s16, Rules.is_exact_address_write, Rules.adds_address}
use Rattle.qpu_machine.specs.declared.state.{Thread.Thread}
use Rattle.qpu_machine.specs.{Operands.add_row, Row.has_lane, Row.mask_of}
use Rattle.qpu_machine.specs.Writes.{pointer_after, add_address, mul_address}
use Rattle.std.specs.Prelude.{slice_index}
use Rattle.field_words.specs.Sizes.{most_words}

-- Where a thread comes to a target, its count is an address word's, or no more uniforms are taken.

pub takes_checked : (code : List ℕ) (n : ℕ) → takes code n ≡ true → n < checked_of code
unfolding takes
takes_checked code n taken = let less : nat_lt n (checked_of code) ≡ true = (and_parts (nat_lt n (checked_of code)) (takes_with (word code n) (pending_of code 0 n) (pending_of code 1 n)) taken).0 in grind (arith, less)

none_past : (code : List ℕ) (n : ℕ) → checked_of code ≤ n → takes code n ≡ false
none_past code n past = false_from_ne_true (takes code n) (λ taken. let no : ⊥ = omega (arith, takes_checked code n taken, past) in no)

by : (a k : Bool) → k ≡ false → (not a && not k) ≡ false → a ≡ true
by a k unknown rule = search (rules, arith, true≢false)

-- where the position isn't known, only a write of the address takes a uniform
pub lost_writes : (code : List ℕ) (n : ℕ) → HasNoFault code → is_known code n ≡ false → takes code n ≡ true → writes_address code n ≡ true
unfolding s19 writes_address
lost_writes code n none unknown taken =
    let inside = takes_checked code n taken in
    let rule = behind (takes code n) (not (is_address_write (word code n)) && not (is_known code n)) taken (fine_at code none n inside).no19 in
    and_from (nat_lt n (checked_of code)) (is_address_write (word code n)) (lt-ltb n (checked_of code) inside) (by (is_address_write (word code n)) (is_known code n) unknown rule)

pub writes_takes : (code : List ℕ) (n : ℕ) → HasNoFault code → writes_address code n ≡ true → takes code n ≡ true
writes_takes code n none writes = let parts = address_write_at code n writes in address_takes code n (clean code none n parts.0) parts.0 parts.1

pub none_writes : (code : List ℕ) (n : ℕ) → HasNoFault code → takes code n ≡ false → writes_address code n ≡ false
none_writes code n none taken = false_from_ne_true (writes_address code n) (λ writes. true≢false (sym (writes_takes code n none writes) ∙ taken))

restart_next : (code : List ℕ) (n : ℕ) → writes_address code n ≡ false → is_restart code (n + 1) ≡ false
unfolding is_restart is_back
restart_next code n none = grind (arith, common_steps, nat_tests, or_from, and_right)

-- a position that isn't known stays so, up to a write of the address
pub unknown_next : (code : List ℕ) (n : ℕ) → is_known code n ≡ false → writes_address code n ≡ false → is_known code (n + 1) ≡ false
unknown_next code n unknown none = grind (arith, common_steps, nat_tests, cases_Bool, known_not, known_on, restart_next)

none_from : (code : List ℕ) (n : ℕ) → takes code n ≡ false → TakesNone code (n + 1) → TakesNone code n
none_from code n here later k from = search (rules, arith, cases_eq)

next_taken : (code : List ℕ) → HasNoFault code → (d n : ℕ) → checked_of code ≤ n + d → is_known code n ≡ false → IsAddressCount code (count_of code n) ⊎ TakesNone code n
next_taken code none zero n past unknown = inr (λ k from. none_past code k (omega (arith, past, from)))
next_taken code none (suc d) n past unknown =
    elim (cases_Bool (takes code n)) [
      | inl taken ↦ inl (inl (record { by = n; writes = lost_writes code n none unknown taken; is = refl }))
      | inr untaken ↦
          (let same : count_of code (n + 1) ≡ count_of code n = count_same code n untaken in
          elim (next_taken code none d (n + 1) (omega (arith, past)) (unknown_next code n unknown (none_writes code n none untaken))) [
            | inl address ↦ inl (subst (λ c. IsAddressCount code c) same address)
            | inr later ↦ inr (none_from code n untaken later)
          ])
    ]

pub count_flat : (code : List ℕ) (n d : ℕ) → TakesNone code n → count_of code (n + d) ≡ count_of code n
count_flat code n zero none = let e : n + 0 ≡ n = omega arith in ap (count_of code) e
count_flat code n (suc d) none =
    ap (count_of code) (omega arith) ∙ (count_same code (n + d) (none (n + d) (omega arith)) ∙ count_flat code n d none)

-- A backward branch with nothing taken after it leaves the stream open.
opened_by : (code : List ℕ) (b : ℕ) → HasNoFault code → b < checked_of code → is_backward (word code b) ≡ true → TakesNone code (b + 4) → is_open code ≡ true
unfolding is_open leaves_open
opened_by code b none inside back later = search (rules, arith, some_below_here, and_from, not_from_false, some_in_none, none_writes)

pub last_word : (code : List ℕ) (n b : ℕ) → HasNoFault code → n < checked_of code → b < checked_of code → is_backward (word code b) ≡ true → TakesNone code n → n ≤ b + 4 → IsAddressCount code (count_of code n)
last_word code n b none n_in inside back later near =
    let open_is : is_open code ≡ true = opened_by code b none inside back (λ k from. later k (omega (arith, from, near))) in
    let e : n + (length code - n) ≡ length code = omega (arith, n_in, checked_of-le code) in
    inr (record { opened = open_is; is = sym (ap (count_of code) e) ∙ count_flat code n (length code - n) later })

found_in : (from to : ℕ) (p : ℕ → Bool) → some_in from to p ≡ true → (k : ℕ) × (from ≤ k) × (k < to) × (p k ≡ true)
unfolding some_in
found_in from to p some = grind (arith, common_steps, nat_tests, some_below_found, and_parts, leb-true)

-- nothing from there on, and no way back
pub record NoMore (code : List ℕ) (n : ℕ) : Type 0 where
  pub none : TakesNone code n
  pub forward : GoesForward code n

pub next_word : (code : List ℕ) (n : ℕ) → HasNoFault code → n < checked_of code → is_target code n ≡ true → IsAddressCount code (count_of code n) ⊎ NoMore code n
next_word code n none inside target =
    elim (next_taken code none (checked_of code) n (omega arith) (known_not code n target)) [
      | inl address ↦ inl address
      | inr later ↦
          elim (cases_Bool (some_in n (checked_of code) (λ k. is_backward (word code k)))) [
            | inl back ↦
                (let found = found_in n (checked_of code) (λ k. is_backward (word code k)) back in
                inl (last_word code n found.0 none inside found.2 found.3 later (omega (arith, found.1))))
            | inr forward ↦ inr (record { none = later; forward = λ k from to. some_in_not n (checked_of code) k (λ j. is_backward (word code j)) forward from to })
          ]
    ]

-- The setup words that a thread keeps.

pub are_pending : (h : Home) (n : ℕ) (t : Thread) → HasNoFault h.code → n ≤ checked_of h.code → AreSetups h n t → ArePending h.code n t
are_pending h n t none inside are = record {
  tmu0 = ap length are.tmu0 ∙ (length-map (setups_held h.code 0 n) (uniform_at h) ∙ (held_is h.code 0 (omega arith) (clean h.code none) n inside).size);
  tmu1 = ap length are.tmu1 ∙ (length-map (setups_held h.code 1 n) (uniform_at h) ∙ (held_is h.code 1 (omega arith) (clean h.code none) n inside).size);
}

-- A setup write takes a uniform.
setup_takes : (code : List ℕ) (n tmu : ℕ) → tmu < 2 → n < checked_of code → writes_s (word code n) tmu ≡ false → writes_tmu (word code n) tmu ≡ true → takes code n ≡ true
setup_takes code n tmu small inside stays writes = grind (arith, common_steps, nat_tests, sets_takes, sets_one, not_sent)

kept_map_by : (f : ℕ → ℕ) (sends writes : Bool) (n u : ℕ) (xs : List ℕ) → (sends ≡ false → writes ≡ true → u ≡ f n)
    → (if sends then [] else (if writes then map f xs ++ (u ∷ []) else map f xs)) ≡ map f (if sends then [] else (if writes then xs ++ (n ∷ []) else xs))
kept_map_by f sends writes n u xs is = search (rules, arith, map-append)

kept_map : (f : ℕ → ℕ) (w tmu n u : ℕ) (xs : List ℕ) → (writes_s w tmu ≡ false → writes_tmu w tmu ≡ true → u ≡ f n) → setups_kept w tmu u (map f xs) ≡ map f (setups_kept w tmu n xs)
unfolding setups_kept
kept_map f w tmu n u xs is = kept_map_by f (writes_s w tmu) (writes_tmu w tmu) n u xs is

one_kept : (h : Home) (n u tmu : ℕ) (items : List ℕ) → tmu < 2 → n < checked_of h.code → (takes h.code n ≡ true → u ≡ uniform_at h n)
    → items ≡ held_words h tmu n → setups_kept (word h.code n) tmu u items ≡ held_words h tmu (n + 1)
one_kept h n u tmu items small inside taken are = grind (arith, common_steps, nat_tests, kept_map, setup_takes, held_next)

pub setups_on : (h : Home) (n u uniforms : ℕ) (words : List ℕ) (t : Thread) → n < checked_of h.code → (takes h.code n ≡ true → u ≡ uniform_at h n)
    → AreSetups h n t → AreSetups h (n + 1) (turn_done (word h.code n) u uniforms words t).thread
setups_on h n u uniforms words t inside taken are = search (rules, arith, setups0_are, one_kept, setups1_are)

-- At a target no setup words are kept.
empty_by : (xs : List ℕ) → length xs ≡ 0 → xs ≡ []
empty_by [] none = refl
empty_by (x ∷ xs) none = absurd (omega (arith, none))

none_by : (code : List ℕ) (tmu i : ℕ) → tmu < 2 → pending_of code 0 i ≡ 0 → pending_of code 1 i ≡ 0 → pending_of code tmu i ≡ 0
none_by code tmu i small zero0 zero1 = search (rules, arith)

held_none : (code : List ℕ) (tmu i : ℕ) → HasNoFault code → tmu < 2 → i < checked_of code → is_target code i ≡ true → setups_held code tmu i ≡ []
unfolding s25
held_none code tmu i none small inside target =
    let pending = or_parts (nat_lt 0 (pending_of code 0 i)) (nat_lt 0 (pending_of code 1 i))
    (behind (is_target code i) (nat_lt 0 (pending_of code 0 i) || nat_lt 0 (pending_of code 1 i)) target (fine_at code none i inside).no25) in
    let zero0 : pending_of code 0 i ≡ 0 = (let p : nat_lt 0 (pending_of code 0 i) ≡ false = pending.0 in grind (arith, p)) in
    let zero1 : pending_of code 1 i ≡ 0 = (let p : nat_lt 0 (pending_of code 1 i) ≡ false = pending.1 in grind (arith, p)) in
    let size : length (setups_held code tmu i) ≡ pending_of code tmu i = (held_is code tmu small (clean code none) i (omega (arith, inside))).size in
    empty_by (setups_held code tmu i) (size ∙ none_by code tmu i small zero0 zero1)

pub setups_jump : (h : Home) (n to : ℕ) (next : Thread) → HasNoFault h.code → n < checked_of h.code → to < checked_of h.code → n + 1 < checked_of h.code
    → Jumps h.code n to → AreSetups h (n + 1) next → AreSetups h to next
setups_jump h n to next none inside to_in on_in way are =
    let b_in : n - 3 < checked_of h.code = omega (arith, inside) in
    let e : n - 3 + 4 ≡ n + 1 = omega (arith, way.from) in
    let on : is_target h.code (n + 1) ≡ true = subst (λ i. is_target h.code i ≡ true) e (makes_on h.code none (n - 3) b_in way.branch) in
    let same : (tmu : ℕ) → tmu < 2 → held_words h tmu (n + 1) ≡ held_words h tmu to =
    λ tmu small. ap (map (uniform_at h)) (held_none h.code tmu (n + 1) none small on_in on ∙ sym (held_none h.code tmu to none small to_in way.target)) in
    record { tmu0 = are.tmu0 ∙ same 0 (omega arith); tmu1 = are.tmu1 ∙ same 1 (omega arith) }

-- What the thread would fetch there is the uniform that its instruction takes.
pub record Fetches (h : Home) (n pointer : ℕ) : Type 0 where
  pub at : ℕ
  pub below : at < uniforms_of h.code
  pub is : pointer ≡ h.stream + 4 * at
  pub same : slice_index h.words at ≡ uniform_at h n

address_word : (code : List ℕ) (k : ℕ) → IsAddressCount code k → IsAddressWord code k
address_word code k (inl one) = let parts = address_write_at code one.by one.writes in Written one.by parts.0 parts.1 one.is
address_word code k (inr last) = Open last.opened last.is

pub uniform_is : (h : Home) (n : ℕ) (t : Thread) → HasNoFault h.code → HoldsAddresses h → PointerIs h n t → takes h.code n ≡ true → Fetches h n t.uniforms
uniform_is h n t none holds (inl right) taken = search (rules, arith, count_total, takes_checked, total_le)
uniform_is h n t none holds (inr (inl lost)) taken = record {
  at = lost.at;
  below = address_below h.code lost.at (clean h.code none) (address_word h.code lost.at lost.address);
  is = lost.is;
  same = holds lost.at lost.address ∙ sym (holds (count_of h.code n) (inl (record { by = n; writes = lost_writes h.code n none lost.unknown taken; is = refl })));
}
uniform_is h n t none holds (inr (inr over)) taken = absurd (true≢false (sym taken ∙ over.none n over.from))

-- An instruction that doesn't write the address leaves the pointer.
names_both : (ws a b : Bool) → (if ws then b else a) ≡ false → (if ws then a else b) ≡ false → (a ≡ false) × (b ≡ false)
names_both ws a b on_a on_b = search (rules, arith)

unnamed : (branch : Bool) (address : ℕ) → (not branch && address == 40) ≡ false → ((if branch then 39 else address) == 40) ≡ false
unnamed branch address none = search (rules, arith)

pointer_kept : (address mask : ℕ) (value : List ℕ) (uniforms : ℕ) → (address == 40) ≡ false → pointer_after address mask value uniforms ≡ uniforms
unfolding pointer_after
pointer_kept address mask value uniforms other = ap (λ b. if b && has_lane mask 0 then slice_index value 0 % 2 ^ 32 else uniforms) other

add_other : (w : ℕ) → add_names w 40 ≡ false → (add_address w == 40) ≡ false
unfolding add_names add_address
add_other w none = unnamed (is_branch w) (waddr_add_of w) none

mul_other : (w : ℕ) → mul_names w 40 ≡ false → (mul_address w == 40) ≡ false
unfolding mul_names mul_address
mul_other w none = unnamed (is_branch w) (waddr_mul_of w) none

unit_names : (w : ℕ) → is_address_write w ≡ false → is_relative_address_write w ≡ false → (add_names w 40 ≡ false) × (mul_names w 40 ≡ false)
unfolding is_address_write is_relative_address_write names_on_a names_on_b
unit_names w on_a on_b = names_both (ws_of w) (add_names w 40) (mul_names w 40) on_a on_b

not_relative : (code : List ℕ) (n : ℕ) → HasNoFault code → n < checked_of code → is_relative_address_write (word code n) ≡ false
unfolding s15
not_relative code n none inside = (fine_at code none n inside).no15

pub pointer_stays : (code : List ℕ) (n u p : ℕ) (words : List ℕ) (t : Thread) → HasNoFault code → n < checked_of code → is_address_write (word code n) ≡ false
    → (turn_done (word code n) u p words t).thread.uniforms ≡ p
pointer_stays code n u p words t none inside other = search (rules, arith, unit_names, not_relative, uniforms_are, pointer_kept, mul_other, add_other)

-- A write of the address is the add unit's, to all elements.
pub record IsAdded (w : ℕ) : Type 0 where
  pub side : ws_of w ≡ false
  pub names : add_names w 40 ≡ true
  pub always : cond_add_of w ≡ 1
  pub plain : is_add_packed w ≡ false

exact_added : (w : ℕ) → adds_address w ≡ true → IsAdded w
unfolding adds_address
exact_added w adds = search (rules, arith, and_parts, not-true, eqb-true)

pub exact_at : (code : List ℕ) (n : ℕ) → HasNoFault code → n < checked_of code → is_address_write (word code n) ≡ true → is_exact_address_write code n ≡ true
unfolding s16
exact_at code n none inside is =
    not-false (is_exact_address_write code n) (behind (is_address_write (word code n)) (not (is_exact_address_write code n)) is (fine_at code none n inside).no16)

named_address : (branch : Bool) (address : ℕ) → (not branch && address == 40) ≡ true → ((if branch then 39 else address) == 40) ≡ true
named_address branch address is = search (rules, arith, true≢false)

add_forty : (w : ℕ) → add_names w 40 ≡ true → (add_address w == 40) ≡ true
unfolding add_names add_address
add_forty w is = named_address (is_branch w) (waddr_add_of w) is

set_by : (address mask : ℕ) (value : List ℕ) (uniforms : ℕ) → (address == 40) ≡ true → has_lane mask 0 ≡ true → pointer_after address mask value uniforms ≡ slice_index value 0 % 2 ^ 32
unfolding pointer_after
set_by address mask value uniforms is lane = grind (arith, common_steps, nat_tests)

full_mask : (cond : ℕ) (words : List ℕ) (from : ℕ) → cond ≡ 1 → mask_of cond words from ≡ 65535
unfolding mask_of
full_mask cond words from is = ap (λ c. mask_of c words from) is

first_lane : has_lane 65535 0 ≡ true
unfolding has_lane
first_lane = refl

mul_aside : (ws a b : Bool) → ws ≡ false → (if ws then a else b) ≡ false → b ≡ false
mul_aside ws a b side none = search (rules, arith, true≢false)

mul_none : (w : ℕ) → ws_of w ≡ false → is_relative_address_write w ≡ false → mul_names w 40 ≡ false
unfolding is_relative_address_write names_on_b
mul_none w side none = mul_aside (ws_of w) (add_names w 40) (mul_names w 40) side none

pub pointer_sets : (code : List ℕ) (n u p : ℕ) (words : List ℕ) (t : Thread) → HasNoFault code → n < checked_of code → IsAdded (word code n)
    → (turn_done (word code n) u p words t).thread.uniforms ≡ slice_index (add_row (thread_readied p words t) (word code n) u words) 0 % 2 ^ 32
pointer_sets code n u p words t none inside added = search (rules, arith, uniforms_are, pointer_kept, mul_other, mul_none, not_relative, set_by, add_forty, full_mask, first_lane)

pub added_at : (code : List ℕ) (n : ℕ) → HasNoFault code → n < checked_of code → is_address_write (word code n) ≡ true → IsAdded (word code n)
unfolding is_exact_address_write
added_at code n none inside is = exact_added (word code n) (and_parts (adds_address (word code n)) _ (and_parts _ _ (exact_at code n none inside is)).1).0

-- what the pointer is when the instruction has taken its uniform
pub record IsPast (h : Home) (n p : ℕ) (t : Thread) : Type 0 where
  pub taken : takes h.code n ≡ true → p ≡ (t.uniforms + 4) % 2 ^ 32
  pub untaken : takes h.code n ≡ false → p ≡ t.uniforms

-- over stays over
over_on : (h : Home) (n u p : ℕ) (words : List ℕ) (t : Thread) → IsOver h n t → IsOver h (n + 1) (turn_done (word h.code n) u p words t).thread
over_on h n u p words t over = search (rules, arith, is_went)

no_write : (code : List ℕ) (n : ℕ) → is_address_write (word code n) ≡ false → writes_address code n ≡ false
unfolding writes_address
no_write code n other = false_from_ne_true (writes_address code n) (λ writes. true≢false (sym (address_write_at code n writes).1 ∙ other))

-- not over
abbrev pub IsSettled : Home → ℕ → ℕ → Type 0
IsSettled h n p = IsRight h n p ⊎ IsLost h n p

on_by : (h : Home) (n u p : ℕ) (words : List ℕ) (t : Thread) → HasNoFault h.code → n < checked_of h.code → IsStreamLow h
    → is_address_write (word h.code n) ≡ false → IsPast h n p t → IsSettled h n t.uniforms → IsSettled h (n + 1) (turn_done (word h.code n) u p words t).thread.uniforms
on_by h n u p words t none inside low other past (inl right) = search (rules, arith, pointer_stays, cases_Bool, count_taken, count_total, total_le, count_same)
on_by h n u p words t none inside low other past (inr lost) =
    let writes : writes_address h.code n ≡ false = no_write h.code n other in
    let untaken : takes h.code n ≡ false = false_from_ne_true (takes h.code n) (λ taken. true≢false (sym (lost_writes h.code n none lost.unknown taken) ∙ writes)) in
    inr (record {
      at = lost.at;
      address = lost.address;
      is = pointer_stays h.code n u p words t none inside other ∙ (past.untaken untaken ∙ lost.is);
      unknown = unknown_next h.code n lost.unknown writes;
    })

-- After the instruction, as it comes to the next one.
settled_on : (h : Home) (n u p : ℕ) (words : List ℕ) (t : Thread) → HasNoFault h.code → n < checked_of h.code → IsStreamLow h
    → (is_address_write (word h.code n) ≡ true → slice_index (add_row (thread_readied p words t) (word h.code n) u words) 0 % 2 ^ 32 ≡ h.stream + 4 * (count_of h.code n + 1))
    → IsPast h n p t → IsSettled h n t.uniforms → IsSettled h (n + 1) (turn_done (word h.code n) u p words t).thread.uniforms
settled_on h n u p words t none inside low sum past at = search (rules, arith, cases_Bool, address_takes, clean, pointer_sets, added_at, count_taken, on_by)

-- A branch that doesn't lead backward leads past its slots.
ahead_by : (imm b target : ℕ) → imm < 2 ^ 31 → b < 2 ^ 27 → target ≡ (b + 4 + imm / 8) % 2 ^ 29 → b + 4 ≤ target
ahead_by imm b target small short is = omega (arith, small, short, is)

leads_ahead : (code : List ℕ) (b : ℕ) → b < 2 ^ 27 → is_branch (word code b) ≡ true → is_backward (word code b) ≡ false → b + 4 ≤ target_of (word code b) b
unfolding is_backward target_of
leads_ahead code b short is none = grind (arith, common_steps, nat_tests, leb-false, behind, ahead_by)

landed : (h : Home) (n to root : ℕ) (t next : Thread) → Lands h.code n to t next → root ≤ to → TakesNone h.code root → GoesForward h.code root → IsOver h to next
landed h n to root t next way from none forward = search (rules, arith)

-- At a branch's target.
settled_jump : (h : Home) (n to : ℕ) (t next : Thread) → HasNoFault h.code → length h.code ≤ most_words → n + 1 < checked_of h.code
    → Lands h.code n to t next → IsSettled h (n + 1) next.uniforms → PointerIs h to next
settled_jump h n to t next none few inside way (inl right) =
    let code = h.code in
    let e : n - 3 + 4 ≡ n + 1 = omega (arith, way.jump.from) in
    let b_in : n - 3 < checked_of code = omega (arith, inside) in
    let unknown : is_known code to ≡ false = known_not code to way.jump.target in
    let lost : IsAddressCount code (count_of code (n + 1)) → PointerIs h to next =
    λ address. inr (inl (record { at = count_of code (n + 1); address = address; is = right; unknown = unknown })) in
    elim (next_word code (n + 1) none inside (subst (λ i. is_target code i ≡ true) e (makes_on code none (n - 3) b_in way.jump.branch))) [
      | inl address ↦ lost address
      | inr over ↦
          elim (cases_Bool (is_backward (word code (n - 3)))) [
            | inl back ↦ lost (last_word code (n + 1) (n - 3) none inside b_in back over.none (omega (arith, e)))
            | inr forward ↦
                (let ahead = leads_ahead code (n - 3) (omega (arith, b_in, checked_of-le code, few)) way.jump.branch forward in
                inr (inr (landed h n to (n + 1) t next way (omega (arith, ahead, e, way.jump.is)) over.none over.forward)))
          ]
    ]
settled_jump h n to t next none few inside way (inr lost) = search (rules, arith, known_not)

over_jump : (h : Home) (n to : ℕ) (t next : Thread) → length h.code ≤ most_words → n + 1 < checked_of h.code → Lands h.code n to t next → IsOver h n t → PointerIs h to next
over_jump h n to t next few inside way over = search (rules, arith, checked_of-le, leads_ahead, landed)

settled_goes : (h : Home) (n to : ℕ) (t next : Thread) → HasNoFault h.code → length h.code ≤ most_words → n + 1 < checked_of h.code
    → (to ≡ n + 1) ⊎ Lands h.code n to t next → IsSettled h (n + 1) next.uniforms → PointerIs h to next
settled_goes h n to t next none few inside h8 settled = search (rules, arith, settled_jump)

over_goes : (h : Home) (n to u p : ℕ) (words : List ℕ) (t : Thread) → length h.code ≤ most_words → n + 1 < checked_of h.code
    → (to ≡ n + 1) ⊎ Lands h.code n to t (turn_done (word h.code n) u p words t).thread → IsOver h n t → PointerIs h to (turn_done (word h.code n) u p words t).thread
over_goes h n to u p words t few inside h9 over = search (rules, arith, over_on, over_jump)

-- Where the thread comes to, its pointer stands as it should.
pub pointer_goes : (h : Home) (n to u p : ℕ) (words : List ℕ) (t : Thread) → HasNoFault h.code → length h.code ≤ most_words → IsStreamLow h → n + 1 < checked_of h.code
    → (is_address_write (word h.code n) ≡ true → slice_index (add_row (thread_readied p words t) (word h.code n) u words) 0 % 2 ^ 32 ≡ h.stream + 4 * (count_of h.code n + 1))
    → IsPast h n p t → (to ≡ n + 1) ⊎ Lands h.code n to t (turn_done (word h.code n) u p words t).thread
    → PointerIs h n t → PointerIs h to (turn_done (word h.code n) u p words t).thread
pointer_goes h n to u p words t none few low inside sum past way (inl right) = search (rules, arith, settled_goes, settled_on)
pointer_goes h n to u p words t none few low inside sum past way (inr (inl lost)) =
    settled_goes h n to t (turn_done (word h.code n) u p words t).thread none few inside way (settled_on h n u p words t none (omega (arith, inside)) low sum past (inr lost))
pointer_goes h n to u p words t none few low inside sum past way (inr (inr over)) = over_goes h n to u p words t few inside way over
