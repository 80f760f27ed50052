-- A machine that is to execute an undefined instruction, or to take a uniform outside, is not safe.
use Rattle.std.proofs.Common.{◌≡◌, ◌≢◌, ◌≤◌, ◌⊎◌, inl, inr, ℕ, ◌==◌, Bool, true, false, List, [], length, refl, subst, arith}
use Rattle.std.proofs.lemmas.Bool.Decides.{nat_tests}
use Rattle.std.specs.Prelude.{◌||◌, ◌&&◌, not, nat_le, if◌then◌else◌}
use Rattle.field_words.specs.declared.access.Actor.TheVariants.{Qpu as TheQpu}
use Rattle.qpu_isa.specs.Terms.{is_branch, is_switch, is_load_imm, names_address, is_address_write, is_relative_address_write, names_forbidden, add_is_tmu, mul_is_tmu, has_two_tmu_writes, has_conditional_tmu_write, writes_tmu, reads_upper, names_upper}
use Rattle.qpu_isa.specs.Word.{mode_of, relative_of, register_of, cond_add_of, cond_mul_of}
use Rattle.qpu_machine.specs.Wild.{takes_one, is_signal_wild, in_slots, after_switch, is_branch_wild, is_switch_wild, is_name_wild, is_tmu_wild, is_setup_wild, is_register_wild, is_mode_wild, is_uniform_wild, is_word_wild, is_order_wild, is_use_wild, is_wild}
use Rattle.qpu_machine.specs.{declared.state.Thread.Thread, Step.ThreadTurn, Step.word_plan, Step.thread_plan}
use Rattle.machine_plan.specs.{declared.who.Who.Who, Plan.Plan, Plan.Reads, Regions.Rights, Regions.rights_of, Regions.Inside, World.Safe}
use Rattle.machine.specs.{State.Units, Step.ready, Step.turn}
use Rattle.job_safety.proofs.{Packets.AllSafe, Packets.wild_where, Steps.thread_step, Steps.undefined_or}
use Rattle.strength_law.specs.Instructions.{IsAtInstruction, IsRefused, HasUndefinedSignal, HasUndefinedMode, IsNobodys, WritesUndefined, WritesTwoRequests, WritesUnderCondition, WritesFifthSetup, IsInSlots, IsAfterSwitch, BranchesAnywhere, BranchesEarly, SwitchesEarly, SwitchesAlone, UsesUpper, TakesEarly, UniformsPastAreUnsafe}

-- tests
either_left : (a b : Bool) → a ≡ true → (a || b) ≡ true
either_left a b is = rw is refl

either_right : (a b : Bool) → b ≡ true → (a || b) ≡ true
either_right true b is = refl
either_right false b is = is

both_true : (a b : Bool) → a ≡ true → b ≡ true → (a && b) ≡ true
both_true a b first second = rw (first, second) refl

other_than : (n k : ℕ) → n ≢ k → (n == k) ≡ false
other_than n k apart = grind (arith, nat_tests, apart)

-- the thread at its instruction
word_step : (jobs : List Rights) (m : List ℕ) (u : Units) (k : ℕ) (thread : Thread) (word : ℕ) → IsAtInstruction m u k thread word → Safe ready turn jobs m u
    → AllSafe jobs (record { unit = TheQpu k; job = thread.job }) m (word_plan thread word [])
unfolding thread_plan
word_step jobs m u k thread word at safe =
    let who : Who = record { unit = TheQpu k; job = thread.job } in
    subst (λ w. AllSafe jobs who m (word_plan thread w [])) at.word_is (thread_step jobs m u k thread at.at safe).1

-- an instruction that the machine calls undefined
wild_refused : (jobs : List Rights) (m : List ℕ) (u : Units) (k : ℕ) (thread : Thread) (word : ℕ) → IsAtInstruction m u k thread word → is_wild thread word ≡ true → Safe ready turn jobs m u → ⊥
unfolding word_plan
wild_refused jobs m u k thread word at wild safe =
    wild_where jobs (record { unit = TheQpu k; job = thread.job }) m (is_wild thread word) _ wild (word_step jobs m u k thread word at safe)

-- which it does by the word alone, by what came before, or by what the thread has
by_word : (thread : Thread) (word : ℕ) → is_word_wild word ≡ true → is_wild thread word ≡ true
unfolding is_wild
by_word thread word is = either_left (is_word_wild word) (is_order_wild thread word || is_use_wild thread word) is

by_order : (thread : Thread) (word : ℕ) → is_order_wild thread word ≡ true → is_wild thread word ≡ true
unfolding is_wild
by_order thread word is = either_right (is_word_wild word) (is_order_wild thread word || is_use_wild thread word) (either_left (is_order_wild thread word) (is_use_wild thread word) is)

by_use : (thread : Thread) (word : ℕ) → is_use_wild thread word ≡ true → is_wild thread word ≡ true
unfolding is_wild
by_use thread word is = either_right (is_word_wild word) (is_order_wild thread word || is_use_wild thread word) (either_right (is_order_wild thread word) (is_use_wild thread word) is)

-- signals
signal_wild : (thread : Thread) (word : ℕ) → HasUndefinedSignal thread word → is_wild thread word ≡ true
unfolding is_word_wild is_signal_wild
signal_wild thread word (inl is) = by_word thread word (rw is refl)
signal_wild thread word (inr (inl is)) = by_word thread word (rw is refl)
signal_wild thread word (inr (inr (inl is))) = by_word thread word (rw is refl)
signal_wild thread word (inr (inr (inr is))) = by_word thread word (rw is refl)

pub signals_law : IsRefused HasUndefinedSignal
signals_law jobs m u k thread word at is safe = wild_refused jobs m u k thread word at (signal_wild thread word is) safe

-- modes
mode_wild : (word : ℕ) → is_load_imm word ≡ true → mode_of word ≢ 0 → mode_of word ≢ 1 → mode_of word ≢ 3 → is_mode_wild word ≡ true
unfolding is_mode_wild
mode_wild word loads plain signed unsigned = rw (loads, other_than (mode_of word) 0 plain, other_than (mode_of word) 1 signed, other_than (mode_of word) 3 unsigned) refl

pub modes_law : IsRefused HasUndefinedMode
unfolding is_word_wild
modes_law jobs m u k thread word at is safe =
    let wild : is_mode_wild word ≡ true = mode_wild word is.loads is.not_plain is.not_signed is.not_unsigned in
    wild_refused jobs m u k thread word at
    (by_word thread word (either_left (is_signal_wild word || is_mode_wild word) (is_name_wild word || is_tmu_wild word) (either_right (is_signal_wild word) (is_mode_wild word) wild))) safe

-- names
name_wild : (thread : Thread) (word : ℕ) → is_name_wild word ≡ true → is_wild thread word ≡ true
unfolding is_word_wild
name_wild thread word wild =
    by_word thread word (either_right (is_signal_wild word || is_mode_wild word) (is_name_wild word || is_tmu_wild word) (either_left (is_name_wild word) (is_tmu_wild word) wild))

one_of_five : (a b c d e : Bool) → (a ≡ true) ⊎ ((b ≡ true) ⊎ ((c ≡ true) ⊎ ((d ≡ true) ⊎ (e ≡ true)))) → ((a || b) || (c || (d || e))) ≡ true
one_of_five a b c d e (inl is) = rw is refl
one_of_five a b c d e (inr (inl is)) = either_left (a || b) (c || (d || e)) (either_right a b is)
one_of_five a b c d e (inr (inr (inl is))) = either_right (a || b) (c || (d || e)) (either_left c (d || e) is)
one_of_five a b c d e (inr (inr (inr (inl is)))) = either_right (a || b) (c || (d || e)) (either_right c (d || e) (either_left d e is))
one_of_five a b c d e (inr (inr (inr (inr is)))) = either_right (a || b) (c || (d || e)) (either_right c (d || e) (either_right d e is))

-- whichever of the five it is
one_named : (word address : ℕ) → IsNobodys address → names_address word address ≡ true
    → (names_address word 36 ≡ true) ⊎ ((names_address word 38 ≡ true) ⊎ ((names_address word 47 ≡ true) ⊎ ((names_address word 50 ≡ true) ⊎ (names_address word 51 ≡ true))))
one_named word address (inl is) named = inl (subst (λ a. names_address word a ≡ true) is named)
one_named word address (inr (inl is)) named = inr (inl (subst (λ a. names_address word a ≡ true) is named))
one_named word address (inr (inr (inl is))) named = inr (inr (inl (subst (λ a. names_address word a ≡ true) is named)))
one_named word address (inr (inr (inr (inl is)))) named = inr (inr (inr (inl (subst (λ a. names_address word a ≡ true) is named))))
one_named word address (inr (inr (inr (inr is)))) named = inr (inr (inr (inr (subst (λ a. names_address word a ≡ true) is named))))

forbidden : (word address : ℕ) → IsNobodys address → names_address word address ≡ true → names_forbidden word ≡ true
unfolding names_forbidden
forbidden word address nobodys named =
    one_of_five (names_address word 36) (names_address word 38) (names_address word 47) (names_address word 50) (names_address word 51) (one_named word address nobodys named)

names_wild : (word : ℕ) (thread : Thread) → WritesUndefined thread word → is_name_wild word ≡ true
unfolding is_name_wild is_relative_address_write
names_wild word thread (inl one) = either_left (names_forbidden word) (is_relative_address_write word) (forbidden word one.address one.nobodys one.named)
names_wild word thread (inr relative) = either_right (names_forbidden word) (is_relative_address_write word) relative

pub names_law : IsRefused WritesUndefined
names_law jobs m u k thread word at is safe = wild_refused jobs m u k thread word at (name_wild thread word (names_wild word thread is)) safe

-- requests
request_wild : (thread : Thread) (word : ℕ) → is_tmu_wild word ≡ true → is_wild thread word ≡ true
unfolding is_word_wild
request_wild thread word wild =
    by_word thread word (either_right (is_signal_wild word || is_mode_wild word) (is_name_wild word || is_tmu_wild word) (either_right (is_name_wild word) (is_tmu_wild word) wild))

two_wild : (word : ℕ) → add_is_tmu word ≡ true → mul_is_tmu word ≡ true → is_tmu_wild word ≡ true
unfolding is_tmu_wild has_two_tmu_writes
two_wild word added multiplied = either_left (has_two_tmu_writes word) (has_conditional_tmu_write word) (both_true (add_is_tmu word) (mul_is_tmu word) added multiplied)

pub two_requests_law : IsRefused WritesTwoRequests
two_requests_law jobs m u k thread word at is safe = wild_refused jobs m u k thread word at (request_wild thread word (two_wild word is.0 is.1)) safe

under_condition : (named : Bool) (condition : ℕ) → named ≡ true → condition ≢ 1 → (named && not (condition == 1)) ≡ true
under_condition named condition is apart = rw (is, other_than condition 1 apart) refl

conditional : (word : ℕ) (thread : Thread) → WritesUnderCondition thread word → has_conditional_tmu_write word ≡ true
unfolding has_conditional_tmu_write
conditional word thread (inl is) = either_left (add_is_tmu word && not (cond_add_of word == 1)) (mul_is_tmu word && not (cond_mul_of word == 1)) (under_condition (add_is_tmu word) (cond_add_of word) is.0 is.1)
conditional word thread (inr is) = either_right (add_is_tmu word && not (cond_add_of word == 1)) (mul_is_tmu word && not (cond_mul_of word == 1)) (under_condition (mul_is_tmu word) (cond_mul_of word) is.0 is.1)

pub conditions_law : IsRefused WritesUnderCondition
unfolding is_tmu_wild
conditions_law jobs m u k thread word at is safe =
    wild_refused jobs m u k thread word at (request_wild thread word (either_right (has_two_tmu_writes word) (has_conditional_tmu_write word) (conditional word thread is))) safe

full : (writes : Bool) (kept : ℕ) → writes ≡ true → 4 ≤ kept → (writes && nat_le 4 kept) ≡ true
full writes kept is four =
    let many : nat_le 4 kept ≡ true = grind (arith, nat_tests, four) in
    rw (is, many) refl

setup_wild : (thread : Thread) (word : ℕ) → WritesFifthSetup thread word → is_setup_wild thread word ≡ true
unfolding is_setup_wild
setup_wild thread word (inl is) = either_left (writes_tmu word 0 && nat_le 4 (length thread.setups0.items)) (writes_tmu word 1 && nat_le 4 (length thread.setups1.items)) (full (writes_tmu word 0) (length thread.setups0.items) is.0 is.1)
setup_wild thread word (inr is) = either_right (writes_tmu word 0 && nat_le 4 (length thread.setups0.items)) (writes_tmu word 1 && nat_le 4 (length thread.setups1.items)) (full (writes_tmu word 1) (length thread.setups1.items) is.0 is.1)

pub setups_law : IsRefused WritesFifthSetup
unfolding is_use_wild
setups_law jobs m u k thread word at is safe =
    wild_refused jobs m u k thread word at
    (by_use thread word (either_left (is_setup_wild thread word) (is_register_wild thread word || is_uniform_wild thread word) (setup_wild thread word is))) safe

-- branches and switches
slots_true : (thread : Thread) → IsInSlots thread → in_slots thread ≡ true
unfolding in_slots
slots_true thread (inl is) = rw is refl
slots_true thread (inr (inl is)) = either_right (is_branch thread.last1.word) (is_branch thread.last2.word || is_branch thread.last3.word) (either_left (is_branch thread.last2.word) (is_branch thread.last3.word) is)
slots_true thread (inr (inr is)) = either_right (is_branch thread.last1.word) (is_branch thread.last2.word || is_branch thread.last3.word) (either_right (is_branch thread.last2.word) (is_branch thread.last3.word) is)

switch_true : (thread : Thread) → IsAfterSwitch thread → after_switch thread ≡ true
unfolding after_switch
switch_true thread (inl is) = either_left (is_switch thread.last1.word) (is_switch thread.last2.word) is
switch_true thread (inr is) = either_right (is_switch thread.last1.word) (is_switch thread.last2.word) is

early_true : (thread : Thread) → IsInSlots thread ⊎ IsAfterSwitch thread → (in_slots thread || after_switch thread) ≡ true
early_true thread (inl is) = either_left (in_slots thread) (after_switch thread) (slots_true thread is)
early_true thread (inr is) = either_right (in_slots thread) (after_switch thread) (switch_true thread is)

early_switch : (thread : Thread) → IsInSlots thread ⊎ IsAfterSwitch thread → (after_switch thread || in_slots thread) ≡ true
early_switch thread (inl is) = either_right (after_switch thread) (in_slots thread) (slots_true thread is)
early_switch thread (inr is) = either_left (after_switch thread) (in_slots thread) (switch_true thread is)

branch_wild : (thread : Thread) (word : ℕ) → is_branch_wild thread word ≡ true → is_wild thread word ≡ true
unfolding is_order_wild
branch_wild thread word is = by_order thread word (either_left (is_branch_wild thread word) (is_switch_wild thread word) is)

switch_wild : (thread : Thread) (word : ℕ) → is_switch_wild thread word ≡ true → is_wild thread word ≡ true
unfolding is_order_wild
switch_wild thread word is = by_order thread word (either_right (is_branch_wild thread word) (is_switch_wild thread word) is)

anywhere_true : (word : ℕ) → (register_of word ≡ true) ⊎ (relative_of word ≡ false) → (register_of word || not (relative_of word)) ≡ true
anywhere_true word (inl is) = rw is refl
anywhere_true word (inr is) = either_right (register_of word) (not (relative_of word)) (rw is refl)

pub branches_anywhere_law : IsRefused BranchesAnywhere
unfolding is_branch_wild
branches_anywhere_law jobs m u k thread word at is safe =
    wild_refused jobs m u k thread word at (branch_wild thread word (rw (is.0, anywhere_true word is.1) refl)) safe

pub branches_early_law : IsRefused BranchesEarly
unfolding is_branch_wild
branches_early_law jobs m u k thread word at is safe =
    let early : ((register_of word || not (relative_of word)) || (in_slots thread || after_switch thread)) ≡ true =
    either_right (register_of word || not (relative_of word)) (in_slots thread || after_switch thread) (early_true thread is.1) in
    wild_refused jobs m u k thread word at (branch_wild thread word (both_true (is_branch word) _ is.0 early)) safe

pub switches_early_law : IsRefused SwitchesEarly
unfolding is_switch_wild
switches_early_law jobs m u k thread word at is safe =
    wild_refused jobs m u k thread word at (switch_wild thread word (rw (is.0, early_switch thread is.1) refl)) safe

pub switches_alone_law : IsRefused SwitchesAlone
unfolding is_switch_wild
switches_alone_law jobs m u k thread word at is safe =
    let alone : ((after_switch thread || in_slots thread) || not thread.threaded) ≡ true =
    either_right (after_switch thread || in_slots thread) (not thread.threaded) (rw is.1 refl) in
    wild_refused jobs m u k thread word at (switch_wild thread word (both_true (is_switch word) _ is.0 alone)) safe

-- registers and uniforms
upper_true : (word : ℕ) → (reads_upper word ≡ true) ⊎ (names_upper word ≡ true) → (reads_upper word || names_upper word) ≡ true
upper_true word (inl is) = either_left (reads_upper word) (names_upper word) is
upper_true word (inr is) = either_right (reads_upper word) (names_upper word) is

pub upper_law : IsRefused UsesUpper
unfolding is_use_wild is_register_wild
upper_law jobs m u k thread word at is safe =
    let wild : is_register_wild thread word ≡ true = rw (is.0, upper_true word is.1) refl in
    wild_refused jobs m u k thread word at
    (by_use thread word (either_right (is_setup_wild thread word) (is_register_wild thread word || is_uniform_wild thread word) (either_left (is_register_wild thread word) (is_uniform_wild thread word) wild))) safe

written_true : (thread : Thread) → (is_address_write thread.last1.word ≡ true) ⊎ (is_address_write thread.last2.word ≡ true) → (is_address_write thread.last1.word || is_address_write thread.last2.word) ≡ true
written_true thread (inl is) = either_left (is_address_write thread.last1.word) (is_address_write thread.last2.word) is
written_true thread (inr is) = either_right (is_address_write thread.last1.word) (is_address_write thread.last2.word) is

pub takes_early_law : IsRefused TakesEarly
unfolding is_use_wild is_uniform_wild
takes_early_law jobs m u k thread word at is safe =
    let wild : is_uniform_wild thread word ≡ true = rw (is.0, written_true thread is.1) refl in
    wild_refused jobs m u k thread word at
    (by_use thread word (either_right (is_setup_wild thread word) (is_register_wild thread word || is_uniform_wild thread word) (either_right (is_register_wild thread word) (is_uniform_wild thread word) wild))) safe

-- a uniform outside
taken : (jobs : List Rights) (who : Who) (m : List ℕ) (thread : Thread) (takes : Bool) (next : List ℕ → Plan ThreadTurn) (other : Plan ThreadTurn) → takes ≡ true
    → AllSafe jobs who m (if takes then Reads thread.uniforms 4 next else other) → Inside (rights_of jobs who.job).region thread.uniforms 4
taken jobs who m thread true next other is all = all.0.inside
taken jobs who m thread false next other is all = absurd cc

pub uniforms_past_law : UniformsPastAreUnsafe
unfolding word_plan
uniforms_past_law jobs m u k thread word at takes past safe =
    let who : Who = record { unit = TheQpu k; job = thread.job } in
    past (taken jobs who m thread (takes_one thread word) _ _ takes (undefined_or jobs who m (is_wild thread word) _ (word_step jobs m u k thread word at safe)))
