-- What doesn't stand of an instruction that writes registers alone.
use Rattle.std.proofs.Common.{◌≡◌, ◌≤◌, ◌<◌, ◌+◌, ◌*◌, ◌==◌, ℕ, Bool, true, false, not, ◌&&◌, ◌||◌, List, if◌then◌else◌, refl, sym, ap, inl, inr, arith, ◌∙◌, nat_le, nat_lt, eqb-true}
use Rattle.std.proofs.lemmas.Bool.{cases_lt, cases_Bool, and_parts, and_left, true≢false, lt-leb}
use Rattle.std.proofs.lemmas.Bool.Decides.{nat_tests}
use Rattle.qpu_isa.specs.Terms.{is_branch, add_names, mul_names, names_address, names_on_a, names_on_b, is_address_write, is_relative_address_write, names_forbidden, is_tmu_address, s_address, add_writes_tmu, mul_writes_tmu, writes_tmu, tmu_writes, writes_s, add_is_tmu, mul_is_tmu, has_two_tmu_writes, has_conditional_tmu_write, reads_uniform_of}
use Rattle.qpu_isa.specs.Word.{ws_of, waddr_add_of, waddr_mul_of, cond_add_of, cond_mul_of}
use Rattle.qpu_isa.specs.Setups.{adds_direct, muls_direct, adds_setup, muls_setup, has_setup, takes_with}
use Rattle.shader_flow.specs.{Flow.word, Flow.checked_of, Pending.pending_of, Pending.count_of, Pending.takes}
use Rattle.shader_flow.proofs.Counts.{pending_past, pending_kept, count_next}
use Rattle.uniform_stream.specs.Quiet.{is_register_address, writes_registers}

or_false_both : (a b : Bool) → a ≡ false → b ≡ false → (a || b) ≡ false
or_false_both a b absent none = ap (λ x. x || b) absent ∙ none

below_40 : (address : ℕ) → is_register_address address ≡ true → address < 40
unfolding is_register_address
below_40 address is = grind (arith, nat_tests)

same_address : (waddr address : ℕ) → is_register_address waddr ≡ true → is_register_address address ≡ false → (waddr == address) ≡ false
same_address waddr address is absent =
    elim (cases_Bool (waddr == address)) [
      | inl same ↦ absurd (true≢false (sym is ∙ (ap is_register_address (eqb-true waddr address same) ∙ absent)))
      | inr other ↦ other
    ]

-- of a unit with this write address, where the other's is a register's too
no_name : (branch other : Bool) (waddr address : ℕ) → (branch || (is_register_address waddr && other)) ≡ true → is_register_address address ≡ false
    → (not branch && waddr == address) ≡ false
no_name true other waddr address quiet absent = refl
no_name false other waddr address quiet absent = same_address waddr address (and_parts (is_register_address waddr) other quiet).0 absent

no_tmu_from : (from waddr : ℕ) → 40 ≤ from → is_register_address waddr ≡ true → nat_le from waddr ≡ false
no_tmu_from from waddr high is = lt-leb from waddr (let low = below_40 waddr is in omega arith)

no_tmu : (branch other : Bool) (from waddr : ℕ) → 40 ≤ from → (branch || (is_register_address waddr && other)) ≡ true
    → (not branch && nat_le from waddr) ≡ false
no_tmu true other from waddr high quiet = refl
no_tmu false other from waddr high quiet = no_tmu_from from waddr high (and_parts (is_register_address waddr) other quiet).0

no_one_tmu : (branch other : Bool) (tmu waddr : ℕ) → (branch || (is_register_address waddr && other)) ≡ true
    → (not branch && is_tmu_address tmu waddr) ≡ false
unfolding is_tmu_address
no_one_tmu true other tmu waddr quiet = refl
no_one_tmu false other tmu waddr quiet =
    and_left (nat_le (56 + 4 * tmu) waddr) (nat_lt waddr (60 + 4 * tmu))
    (no_tmu_from (56 + 4 * tmu) waddr (omega arith) (and_parts (is_register_address waddr) other quiet).0)

exchanged : (branch a b : Bool) → (branch || (a && b)) ≡ true → (branch || (b && a)) ≡ true
exchanged true a b is = refl
exchanged false true true is = refl
exchanged false true false is = is
exchanged false false true is = is
exchanged false false false is = is

pub add_not : (word address : ℕ) → writes_registers word ≡ true → is_register_address address ≡ false → add_names word address ≡ false
unfolding add_names writes_registers
add_not word address quiet absent = no_name (is_branch word) (is_register_address (waddr_mul_of word)) (waddr_add_of word) address quiet absent

pub mul_not : (word address : ℕ) → writes_registers word ≡ true → is_register_address address ≡ false → mul_names word address ≡ false
unfolding mul_names writes_registers
mul_not word address quiet absent =
    no_name (is_branch word) (is_register_address (waddr_add_of word)) (waddr_mul_of word) address
    (exchanged (is_branch word) (is_register_address (waddr_add_of word)) (is_register_address (waddr_mul_of word)) quiet) absent

pub either_not : (word address : ℕ) → writes_registers word ≡ true → is_register_address address ≡ false → names_address word address ≡ false
unfolding names_address
either_not word address quiet absent = or_false_both (add_names word address) (mul_names word address) (add_not word address quiet absent) (mul_not word address quiet absent)

either_way : (way a b : Bool) → a ≡ false → b ≡ false → (if way then a else b) ≡ false
either_way true a b absent none = absent
either_way false a b absent none = none

no_40 : is_register_address 40 ≡ false
unfolding is_register_address
no_40 = refl

s_not : (tmu : ℕ) → is_register_address (s_address tmu) ≡ false
unfolding is_register_address s_address
s_not tmu = grind (arith, nat_tests)

pub no_address_write : (word : ℕ) → writes_registers word ≡ true → is_address_write word ≡ false
unfolding is_address_write names_on_a
no_address_write word quiet = either_way (ws_of word) (mul_names word 40) (add_names word 40) (mul_not word 40 quiet no_40) (add_not word 40 quiet no_40)

pub no_relative_write : (word : ℕ) → writes_registers word ≡ true → is_relative_address_write word ≡ false
unfolding is_relative_address_write names_on_b
no_relative_write word quiet = either_way (ws_of word) (add_names word 40) (mul_names word 40) (add_not word 40 quiet no_40) (mul_not word 40 quiet no_40)

pub no_forbidden : (word : ℕ) → writes_registers word ≡ true → names_forbidden word ≡ false
unfolding names_forbidden is_register_address
no_forbidden word quiet =
    or_false_both (names_address word 36 || names_address word 38) (names_address word 47 || (names_address word 50 || names_address word 51))
    (or_false_both (names_address word 36) (names_address word 38) (either_not word 36 quiet refl) (either_not word 38 quiet refl))
    (or_false_both (names_address word 47) (names_address word 50 || names_address word 51) (either_not word 47 quiet refl)
    (or_false_both (names_address word 50) (names_address word 51) (either_not word 50 quiet refl) (either_not word 51 quiet refl)))

pub no_send : (word tmu : ℕ) → writes_registers word ≡ true → writes_s word tmu ≡ false
unfolding writes_s
no_send word tmu quiet = either_not word (s_address tmu) quiet (s_not tmu)

no_add_tmu : (word : ℕ) → writes_registers word ≡ true → add_is_tmu word ≡ false
unfolding add_is_tmu writes_registers
no_add_tmu word quiet = no_tmu (is_branch word) (is_register_address (waddr_mul_of word)) 56 (waddr_add_of word) (omega arith) quiet

no_mul_tmu : (word : ℕ) → writes_registers word ≡ true → mul_is_tmu word ≡ false
unfolding mul_is_tmu writes_registers
no_mul_tmu word quiet =
    no_tmu (is_branch word) (is_register_address (waddr_add_of word)) 56 (waddr_mul_of word) (omega arith)
    (exchanged (is_branch word) (is_register_address (waddr_add_of word)) (is_register_address (waddr_mul_of word)) quiet)

pub no_add_write : (word tmu : ℕ) → writes_registers word ≡ true → add_writes_tmu word tmu ≡ false
unfolding add_writes_tmu writes_registers
no_add_write word tmu quiet = no_one_tmu (is_branch word) (is_register_address (waddr_mul_of word)) tmu (waddr_add_of word) quiet

pub no_mul_write : (word tmu : ℕ) → writes_registers word ≡ true → mul_writes_tmu word tmu ≡ false
unfolding mul_writes_tmu writes_registers
no_mul_write word tmu quiet =
    no_one_tmu (is_branch word) (is_register_address (waddr_add_of word)) tmu (waddr_mul_of word)
    (exchanged (is_branch word) (is_register_address (waddr_add_of word)) (is_register_address (waddr_mul_of word)) quiet)

pub no_write : (word tmu : ℕ) → writes_registers word ≡ true → writes_tmu word tmu ≡ false
unfolding writes_tmu
no_write word tmu quiet = or_false_both (add_writes_tmu word tmu) (mul_writes_tmu word tmu) (no_add_write word tmu quiet) (no_mul_write word tmu quiet)

no_writes : (word tmu : ℕ) → writes_registers word ≡ true → tmu_writes word tmu ≡ 0
unfolding tmu_writes
no_writes word tmu quiet =
    ap (λ b. (if b then 1 else 0) + (if mul_writes_tmu word tmu then 1 else 0)) (no_add_write word tmu quiet)
    ∙ ap (λ b. 0 + (if b then 1 else 0)) (no_mul_write word tmu quiet)

pub no_two : (word : ℕ) → writes_registers word ≡ true → has_two_tmu_writes word ≡ false
unfolding has_two_tmu_writes
no_two word quiet = and_left (add_is_tmu word) (mul_is_tmu word) (no_add_tmu word quiet)

pub no_conditional : (word : ℕ) → writes_registers word ≡ true → has_conditional_tmu_write word ≡ false
unfolding has_conditional_tmu_write
no_conditional word quiet =
    or_false_both (add_is_tmu word && not (cond_add_of word == 1)) (mul_is_tmu word && not (cond_mul_of word == 1))
    (and_left (add_is_tmu word) (not (cond_add_of word == 1)) (no_add_tmu word quiet))
    (and_left (mul_is_tmu word) (not (cond_mul_of word == 1)) (no_mul_tmu word quiet))

pub no_add_direct : (word tmu pending : ℕ) → writes_registers word ≡ true → adds_direct word tmu pending ≡ false
unfolding adds_direct
no_add_direct word tmu pending quiet = and_left (add_names word (s_address tmu)) (pending == 0) (add_not word (s_address tmu) quiet (s_not tmu))

pub no_mul_direct : (word tmu pending : ℕ) → writes_registers word ≡ true → muls_direct word tmu pending ≡ false
unfolding muls_direct
no_mul_direct word tmu pending quiet = and_left (mul_names word (s_address tmu)) (pending == 0) (mul_not word (s_address tmu) quiet (s_not tmu))

pub no_setup : (word pending0 pending1 : ℕ) → writes_registers word ≡ true → has_setup word pending0 pending1 ≡ false
unfolding has_setup adds_setup muls_setup
no_setup word pending0 pending1 quiet =
    or_false_both (adds_setup word 0 pending0 || muls_setup word 0 pending0) (adds_setup word 1 pending1 || muls_setup word 1 pending1)
    (or_false_both (adds_setup word 0 pending0) (muls_setup word 0 pending0)
    (and_left (add_writes_tmu word 0) (not (adds_direct word 0 pending0)) (no_add_write word 0 quiet))
    (and_left (mul_writes_tmu word 0) (not (muls_direct word 0 pending0)) (no_mul_write word 0 quiet)))
    (or_false_both (adds_setup word 1 pending1) (muls_setup word 1 pending1)
    (and_left (add_writes_tmu word 1) (not (adds_direct word 1 pending1)) (no_add_write word 1 quiet))
    (and_left (mul_writes_tmu word 1) (not (muls_direct word 1 pending1)) (no_mul_write word 1 quiet)))

-- the TMUs keep what they keep
pub quiet_pending : (code : List ℕ) (tmu i : ℕ) → writes_registers (word code i) ≡ true → pending_of code tmu (i + 1) ≡ pending_of code tmu i
quiet_pending code tmu i quiet =
    elim (cases_lt i (checked_of code)) [
      | inl inside ↦
          (let kept = pending_kept code tmu i inside (no_send (word code i) tmu quiet) in
          let none = no_writes (word code i) tmu quiet in
          omega (arith, kept, none))
      | inr past ↦ pending_past code tmu i past
    ]

or_false_right : (a b : Bool) → b ≡ false → (a || b) ≡ a
or_false_right true b absent = refl
or_false_right false b absent = absent

-- a uniform is taken where it is read
pub quiet_takes : (code : List ℕ) (i : ℕ) → writes_registers (word code i) ≡ true → takes code i ≡ (nat_lt i (checked_of code) && reads_uniform_of (word code i))
unfolding takes takes_with
quiet_takes code i quiet =
    ap (λ b. nat_lt i (checked_of code) && b)
    (or_false_right (reads_uniform_of (word code i)) (has_setup (word code i) (pending_of code 0 i) (pending_of code 1 i)) (no_setup (word code i) (pending_of code 0 i) (pending_of code 1 i) quiet))

one_more_by : (taken : Bool) (n m : ℕ) → m ≡ n + (if taken then 1 else 0) → nat_lt n m ≡ taken
one_more_by true n m is = grind (arith, nat_tests)
one_more_by false n m is = grind (arith, nat_tests)

-- an instruction takes a uniform where one more is taken after it
pub takes_by_counts : (code : List ℕ) (i before after : ℕ) → before ≡ count_of code i → after ≡ count_of code (i + 1) → nat_lt before after ≡ takes code i
takes_by_counts code i before after first next =
    ap (λ n. nat_lt n after) first ∙ (ap (nat_lt (count_of code i)) next ∙ one_more_by (takes code i) (count_of code i) (count_of code (i + 1)) (count_next code i))
