-- A checked instruction of an accepted shader takes its uniform for one thing alone: an address write, a direct read, a clamp
-- or a setup word.
use Rattle.std.proofs.Common.{◌≡◌, ◌≤◌, ◌<◌, ◌+◌, ◌-◌, ℕ, zero, suc, Bool, true, Option, Some, None, refl, ◌||◌, List, sym, ap, inl, inr, arith}
use Rattle.std.proofs.{lemmas.Bool.Decides.nat_tests, lemmas.Bool.cases_order, lemmas.Bool.true≢false}
use Rattle.qpu_isa.specs.Terms.{is_alu, is_uniform_operand, s_address, reads_uniform_of, is_add_with_uniform, is_min_with_uniform, is_address_write, add_names, first_register, passes}
use Rattle.qpu_isa.specs.{Word.add_b_of, Word.op_add_of, declared.inst.Reg.Reg, Setups.adds_direct, Setups.takes_with, Setups.has_setup}
use Rattle.shader_flow.specs.{Flow.word, Flow.checked_of, Pending.pending_of, Pending.count_of, Pending.takes}
use Rattle.uniform_stream.specs.Rules.{s23}
use Rattle.shader_flow.proofs.Counts.{count_next, count_taken}
use Rattle.clamp_facts.specs.Facts.{is_clamped}
use Rattle.shader_check.specs.Rules.{s16, s24, is_exact_address_write, adds_address, direct_by_add, direct_by_mul, is_clamped_write}
use Rattle.shader_check.proofs.Clean.{IsCleanAt}

-- counts rise, and strictly after an instruction that takes one
pub count_rises : (code : List ℕ) (i d : ℕ) → count_of code i ≤ count_of code (i + d)
count_rises code i zero = let e : i + zero ≡ i = omega arith in let same = ap (count_of code) e in omega (arith, same)
count_rises code i (suc d) =
    let e : i + suc d ≡ i + d + 1 = omega arith in
    let same = ap (count_of code) e in
    let next = count_next code (i + d) in
    omega (arith, same, next, count_rises code i d)

pub count_less : (code : List ℕ) (i j : ℕ) → i < j → takes code i ≡ true → count_of code i < count_of code j
count_less code i j less taken =
    let e : i + 1 + (j - (i + 1)) ≡ j = omega (arith, less) in
    let same = ap (count_of code) e in
    omega (arith, same, count_taken code i taken, count_rises code (i + 1) (j - (i + 1)))

pub count_one : (code : List ℕ) (i j : ℕ) → takes code i ≡ true → takes code j ≡ true → count_of code i ≡ count_of code j → i ≡ j
count_one code i j first second same =
    elim (cases_order i j) [
      | inl one ↦ one
      | inr (inl less) ↦ (let no : ⊥ = omega (arith, count_less code i j less first, same) in absurd no)
      | inr (inr more) ↦ (let no : ⊥ = omega (arith, count_less code j i more second, same) in absurd no)
    ]

-- a uniform operand is a read of a uniform
pub operand_reads : (w s : ℕ) → is_alu w ≡ true → is_uniform_operand w s ≡ true → reads_uniform_of w ≡ true
unfolding is_uniform_operand reads_uniform_of
operand_reads w s alu uniform = grind (arith, alu, uniform)

pub sum_parts : (w : ℕ) → is_add_with_uniform w ≡ true → (reads_uniform_of w ≡ true) × (op_add_of w ≡ 12)
unfolding is_add_with_uniform
sum_parts w sum =
    let alu : is_alu w ≡ true = grind (arith, sum) in
    let uniform : is_uniform_operand w (add_b_of w) ≡ true = grind (arith, sum) in
    (operand_reads w (add_b_of w) alu uniform, grind (arith, sum))

pub min_parts : (w : ℕ) → is_min_with_uniform w ≡ true → (reads_uniform_of w ≡ true) × (op_add_of w ≡ 18)
unfolding is_min_with_uniform
min_parts w min =
    let alu : is_alu w ≡ true = grind (arith, min) in
    let uniform : is_uniform_operand w (add_b_of w) ≡ true = grind (arith, min) in
    (operand_reads w (add_b_of w) alu uniform, grind (arith, min))

-- a sum is no minimum
pub sum_or_min : (w : ℕ) → is_add_with_uniform w ≡ true → is_min_with_uniform w ≡ true → ⊥
sum_or_min w sum min = omega (arith, (sum_parts w sum).1, (min_parts w min).1)

-- what reads a uniform, or has a setup write, takes one
pub reads_takes : (code : List ℕ) (i : ℕ) → i < checked_of code → reads_uniform_of (word code i) ≡ true → takes code i ≡ true
unfolding takes takes_with
reads_takes code i inside reads = grind (arith, nat_tests, inside, reads)

abbrev pub sets : List ℕ → ℕ → Bool
sets code i = has_setup (word code i) (pending_of code 0 i) (pending_of code 1 i)

pub sets_takes : (code : List ℕ) (i : ℕ) → i < checked_of code → sets code i ≡ true → takes code i ≡ true
unfolding takes takes_with
sets_takes code i inside setup = grind (arith, nat_tests, inside, setup)

-- a setup write stands in no instruction that reads a uniform
pub sets_or_reads : (code : List ℕ) (i : ℕ) → IsCleanAt code i → sets code i ≡ true → reads_uniform_of (word code i) ≡ true → ⊥
unfolding s23
sets_or_reads code i clean setup reads = let apart = clean.apart in grind (arith, apart, setup, reads)

-- an address write is exact
pub address_parts : (code : List ℕ) (i : ℕ) → IsCleanAt code i → is_address_write (word code i) ≡ true
    → (is_add_with_uniform (word code i) ≡ true) × (add_names (word code i) 40 ≡ true)
unfolding s16 is_exact_address_write adds_address
address_parts code i clean address = let exact = clean.exact in (grind (arith, exact, address), grind (arith, exact, address))

-- a direct write is the add unit's, and its sum is clamped
pub direct_parts : (code : List ℕ) (i : ℕ) → IsCleanAt code i → (direct_by_add code i || direct_by_mul code i) ≡ true
    → (direct_by_add code i ≡ true) × (is_clamped_write code i ≡ true)
unfolding s24
direct_parts code i clean direct = let clamped = clean.clamped in (grind (arith, clamped, direct), grind (arith, clamped, direct))

-- what passes is a register, with that test
pub passed : (o : Option Reg) (test : Reg → Bool) → passes o test ≡ true → (reg : Reg) × (o ≡ Some reg) × (test reg ≡ true)
passed None test is = absurd (true≢false (sym is))
passed (Some reg) test is = (reg, refl, is)

pub clamped_parts : (code : List ℕ) (i : ℕ) → is_clamped_write code i ≡ true
    → (is_add_with_uniform (word code i) ≡ true) × ((reg : Reg) × (first_register (word code i) ≡ Some reg) × (is_clamped code i reg ≡ true))
unfolding is_clamped_write
clamped_parts code i clamped =
    let passing : passes (first_register (word code i)) (is_clamped code i) ≡ true = grind (arith, clamped) in
    (grind (arith, clamped), passed (first_register (word code i)) (is_clamped code i) passing)

-- the add unit writes one address
pub address_or_direct : (code : List ℕ) (i : ℕ) → add_names (word code i) 40 ≡ true → direct_by_add code i ≡ true → ⊥
unfolding direct_by_add adds_direct s_address add_names
address_or_direct code i address direct = grind (arith, address, direct)
