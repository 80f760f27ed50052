-- What the calls tell of a word's instruction is what the terms on words say.
use Rattle.std.proofs.Common.{◌≡◌, ℕ, ◌<◌, ◌^◌, inl, inr, refl, ap, arith, Bool, true, false, not, ◌==◌, ◌&&◌, ◌||◌, nat_lt, nat_le, if◌then◌else◌}
use Rattle.std.proofs.lemmas.Bool.Decides.{nat_tests}
use Rattle.std.proofs.lemmas.Bool.{eqb-true, cases_Bool, leb-true, leb-false}
use Rattle.std.specs.{declared.option.Option.Option, declared.option.Option.TheVariants.None, declared.option.Option.TheVariants.Some}
use Rattle.qpu_isa.specs.Terms.{reads_uniform_of, is_alu, is_branch, has_small, names, add_names_reg, mul_names_reg, add_names, mul_names, is_tmu_address, add_writes_tmu, mul_writes_tmu, first_tmu, target_of}
use Rattle.qpu_isa.specs.Report.{takes_uniform, names_written, is_named, tmu_written, tmu_at, first_given, TermsAgree, TargetsAreSums}
use Rattle.qpu_isa.specs.{declared.inst.Inst.Inst, declared.inst.Reg.Reg, Inst.alu_of, Inst.load_imm_of, Inst.branch_of, Inst.inst_of}
use Rattle.qpu_isa.specs.declared.inst.Reg.TheVariants.{A, B, Acc}
use Rattle.qpu_isa.specs.Word.{imm_of, sig_of, ws_of, waddr_add_of, waddr_mul_of}
use Rattle.qpu_isa.specs.declared.inst.Inst.TheVariants as kind

-- the instruction that a word is, by the two tests of its signal
chosen : ℕ → Bool → Bool → Inst
chosen word loads branches =
    if loads then kind.LoadImm (load_imm_of word) else (if branches then kind.Branch (branch_of word) else kind.Alu (alu_of word))

pub sig-small : (word : ℕ) → sig_of word < 16
unfolding sig_of
sig-small word = omega arith

alu_signal : (word : ℕ) → (sig_of word == 14) ≡ false → (sig_of word == 15) ≡ false → nat_lt (sig_of word) 14 ≡ true
alu_signal word apart other = let s : sig_of word < 16 = sig-small word in grind (arith, nat_tests)

uniform_agrees : (word : ℕ) → (loads branches : Bool) → (sig_of word == 14) ≡ loads → (sig_of word == 15) ≡ branches
    → takes_uniform (chosen word loads branches) ≡ reads_uniform_of word
unfolding chosen takes_uniform reads_uniform_of is_alu has_small alu_of
uniform_agrees word true branches is other = let e : sig_of word ≡ 14 = eqb-true _ _ is in rw e refl
uniform_agrees word false true is other = let e : sig_of word ≡ 15 = eqb-true _ _ other in rw e refl
uniform_agrees word false false is other = rw (alu_signal word is other) refl

no_branch : (word : ℕ) → (sig_of word == 15) ≡ false → is_branch word ≡ false
unfolding is_branch
no_branch word other = other

none_named : (b : Bool) → false ≡ ((not b && false) || (b && false))
none_named true = refl
none_named false = refl

none_named_b : (b : Bool) → false ≡ ((b && false) || (not b && false))
none_named_b true = refl
none_named_b false = refl

is_a_branch : (word : ℕ) → (sig_of word == 15) ≡ true → is_branch word ≡ true
unfolding is_branch
is_a_branch word is = is

not_not : (b : Bool) → not (not b) ≡ b
not_not true = refl
not_not false = refl

units_agree : (word : ℕ) (reg : Reg) → is_branch word ≡ false
    → (is_named (not (ws_of word)) (waddr_add_of word) reg || is_named (ws_of word) (waddr_mul_of word) reg) ≡ names word reg
unfolding is_named names add_names_reg mul_names_reg add_names mul_names
units_agree word (A number) apart = rw apart refl
units_agree word (B number) apart = rw (not_not (ws_of word), apart) refl
units_agree word (Acc number) apart = rw apart refl

branch_names : (word : ℕ) (reg : Reg) → is_branch word ≡ true → false ≡ names word reg
unfolding names add_names_reg mul_names_reg add_names mul_names
branch_names word (A number) is = rw is (none_named (ws_of word))
branch_names word (B number) is = rw is (none_named_b (ws_of word))
branch_names word (Acc number) is = rw is refl

named_agrees : (word : ℕ) (reg : Reg) → (loads branches : Bool) → (sig_of word == 14) ≡ loads → (sig_of word == 15) ≡ branches
    → names_written (chosen word loads branches) reg ≡ names word reg
unfolding chosen names_written alu_of load_imm_of
named_agrees word reg true branches is other =
    let e : sig_of word ≡ 14 = eqb-true _ _ is in
    units_agree word reg (no_branch word (ap (λ n. n == 15) e))
named_agrees word reg false true is other = branch_names word reg (is_a_branch word other)
named_agrees word reg false false is other = units_agree word reg (no_branch word other)

-- the TMU of an address, by the two tests
chosen_tmu : Bool → Bool → Option ℕ
chosen_tmu first second = if first then Some 0 else (if second then Some 1 else None)

tmu_given : (address : ℕ) → tmu_at address ≡ chosen_tmu (is_tmu_address 0 address) (is_tmu_address 1 address)
unfolding tmu_at is_tmu_address chosen_tmu
tmu_given address = grind (arith, nat_tests)

first_chosen : (a b c d : Bool) → first_given (chosen_tmu a b) (chosen_tmu c d)
    ≡ (if a then Some 0 else (if b then Some 1 else (if c then Some 0 else (if d then Some 1 else None))))
unfolding chosen_tmu
first_chosen true b c d = refl
first_chosen false true c d = refl
first_chosen false false true d = refl
first_chosen false false false true = refl
first_chosen false false false false = refl

units_write : (word : ℕ) → is_branch word ≡ false → first_given (tmu_at (waddr_add_of word)) (tmu_at (waddr_mul_of word)) ≡ first_tmu word
unfolding first_tmu add_writes_tmu mul_writes_tmu
units_write word apart =
    rw (tmu_given (waddr_add_of word), tmu_given (waddr_mul_of word), apart)
    (first_chosen (is_tmu_address 0 (waddr_add_of word)) (is_tmu_address 1 (waddr_add_of word)) (is_tmu_address 0 (waddr_mul_of word)) (is_tmu_address 1 (waddr_mul_of word)))

branch_writes : (word : ℕ) → is_branch word ≡ true → None ≡ first_tmu word
unfolding first_tmu add_writes_tmu mul_writes_tmu
branch_writes word is = rw is refl

tmu_agrees : (word : ℕ) → (loads branches : Bool) → (sig_of word == 14) ≡ loads → (sig_of word == 15) ≡ branches
    → tmu_written (chosen word loads branches) ≡ first_tmu word
unfolding chosen tmu_written alu_of load_imm_of
tmu_agrees word true branches is other =
    let e : sig_of word ≡ 14 = eqb-true _ _ is in
    units_write word (no_branch word (ap (λ n. n == 15) e))
tmu_agrees word false true is other = branch_writes word (is_a_branch word other)
tmu_agrees word false false is other = units_write word (no_branch word other)

pub report_agrees : TermsAgree
unfolding chosen inst_of
report_agrees word small = record {
  uniform = uniform_agrees word (sig_of word == 14) (sig_of word == 15) refl refl;
  named = λ reg. named_agrees word reg (sig_of word == 14) (sig_of word == 15) refl refl;
  tmu = tmu_agrees word (sig_of word == 14) (sig_of word == 15) refl refl;
}

pub sums_agree : TargetsAreSums
unfolding target_of imm_of
sums_agree word index target small1 small2 =
    elim (cases_Bool (nat_le (2 ^ 31) (imm_of word))) [
      | inl back ↦
          (let negative = leb-true (2 ^ 31) (imm_of word) back in
          let e : ◌≡◌ {A = ℕ} (if nat_le (2 ^ 31) (imm_of word) then 2 ^ 29 else 0) (2 ^ 29) = ap (λ b. if b then 2 ^ 29 else 0) back in
          ((λ same. omega (arith, e, negative, same)), (λ same. omega (arith, e, negative, same))))
      | inr on ↦
          (let positive = leb-false (2 ^ 31) (imm_of word) on in
          let e : ◌≡◌ {A = ℕ} (if nat_le (2 ^ 31) (imm_of word) then 2 ^ 29 else 0) 0 = ap (λ b. if b then 2 ^ 29 else 0) on in
          ((λ same. omega (arith, e, positive, same)), (λ same. omega (arith, e, positive, same))))
    ]
