-- Each word is the word of its fields.
use Rattle.std.proofs.Common.{◌≡◌, ℕ, ◌/◌, ◌%◌, ◌^◌, ◌<◌, refl, sym, ◌∙◌, ap, arith, Bool, true, false, ◌==◌, if◌then◌else◌, eqb-true}
use Rattle.std.proofs.{lemmas.Bool.Decides.nat_tests, Math.Nat.div-eq_of_lt}
use Rattle.qpu_isa.specs.Word.{sig_of, unpack_of, pm_of, pack_of, cond_add_of, cond_mul_of, sf_of, ws_of, waddr_add_of, waddr_mul_of, op_mul_of, op_add_of, raddr_a_of, raddr_b_of, add_a_of, add_b_of, mul_a_of, mul_b_of, mode_of, imm_of, spare_of, cond_of, relative_of, register_of, raddr_of}
use Rattle.qpu_isa.specs.Inst.{WordsReturn, alu_of, load_imm_of, branch_of, inst_of, word_of, alu_word, load_imm_word, branch_word, bit}
use Rattle.qpu_isa.specs.Fields.{width_of, values_of, fields_joined, alu_widths, load_imm_widths, branch_widths, alu_values, load_imm_values, branch_values}
use Rattle.qpu_isa.specs.{declared.inst.Alu.Alu, declared.inst.LoadImm.LoadImm, declared.inst.Branch.Branch}
use Rattle.qpu_isa.specs.declared.inst.Inst.TheVariants as kind
use Rattle.qpu_isa.proofs.Fields.{joined-values_of}

pub alu_word-joined : (alu : Alu) → alu_word alu ≡ fields_joined 0 alu_widths (alu_values alu)
unfolding alu_word fields_joined alu_values
alu_word-joined alu = omega arith

pub load_imm_word-joined : (load : LoadImm) → load_imm_word load ≡ fields_joined 14 load_imm_widths (load_imm_values load)
unfolding load_imm_word fields_joined load_imm_values
load_imm_word-joined load = omega arith

pub branch_word-joined : (branch : Branch) → branch_word branch ≡ fields_joined 15 branch_widths (branch_values branch)
unfolding branch_word fields_joined branch_values
branch_word-joined branch = omega arith

-- the bit of a flag that was a bit
pub bit-back : (n : ℕ) → bit (n % 2 == 1) ≡ n % 2
bit-back n = grind (arith, nat_tests)

pub alu_values-alu_of : (word : ℕ) → alu_values (alu_of word) ≡ values_of alu_widths word
unfolding alu_values alu_of values_of width_of sig_of unpack_of pm_of pack_of cond_add_of cond_mul_of sf_of ws_of waddr_add_of waddr_mul_of op_mul_of op_add_of raddr_a_of raddr_b_of add_a_of add_b_of mul_a_of mul_b_of
alu_values-alu_of word = rw (bit-back (word / 2 ^ 56), bit-back (word / 2 ^ 45), bit-back (word / 2 ^ 44)) refl

pub load_imm_values-load_imm_of : (word : ℕ) → load_imm_values (load_imm_of word) ≡ values_of load_imm_widths word
unfolding load_imm_values load_imm_of values_of width_of mode_of pm_of pack_of cond_add_of cond_mul_of sf_of ws_of waddr_add_of waddr_mul_of imm_of
load_imm_values-load_imm_of word = rw (bit-back (word / 2 ^ 56), bit-back (word / 2 ^ 45), bit-back (word / 2 ^ 44)) refl

pub branch_values-branch_of : (word : ℕ) → branch_values (branch_of word) ≡ values_of branch_widths word
unfolding branch_values branch_of values_of width_of spare_of cond_of relative_of register_of raddr_of ws_of waddr_add_of waddr_mul_of imm_of
branch_values-branch_of word = rw (bit-back (word / 2 ^ 51), bit-back (word / 2 ^ 50), bit-back (word / 2 ^ 44)) refl

pub alu_word-alu_of : (word : ℕ) → word < 2 ^ 64 → alu_word (alu_of word) ≡ word
unfolding width_of
alu_word-alu_of word small =
    alu_word-joined (alu_of word)
    ∙ (ap (fields_joined 0 alu_widths) (alu_values-alu_of word)
    ∙ (ap (λ n. fields_joined n alu_widths (values_of alu_widths word)) (sym (div-eq_of_lt small)) ∙ joined-values_of alu_widths word))

-- the signal is what stands above bit 60
pub above-sig : (word : ℕ) → word < 2 ^ 64 → word / 2 ^ 60 ≡ sig_of word
unfolding sig_of
above-sig word small = omega arith

pub load_imm_word-load_imm_of : (word : ℕ) → word < 2 ^ 64 → sig_of word ≡ 14 → load_imm_word (load_imm_of word) ≡ word
unfolding width_of
load_imm_word-load_imm_of word small is =
    load_imm_word-joined (load_imm_of word)
    ∙ (ap (fields_joined 14 load_imm_widths) (load_imm_values-load_imm_of word)
    ∙ (ap (λ n. fields_joined n load_imm_widths (values_of load_imm_widths word)) (sym (above-sig word small ∙ is)) ∙ joined-values_of load_imm_widths word))

pub branch_word-branch_of : (word : ℕ) → word < 2 ^ 64 → sig_of word ≡ 15 → branch_word (branch_of word) ≡ word
unfolding width_of
branch_word-branch_of word small is =
    branch_word-joined (branch_of word)
    ∙ (ap (fields_joined 15 branch_widths) (branch_values-branch_of word)
    ∙ (ap (λ n. fields_joined n branch_widths (values_of branch_widths word)) (sym (above-sig word small ∙ is)) ∙ joined-values_of branch_widths word))

by_signal : (word : ℕ) → word < 2 ^ 64 → (loads branches : Bool) → (sig_of word == 14) ≡ loads → (sig_of word == 15) ≡ branches
    → word_of (if loads then kind.LoadImm (load_imm_of word) else (if branches then kind.Branch (branch_of word) else kind.Alu (alu_of word))) ≡ word
by_signal word small true branches is other = load_imm_word-load_imm_of word small (eqb-true _ _ is)
by_signal word small false true is other = branch_word-branch_of word small (eqb-true _ _ other)
by_signal word small false false is other = alu_word-alu_of word small

pub each_returns : WordsReturn
unfolding inst_of
each_returns word small = by_signal word small (sig_of word == 14) (sig_of word == 15) refl refl
