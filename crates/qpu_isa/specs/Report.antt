-- What the calls tell of an instruction: whether it takes a uniform, which TMU it writes, which registers it names.
use Rattle.std.specs.Prelude.{ℕ, ◌+◌, ◌/◌, ◌^◌, ◌≡◌, ◌<◌, ◌==◌, ◌↔◌, Bool, false, not, ◌&&◌, ◌||◌, nat_lt, nat_le, if◌then◌else◌, Option, None, Some}
use Rattle.qpu_isa.specs.{declared.inst.Inst.Inst, Inst.inst_of, Word.imm_of, declared.inst.Reg.Reg}
use Rattle.qpu_isa.specs.Terms.{reads_uniform_of, names, first_tmu, target_of}
use Rattle.qpu_isa.specs.declared.inst.Reg.TheVariants.{A, B, Acc}
use Rattle.qpu_isa.specs.declared.inst.Inst.TheVariants as kind

-- An ALU instruction reads a uniform by address 32; with signal 13 the read of file B is a value.
unfoldable pub takes_uniform : Inst → Bool
takes_uniform (kind.Alu alu) = alu.raddr_a == 32 || (alu.raddr_b == 32 && not (alu.sig == 13))
takes_uniform (kind.LoadImm load) = false
takes_uniform (kind.Branch branch) = false

-- the TMU that a write address belongs to: 56 to 59 are those of TMU 0, 60 to 63 of TMU 1
unfoldable pub tmu_at : ℕ → Option ℕ
tmu_at address =
    if nat_lt address 56 then None else (if nat_lt address 60 then Some 0 else (if nat_lt address 64 then Some 1 else None))

-- the first that is there
abbrev pub first_given : Option ℕ → Option ℕ → Option ℕ
first_given None second = second
first_given (Some tmu) second = Some tmu

-- the add unit's TMU comes first; a branch writes none
unfoldable pub tmu_written : Inst → Option ℕ
tmu_written (kind.Alu alu) = first_given (tmu_at alu.waddr_add) (tmu_at alu.waddr_mul)
tmu_written (kind.LoadImm load) = first_given (tmu_at load.waddr_add) (tmu_at load.waddr_mul)
tmu_written (kind.Branch branch) = None

-- A write address on the A side or the B side names a register there; 32 to 35 are r0 to r3 on both.
unfoldable pub is_named : (on_a : Bool) → ℕ → Reg → Bool
is_named on_a address (A number) = on_a && address == number
is_named on_a address (B number) = not on_a && address == number
is_named on_a address (Acc number) = address == 32 + number

-- With ws clear the add unit writes the A side and the multiply unit the B side; ws exchanges them.
unfoldable pub names_written : Inst → Reg → Bool
names_written (kind.Alu alu) reg = is_named (not alu.ws) alu.waddr_add reg || is_named alu.ws alu.waddr_mul reg
names_written (kind.LoadImm load) reg = is_named (not load.ws) load.waddr_add reg || is_named load.ws load.waddr_mul reg
names_written (kind.Branch branch) reg = false

-- the register exists
abbrev pub IsRegister : Reg → Type 0
IsRegister (A number) = number < 32
IsRegister (B number) = number < 32
IsRegister (Acc number) = number < 4

-- Of a word's instruction they tell what the terms on words say.
pub record TellsTerms (word : ℕ) : Type 0 where
  pub uniform : takes_uniform (inst_of word) ≡ reads_uniform_of word
  pub named : (reg : Reg) → names_written (inst_of word) reg ≡ names word reg
  pub tmu : tmu_written (inst_of word) ≡ first_tmu word

abbrev pub TermsAgree : Type 0
TermsAgree = (word : ℕ) → word < 2 ^ 64 → TellsTerms word

-- A branch's target is the signed sum: the index, four and the immediate's eighth, less 2 ^ 29 where the immediate is negative.
abbrev pub TargetsAreSums : Type 0
TargetsAreSums = (word index target : ℕ) → index < 2 ^ 27 → target < 2 ^ 27
    → (target_of word index ≡ target) ↔ (target + (if nat_le (2 ^ 31) (imm_of word) then 2 ^ 29 else 0) ≡ index + 4 + imm_of word / 8)
