-- What is known of a thread's registers.
use Rattle.std.specs.Prelude.{◌≡◌, ◌≤◌, ◌<◌, ℕ, ◌^◌, true, false, length, Some, slice_index, slice_index_or, List, []}
use Rattle.qpu_isa.specs.{declared.inst.Reg.Reg, Terms.is_accumulator, Terms.loaded_value, Terms.is_max_with_zero, Report.IsRegister}
use Rattle.qpu_isa.specs.declared.inst.Reg.TheVariants.{A, B, Acc}
use Rattle.shader_flow.specs.Flow.{word}
use Rattle.clamp_facts.specs.Facts.{sets, stays, makes_clamp}
use Rattle.qpu_machine.specs.declared.state.Thread.{Thread}
use Rattle.qpu_law.specs.{Home.Home, Stream.uniform_at}

-- the row of 16 that a register holds
abbrev pub row_of : Thread → Reg → List ℕ
row_of t (A number) = slice_index_or t.a number []
row_of t (B number) = slice_index_or t.b number []
row_of t (Acc number) = slice_index_or t.acc number []

-- 32 registers in each file, and r0 to r5
pub record HasRows (t : Thread) : Type 0 where
  pub a : length t.a ≡ 32
  pub b : length t.b ≡ 32
  pub acc : length t.acc ≡ 6

-- What stands in the register at n was made by the instruction at j, whether or not it can be read yet.
pub record IsMade (code : List ℕ) (j n : ℕ) (reg : Reg) : Type 0 where
  pub before : j < n
  pub set_there : sets code j reg ≡ true
  pub still : stays code j n reg ≡ true

-- what the instruction at j says of the value that it made
pub record Tells (h : Home) (j value : ℕ) : Type 0 where
  pub loaded : (v : ℕ) → loaded_value (word h.code j) ≡ Some v → value ≡ v
  pub not_negative : is_max_with_zero (word h.code j) ≡ true → value < 2 ^ 31
  pub clamped : makes_clamp h.code j ≡ true → value ≤ uniform_at h j

-- Each such fact is true of all elements, and where an accumulator has one, its thread isn't fresh.
pub record FactsHold (h : Home) (n : ℕ) (t : Thread) : Type 0 where
  pub report : (j : ℕ) (reg : Reg) → IsRegister reg → IsMade h.code j n reg → (e : ℕ) → e < 16 → Tells h j (slice_index (row_of t reg) e)
  pub kept : (j : ℕ) (reg : Reg) → IsRegister reg → IsMade h.code j n reg → is_accumulator reg ≡ true → t.fresh ≡ false
