-- How the walk keeps the table, and how the searches look back. No part of what the crate claims.
use Rattle.std.specs.Prelude.{◌≡◌, ◌≤◌, ◌<◌, ℕ, ◌-◌, Bool, true, false, not, List, length, nat_lt, if◌then◌else◌, Option, None, Some}
use Rattle.field_words.specs.Sizes.{most_words}
use Rattle.qpu_isa.specs.{declared.inst.Reg.Reg, Word.ws_of, Word.waddr_add_of, Word.waddr_mul_of, Report.IsRegister, Terms.is_branch, Terms.names, Terms.add_names_reg}
use Rattle.qpu_isa.specs.declared.inst.Reg.TheVariants.{A, B, Acc}
use Rattle.shader_flow.specs.{Flow.word, Pending.count_of}
use Rattle.clamp_facts.specs.{declared.fact.Fact.TheVariants.Nothing, declared.fact.Entry.Entry}
use Rattle.clamp_facts.specs.{Facts.sets, Facts.maker_of, Facts.fact_of_write, Facts.carries, Table.Table, Table.entry_of}

-- an entry for what an instruction made, or for what none made
abbrev pub Keeps : List ℕ → Option ℕ → Entry → Type 0
Keeps code None entry = entry.fact ≡ Nothing
Keeps code (Some j) entry = (entry.fact ≡ fact_of_write code j) × (entry.place ≡ j)

-- the table has an entry for each register, by whom made what stands in it, in a shader of at most 8,192 words
pub record IsTableOf (code : List ℕ) (makers : Reg → Option ℕ) (table : Table) : Type 0 where
  pub few : length code ≤ most_words
  pub a_size : length table.a ≡ 32
  pub b_size : length table.b ≡ 32
  pub acc_size : length table.acc ≡ 4
  pub each : (reg : Reg) → IsRegister reg → Keeps code (makers reg) (entry_of table reg)

-- what is known at an instruction: the uniforms taken before it, and the table kept up to it
pub record IsKnownAt (code : List ℕ) (at count : ℕ) (table : Table) : Type 0 where
  pub inside : at < length code
  pub taken : count ≡ count_of code at
  pub kept : IsTableOf code (maker_of code at) table

-- the register that a write address names on a side
unfoldable pub register_at : (on_a : Bool) → ℕ → Option Reg
register_at on_a address =
    if nat_lt address 32 then Some (if on_a then A address else B address)
    else (if nat_lt address 36 then Some (Acc (address - 32)) else None)

unfoldable pub add_register : ℕ → Option Reg
add_register word = if is_branch word then None else register_at (not (ws_of word)) (waddr_add_of word)

unfoldable pub mul_register : ℕ → Option Reg
mul_register word = if is_branch word then None else register_at (ws_of word) (waddr_mul_of word)

-- the instruction at `at`, where it sets the register
abbrev pub setter : List ℕ → ℕ → Reg → Option ℕ
setter code at reg = if sets code at reg then Some at else None

-- who made what stands in the register after the add unit's write, and after both
unfoldable pub maker_added : List ℕ → ℕ → Reg → Option ℕ
maker_added code at reg = if add_names_reg (word code at) reg then setter code at reg else maker_of code at reg

unfoldable pub maker_written : List ℕ → ℕ → Reg → Option ℕ
maker_written code at reg = if names (word code at) reg then setter code at reg else maker_of code at reg

-- the instruction at j is the last before i that names the register
pub record IsLastNaming (code : List ℕ) (j i : ℕ) (reg : Reg) : Type 0 where
  pub below : j < i
  pub named : names (word code j) reg ≡ true
  pub after : (k : ℕ) → j < k → k < i → names (word code k) reg ≡ false

-- the instruction at j made what is read from the register at i
pub record IsCarrier (code : List ℕ) (j i : ℕ) (reg : Reg) : Type 0 where
  pub below : j < i
  pub carried : carries code j i reg ≡ true
