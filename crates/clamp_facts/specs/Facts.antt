-- What is known of a register's value, from an instruction that set it before.
use Rattle.std.specs.Prelude.{ℕ, ◌+◌, ◌==◌, Bool, true, false, not, ◌&&◌, List, nat_lt, nat_le, if◌then◌else◌, Option, None, Some}
use Rattle.qpu_isa.specs.Terms.{names, sets_alone, is_accumulator, is_switch, first_register, passes, loaded_value, is_max_with_zero, is_min_with_uniform}
use Rattle.qpu_isa.specs.declared.inst.Reg.{Reg}
use Rattle.shader_flow.specs.{Bounded.some_below, Bounded.some_in, Bounded.last_below, Flow.word, Flow.checked_of, Flow.is_target, Pending.count_of}
use Rattle.clamp_facts.specs.declared.fact.Fact.TheVariants.{Nothing, Immediate, NotNegative, Clamped}
use Rattle.clamp_facts.specs.{declared.fact.Fact.Fact, Readings.is_value, Readings.has_bound}

-- a checked instruction at j sets the whole register, by its add unit alone
unfoldable pub sets : List ℕ → ℕ → Reg → Bool
sets code j reg = nat_lt j (checked_of code) && sets_alone (word code j) reg

-- A switch acts after two further instructions. One acts after the instruction at j, and before the one at i.
unfoldable pub switches_between : List ℕ → ℕ → ℕ → Bool
switches_between code j i = some_below i (λ s. is_switch (word code s) && (nat_le j (s + 2) && nat_le (s + 3) i))

-- What the instruction at j set still stands in the register at i: nothing between names the register, execution comes from
-- nowhere else, and no other thread had an accumulator, which both threads use.
unfoldable pub stays : List ℕ → ℕ → ℕ → Reg → Bool
stays code j i reg =
    not (some_in (j + 1) i (λ k. names (word code k) reg))
    && (not (some_in (j + 1) (i + 1) (is_target code)) && not (is_accumulator reg && switches_between code j i))

-- the instruction that made what stands in the register at i; there is at most one
unfoldable pub maker_of : List ℕ → ℕ → Reg → Option ℕ
maker_of code i reg = last_below i (λ j. sets code j reg && stays code j i reg)

-- a file register can't be read yet in the instruction after its write
unfoldable pub is_delayed : ℕ → ℕ → Reg → Bool
is_delayed j i reg = not (is_accumulator reg) && i == j + 1

-- the instruction at j made what is read from the register at i
unfoldable pub carries : List ℕ → ℕ → ℕ → Reg → Bool
carries code j i reg = (sets code j reg && stays code j i reg) && not (is_delayed j i reg)

abbrev pub if_readable : ℕ → Reg → Option ℕ → Option ℕ
if_readable i reg None = None
if_readable i reg (Some j) = if is_delayed j i reg then None else Some j

-- the instruction that carries
unfoldable pub carrier_of : List ℕ → ℕ → Reg → Option ℕ
carrier_of code i reg = if_readable i reg (maker_of code i reg)

-- the register isn't negative as a signed number, since it is the greater of some number and 0
abbrev pub is_max_at : List ℕ → Option ℕ → Bool
is_max_at code None = false
is_max_at code (Some j) = is_max_with_zero (word code j)

unfoldable pub is_not_negative : List ℕ → ℕ → Reg → Bool
is_not_negative code i reg = is_max_at code (carrier_of code i reg)

-- the instruction at j is the lesser of a register that isn't negative and a uniform
unfoldable pub makes_clamp : List ℕ → ℕ → Bool
makes_clamp code j = is_min_with_uniform (word code j) && passes (first_register (word code j)) (is_not_negative code j)

-- The fact that an instruction makes on the register that it sets: a loaded value, a `max` with 0, or a clamp. No instruction
-- is two of these.
abbrev pub fact_made : (loaded : Option ℕ) → (max clamp : Bool) → (k at : ℕ) → Fact
fact_made (Some value) max clamp k at = Immediate value
fact_made None true clamp k at = NotNegative
fact_made None false true k at = Clamped k at
fact_made None false false k at = Nothing

unfoldable pub fact_of_write : List ℕ → ℕ → Fact
fact_of_write code j = fact_made (loaded_value (word code j)) (is_max_with_zero (word code j)) (makes_clamp code j) (count_of code j) j

abbrev pub fact_by : List ℕ → Option ℕ → Fact
fact_by code None = Nothing
fact_by code (Some j) = fact_of_write code j

-- What is known of the register at i. The facts that the rules ask for are readings of it.
unfoldable pub fact_at : List ℕ → ℕ → Reg → Fact
fact_at code i reg = fact_by code (carrier_of code i reg)

-- the register holds that value
unfoldable pub is_immediate : List ℕ → ℕ → Reg → ℕ → Bool
is_immediate code i reg value = is_value (fact_at code i reg) value

-- a clamp holds for the register
unfoldable pub is_clamped : List ℕ → ℕ → Reg → Bool
is_clamped code i reg = has_bound (fact_at code i reg)

-- the register at i holds what the clamp at j made: a number from 0 up to a uniform
unfoldable pub clamps : List ℕ → ℕ → ℕ → Reg → Bool
clamps code j i reg = nat_lt j i && (carries code j i reg && makes_clamp code j)
