-- What safety refuses of an instruction: each case that the hardware leaves undefined, and a uniform outside what its job may reach.
use Rattle.std.specs.{Prelude.◌≡◌, Prelude.◌≢◌, Prelude.◌≤◌, Prelude.◌⊎◌, Prelude.ℕ, Prelude.true, Prelude.false, Prelude.List, Prelude.length, Int.from_le_bytes, Int.w64}
use Rattle.qpu_isa.specs.Terms.{is_branch, is_switch, is_load_imm, names_address, names_on_b, is_address_write, add_is_tmu, mul_is_tmu, writes_tmu, reads_upper, names_upper}
use Rattle.qpu_isa.specs.Word.{sig_of, mode_of, relative_of, register_of, cond_add_of, cond_mul_of}
use Rattle.qpu_machine.specs.{declared.state.Thread.Thread, Wild.takes_one}
use Rattle.machine_plan.specs.{Memory.bytes_at, Regions.Rights, World.Safe}
use Rattle.machine.specs.{State.Units, Step.ready, Step.turn}
use Rattle.job_safety.specs.Strength.{IsPast, IsActive}

-- Processor k may step, and its active thread is to execute this instruction.
pub record IsAtInstruction (m : List ℕ) (u : Units) (k : ℕ) (thread : Thread) (word : ℕ) : Type 0 where
  pub at : IsActive m u k thread
  pub word_is : from_le_bytes w64 (bytes_at m thread.place 8) ≡ word

-- Whatever the memory, the state of the units and the rights, the machine isn't safe where such an instruction is next.
abbrev pub IsRefused : (Thread → ℕ → Type 0) → Type 0
IsRefused Undefined =
    (jobs : List Rights) (m : List ℕ) (u : Units) (k : ℕ) (thread : Thread) (word : ℕ) → IsAtInstruction m u k thread word
    → Undefined thread word
    → Safe ready turn jobs m u → ⊥

-- the signal of a breakpoint, of a coverage load, of a colour load with an end, or of an alpha mask load
abbrev pub HasUndefinedSignal : Thread → ℕ → Type 0
HasUndefinedSignal thread word = (sig_of word ≡ 0) ⊎ ((sig_of word ≡ 7) ⊎ ((sig_of word ≡ 9) ⊎ (sig_of word ≡ 12)))

-- a load immediate of a mode that isn't 0, 1 or 3
pub record HasUndefinedMode (thread : Thread) (word : ℕ) : Type 0 where
  pub loads : is_load_imm word ≡ true
  pub not_plain : mode_of word ≢ 0
  pub not_signed : mode_of word ≢ 1
  pub not_unsigned : mode_of word ≢ 3

-- 36, 38, 47, 50 and 51 are nobody's to write
abbrev pub IsNobodys : ℕ → Type 0
IsNobodys address = (address ≡ 36) ⊎ ((address ≡ 38) ⊎ ((address ≡ 47) ⊎ ((address ≡ 50) ⊎ (address ≡ 51))))

-- one of the two units writes there, or to 40 on the B side
pub record WritesNobodys (thread : Thread) (word : ℕ) : Type 0 where
  pub address : ℕ
  pub nobodys : IsNobodys address
  pub named : names_address word address ≡ true

abbrev pub WritesUndefined : Thread → ℕ → Type 0
WritesUndefined thread word = WritesNobodys thread word ⊎ (names_on_b word 40 ≡ true)

-- both units write to a texture unit
abbrev pub WritesTwoRequests : Thread → ℕ → Type 0
WritesTwoRequests thread word = (add_is_tmu word ≡ true) × (mul_is_tmu word ≡ true)

-- a unit writes to a texture unit under a condition
abbrev pub WritesUnderCondition : Thread → ℕ → Type 0
WritesUnderCondition thread word = ((add_is_tmu word ≡ true) × (cond_add_of word ≢ 1)) ⊎ ((mul_is_tmu word ≡ true) × (cond_mul_of word ≢ 1))

-- it writes to a texture unit for which the thread keeps four set-up words already
abbrev pub WritesFifthSetup : Thread → ℕ → Type 0
WritesFifthSetup thread word =
    ((writes_tmu word 0 ≡ true) × (4 ≤ length thread.setups0.items)) ⊎ ((writes_tmu word 1 ≡ true) × (4 ≤ length thread.setups1.items))

-- it is one of the three instructions after a branch
abbrev pub IsInSlots : Thread → Type 0
IsInSlots thread = (is_branch thread.last1.word ≡ true) ⊎ ((is_branch thread.last2.word ≡ true) ⊎ (is_branch thread.last3.word ≡ true))

-- it is one of the two instructions after a switch of threads
abbrev pub IsAfterSwitch : Thread → Type 0
IsAfterSwitch thread = (is_switch thread.last1.word ≡ true) ⊎ (is_switch thread.last2.word ≡ true)

-- a branch by a register, or to a place that isn't relative
abbrev pub BranchesAnywhere : Thread → ℕ → Type 0
BranchesAnywhere thread word = (is_branch word ≡ true) × ((register_of word ≡ true) ⊎ (relative_of word ≡ false))

-- a branch where another one, or a switch, has yet to act
abbrev pub BranchesEarly : Thread → ℕ → Type 0
BranchesEarly thread word = (is_branch word ≡ true) × (IsInSlots thread ⊎ IsAfterSwitch thread)

-- a switch there
abbrev pub SwitchesEarly : Thread → ℕ → Type 0
SwitchesEarly thread word = (is_switch word ≡ true) × (IsInSlots thread ⊎ IsAfterSwitch thread)

-- a switch in a program that isn't threaded
abbrev pub SwitchesAlone : Thread → ℕ → Type 0
SwitchesAlone thread word = (is_switch word ≡ true) × (thread.threaded ≡ false)

-- a threaded program reads or writes one of the registers 16 to 31 of a file
abbrev pub UsesUpper : Thread → ℕ → Type 0
UsesUpper thread word = (thread.threaded ≡ true) × ((reads_upper word ≡ true) ⊎ (names_upper word ≡ true))

-- it takes a uniform, and one of the two instructions before it wrote the uniforms' address
abbrev pub TakesEarly : Thread → ℕ → Type 0
TakesEarly thread word =
    (takes_one thread word ≡ true) × ((is_address_write thread.last1.word ≡ true) ⊎ (is_address_write thread.last2.word ≡ true))

-- A uniform outside: the instruction takes one, and the word at the thread's uniform pointer doesn't lie in the job's region.
abbrev pub UniformsPastAreUnsafe : Type 0
UniformsPastAreUnsafe =
    (jobs : List Rights) (m : List ℕ) (u : Units) (k : ℕ) (thread : Thread) (word : ℕ) → IsAtInstruction m u k thread word
    → takes_one thread word ≡ true → IsPast jobs thread.job thread.uniforms 4
    → Safe ready turn jobs m u → ⊥
