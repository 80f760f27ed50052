-- What the rules on shaders and the machine say of one instruction, each a test or a number of its word.
use Rattle.std.specs.Prelude.{ℕ, ◌+◌, ◌*◌, ◌/◌, ◌%◌, ◌^◌, ◌==◌, Bool, true, false, not, ◌&&◌, ◌||◌, nat_lt, nat_le, if◌then◌else◌, Option, None, Some}
use Rattle.qpu_isa.specs.Word.{sig_of, unpack_of, pm_of, pack_of, cond_add_of, cond_mul_of, ws_of, waddr_add_of, waddr_mul_of, op_add_of, raddr_a_of, raddr_b_of, add_a_of, add_b_of, mode_of, imm_of}
use Rattle.qpu_isa.specs.declared.inst.Reg.{Reg}
use Rattle.qpu_isa.specs.declared.inst.Reg.TheVariants.{A, B, Acc}

-- the kinds of instructions by their signals
unfoldable pub is_alu : ℕ → Bool
is_alu word = nat_lt (sig_of word) 14

unfoldable pub is_load_imm : ℕ → Bool
is_load_imm word = sig_of word == 14

unfoldable pub is_branch : ℕ → Bool
is_branch word = sig_of word == 15

unfoldable pub is_switch : ℕ → Bool
is_switch word = sig_of word == 2 || sig_of word == 6

unfoldable pub is_end : ℕ → Bool
is_end word = sig_of word == 3

-- with signal 13 the read of file B is a value
unfoldable pub has_small : ℕ → Bool
has_small word = sig_of word == 13

-- Write addresses. A branch is no instruction of the two units, and names nothing.
-- ws clear: the add unit writes the A side and the multiply unit the B side; ws set: the other way round
unfoldable pub add_names : ℕ → ℕ → Bool
add_names word address = not (is_branch word) && waddr_add_of word == address

unfoldable pub mul_names : ℕ → ℕ → Bool
mul_names word address = not (is_branch word) && waddr_mul_of word == address

-- either unit names the write address
unfoldable pub names_address : ℕ → ℕ → Bool
names_address word address = add_names word address || mul_names word address

unfoldable pub names_on_a : ℕ → ℕ → Bool
names_on_a word address = if ws_of word then mul_names word address else add_names word address

unfoldable pub names_on_b : ℕ → ℕ → Bool
names_on_b word address = if ws_of word then add_names word address else mul_names word address

-- 40 is the uniforms' address, absolute on the A side; on the B side it is relative
unfoldable pub is_address_write : ℕ → Bool
is_address_write word = names_on_a word 40

unfoldable pub is_relative_address_write : ℕ → Bool
is_relative_address_write word = names_on_b word 40

-- a unit names the register as written, whatever its condition and operation
unfoldable pub add_names_reg : ℕ → Reg → Bool
add_names_reg word (A number) = not (ws_of word) && add_names word number
add_names_reg word (B number) = ws_of word && add_names word number
add_names_reg word (Acc number) = add_names word (32 + number)

unfoldable pub mul_names_reg : ℕ → Reg → Bool
mul_names_reg word (A number) = ws_of word && mul_names word number
mul_names_reg word (B number) = not (ws_of word) && mul_names word number
mul_names_reg word (Acc number) = mul_names word (32 + number)

unfoldable pub names : ℕ → Reg → Bool
names word reg = add_names_reg word reg || mul_names_reg word reg

unfoldable pub is_accumulator : Reg → Bool
is_accumulator (A number) = false
is_accumulator (B number) = false
is_accumulator (Acc number) = true

-- 36, 38, 47, 50 and 51 are nobody's to write: no-swap, host interrupt, alpha mask, VPM address, mutex
unfoldable pub names_forbidden : ℕ → Bool
names_forbidden word = (names_address word 36 || names_address word 38) || (names_address word 47 || (names_address word 50 || names_address word 51))

-- Uniforms: read by address 32, where the read of file B is no value.
unfoldable pub reads_uniform_of : ℕ → Bool
reads_uniform_of word = is_alu word && (raddr_a_of word == 32 || (raddr_b_of word == 32 && not (has_small word)))

-- TMU writes: 56 to 59 are S, T, R, B of TMU 0, 60 to 63 those of TMU 1.
unfoldable pub is_tmu_address : ℕ → ℕ → Bool
is_tmu_address tmu address = nat_le (56 + 4 * tmu) address && nat_lt address (60 + 4 * tmu)

unfoldable pub s_address : ℕ → ℕ
s_address tmu = 56 + 4 * tmu

-- the unit writes that TMU
unfoldable pub add_writes_tmu : ℕ → ℕ → Bool
add_writes_tmu word tmu = not (is_branch word) && is_tmu_address tmu (waddr_add_of word)

unfoldable pub mul_writes_tmu : ℕ → ℕ → Bool
mul_writes_tmu word tmu = not (is_branch word) && is_tmu_address tmu (waddr_mul_of word)

unfoldable pub writes_tmu : ℕ → ℕ → Bool
writes_tmu word tmu = add_writes_tmu word tmu || mul_writes_tmu word tmu

-- the TMU that the add unit writes, or else the one that the multiply unit writes
unfoldable pub first_tmu : ℕ → Option ℕ
first_tmu word =
    if add_writes_tmu word 0 then Some 0
    else (if add_writes_tmu word 1 then Some 1
    else (if mul_writes_tmu word 0 then Some 0 else (if mul_writes_tmu word 1 then Some 1 else None)))

-- how many of the two units write that TMU
unfoldable pub tmu_writes : ℕ → ℕ → ℕ
tmu_writes word tmu = (if add_writes_tmu word tmu then 1 else 0) + (if mul_writes_tmu word tmu then 1 else 0)

-- a unit writes that TMU's S
unfoldable pub writes_s : ℕ → ℕ → Bool
writes_s word tmu = names_address word (s_address tmu)

-- signals 10 and 11 load a result of TMU 0 and 1
unfoldable pub loads : ℕ → ℕ → Bool
loads word tmu = sig_of word == 10 + tmu

-- the unit writes either TMU
unfoldable pub add_is_tmu : ℕ → Bool
add_is_tmu word = not (is_branch word) && nat_le 56 (waddr_add_of word)

unfoldable pub mul_is_tmu : ℕ → Bool
mul_is_tmu word = not (is_branch word) && nat_le 56 (waddr_mul_of word)

unfoldable pub has_two_tmu_writes : ℕ → Bool
has_two_tmu_writes word = add_is_tmu word && mul_is_tmu word

-- a TMU write whose unit's condition isn't "always"
unfoldable pub has_conditional_tmu_write : ℕ → Bool
has_conditional_tmu_write word = (add_is_tmu word && not (cond_add_of word == 1)) || (mul_is_tmu word && not (cond_mul_of word == 1))

-- Packing, where pack isn't 0: with pm and ws clear the add unit's result is packed, with either set the multiply unit's.
unfoldable pub is_add_packed : ℕ → Bool
is_add_packed word = not (pack_of word == 0) && (not (pm_of word) && not (ws_of word))

unfoldable pub is_mul_packed : ℕ → Bool
is_mul_packed word = not (pack_of word == 0) && (pm_of word || ws_of word)

-- Operands by their selector: 0 to 3 are r0 to r3, 6 is the read of file A, 7 the read of file B.
-- plain: not unpacked on its way
unfoldable pub is_plain : ℕ → ℕ → Bool
is_plain word selector = (unpack_of word == 0) || (if pm_of word then not (selector == 4) else not (selector == 6))

unfoldable pub is_uniform_operand : ℕ → ℕ → Bool
is_uniform_operand word selector =
    is_plain word selector && ((selector == 6 && raddr_a_of word == 32) || (selector == 7 && (raddr_b_of word == 32 && not (has_small word))))

-- the register that the operand is, where it is plain and a register that a unit can write
unfoldable pub operand_register : ℕ → ℕ → Option Reg
operand_register word selector =
    if not (is_plain word selector) then None
    else (if nat_lt selector 4 then Some (Acc selector)
    else (if selector == 6 && nat_lt (raddr_a_of word) 32 then Some (A (raddr_a_of word))
    else (if selector == 7 && (nat_lt (raddr_b_of word) 32 && not (has_small word)) then Some (B (raddr_b_of word)) else None)))

-- the register that the add unit's first operand is
unfoldable pub first_register : ℕ → Option Reg
first_register word = operand_register word (add_a_of word)

-- it is a register, and passes the test
abbrev pub passes : Option Reg → (Reg → Bool) → Bool
passes None test = false
passes (Some reg) test = test reg

-- The upper halves of the files, registers 16 to 31, which two threads can't share.
unfoldable pub is_upper : ℕ → Bool
is_upper address = nat_le 16 address && nat_lt address 32

unfoldable pub reads_upper : ℕ → Bool
reads_upper word = is_alu word && (is_upper (raddr_a_of word) || (is_upper (raddr_b_of word) && not (has_small word)))

unfoldable pub names_upper : ℕ → Bool
names_upper word = not (is_branch word) && (is_upper (waddr_add_of word) || is_upper (waddr_mul_of word))

-- Facts on a register: only the add unit names it, always, and the result isn't packed.
unfoldable pub sets_alone : ℕ → Reg → Bool
sets_alone word reg =
    (add_names_reg word reg && not (mul_names_reg word reg)) && (cond_add_of word == 1 && not (is_add_packed word))

-- the value that a load puts into each element
unfoldable pub loaded_value : ℕ → Option ℕ
loaded_value word = if is_load_imm word && mode_of word == 0 then Some (imm_of word) else None

-- `max` with the small immediate 0
unfoldable pub is_max_with_zero : ℕ → Bool
is_max_with_zero word = (has_small word && op_add_of word == 19) && (raddr_b_of word == 0 && (add_a_of word == 7 || add_b_of word == 7))

-- `min` of the first operand and a uniform
unfoldable pub is_min_with_uniform : ℕ → Bool
is_min_with_uniform word = (is_alu word && op_add_of word == 18) && is_uniform_operand word (add_b_of word)

-- `add` of the first operand and a uniform
unfoldable pub is_add_with_uniform : ℕ → Bool
is_add_with_uniform word = (is_alu word && op_add_of word == 12) && is_uniform_operand word (add_b_of word)

-- Branches. The immediate counts bytes and is signed. A branch at an index leads to the fourth after it and the immediate's
-- eighth further: the sum modulo 2 ^ 29, an eighth of 2 ^ 32. So a target before the first instruction is a number of
-- 2 ^ 28 or more, where no shader reaches.
unfoldable pub target_of : ℕ → ℕ → ℕ
target_of word index = (index + 4 + imm_of word / 8) % 2 ^ 29

-- the immediate is negative as a signed number
unfoldable pub is_backward : ℕ → Bool
is_backward word = is_branch word && nat_le (2 ^ 31) (imm_of word)
