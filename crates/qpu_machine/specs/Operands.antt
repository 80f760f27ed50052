-- What the two units compute with, and what they come to.
use Rattle.std.specs.Prelude.{ℕ, ◌+◌, ◌-◌, ◌%◌, ◌^◌, ◌==◌, ◌||◌, ◌&&◌, not, Bool, nat_lt, nat_le, if◌then◌else◌, List, [], slice_index, slice_index_or, unwrap_or}
use Rattle.qpu_isa.specs.Word.{raddr_a_of, raddr_b_of, add_a_of, add_b_of, mul_a_of, mul_b_of, op_add_of, op_mul_of, mode_of, imm_of}
use Rattle.qpu_isa.specs.{declared.inst.Reg.TheVariants.A, declared.inst.Reg.TheVariants.B, Terms.is_plain, Terms.has_small, Terms.is_load_imm, Terms.is_add_packed, Terms.is_mul_packed, Terms.names}
use Rattle.qpu_alu.specs.Operation.{add_result_of, mul_result_of}
use Rattle.machine_plan.specs.Choice.{word_at}
use Rattle.qpu_machine.specs.{State.Thread, Row.lanes, Row.row_of_word, Row.chosen_row}

-- The read of file A: a register, unless the thread's instruction directly before named it; the
-- uniform by address 32; zeros by 39. Else it is free, and so where it is unpacked on its way.
unfoldable pub read_a : Thread → ℕ → ℕ → List ℕ → List ℕ
read_a t word uniform words =
    let address = raddr_a_of word in
    if not (is_plain word 6) then chosen_row words 33
    else (if address == 32 then row_of_word uniform
    else (if address == 39 then row_of_word 0
    else (if nat_lt address 32 && not (names t.last1.word (A address)) then slice_index_or t.a address []
    else chosen_row words 33)))

-- a small immediate is 0 to 15, or -16 to -1 as a word; those above 31 are free
unfoldable pub small_row : ℕ → List ℕ → List ℕ
small_row value words =
    if nat_lt value 16 then row_of_word value else (if nat_lt value 32 then row_of_word (2 ^ 32 - 32 + value) else chosen_row words 49)

-- the read of file B, likewise; with signal 13 it is a small immediate
unfoldable pub read_b : Thread → ℕ → ℕ → List ℕ → List ℕ
read_b t word uniform words =
    let address = raddr_b_of word in
    if has_small word then small_row address words
    else (if address == 32 then row_of_word uniform
    else (if address == 39 then row_of_word 0
    else (if nat_lt address 32 && not (names t.last1.word (B address)) then slice_index_or t.b address []
    else chosen_row words 49)))

-- An operand by its selector: 6 and 7 are the reads of the files, 0 to 5 are r0 to r5. r4 is free
-- where it is unpacked on its way.
unfoldable pub operand : Thread → ℕ → ℕ → ℕ → List ℕ → List ℕ
operand t word selector uniform words =
    if selector == 6 then read_a t word uniform words
    else (if selector == 7 then read_b t word uniform words
    else (if is_plain word selector then slice_index_or t.acc selector [] else chosen_row words 65))

-- the value of a load immediate; in modes 1 and 3 each element is free
unfoldable pub immediate_row : ℕ → List ℕ → ℕ → List ℕ
immediate_row word words from = if mode_of word == 0 then row_of_word (imm_of word) else chosen_row words from

-- The add unit's results by element, of words below 2^32. Where the operation's result is free it is
-- a choice word, and a packed result is free whatever the operation.
unfoldable pub sums : ℕ → List ℕ → List ℕ → List ℕ → List ℕ
sums op x y words = lanes (λ e. unwrap_or (add_result_of op (slice_index x e % 2 ^ 32) (slice_index y e % 2 ^ 32)) (word_at words (1 + e)))

unfoldable pub add_row : Thread → ℕ → ℕ → List ℕ → List ℕ
add_row t word uniform words =
    if is_add_packed word then chosen_row words 1
    else (if is_load_imm word then immediate_row word words 1
    else sums (op_add_of word) (operand t word (add_a_of word) uniform words) (operand t word (add_b_of word) uniform words) words)

-- small immediates from 48 on rotate the multiply unit's result
unfoldable pub is_rotated : ℕ → Bool
is_rotated word = has_small word && nat_le 48 (raddr_b_of word)

-- the multiply unit's results, likewise; a rotated one is free too
unfoldable pub products : ℕ → List ℕ → List ℕ → List ℕ → List ℕ
products op x y words = lanes (λ e. unwrap_or (mul_result_of op (slice_index x e % 2 ^ 32) (slice_index y e % 2 ^ 32)) (word_at words (17 + e)))

unfoldable pub mul_row : Thread → ℕ → ℕ → List ℕ → List ℕ
mul_row t word uniform words =
    if is_mul_packed word || is_rotated word then chosen_row words 17
    else (if is_load_imm word then immediate_row word words 17
    else products (op_mul_of word) (operand t word (mul_a_of word) uniform words) (operand t word (mul_b_of word) uniform words) words)
