-- What the strict rules ask of one instruction.
use Rattle.std.specs.Prelude.{ℕ, ◌+◌, ◌==◌, Bool, not, ◌&&◌, ◌||◌, nat_lt, if◌then◌else◌}
use Rattle.qpu_isa.specs.Word.{sig_of, waddr_add_of, waddr_mul_of, raddr_a_of, raddr_b_of}
use Rattle.qpu_isa.specs.Terms.{is_alu, is_branch, has_small, names_address}

-- an ALU instruction has this read address, whether an operand uses it or not; with signal 13 the read of file B is a value
unfoldable pub reads_address : ℕ → ℕ → Bool
reads_address word address = is_alu word && (raddr_a_of word == address || (raddr_b_of word == address && not (has_small word)))

-- 48 to 50 are the VPM, the memory of vertices, for reads and for writes
unfoldable pub uses_vpm : ℕ → Bool
uses_vpm word =
    ((reads_address word 48 || names_address word 48) || (reads_address word 49 || names_address word 49))
    || (reads_address word 50 || names_address word 50)

-- Coupled accesses, of which an instruction may make one: write addresses 44 to 47 (tile buffer), 52 to 55 (special functions)
-- and 56 to 63 (TMU), by each unit; signals 8 (colour), 10 and 11 (TMU results); and a read of 51 (the mutex).
unfoldable pub is_coupled : ℕ → Bool
is_coupled address = (nat_lt 43 address && nat_lt address 48) || nat_lt 51 address

unfoldable pub add_couples : ℕ → Bool
add_couples word = not (is_branch word) && is_coupled (waddr_add_of word)

unfoldable pub mul_couples : ℕ → Bool
mul_couples word = not (is_branch word) && is_coupled (waddr_mul_of word)

unfoldable pub loads_result : ℕ → Bool
loads_result word = sig_of word == 8 || (sig_of word == 10 || sig_of word == 11)

abbrev pub one_if : Bool → ℕ
one_if test = if test then 1 else 0

unfoldable pub coupled_of : ℕ → ℕ
coupled_of word =
    (one_if (add_couples word) + one_if (mul_couples word)) + (one_if (loads_result word) + one_if (reads_address word 51))

-- What fragment shaders alone may use: write addresses 43 (stencil set-up) and 44 to 47 (tile buffer), varyings (a read of 35), and
-- signals 4 and 5 (wait for and unlock the scoreboard) and 8 (load a colour).
unfoldable pub names_tile : ℕ → Bool
names_tile word =
    (names_address word 43 || names_address word 44)
    || ((names_address word 45 || names_address word 46) || names_address word 47)

unfoldable pub has_tile_signal : ℕ → Bool
has_tile_signal word = sig_of word == 4 || (sig_of word == 5 || sig_of word == 8)

unfoldable pub uses_tile : ℕ → Bool
uses_tile word = names_tile word || (reads_address word 35 || has_tile_signal word)
