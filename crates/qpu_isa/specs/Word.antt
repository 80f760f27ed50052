-- The fields of an instruction word of 64 bits. Each is a quotient by a power of two, taken modulo a power of two.
use Rattle.std.specs.Prelude.{ℕ, ◌==◌, Bool}
use Rattle.field_words.specs.Words.{bits_of}

-- the fields of an ALU instruction
unfoldable pub sig_of : ℕ → ℕ
sig_of word = bits_of word 63 60

unfoldable pub unpack_of : ℕ → ℕ
unpack_of word = bits_of word 59 57

unfoldable pub pm_of : ℕ → Bool
pm_of word = bits_of word 56 56 == 1

unfoldable pub pack_of : ℕ → ℕ
pack_of word = bits_of word 55 52

unfoldable pub cond_add_of : ℕ → ℕ
cond_add_of word = bits_of word 51 49

unfoldable pub cond_mul_of : ℕ → ℕ
cond_mul_of word = bits_of word 48 46

unfoldable pub sf_of : ℕ → Bool
sf_of word = bits_of word 45 45 == 1

unfoldable pub ws_of : ℕ → Bool
ws_of word = bits_of word 44 44 == 1

unfoldable pub waddr_add_of : ℕ → ℕ
waddr_add_of word = bits_of word 43 38

unfoldable pub waddr_mul_of : ℕ → ℕ
waddr_mul_of word = bits_of word 37 32

unfoldable pub op_mul_of : ℕ → ℕ
op_mul_of word = bits_of word 31 29

unfoldable pub op_add_of : ℕ → ℕ
op_add_of word = bits_of word 28 24

unfoldable pub raddr_a_of : ℕ → ℕ
raddr_a_of word = bits_of word 23 18

unfoldable pub raddr_b_of : ℕ → ℕ
raddr_b_of word = bits_of word 17 12

unfoldable pub add_a_of : ℕ → ℕ
add_a_of word = bits_of word 11 9

unfoldable pub add_b_of : ℕ → ℕ
add_b_of word = bits_of word 8 6

unfoldable pub mul_a_of : ℕ → ℕ
mul_a_of word = bits_of word 5 3

unfoldable pub mul_b_of : ℕ → ℕ
mul_b_of word = bits_of word 2 0

-- a load immediate (signal 14) has these besides pm, pack, conditions, sf, ws and write addresses
unfoldable pub mode_of : ℕ → ℕ
mode_of word = bits_of word 59 57

unfoldable pub imm_of : ℕ → ℕ
imm_of word = bits_of word 31 0

-- a branch (signal 15) has these besides ws, write addresses and the immediate
unfoldable pub spare_of : ℕ → ℕ
spare_of word = bits_of word 59 56

unfoldable pub cond_of : ℕ → ℕ
cond_of word = bits_of word 55 52

unfoldable pub relative_of : ℕ → Bool
relative_of word = bits_of word 51 51 == 1

unfoldable pub register_of : ℕ → Bool
register_of word = bits_of word 50 50 == 1

unfoldable pub raddr_of : ℕ → ℕ
raddr_of word = bits_of word 49 45
