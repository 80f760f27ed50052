-- What the add unit and the multiply unit of a shader processor compute. Operands and results are
-- words of 32 bits, as numbers below 2^32. A result is free where the hardware's float unit makes it,
-- or where the operation has no name: then nothing is known of it.
use Rattle.std.specs.Prelude.{ℕ, ◌+◌, ◌-◌, ◌*◌, ◌/◌, ◌%◌, ◌^◌, ◌==◌, min, max, bit_and, bit_or, bit_xor, List, [], ◌∷◌, Option, Some, None, if◌then◌else◌}
use Rattle.std.specs.Int.{int_min, int_max, w32, cast_signed, cast_unsigned, rotate_right, leading_zeros, to_le_bytes, from_le_bytes}
use Rattle.std.specs.Int.Signed.{shr_z}
use Rattle.qpu_alu.specs.declared.bytes.ByteOperation.TheVariants.{Add, Subtract, Least, Greatest}
use Rattle.qpu_alu.specs.declared.bytes.ByteOperation.{ByteOperation}

-- the lesser and the greater of two words as signed numbers
unfoldable pub signed_min : ℕ → ℕ → ℕ
signed_min a b = cast_unsigned w32 (int_min (cast_signed w32 a) (cast_signed w32 b))

unfoldable pub signed_max : ℕ → ℕ → ℕ
signed_max a b = cast_unsigned w32 (int_max (cast_signed w32 a) (cast_signed w32 b))

-- Shifts are by the low five bits of the second operand. The arithmetic shift fills with the sign.
unfoldable pub shifted_left : ℕ → ℕ → ℕ
shifted_left a b = (a * 2 ^ (b % 32)) % 2 ^ 32

unfoldable pub shifted_right : ℕ → ℕ → ℕ
shifted_right a b = a / 2 ^ (b % 32)

unfoldable pub shifted_signed : ℕ → ℕ → ℕ
shifted_signed a b = cast_unsigned w32 (shr_z (cast_signed w32 a) (2 ^ (b % 32)))

unfoldable pub rotated_word : ℕ → ℕ → ℕ
rotated_word a b = rotate_right w32 a b

-- sums and differences of bytes stop at 255 and at 0
abbrev pub byte_of : ByteOperation → ℕ → ℕ → ℕ
byte_of Add x y = min (x + y) 255
byte_of Subtract x y = x - y
byte_of Least x y = min x y
byte_of Greatest x y = max x y

-- each byte with the byte at the same place
abbrev pub bytes_of : ByteOperation → List ℕ → List ℕ → List ℕ
bytes_of operation [] ys = []
bytes_of operation (x ∷ xs) [] = []
bytes_of operation (x ∷ xs) (y ∷ ys) = byte_of operation x y ∷ bytes_of operation xs ys

unfoldable pub by_bytes : ByteOperation → ℕ → ℕ → ℕ
by_bytes operation a b = from_le_bytes w32 (bytes_of operation (to_le_bytes w32 a) (to_le_bytes w32 b))

-- the low 32 bits of the product of the low 24 bits
unfoldable pub product_of : ℕ → ℕ → ℕ
product_of a b = (a % 2 ^ 24 * (b % 2 ^ 24)) % 2 ^ 32

-- The result of the add unit's operation, None where it is free. The number is the field of an
-- instruction word: 0 nop, 12 add, 13 sub, 14 shr, 15 asr, 16 ror, 17 shl, 18 min, 19 max, 20 and,
-- 21 or, 22 xor, 23 not, 24 clz, 30 v8adds, 31 v8subs. Free are 1 to 8, which compute with floats, and
-- the numbers without a name.
unfoldable pub add_result_of : ℕ → ℕ → ℕ → Option ℕ
add_result_of op a b =
    if op == 0 then Some 0
    else (if op == 12 then Some ((a + b) % 2 ^ 32)
    else (if op == 13 then Some ((a + 2 ^ 32 - b) % 2 ^ 32)
    else (if op == 14 then Some (shifted_right a b)
    else (if op == 15 then Some (shifted_signed a b)
    else (if op == 16 then Some (rotated_word a b)
    else (if op == 17 then Some (shifted_left a b)
    else (if op == 18 then Some (signed_min a b)
    else (if op == 19 then Some (signed_max a b)
    else (if op == 20 then Some (bit_and a b)
    else (if op == 21 then Some (bit_or a b)
    else (if op == 22 then Some (bit_xor a b)
    else (if op == 23 then Some (2 ^ 32 - 1 - a)
    else (if op == 24 then Some (leading_zeros w32 a)
    else (if op == 30 then Some (by_bytes Add a b)
    else (if op == 31 then Some (by_bytes Subtract a b)
    else None)))))))))))))))

-- And of the multiply unit's: 0 nop, 2 mul24, 4 v8min, 5 v8max, 6 v8adds, 7 v8subs. Free are 1, which
-- multiplies floats, and 3, which multiplies bytes as fractions.
unfoldable pub mul_result_of : ℕ → ℕ → ℕ → Option ℕ
mul_result_of op a b =
    if op == 0 then Some 0
    else (if op == 2 then Some (product_of a b)
    else (if op == 4 then Some (by_bytes Least a b)
    else (if op == 5 then Some (by_bytes Greatest a b)
    else (if op == 6 then Some (by_bytes Add a b)
    else (if op == 7 then Some (by_bytes Subtract a b)
    else None)))))
