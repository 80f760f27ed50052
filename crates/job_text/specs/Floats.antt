-- Numbers with a fraction, in decimal.
use Rattle.std.specs.Prelude.{ℕ, ◌+◌, ◌-◌, ◌*◌, ◌/◌, ◌%◌, ◌^◌, ◌==◌, nat_lt, List, ◌++◌, drop, map, codes, decimal, if◌then◌else◌}
use Rattle.qpu_text.specs.Pieces.{named_in}
use Rattle.job_text.specs.declared.floats.TheConstants.{SIXTEENTHS}

-- A float of 32 bits is its significand times 2 ^ (exponent - 150): the exponent has eight bits, of which 0 counts as 1 and leaves the
-- significand's top bit out, and 255 is for no number.
unfoldable pub exponent_of : ℕ → ℕ
exponent_of bits = bits / 8388608 % 256

unfoldable pub significand_of : ℕ → ℕ
significand_of bits = if exponent_of bits == 0 then bits % 8388608 else 8388608 + bits % 8388608

-- its size in millionths, to the nearest; those under 2 ^ -36 are 0
unfoldable pub millionths_of : ℕ → ℕ
millionths_of bits =
    if nat_lt (exponent_of bits) 90 then 0
    else (if nat_lt (exponent_of bits) 150
    then (significand_of bits * 1000000 + 2 ^ (149 - exponent_of bits)) / 2 ^ (150 - exponent_of bits)
    else significand_of bits * 1000000 * 2 ^ (exponent_of bits - 150))

-- a number of millionths with its six digits behind the point
unfoldable pub millionths_text : ℕ → List ℕ
millionths_text count = decimal (count / 1000000) ++ (codes "." ++ drop 1 (decimal (1000000 + count % 1000000)))

-- the size of a float: of 2 ^ 42 and more only that it is large
unfoldable pub size_text : ℕ → List ℕ
size_text bits =
    if exponent_of bits == 255 then (if bits % 8388608 == 0 then codes "infinite" else codes "not a number")
    else (if nat_lt 168 (exponent_of bits) then codes "over 4398046511103" else millionths_text (millionths_of bits))

unfoldable pub float_text : ℕ → List ℕ
float_text bits = (if nat_lt bits 2147483648 then codes " (" else codes " (-") ++ (size_text bits ++ codes ")")

-- a signed number of 16 bits that counts sixteenths
unfoldable pub sixteenths_text : ℕ → List ℕ
sixteenths_text count =
    if nat_lt count 32768 then codes " (" ++ (decimal (count / 16) ++ (named_in (map (λ row. row.now) SIXTEENTHS) (count % 16) ++ codes ")"))
    else codes " (-" ++ (decimal ((65536 - count) / 16) ++ (named_in (map (λ row. row.now) SIXTEENTHS) ((65536 - count) % 16) ++ codes ")"))
