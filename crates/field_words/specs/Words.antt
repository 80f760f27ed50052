-- Numbers in bytes, and fields of a word. A list of bytes is a list of numbers below 256.
use Rattle.std.specs.Prelude.{◌≡◌, ◌≤◌, ◌<◌, ℕ, ◌+◌, ◌*◌, ◌-◌, ◌/◌, ◌%◌, ◌^◌, List, drop, slice_index}
use Rattle.std.specs.Int.{from_le_bytes, div_ceil, w16, w32, w64}

-- each item of the list is a byte
abbrev pub IsBytes : List ℕ → Type 0
IsBytes bytes = (i : ℕ) → slice_index bytes i < 256

-- the little-endian number of two, four or eight bytes at a place; bytes past the end count as zero
unfoldable pub u16_at : List ℕ → ℕ → ℕ
u16_at bytes at = from_le_bytes w16 (drop at bytes)

unfoldable pub u32_at : List ℕ → ℕ → ℕ
u32_at bytes at = from_le_bytes w32 (drop at bytes)

unfoldable pub u64_at : List ℕ → ℕ → ℕ
u64_at bytes at = from_le_bytes w64 (drop at bytes)

-- bits high down to low of a word, both included; bit 0 is the lowest
abbrev pub bits_of : ℕ → ℕ → ℕ → ℕ
bits_of word high low = word / 2 ^ low % 2 ^ (high + 1 - low)

-- the least multiple of a unit that is at least n
unfoldable pub rounded_up : ℕ → ℕ → ℕ
rounded_up n unit = div_ceil n unit * unit

-- m is the least multiple of the unit that is at least n
pub record IsRoundedUp (n unit m : ℕ) : Type 0 where
  pub value : m ≡ rounded_up n unit
  pub multiple : m % unit ≡ 0
  pub least : n ≤ m
  pub near : m < n + unit
