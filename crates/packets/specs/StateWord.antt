-- What a shader state's word says of its record.
use Rattle.std.specs.Prelude.{ℕ, ◌+◌, ◌*◌, ◌/◌, ◌%◌, ◌==◌, Bool, if◌then◌else◌}
use Rattle.field_words.specs.Words.{rounded_up}

-- the low three bits are the number of attributes, 0 for eight
unfoldable pub attribute_count : ℕ → ℕ
attribute_count state = if state % 8 == 0 then 8 else state % 8

-- bit 3 says that the record is extended
unfoldable pub is_extended : ℕ → Bool
is_extended state = state / 8 % 2 == 1

-- the bytes of a record
unfoldable pub record_size : ℕ → ℕ
record_size state = if is_extended state then 100 + 4 * attribute_count state else 36 + 8 * attribute_count state

-- the bytes from one emitted record to the next: records stand one after another, each filled to a multiple of 16
unfoldable pub record_room : ℕ → ℕ
record_room state = rounded_up (record_size state) 16
