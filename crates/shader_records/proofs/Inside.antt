-- What lies inside a record's source.
use Rattle.std.proofs.Common.{◌≡◌, ℕ, ◌+◌, ◌*◌, ◌%◌, ◌<◌, ◌≤◌, Bool, true, false, if◌then◌else◌, refl, arith}
use Rattle.field_words.specs.Words.{rounded_up}
use Rattle.field_words.proofs.Numbers.{rounded}
use Rattle.packets.specs.StateWord.{attribute_count, is_extended, record_size, record_room}
use Rattle.emitted_facts.proofs.Records.{count_limits, attributes_in}
use Rattle.shader_records.specs.Sources.{handles_size, source_size}

pub handles_are : (state : ℕ) → handles_size state ≡ 12 + 4 * attribute_count state
unfolding handles_size
handles_are state = omega arith

pub source_is : (state : ℕ) → source_size state ≡ handles_size state + record_size state
unfolding source_size
source_is state = refl

record_words : (b : Bool) (count : ℕ) → (if b then 100 + 4 * count else 36 + 8 * count) % 4 ≡ 0
record_words true count = omega arith
record_words false count = omega arith

pub record_whole : (state : ℕ) → record_size state % 4 ≡ 0
unfolding record_size
record_whole state = record_words (is_extended state) (attribute_count state)

-- the handle of attribute t, and its two words
pub handle_in : (state t : ℕ) → t < attribute_count state → 12 + 4 * t + 4 ≤ handles_size state
handle_in state t below = let e = handles_are state in omega (arith, e)

pub attribute_in : (state t : ℕ) → t < attribute_count state → handles_size state + (36 + 8 * t) + 8 ≤ source_size state
attribute_in state t below = let e = source_is state in let a = attributes_in state in omega (arith, e, a)

-- the handles of code, and the fixed part
pub fixed_in : (state : ℕ) → (16 ≤ handles_size state) × (handles_size state + 44 ≤ source_size state)
fixed_in state =
    let c = count_limits state in let h = handles_are state in let e = source_is state in let a = attributes_in state in
    (omega (arith, c.0, h), omega (arith, c.0, e, a))

-- word i, where the record goes on
pub word_in : (state i : ℕ) → 4 * i < record_size state → handles_size state + 4 * i + 4 ≤ source_size state
unfolding record_size
word_in state i below = let e = source_is state in let w = record_words (is_extended state) (attribute_count state) in omega (arith, e, w)

-- What is emitted of a record is a multiple of 16, holds the record, and takes no more bytes than its source.
pub emitted_in : (state : ℕ) → (record_size state ≤ record_room state) × (record_room state ≤ source_size state) × (record_room state % 16 ≡ 0)
unfolding record_room
emitted_in state =
    let r = rounded (record_size state) 16 (omega arith) in
    let f = fixed_in state in let e = source_is state in
    (r.least, (let near : rounded_up (record_size state) 16 < record_size state + 16 = r.near in omega (arith, near, f.0, e)), r.multiple)
