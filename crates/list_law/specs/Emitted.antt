-- From what emission promises of a shader record and a primitive to what a fetch and a start need.
use Rattle.std.specs.Prelude.{◌≡◌, ◌<◌, ◌⊎◌, ℕ, ◌+◌, ◌*◌, ◌%◌, Bool, false, not, IsTrue, List, slice_index}
use Rattle.field_words.specs.Words.{u32_at}
use Rattle.emitted_facts.specs.{Facts.IsAttributeIn, Facts.IsPrimitive, Records.is_single, Records.code_word, Records.stream_word}
use Rattle.packets.specs.StateWord.{attribute_count, record_size}
use Rattle.machine_plan.specs.{declared.launch.Launch.Launch, Regions.Interval, Regions.Inside}
use Rattle.list_machine.specs.{Binner.primitive_of, Fetch.record_place}
use Rattle.list_law.specs.Uses.{Fetches, Programs}

-- the words of the record of a state word in memory, by number
abbrev pub words_in : List ℕ → ℕ → ℕ → ℕ
words_in m word i = u32_at m (record_place word + 4 * i)

-- the record lies in the region, and what stands there are bytes
pub record RecordLies (region : List Interval) (m : List ℕ) (word : ℕ) : Type 0 where
  pub inside : Inside region (record_place word) (record_size word)
  pub bytes : (i : ℕ) → i < record_size word → slice_index m (record_place word + i) < 256

-- data that the job may name lie in the region
abbrev pub NamedInside : (ℕ → ℕ → Type 0) → List Interval → Type 0
NamedInside IsNamed region = (place size : ℕ) → IsNamed place size → Inside region place size

-- the low four bits of the state word in a list, by which its record was made, are those of the emitted one
abbrev pub IsStateOf : ℕ → ℕ → Type 0
IsStateOf state word = state % 16 ≡ word % 16

-- the program that shader s of the record is
abbrev pub program_in : List ℕ → ℕ → Bool → ℕ → Launch
program_in m word threaded s = record { threaded = threaded; code = words_in m word (code_word s); uniforms = words_in m word (stream_word s) }

-- A primitive that was emitted may be fetched under a record that was emitted for it.
abbrev pub EmittedFetches : Type 0
EmittedFetches =
    (named : ℕ → ℕ → Bool) (region : List Interval) (m : List ℕ) (state word most : ℕ) (packet : List ℕ)
    → NamedInside (λ place size. IsTrue (named place size)) region → RecordLies region m word → IsStateOf state word
    → ((t : ℕ) → t < attribute_count state → IsAttributeIn (λ place size. IsTrue (named place size)) state (words_in m word) most t)
    → (slice_index packet 0 ≡ 32) ⊎ (slice_index packet 0 ≡ 33) → IsPrimitive (λ place size. IsTrue (named place size)) packet most
    → Fetches region m word (primitive_of packet)

-- Each program of a record may be started where the three that its words name may be.
abbrev pub EmittedPrograms : Type 0
EmittedPrograms =
    (region : List Interval) (may : Launch → Bool) (m : List ℕ) (word : ℕ)
    → RecordLies region m word
    → IsTrue (may (program_in m word (not (is_single (words_in m word))) 0)) → IsTrue (may (program_in m word false 1)) → IsTrue (may (program_in m word false 2))
    → Programs region (λ launch. IsTrue (may launch)) m word
