-- What a job's handles name.
use Rattle.std.specs.Prelude.{◌≡◌, ℕ, ◌<◌, Bool, true, false, not, ◌||◌, ◌&&◌, nat_lt, nat_le, ◌==◌, List, [], ◌∷◌, length, slice_index, Option, Some, None, if◌then◌else◌}
use Rattle.field_words.specs.Questions.{Question, Ask, each}
use Rattle.buffer_table.specs.{declared.buffer.Kind.Kind, declared.buffer.Kind.TheVariants.Plain, declared.buffer.Kind.TheVariants.Code}
use Rattle.buffer_table.specs.Table.{TableModel, buffer_at}

-- H1 at a handle: it is no buffer's number, or that buffer's client isn't the job's. What is
-- answered is the handle's index.
unfoldable pub handle_questions : TableModel → ℕ → List ℕ → ℕ → List (Question ℕ)
handle_questions t client numbers i =
    Ask (nat_le (length t.buffers) (slice_index numbers i) || not ((buffer_at t.buffers (slice_index numbers i)).client == client)) i ∷ []

unfoldable pub handles_questions : TableModel → ℕ → List ℕ → List (Question ℕ)
handles_questions t client numbers = each (handle_questions t client numbers) 0 (length numbers)

-- each handle is the number of a buffer of the table
abbrev pub AreNumbersOf : TableModel → List ℕ → Type 0
AreNumbersOf t handles = (i : ℕ) → i < length handles → slice_index handles i < length t.buffers

-- handle i names a buffer of the table
abbrev pub IsNamed : TableModel → List ℕ → ℕ → Type 0
IsNamed t handles i = (i < length handles) × (slice_index handles i < length t.buffers)

-- it names a data buffer, or a Code buffer
abbrev pub IsData : TableModel → List ℕ → ℕ → Type 0
IsData t handles i = IsNamed t handles i × ((buffer_at t.buffers (slice_index handles i)).kind ≡ Plain)

abbrev pub IsCode : TableModel → List ℕ → ℕ → Type 0
IsCode t handles i = IsNamed t handles i × ((buffer_at t.buffers (slice_index handles i)).kind ≡ Code)

abbrev pub is_plain : Kind → Bool
is_plain Plain = true
is_plain Code = false

abbrev pub is_named : TableModel → List ℕ → ℕ → Bool
is_named t handles i = nat_lt i (length handles) && nat_lt (slice_index handles i) (length t.buffers)

-- The number of the buffer that a handle names, where that buffer has the kind. A number past the
-- last buffer names none.
unfoldable pub data_of : TableModel → List ℕ → ℕ → Option ℕ
data_of t handles i =
    if is_named t handles i && is_plain (buffer_at t.buffers (slice_index handles i)).kind then Some (slice_index handles i) else None

unfoldable pub code_of : TableModel → List ℕ → ℕ → Option ℕ
code_of t handles i =
    if is_named t handles i && not (is_plain (buffer_at t.buffers (slice_index handles i)).kind) then Some (slice_index handles i) else None

-- the size of a buffer, 0 where none is named
abbrev pub size_in : TableModel → Option ℕ → ℕ
size_in table None = 0
size_in table (Some number) = (buffer_at table.buffers number).size
