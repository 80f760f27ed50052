-- The strict rules on a shader record, and on the place of a tile slot.
use Rattle.std.specs.Prelude.{ℕ, ◌+◌, ◌-◌, ◌/◌, ◌^◌, ◌==◌, Bool, not, List, [], ◌∷◌, slice_index}
use Rattle.field_words.specs.{Questions.Question, Questions.Ask, Sizes.slot_size}

-- a byte that selects attributes, one a bit, has a bit for one past the state's number
unfoldable pub selects_past : ℕ → ℕ → Bool
selects_past byte attributes = not (byte / 2 ^ attributes == 0)

-- E11 of a record that begins at a place: its byte 14 selects the vertex shader's attributes, byte 26 the coordinate shader's
unfoldable pub selection_questions : List ℕ → (from attributes : ℕ) → List (Question ℕ)
selection_questions bytes from attributes =
    Ask (selects_past (slice_index bytes (from + 14)) attributes) 14
    ∷ Ask (selects_past (slice_index bytes (from + 26)) attributes) 26
    ∷ []

-- E12: a tile slot at this place has addresses with other top four bits
unfoldable pub crosses : ℕ → Bool
crosses place = not (place / 2 ^ 28 == (place + (slot_size - 1)) / 2 ^ 28)
