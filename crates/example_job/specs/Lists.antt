-- The binner list and the shader records of an example job, before emission.
use Rattle.std.specs.Prelude.{ℕ, zero, suc, ◌+◌, List, [], ◌∷◌, replicate}
use Rattle.std.specs.Int.{to_le_bytes, w32}
use Rattle.field_words.specs.Pieces.{joined_texts}

-- the binning mode of a frame of this many tiles across and down
abbrev pub config : ℕ → ℕ → List ℕ
config across down = 112 ∷ 0 ∷ 0 ∷ 0 ∷ 0 ∷ 0 ∷ 0 ∷ 0 ∷ 0 ∷ 0 ∷ 0 ∷ 0 ∷ 0 ∷ across ∷ down ∷ 0 ∷ []

-- binning starts
abbrev pub start : List ℕ
start = 6 ∷ []

-- a shader state with one attribute
abbrev pub state : List ℕ
state = 64 ∷ 1 ∷ 0 ∷ 0 ∷ 0 ∷ []

-- a triangle of the vertices j, j + 1 and j + 2
abbrev pub triangle : ℕ → List ℕ
triangle j = 33 ∷ 4 ∷ 3 ∷ 0 ∷ 0 ∷ 0 ∷ to_le_bytes w32 j

-- the list's end: the semaphore is raised, and the tile lists are closed
abbrev pub finish : List (List ℕ)
finish = (7 ∷ []) ∷ (4 ∷ []) ∷ []

-- n states from number j on, each with its triangle, and then the end
abbrev pub states_from : ℕ → ℕ → List (List ℕ)
states_from j zero = finish
states_from j (suc n) = state ∷ triangle j ∷ states_from (j + 1) n

-- the packets of the list, and its bytes
abbrev pub packets_of : ℕ → ℕ → ℕ → List (List ℕ)
packets_of across down count = config across down ∷ start ∷ states_from 0 count

unfoldable pub bin_of : ℕ → ℕ → ℕ → List ℕ
bin_of across down count = joined_texts (packets_of across down count)

-- A shader record: the handles of its three shaders and of its attribute's buffer; then flag byte 1, and an attribute of 16 bytes
-- at a stride of 16.
abbrev pub record_bytes : List ℕ
record_bytes =
    0 ∷ 0 ∷ 0 ∷ 0 ∷ 0 ∷ 0 ∷ 0 ∷ 0 ∷ 0 ∷ 0 ∷ 0 ∷ 0 ∷ 1 ∷ 0 ∷ 0 ∷ 0 ∷
    1 ∷ 0 ∷ 0 ∷ 0 ∷ 0 ∷ 0 ∷ 0 ∷ 0 ∷ 0 ∷ 0 ∷ 0 ∷ 0 ∷ 0 ∷ 0 ∷ 0 ∷ 0 ∷ 0 ∷ 0 ∷ 0 ∷ 0 ∷ 0 ∷ 0 ∷ 0 ∷ 0 ∷ 0 ∷ 0 ∷ 0 ∷ 0 ∷
    0 ∷ 0 ∷ 0 ∷ 0 ∷ 0 ∷ 0 ∷ 0 ∷ 0 ∷ 0 ∷ 0 ∷ 0 ∷ 0 ∷ 15 ∷ 16 ∷ 0 ∷ 0 ∷ []

unfoldable pub records_of : ℕ → List ℕ
records_of count = joined_texts (replicate count record_bytes)
