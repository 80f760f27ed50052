-- Rows of 16 elements, and masks of elements.
use Rattle.std.specs.Prelude.{ℕ, ◌+◌, ◌/◌, ◌%◌, ◌^◌, ◌==◌, Bool, if◌then◌else◌, List, [], ◌∷◌, map, replicate, slice_index}
use Rattle.std.specs.List.{range_with_len}
use Rattle.machine_plan.specs.Choice.{word_at}

-- the row whose element e is f e
abbrev pub lanes : (ℕ → ℕ) → List ℕ
lanes f = map f (range_with_len 0 16)

-- the row with one word in each element
abbrev pub row_of_word : ℕ → List ℕ
row_of_word word = replicate 16 word

-- 16 choice words, from this one on
unfoldable pub chosen_row : List ℕ → ℕ → List ℕ
chosen_row words from = lanes (λ e. word_at words (from + e))

-- r0 to r5 of a fresh thread are choice words 82 to 177
unfoldable pub chosen_rows : List ℕ → List (List ℕ)
chosen_rows words = chosen_row words 82 ∷ chosen_row words 98 ∷ chosen_row words 114 ∷ chosen_row words 130 ∷ chosen_row words 146 ∷ chosen_row words 162 ∷ []

-- a mask is a number of 16 bits, one for each element
unfoldable pub has_lane : ℕ → ℕ → Bool
has_lane mask e = mask / 2 ^ e % 2 == 1

-- the new words in the elements of the mask, the old ones in the others
unfoldable pub rows_merged : ℕ → List ℕ → List ℕ → List ℕ
rows_merged mask old new = lanes (λ e. if has_lane mask e then slice_index new e else slice_index old e)

-- The elements that a unit writes. Condition 1 is always and 0 never; any other is a test of flags,
-- and a half of choice word 0 says what it finds, from this bit on.
unfoldable pub mask_of : ℕ → List ℕ → ℕ → ℕ
mask_of condition words from =
    if condition == 1 then 65535 else (if condition == 0 then 0 else word_at words 0 / 2 ^ from % 2 ^ 16)
