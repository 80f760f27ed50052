-- The least of the numbers that the tables of three crates give; and, as tools of its proof and no part of what the crate claims,
-- tables of rules that are sorted by number, and their union.
use Rattle.std.specs.Prelude.{ℕ, Bool, true, ◌&&◌, List, [], ◌∷◌, Option, Some, None, min, nat_lt, nat_le, if◌then◌else◌}
use Rattle.field_words.specs.Questions.{Question, Ask}

-- the lesser of two numbers, where both are there
abbrev pub lesser : Option ℕ → Option ℕ → Option ℕ
lesser None b = b
lesser (Some a) None = Some a
lesser (Some a) (Some b) = Some (min a b)

-- the numbers rise, from n on
abbrev pub rises : ℕ → List (Question ℕ) → Bool
rises n [] = true
rises n (Ask broken number ∷ later) = nat_le n number && rises number later

-- a question put at its place
abbrev pub question_inserted : Bool → ℕ → List (Question ℕ) → List (Question ℕ)
question_inserted broken number [] = Ask broken number ∷ []
question_inserted broken number (Ask other m ∷ later) =
    if nat_lt number m then Ask broken number ∷ (Ask other m ∷ later) else Ask other m ∷ question_inserted broken number later

-- two sorted tables as one
abbrev pub tables_merged : List (Question ℕ) → List (Question ℕ) → List (Question ℕ)
tables_merged [] table = table
tables_merged (Ask broken number ∷ later) table = question_inserted broken number (tables_merged later table)
