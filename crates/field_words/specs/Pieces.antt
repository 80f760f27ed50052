-- A text made of pieces, one after the other.
use Rattle.std.specs.Prelude.{◌≡◌, ◌≤◌, ℕ, ◌+◌, List, [], ◌∷◌, ◌++◌, length, take, drop}

-- n bytes from a place on are the text
pub record IsPiece (bytes : List ℕ) (at n : ℕ) (text : List ℕ) : Type 0 where
  pub size : length text ≡ n
  pub inside : at + n ≤ length bytes
  pub same : take n (drop at bytes) ≡ text

-- the texts joined in order
abbrev pub joined_texts : List (List ℕ) → List ℕ
joined_texts [] = []
joined_texts (text ∷ texts) = text ++ joined_texts texts
