-- Texts by pieces.
use Rattle.std.specs.Prelude.{ℕ, Bool, List, [], map, get_or, if◌then◌else◌}
use Rattle.std.specs.{List.flat_map, Borrow.Bor}

-- some texts, one behind the other
abbrev pub pieces_joined : List (Bor (List ℕ)) → List ℕ
pieces_joined pieces = flat_map (λ piece. piece.now) pieces

abbrev pub texts_in : List (Bor (List ℕ)) → List (List ℕ)
texts_in rows = map (λ row. row.now) rows

-- the name of a number in a table, or nothing
abbrev pub named_in : List (List ℕ) → ℕ → List ℕ
named_in rows number = get_or rows number []

abbrev pub if_so : Bool → List ℕ → List ℕ
if_so is text = if is then text else []
