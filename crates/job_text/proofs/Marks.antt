-- Texts without a mark, of which nothing is cut off.
use Rattle.std.proofs.Common.{◌≡◌, ℕ, Bool, true, false, not, ◌==◌, List, [], ◌∷◌, ◌++◌, refl, if◌then◌else◌}
use Rattle.std.proofs.lemmas.Bool.{and_parts, not-true}
use Rattle.std.specs.List.{list_all}
use Rattle.script.specs.Lines.{before}

-- no byte is the mark
abbrev pub Free : ℕ → List ℕ → Type 0
Free mark [] = Unit {0}
Free mark (byte ∷ bytes) = ((byte == mark) ≡ false) × Free mark bytes

pub free_append : (mark : ℕ) (xs ys : List ℕ) → Free mark xs → Free mark ys → Free mark (xs ++ ys)
free_append mark [] ys none free = free
free_append mark (x ∷ xs) ys (here, none) free = (here, free_append mark xs ys none free)

free_put : (mark byte : ℕ) (bytes : List ℕ) (is : Bool) → (byte == mark) ≡ is → Free mark bytes → Free mark (if is then [] else byte ∷ bytes)
free_put mark byte bytes true e free = tt
free_put mark byte bytes false e free = (e, free)

pub free_before : (mark : ℕ) (bytes : List ℕ) → Free mark (before mark bytes)
unfolding before
free_before mark [] = tt
free_before mark (byte ∷ bytes) = free_put mark byte (before mark bytes) (byte == mark) refl (free_before mark bytes)

-- a text that computes
pub free_by : (mark : ℕ) (bytes : List ℕ) → list_all (λ byte. not (byte == mark)) bytes ≡ true → Free mark bytes
free_by mark [] test = tt
free_by mark (byte ∷ bytes) test =
    let parts = and_parts (not (byte == mark)) (list_all (λ b. not (b == mark)) bytes) test in
    (not-true (byte == mark) parts.0, free_by mark bytes parts.1)
