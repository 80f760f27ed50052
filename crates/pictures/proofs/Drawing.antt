-- A drawing that was opened, filled and closed.
use Rattle.std.proofs.Common.{◌≡◌, ℕ, List, [], ◌++◌, ap, ◌∙◌, append_assoc, arith}
use Rattle.std.proofs.lemmas.Grind.{common_steps}
use Rattle.std.specs.Prelude.{codes}
use Rattle.pictures.specs.Forest.{Forest, forest_text}
use Rattle.pictures.specs.Parts.{drawing, opening}

pub drawn : (height least : ℕ) (title : List ℕ) (inside : Forest) (blank opened filled ended : List ℕ) → blank ≡ [] → height ≡ least → opened ≡ blank ++ opening height title
    → filled ≡ opened ++ forest_text inside → ended ≡ filled ++ (codes "</" ++ (codes "svg" ++ codes ">\n")) → ended ≡ forest_text (drawing least title inside)
drawn height least title inside blank opened filled ended blank_is height_is opened_is filled_is ended_is = grind (arith, common_steps)

-- one part more
pub more : (new mid old first second : List ℕ) → mid ≡ old ++ first → new ≡ mid ++ second → new ≡ old ++ (first ++ second)
more new mid old first second mid_is new_is = new_is ∙ (ap (λ l. l ++ second) mid_is ∙ append_assoc old first second)
