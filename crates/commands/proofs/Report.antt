-- From the bytes that were read to the input that the source reported.
use Rattle.std.proofs.Common.{◌≡◌, ℕ, List, None, Some, IfSome, subst, ◌∙◌}
use Rattle.std.specs.Prelude.{Option}

pub report : (left : Option (List ℕ)) (bytes now : List ℕ) (P : List ℕ → Type 0) → now ≡ bytes → IfSome left (λ all. bytes ≡ all) → P now → IfSome left P
report None bytes now P same whole fact = tt
report (Some all) bytes now P same whole fact = subst P (same ∙ whole) fact
