-- That a shader's info is sound, by members of lists: the way to the same by index.
use Rattle.std.proofs.Common.{◌≡◌, ◌≤◌, ◌<◌, ◌⊎◌, ℕ, List, [], ◌∷◌, ◌++◌, map, drop, length, Option, Some, None, slice_index}
use Rattle.qpu_isa.specs.declared.inst.Sample.{Sample}
use Rattle.shader_check.specs.Info.{first_four}

-- x is one of the list
abbrev pub Member : {X : Type 0} → X → List X → Type 0
Member x [] = ⊥
Member x (first ∷ later) = (first ≡ x) ⊎ Member x later

-- no two of the list are the same
abbrev pub AllDifferent : List ℕ → Type 0
AllDifferent [] = Unit {0}
AllDifferent (first ∷ later) = (Member first later → ⊥) × AllDifferent later

-- the positions of a sample: what comes before the first None
unfoldable pub numbers : List (Option ℕ) → List ℕ
numbers [] = []
numbers (None ∷ later) = []
numbers (Some n ∷ later) = n ∷ numbers later

unfoldable pub first_number : Sample → ℕ
first_number sample = slice_index (numbers sample.p) 0

-- the positions of the words that the validator writes: the address words, and each sample's first
unfoldable pub written : List Sample → List ℕ → List ℕ
written samples address_words = address_words ++ map first_number samples

-- A sample has two to four positions, and nothing after a None; all are in the stream; none but the first is of a written word.
pub record IsSoundSample (uniforms : ℕ) (others : List ℕ) (sample : Sample) : Type 0 where
  pub full : sample.p ≡ first_four (numbers sample.p)
  pub two : 2 ≤ length (numbers sample.p)
  pub below : (n : ℕ) → Member n (numbers sample.p) → n < uniforms
  pub apart : (n : ℕ) → Member n (drop 1 (numbers sample.p)) → Member n others → ⊥

-- The info is sound: so is each sample, the address words are in the stream, and no two written words are one.
pub record IsSound (uniforms : ℕ) (samples : List Sample) (address_words : List ℕ) : Type 0 where
  pub each : (sample : Sample) → Member sample samples → IsSoundSample uniforms (written samples address_words) sample
  pub below : (n : ℕ) → Member n address_words → n < uniforms
  pub different : AllDifferent (written samples address_words)
