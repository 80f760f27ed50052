-- The text of items that a loop meets in turn.
use Rattle.std.proofs.Common.{◌≡◌, ℕ, ◌+◌, ◌-◌, ◌<◌, false, nat_lt, List, [], ◌∷◌, ◌++◌, length, take, drop, get_or, refl, sym, ap, ◌∙◌, add-one, append_assoc, arith}
use Rattle.std.proofs.{lemmas.List.take_rest, lemmas.Bool.Decides.nat_tests, Math.Seq.take-suc}
use Rattle.std.specs.List.{flat_map}
use Rattle.job_format.proofs.Items.{flat_map_last}
use Rattle.job_session.specs.Submit.{job_bytes}

-- one more
pub text_more : {A : Type 0} (text : A → List ℕ) (xs : List A) (i : ℕ) (x : A) (old before new : List ℕ) → i < length xs → x ≡ get_or xs i x
    → before ≡ old ++ flat_map text (take i xs) → new ≡ before ++ text x → new ≡ old ++ flat_map text (take (i + 1) xs)
text_more text xs i x old before new inside met so_far appended =
    let one_more : take (i + 1) xs ≡ take i xs ++ (x ∷ []) =
    ap (λ k. take k xs) (add-one i) ∙ take-suc xs i x inside ∙ ap (λ y. take i xs ++ (y ∷ [])) (sym met) in
    appended ∙ ap (λ t. t ++ text x) so_far ∙ append_assoc old (flat_map text (take i xs)) (text x)
    ∙ ap (λ t. old ++ t) (sym (flat_map_last text (take i xs) x) ∙ ap (flat_map text) (sym one_more))

-- a job's parts, with contents behind its entry
pub job_text : (file contents parts one two three : List ℕ) → (length parts < 124 → ⊥) → one ≡ file ++ take 124 parts → two ≡ one ++ contents
    → three ≡ two ++ take (length parts - 124) (drop 124 parts) → three ≡ file ++ job_bytes contents parts
job_text file contents parts one two three long first second third =
    let test : nat_lt (length parts) 124 ≡ false = grind (arith, nat_tests) in
    let rest : take (length parts - 124) (drop 124 parts) ≡ drop 124 parts = take_rest parts 124 in
    let entry : List ℕ = take 124 parts in
    third ∙ ap (λ t. two ++ t) rest ∙ ap (λ t. t ++ drop 124 parts) (second ∙ ap (λ t. t ++ contents) first)
    ∙ append_assoc (file ++ entry) contents (drop 124 parts) ∙ append_assoc file entry (contents ++ drop 124 parts)
    ∙ rw test refl
