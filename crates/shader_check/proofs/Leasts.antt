-- The rules on a shader are asked by index, and at an index by number.
use Rattle.std.proofs.Common.{◌≡◌, ◌≤◌, ◌+◌, ℕ, true, List, [], ◌∷◌, ◌++◌, length, Err, inl, inr, refl, arith, nat_le}
use Rattle.std.proofs.lemmas.Bool.{and_parts, leb-true}
use Rattle.field_words.specs.{declared.stop.Stop.Stop, Least.NamesLeast}
use Rattle.field_words.specs.Questions.{Question, Ask, each, with_answers, Refuses}
use Rattle.field_words.proofs.Least.{IsOrder, Rises, pairs, wider, rises_append, rises_each, rises_answered, names_least}
use Rattle.shader_flow.specs.Flow.{checked_of}
use Rattle.shader_flow.proofs.Ends.{checked_of-le}
use Rattle.shader_check.specs.{declared.fault.ShaderFault.ShaderFault, Merge.rises, Least.IsUpTo}
use Rattle.shader_check.specs.Rules.{index_questions, whole_questions, fault_at, questions_at, shader_questions}

pub order : IsOrder IsUpTo
order = pairs (λ (f : ShaderFault). (f.index, f.number))

-- a table whose numbers rise up to one
risen : (n top : ℕ) (table : List (Question ℕ)) → rises n (table ++ Ask true top ∷ []) ≡ true → Rises (λ k m. k ≤ m) n table top
risen n top [] up = leb-true n top (and_parts (nat_le n top) true up).0
risen n top (Ask broken m ∷ later) up =
    let parts = and_parts (nat_le n m) (rises m (later ++ Ask true top ∷ [])) up in (leb-true n m parts.0, risen m top later parts.1)

table_rises : (i top : ℕ) (table : List (Question ℕ)) → rises 0 (table ++ Ask true top ∷ []) ≡ true
    → Rises IsUpTo (fault_at i 0) (with_answers (fault_at i) table) (fault_at i top)
unfolding fault_at
table_rises i top table up = rises_answered (λ k m. k ≤ m) IsUpTo (fault_at i) (λ a b less. inr (refl, less)) 0 top table (risen 0 top table up)

index_rises : (code : List ℕ) (i : ℕ) → Rises IsUpTo (fault_at i 0) (questions_at code i) (fault_at (i + 1) 0)
unfolding questions_at index_questions fault_at
index_rises code i =
    wider IsUpTo (fault_at i 0) (fault_at i 0) (fault_at i 27) (fault_at (i + 1) 0) (questions_at code i) order (order.same (fault_at i 0))
    (table_rises i 27 (index_questions code i) refl) (inl (omega arith))

pub all_rise : (code : List ℕ) → Rises IsUpTo (fault_at 0 0) (shader_questions code) (fault_at (length code) 26)
unfolding shader_questions whole_questions fault_at
all_rise code =
    let last : ShaderFault = fault_at (0 + checked_of code) 0 in
    let past : IsUpTo last (fault_at (length code) 0) = grind (arith, checked_of-le code) in
    rises_append IsUpTo (fault_at 0 0) last (fault_at (length code) 26) (each (questions_at code) 0 (checked_of code)) (with_answers (fault_at (length code)) (whole_questions code)) order
    (rises_each IsUpTo (questions_at code) (λ k. fault_at k 0) order (index_rises code) 0 (checked_of code))
    (wider IsUpTo last (fault_at (length code) 0) (fault_at (length code) 26) (fault_at (length code) 26) (with_answers (fault_at (length code)) (whole_questions code)) order past
    (table_rises (length code) 26 (whole_questions code) refl) (order.same (fault_at (length code) 26)))

pub refusal_least : (code : List ℕ) (stop : Stop ShaderFault) → Refuses (shader_questions code) stop → NamesLeast {X = ℕ} IsUpTo (shader_questions code) (Err stop)
refusal_least code stop refuses = names_least {X = ℕ} IsUpTo (fault_at 0 0) _ (shader_questions code) (λ made. Unit {0}) (Err stop) order (all_rise code) refuses
