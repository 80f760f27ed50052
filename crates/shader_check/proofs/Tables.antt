-- The first that is broken of a union of sorted tables is the least of the firsts.
use Rattle.std.proofs.Common.{◌≡◌, ◌≤◌, ℕ, Bool, true, false, List, [], ◌∷◌, Option, Some, None, min, if◌then◌else◌, refl, sym, ap, inl, inr, arith, ◌∙◌, nat_lt, nat_le}
use Rattle.std.proofs.lemmas.Bool.{and_parts, leb-true, cases_Bool}
use Rattle.field_words.specs.Questions.{Question, Ask, first_of}
use Rattle.shader_check.specs.{Merge.lesser, Merge.rises, Merge.question_inserted, Merge.tables_merged, Rules.index_questions, Rules.fact_questions}
use Rattle.shader_flow.specs.Rules.{flow_questions}
use Rattle.uniform_stream.specs.Rules.{stream_questions}

-- the least number that stands in a table, whatever its order
abbrev pub alone : Bool → ℕ → Option ℕ
alone b m = if b then Some m else None

abbrev pub least_in : List (Question ℕ) → Option ℕ
least_in [] = None
least_in (Ask b m ∷ later) = lesser (alone b m) (least_in later)

lesser_swap : (a b c : Option ℕ) → lesser a (lesser b c) ≡ lesser b (lesser a c)
lesser_swap None b c = refl
lesser_swap (Some a) None c = refl
lesser_swap (Some a) (Some b) None = let e : min a b ≡ min b a = omega arith in ap Some e
lesser_swap (Some a) (Some b) (Some c) = let e : min a (min b c) ≡ min b (min a c) = omega arith in ap Some e

lesser_join : (a b c : Option ℕ) → lesser (lesser a b) c ≡ lesser a (lesser b c)
lesser_join None b c = refl
lesser_join (Some a) None c = refl
lesser_join (Some a) (Some b) None = refl
lesser_join (Some a) (Some b) (Some c) = let e : min (min a b) c ≡ min a (min b c) = omega arith in ap Some e

-- it is the lesser of two tables' least
least_inserted : (b : Bool) (m : ℕ) (table : List (Question ℕ)) → least_in (question_inserted b m table) ≡ lesser (alone b m) (least_in table)
least_inserted b m [] = refl
least_inserted b m (Ask c k ∷ later) =
    elim (cases_Bool (nat_lt m k)) [
      | inl before ↦ ap (λ t. least_in (if t then Ask b m ∷ (Ask c k ∷ later) else Ask c k ∷ question_inserted b m later)) before
      | inr after ↦
          ap (λ t. least_in (if t then Ask b m ∷ (Ask c k ∷ later) else Ask c k ∷ question_inserted b m later)) after
          ∙ (ap (lesser (alone c k)) (least_inserted b m later) ∙ lesser_swap (alone c k) (alone b m) (least_in later))
    ]

least_merged : (one two : List (Question ℕ)) → least_in (tables_merged one two) ≡ lesser (least_in one) (least_in two)
least_merged [] two = refl
least_merged (Ask b m ∷ later) two =
    least_inserted b m (tables_merged later two)
    ∙ (ap (lesser (alone b m)) (least_merged later two) ∙ sym (lesser_join (alone b m) (least_in later) (least_in two)))

-- and in a table that rises the first is the least
low_alone : (b : Bool) (m low : ℕ) → low ≤ m → lesser (alone b m) (Some low) ≡ Some low
low_alone true m low less = let e : min m low ≡ low = omega (arith, less) in ap Some e
low_alone false m low less = refl

is_low : (low n : ℕ) (table : List (Question ℕ)) → low ≤ n → rises n table ≡ true → lesser (Some low) (least_in table) ≡ Some low
is_low low n [] less up = refl
is_low low n (Ask b m ∷ later) less up =
    let parts = and_parts (nat_le n m) (rises m later) up in
    let more = leb-true n m parts.0 in
    lesser_swap (Some low) (alone b m) (least_in later)
    ∙ (ap (lesser (alone b m)) (is_low low m later (omega (arith, less, more)) parts.1) ∙ low_alone b m low (omega (arith, less, more)))

first_least : (n : ℕ) (table : List (Question ℕ)) → rises n table ≡ true → first_of table ≡ least_in table
first_least n [] up = refl
first_least n (Ask true m ∷ later) up = sym (is_low m m later (omega arith) (and_parts (nat_le n m) (rises m later) up).1)
first_least n (Ask false m ∷ later) up = first_least m later (and_parts (nat_le n m) (rises m later) up).1

-- so the first of all rules at an instruction is the least of the three tables' firsts
pub index_first : (code : List ℕ) (i : ℕ)
    → lesser (first_of (fact_questions code i)) (lesser (first_of (stream_questions code i)) (first_of (flow_questions code i))) ≡ first_of (index_questions code i)
unfolding index_questions fact_questions stream_questions flow_questions
index_first code i =
    let facts = fact_questions code i in
    let streams = stream_questions code i in
    let flows = flow_questions code i in
    ap (λ o. lesser (first_of facts) (lesser o (first_of flows))) (first_least 0 streams refl)
    ∙ (ap (λ o. lesser (first_of facts) (lesser (least_in streams) o)) (first_least 0 flows refl)
    ∙ (ap (lesser (first_of facts)) (sym (least_merged streams flows))
    ∙ (ap (λ o. lesser o (least_in (tables_merged streams flows))) (first_least 0 facts refl)
    ∙ (sym (least_merged facts (tables_merged streams flows)) ∙ sym (first_least 0 (index_questions code i) refl)))))
