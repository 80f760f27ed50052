-- Members of lists of indexes, and of what is made of them.
use Rattle.std.proofs.Common.{◌≡◌, ◌<◌, ◌⊎◌, ℕ, zero, suc, Bool, true, List, [], ◌∷◌, ◌++◌, map, if◌then◌else◌, refl, sym, ap, subst, inl, inr, arith, ◌∙◌}
use Rattle.std.proofs.{lemmas.Bool.cases_Bool, lemmas.List.map-append, lemmas.List.append-nil}
use Rattle.shader_flow.specs.Bounded.{indexes}
use Rattle.shader_check.proofs.Listed.{Member, AllDifferent}

pub member_append : {X : Type 0} (xs ys : List X) (x : X) → Member x (xs ++ ys) → Member x xs ⊎ Member x ys
member_append [] ys x member = inr member
member_append (first ∷ later) ys x (inl here) = inl (inl here)
member_append (first ∷ later) ys x (inr there) =
    elim (member_append later ys x there) [ inl one ↦ inl (inr one) | inr two ↦ inr two ]

pub member_left : {X : Type 0} (xs ys : List X) (x : X) → Member x xs → Member x (xs ++ ys)
member_left [] ys x member = absurd member
member_left (first ∷ later) ys x (inl here) = inl here
member_left (first ∷ later) ys x (inr there) = inr (member_left later ys x there)

pub member_right : {X : Type 0} (xs ys : List X) (x : X) → Member x ys → Member x (xs ++ ys)
member_right [] ys x member = member
member_right (first ∷ later) ys x member = inr (member_right later ys x member)

pub member_map : {X Y : Type 0} (f : X → Y) (xs : List X) (y : Y) → Member y (map f xs) → (x : X) × Member x xs × (f x ≡ y)
member_map f [] y member = absurd member
member_map f (first ∷ later) y (inl here) = (first, inl refl, here)
member_map f (first ∷ later) y (inr there) = let found = member_map f later y there in (found.0, inr found.1, found.2)

pub member_indexes : (n i : ℕ) (p : ℕ → Bool) → Member i (indexes n p) → (i < n) × (p i ≡ true)
unfolding indexes
member_indexes zero i p member = absurd member
member_indexes (suc n) i p member =
    elim (member_append (indexes n p) (if p n then n ∷ [] else []) i member) [
      | inl before ↦ (let found = member_indexes n i p before in (omega (arith, found.0), found.1))
      | inr last ↦
          elim (cases_Bool (p n)) [
            | inl yes-here ↦
                (let one = subst (λ b. Member i (if b then n ∷ [] else [])) yes-here last in
                elim one [
                  | inl same ↦ (omega (arith, same), subst (λ m. p m ≡ true) same yes-here)
                  | inr none ↦ absurd none
                ])
            | inr no-here ↦ absurd (subst (λ b. Member i (if b then n ∷ [] else [])) no-here last)
          ]
    ]

pub different_append : (xs ys : List ℕ) → AllDifferent xs → AllDifferent ys → ((n : ℕ) → Member n xs → Member n ys → ⊥) → AllDifferent (xs ++ ys)
different_append [] ys one two apart = two
different_append (first ∷ later) ys one two apart = (
  λ member. elim (member_append later ys first member) [ inl within ↦ one.0 within | inr beyond ↦ apart first (inl refl) beyond ],
  different_append later ys one.1 two (λ n in-later in-ys. apart n (inr in-later) in-ys),
)

pub different_indexes : (f : ℕ → ℕ) (n : ℕ) (p : ℕ → Bool) → ((i j : ℕ) → i < j → j < n → p i ≡ true → p j ≡ true → f i ≡ f j → ⊥) → AllDifferent (map f (indexes n p))
unfolding indexes
different_indexes f zero p apart = tt
different_indexes f (suc n) p apart =
    let before = different_indexes f n p (λ i j less below pi pj same. apart i j less (omega (arith, below)) pi pj same) in
    elim (cases_Bool (p n)) [
      | inl here ↦
          subst AllDifferent
          (sym (ap (λ b. map f (indexes n p ++ (if b then n ∷ [] else []))) here ∙ map-append f (indexes n p) (n ∷ [])))
          (different_append (map f (indexes n p)) (f n ∷ []) before ((λ none. none), tt)
          (λ m member last.
          let found = member_map f (indexes n p) m member in
          let at = member_indexes n found.0 p found.1 in
          elim last [
            | inl same ↦ apart found.0 n at.0 (omega arith) at.1 here (found.2 ∙ sym same)
            | inr none ↦ none
          ]))
      | inr none ↦
          subst AllDifferent (sym (ap (λ b. map f (indexes n p ++ (if b then n ∷ [] else []))) none ∙ ap (map f) (append-nil (indexes n p)))) before
    ]
