-- Items of lists by their numbers: the code's calls, and the definitions.
use Rattle.std.proofs.Common.{◌≡◌, ◌≤◌, ◌<◌, ℕ, suc, ◌+◌, Bool, true, false, if◌then◌else◌, List, [], ◌∷◌, length, slice_index_or, Option, None, Some, refl, sym, ◌∙◌, ap, arith}
use Rattle.std.proofs.{lemmas.List.Quantifiers.position-Some, lemmas.Grind.common_steps}
use Rattle.std.specs.{Prelude.option_map, Prelude.position, Prelude.nat_lt, Prelude.IfSome, List.position_or_len}
use Rattle.list_machine.specs.Lists.{Lists}
use Rattle.machine.specs.State.{Picked, first_where, picked_in, no_job}

-- what is found at place k, where the list is numbered from n on
abbrev pub found_from : List Lists → ℕ → ℕ → Picked Lists
found_from jobs n k = record { number = n + k; item = slice_index_or jobs k no_job }

place_first : (p : Lists → Bool) (job : Lists) (jobs : List Lists) → p job ≡ true → position_or_len p (job ∷ jobs) ≡ 0
place_first p job jobs e = grind (arith, common_steps, e)

place_later : (p : Lists → Bool) (job : Lists) (jobs : List Lists) → p job ≡ false → position_or_len p (job ∷ jobs) ≡ suc (position_or_len p jobs)
place_later p job jobs e = grind (arith, common_steps, e)

abbrev if_found : {X : Type 0} → Bool → X → Option X
if_found found x = if found then Some x else None

one_on : (n k : ℕ) (job : Lists) (jobs : List Lists) (found : Bool) → option_map (found_from jobs (n + 1)) (if_found found k) ≡ option_map (found_from (job ∷ jobs) n) (if_found found (suc k))
one_on n k job jobs true = let same : n + 1 + k ≡ n + suc k = omega arith in ap (λ number. Some (record { number = number; item = slice_index_or jobs k no_job })) same
one_on n k job jobs false = refl

first_by : (p : Lists → Bool) (n : ℕ) (job : Lists) (jobs : List Lists) (yes : Bool) → p job ≡ yes → first_where p (n + 1) jobs ≡ option_map (found_from jobs (n + 1)) (position p jobs)
    → (if yes then Some (record { number = n; item = job }) else first_where p (n + 1) jobs) ≡ option_map (found_from (job ∷ jobs) n) (position p (job ∷ jobs))
first_by p n job jobs true e h =
    let first : nat_lt 0 (length (job ∷ jobs)) ≡ true = grind arith in
    let same : n ≡ n + 0 = omega arith in
    ap (λ number. Some (record { number = number; item = job })) same
    ∙ sym (ap (λ k. option_map (found_from (job ∷ jobs) n) (if_found (nat_lt k (length (job ∷ jobs))) k)) (place_first p job jobs e) ∙ ap (λ b. option_map (found_from (job ∷ jobs) n) (if_found b 0)) first)
first_by p n job jobs false e h =
    let k = position_or_len p jobs in
    let tests : nat_lt (suc k) (length (job ∷ jobs)) ≡ nat_lt k (length jobs) = grind arith in
    h ∙ (one_on n k job jobs (nat_lt k (length jobs))
    ∙ sym (ap (λ m. option_map (found_from (job ∷ jobs) n) (if_found (nat_lt m (length (job ∷ jobs))) m)) (place_later p job jobs e) ∙ ap (λ b. option_map (found_from (job ∷ jobs) n) (if_found b (suc k))) tests))

first_from : (p : Lists → Bool) (n : ℕ) (jobs : List Lists) → first_where p n jobs ≡ option_map (found_from jobs n) (position p jobs)
first_from p n [] = refl
first_from p n (job ∷ jobs) = first_by p n job jobs (p job) refl (first_from p (n + 1) jobs)

numbered : (jobs : List Lists) (place : Option ℕ) → option_map (found_from jobs 0) place ≡ option_map (picked_in jobs) place
numbered jobs None = refl
numbered jobs (Some k) = let same : 0 + k ≡ k = omega arith in ap (λ number. Some (record { number = number; item = slice_index_or jobs k no_job })) same

pub first_is : (p : Lists → Bool) (jobs : List Lists) → first_where p 0 jobs ≡ option_map (picked_in jobs) (position p jobs)
first_is p jobs = first_from p 0 jobs ∙ numbered jobs (position p jobs)

-- a place that is found is inside
pub found_inside : (p : Lists → Bool) (jobs : List Lists) (place : Option ℕ) → place ≡ position p jobs → length jobs ≤ 8 → IfSome place (λ k. (k < length jobs) × (k < 8))
found_inside p jobs None is few = tt
found_inside p jobs (Some k) is few = let h = position-Some p jobs k no_job (sym is) in (h.0, omega (arith, h.0, few))
