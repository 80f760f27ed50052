-- Buffers of a job, one after the other.
use Rattle.std.proofs.Common.{◌≡◌, ℕ, ◌+◌, ◌≤◌, ◌<◌, Bool, true, false, max, nat_lt, List, [], ◌∷◌, ◌++◌, length, get_or, drop, refl, sym, ◌∙◌, ap, arith, drop-cons, add-one, Option, Some, None, if◌then◌else◌}
use Rattle.std.proofs.{lemmas.Bool.Decides.nat_tests, lemmas.Bool.lt-ltb, lemmas.Bool.le-ltb, lemmas.List.drop_all}
use Rattle.std.specs.Prelude.{slice_index, slice_set}
use Rattle.job_queue.specs.{Past.first_unknown, Desk.greatest, Desk.writers_after}

-- the items from one place on
pub from_here : (xs : List ℕ) (i : ℕ) → i < length xs → drop i xs ≡ get_or xs i 0 ∷ drop (i + 1) xs
from_here xs i inside = rw add-one (drop-cons xs i 0 inside)

-- the first number that is no buffer's
pub unknown_here : (buffers : ℕ) (xs : List ℕ) (i : ℕ) (all : Option ℕ) → i < length xs → buffers ≤ get_or xs i 0 → first_unknown buffers (drop i xs) ≡ all
    → Some (get_or xs i 0) ≡ all
unfolding first_unknown
unknown_here buffers xs i all inside past before =
    sym (ap (first_unknown buffers) (from_here xs i inside) ∙ ap (λ b. if b then first_unknown buffers (drop (i + 1) xs) else Some (get_or xs i 0)) (le-ltb (get_or xs i 0) buffers past)) ∙ before

pub unknown_more : (buffers : ℕ) (xs : List ℕ) (i : ℕ) (all : Option ℕ) → i < length xs → get_or xs i 0 < buffers → first_unknown buffers (drop i xs) ≡ all
    → first_unknown buffers (drop (i + 1) xs) ≡ all
unfolding first_unknown
unknown_more buffers xs i all inside below before =
    sym (ap (first_unknown buffers) (from_here xs i inside) ∙ ap (λ b. if b then first_unknown buffers (drop (i + 1) xs) else Some (get_or xs i 0)) (lt-ltb (get_or xs i 0) buffers below)) ∙ before

pub unknown_end : (buffers : ℕ) (xs : List ℕ) (i : ℕ) (all : Option ℕ) → length xs ≤ i → first_unknown buffers (drop i xs) ≡ all → None ≡ all
unfolding first_unknown
unknown_end buffers xs i all past before = sym (ap (first_unknown buffers) (drop_all i xs past)) ∙ before

-- where there is none, each number is a buffer's
known_by : (b : Bool) (buffer buffers : ℕ) (others : Option ℕ) → nat_lt buffer buffers ≡ b → (if b then others else Some buffer) ≡ None → (buffer < buffers) × (others ≡ None)
known_by true buffer buffers others is none = (grind (arith, nat_tests), none)
known_by false buffer buffers others is none = let no : ⊥ = cc in absurd no

pub known_first : (buffers buffer : ℕ) (others : List ℕ) → first_unknown buffers (buffer ∷ others) ≡ None → (buffer < buffers) × (first_unknown buffers others ≡ None)
unfolding first_unknown
known_first buffers buffer others none = known_by (nat_lt buffer buffers) buffer buffers (first_unknown buffers others) refl none

known_at : (buffers : ℕ) (xs : List ℕ) (i : ℕ) → i < length xs → first_unknown buffers (drop i xs) ≡ None
    → (get_or xs i 0 < buffers) × (first_unknown buffers (drop (i + 1) xs) ≡ None)
known_at buffers xs i inside none = known_first buffers (get_or xs i 0) (drop (i + 1) xs) (sym (ap (first_unknown buffers) (from_here xs i inside)) ∙ none)

pub known_here : (buffers : ℕ) (xs : List ℕ) (i : ℕ) → i < length xs → first_unknown buffers (drop i xs) ≡ None → get_or xs i 0 < buffers
known_here buffers xs i inside none = (known_at buffers xs i inside none).0

pub known_later : (buffers : ℕ) (xs : List ℕ) (i : ℕ) → i < length xs → first_unknown buffers (drop i xs) ≡ None → first_unknown buffers (drop (i + 1) xs) ≡ None
known_later buffers xs i inside none = (known_at buffers xs i inside none).1

-- of two lists it is that of the first, if there is one
front_by : (b : Bool) (x y : Option ℕ) (buffer found : ℕ) → (x ≡ Some found → y ≡ Some found) → (if b then x else Some buffer) ≡ Some found → (if b then y else Some buffer) ≡ Some found
front_by true x y buffer found later is = later is
front_by false x y buffer found later is = is

pub unknown_front : (buffers : ℕ) (xs ys : List ℕ) (found : ℕ) → first_unknown buffers xs ≡ Some found → first_unknown buffers (xs ++ ys) ≡ Some found
unfolding first_unknown
unknown_front buffers [] ys found is = let no : ⊥ = cc in absurd no
unknown_front buffers (x ∷ xs) ys found is = front_by (nat_lt x buffers) _ _ x found (unknown_front buffers xs ys found) is

pub unknown_back : (buffers : ℕ) (xs ys : List ℕ) → first_unknown buffers xs ≡ None → first_unknown buffers (xs ++ ys) ≡ first_unknown buffers ys
unfolding first_unknown
unknown_back buffers [] ys is = refl
unknown_back buffers (x ∷ xs) ys is = let known = known_first buffers x xs is in rw (lt-ltb x buffers known.0) (unknown_back buffers xs ys known.1)

-- the greatest that is kept
pub greatest_more : (writers xs : List ℕ) (i found next all : ℕ) → i < length xs → next ≡ max found (slice_index writers (get_or xs i 0))
    → greatest writers found (drop i xs) ≡ all → greatest writers next (drop (i + 1) xs) ≡ all
unfolding greatest
greatest_more writers xs i found next all inside is before =
    ap (λ n. greatest writers n (drop (i + 1) xs)) is ∙ sym (ap (greatest writers found) (from_here xs i inside)) ∙ before

pub greatest_end : (writers xs : List ℕ) (i found all : ℕ) → length xs ≤ i → greatest writers found (drop i xs) ≡ all → found ≡ all
unfolding greatest
greatest_end writers xs i found all past before = sym (ap (greatest writers found) (drop_all i xs past)) ∙ before

-- a job is kept
pub written_more : (writers xs all : List ℕ) (i job : ℕ) → i < length xs → writers_after writers (drop i xs) job ≡ all
    → writers_after (slice_set writers (get_or xs i 0) job) (drop (i + 1) xs) job ≡ all
unfolding writers_after
written_more writers xs all i job inside before = sym (ap (λ bs. writers_after writers bs job) (from_here xs i inside)) ∙ before

pub written_end : (writers xs all : List ℕ) (i job : ℕ) → length xs ≤ i → writers_after writers (drop i xs) job ≡ all → writers ≡ all
unfolding writers_after
written_end writers xs all i job past before = sym (ap (λ bs. writers_after writers bs job) (drop_all i xs past)) ∙ before
