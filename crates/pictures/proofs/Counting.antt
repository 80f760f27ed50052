-- Which boxes an access touches; and one access more.
use Rattle.std.proofs.Common.{◌≡◌, ◌<◌, ◌≤◌, ◌⊎◌, inl, inr, ℕ, suc, ◌+◌, ◌*◌, ◌-◌, ◌/◌, ◌%◌, Bool, true, false, List, length, take, slice_index_or, refl, sym, subst, ◌∙◌, ap, arith, if◌then◌else◌}
use Rattle.std.proofs.{lemmas.List.FromFn.fill_by_all, Math.Nat.suc-mul, Math.Nat.mod-add-div', Math.Nat.add-mul-div_right}
use Rattle.std.proofs.{lemmas.Nat.div_below, lemmas.Nat.le-div, lemmas.List.take_all}
use Rattle.std.proofs.lemmas.Bool.{lt-ltb, le-ltb, le-leb, lt-leb, cases_lt}
use Rattle.std.proofs.lemmas.List.Sums.{count_by_more_yes, count_by_more_no}
use Rattle.std.specs.{Prelude.◌&&◌, Prelude.nat_le, Prelude.nat_lt, List.count_by, List.range_with_len, Prelude.map, Prelude.min}
use Rattle.pictures.specs.{Counts.IsOneMoreWhere, Grid.overlaps}

first_by : (place size n : ℕ) → 1 ≤ size → (place < suc n * size) ⊎ (suc n * size ≤ place) → nat_lt place (suc n * size) ≡ nat_le (place / size) n
first_by place size n some (inl below) =
    let down : place / size < suc n = div_below place size (suc n) some below in
    let le : place / size ≤ n = omega (arith, down) in
    lt-ltb place (suc n * size) below ∙ sym (le-leb (place / size) n le)
first_by place size n some (inr above) =
    let up : suc n ≤ place / size = le-div (suc n) place size some above in
    let lt : n < place / size = omega (arith, up) in
    le-ltb place (suc n * size) above ∙ sym (lt-leb (place / size) n lt)

-- a place lies before a box's end exactly where its own box isn't a later one
pub first_box : (place size n : ℕ) → 1 ≤ size → nat_lt place (n * size + size) ≡ nat_le (place / size) n
first_box place size n some =
    ap (λ at. nat_lt place at) (sym (suc-mul n size)) ∙ first_by place size n some (cases_lt place (suc n * size))

end_by : (end size n : ℕ) → 1 ≤ size → (end + (size - 1) < suc n * size) ⊎ (suc n * size ≤ end + (size - 1)) → nat_lt (n * size) end ≡ nat_lt n ((end + (size - 1)) / size)
end_by end size n some (inl below) =
    let down : (end + (size - 1)) / size < suc n = div_below (end + (size - 1)) size (suc n) some below in
    let le : (end + (size - 1)) / size ≤ n = omega (arith, down) in
    let is : suc n * size ≡ n * size + size = suc-mul n size in
    let past : end ≤ n * size = omega (arith, below, is, some) in
    le-ltb (n * size) end past ∙ sym (le-ltb n ((end + (size - 1)) / size) le)
end_by end size n some (inr above) =
    let up : suc n ≤ (end + (size - 1)) / size = le-div (suc n) (end + (size - 1)) size some above in
    let lt : n < (end + (size - 1)) / size = omega (arith, up) in
    let is : suc n * size ≡ n * size + size = suc-mul n size in
    let inside : n * size < end = omega (arith, above, is, some) in
    lt-ltb (n * size) end inside ∙ sym (lt-ltb n ((end + (size - 1)) / size) lt)

-- and an end lies behind a box's begin exactly where the box is one of those up to it
pub end_box : (end size n : ℕ) → 1 ≤ size → nat_lt (n * size) end ≡ nat_lt n ((end + (size - 1)) / size)
end_box end size n some = end_by end size n some (cases_lt (end + (size - 1)) (suc n * size))

end_split : (place len size : ℕ) → 1 ≤ size → (place + len + (size - 1)) / size ≡ place / size + (place % size + len + (size - 1)) / size
end_split place len size some =
    let rest = place % size + len + (size - 1) in
    let split : place % size + place / size * size ≡ place = mod-add-div' place size in
    let same : place + len + (size - 1) ≡ place % size + len + (size - 1) + place / size * size = omega (arith, split) in
    let out : (place % size + len + (size - 1) + place / size * size) / size ≡ (place % size + len + (size - 1)) / size + place / size = add-mul-div_right (place % size + len + (size - 1)) (place / size) some in
    let swap : (place % size + len + (size - 1)) / size + place / size ≡ place / size + (place % size + len + (size - 1)) / size = omega arith in
    ap (λ n. n / size) same ∙ (out ∙ swap)

below_by : (k end count : ℕ) → k < count → (k < end) ⊎ (end ≤ k) → nat_lt k (min end count) ≡ nat_lt k end
below_by k end count inside (inl below) =
    let both : k < min end count = omega (arith, inside, below) in
    lt-ltb k (min end count) both ∙ sym (lt-ltb k end below)
below_by k end count inside (inr above) =
    let past : min end count ≤ k = omega (arith, above) in
    le-ltb k (min end count) past ∙ sym (le-ltb k end above)

-- the boxes that have one of so many bytes from a place on
pub box_range : (place len size n : ℕ) → 1 ≤ size → (nat_le (place / size) n && nat_lt n (place / size + (place % size + len + (size - 1)) / size)) ≡ overlaps place len (n * size) (n * size + size)
box_range place len size n some =
    ap (λ b. b && nat_lt n (place / size + (place % size + len + (size - 1)) / size)) (sym (first_box place size n some))
    ∙ ap (λ b. nat_lt place (n * size + size) && b) (ap (λ end. nat_lt n end) (sym (end_split place len size some)) ∙ sym (end_box (place + len) size n some))

-- a number below a length is below an end exactly where it is below the lesser of both
pub below_end : (k end count : ℕ) → k < count → nat_lt k (min end count) ≡ nat_lt k end
below_end k end count inside = below_by k end count inside (cases_lt k end)

more_by : {X : Type 0} (p : X → Bool) (xs : List X) (i : ℕ) (d : X) (old new : ℕ) (b : Bool) → slice_index_or xs i d ≡ slice_index_or xs i d → p (slice_index_or xs i d) ≡ b → i < length xs
    → old ≡ count_by p (take i xs) → new ≡ (if b then old + 1 else old) → new ≡ count_by p (take (i + 1) xs)
more_by p xs i d old new true same is inside old_is new_is = new_is ∙ (ap (λ n. n + 1) old_is ∙ sym (count_by_more_yes p xs i d inside is))
more_by p xs i d old new false same is inside old_is new_is = new_is ∙ (old_is ∙ sym (count_by_more_no p xs i d inside is))

-- one access more
pub count_more : {X : Type 0} (p : X → Bool) (xs : List X) (i : ℕ) (d : X) (old new : ℕ) → i < length xs → old ≡ count_by p (take i xs)
    → new ≡ (if p (slice_index_or xs i d) then old + 1 else old) → new ≡ count_by p (take (i + 1) xs)
count_more p xs i d old new inside old_is new_is = more_by p xs i d old new (p (slice_index_or xs i d)) refl refl inside old_is new_is

-- where each count is one more for the access of this number that it is hit by
pub one_counted : {X : Type 0} (hit : ℕ → X → Bool) (xs : List X) (i : ℕ) (d : X) (slice old new : List ℕ) (n : ℕ) → i < length xs → slice ≡ old → length old ≡ n
    → ((k : ℕ) → k < n → slice_index_or old k 0 ≡ count_by (hit k) (take i xs)) → IsOneMoreWhere (λ k. hit k (slice_index_or xs i d)) slice new
    → (k : ℕ) → k < n → slice_index_or new k 0 ≡ count_by (hit k) (take (i + 1) xs)
one_counted hit xs i d slice old new n inside same long each one k below =
    let on : IsOneMoreWhere (λ j. hit j (slice_index_or xs i d)) old new = subst (λ l. IsOneMoreWhere (λ j. hit j (slice_index_or xs i d)) l new) same one in
    count_more (hit k) xs i d (slice_index_or old k 0) (slice_index_or new k 0) inside (each k below) (on k (subst (λ m. k < m) (sym long) below))

-- all of them
pub all_counted : {X : Type 0} (p : ℕ → X → Bool) (xs : List X) (counts : List ℕ) (n i : ℕ) → length counts ≡ n → length xs ≤ i
    → ((k : ℕ) → k < n → slice_index_or counts k 0 ≡ count_by (p k) (take i xs)) → counts ≡ map (λ k. count_by (p k) xs) (range_with_len 0 n)
all_counted p xs counts n i long past each =
    fill_by_all (λ k. count_by (p k) xs) counts n 0 long (λ k below. each k below ∙ ap (count_by (p k)) (take_all i xs past))
