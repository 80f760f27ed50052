-- Items of lists by their numbers: where one is put, and the first of which a test is true.
use Rattle.std.proofs.Common.{◌≡◌, ◌≢◌, ◌≤◌, ◌<◌, ℕ, zero, suc, ◌+◌, Bool, true, false, if◌then◌else◌, List, [], ◌∷◌, map, Some, refl, sym, ◌∙◌, ap, subst, arith, rules}
use Rattle.std.proofs.{lemmas.Bool.false≢true, lemmas.List.map-set, lemmas.Option.slice_get-map}
use Rattle.std.specs.Prelude.{drop, option_map}
use Rattle.machine_plan.specs.Regions.{Every}
use Rattle.machine.specs.State.{Picked, first_where, item_at, put_at}
use Rattle.apart_law.proofs.Parts.{some_same, some_none}

-- where two lists have the same at j, so they do after the same was put at k
pub put_alike : {X : Type 0} (us vs : List X) (k j : ℕ) (x : X) → item_at us j ≡ item_at vs j → item_at (put_at us k x) j ≡ item_at (put_at vs k x) j
put_alike [] [] k j x h = h
put_alike [] (v ∷ vs) zero zero x h = absurd (some_none v (sym h))
put_alike [] (v ∷ vs) zero (suc j) x h = h
put_alike [] (v ∷ vs) (suc k) zero x h = h
put_alike [] (v ∷ vs) (suc k) (suc j) x h = put_alike [] vs k j x h
put_alike (u ∷ us) [] zero zero x h = absurd (some_none u h)
put_alike (u ∷ us) [] zero (suc j) x h = h
put_alike (u ∷ us) [] (suc k) zero x h = h
put_alike (u ∷ us) [] (suc k) (suc j) x h = put_alike us [] k j x h
put_alike (u ∷ us) (v ∷ vs) zero zero x h = refl
put_alike (u ∷ us) (v ∷ vs) zero (suc j) x h = h
put_alike (u ∷ us) (v ∷ vs) (suc k) zero x h = h
put_alike (u ∷ us) (v ∷ vs) (suc k) (suc j) x h = put_alike us vs k j x h

-- at another place it is as it was
pub put_elsewhere : {X : Type 0} (us : List X) (k j : ℕ) (x : X) → j ≢ k → item_at (put_at us k x) j ≡ item_at us j
put_elsewhere [] k j x other = refl
put_elsewhere (u ∷ us) zero zero x other = absurd (other refl)
put_elsewhere (u ∷ us) zero (suc j) x other = refl
put_elsewhere (u ∷ us) (suc k) zero x other = refl
put_elsewhere (u ∷ us) (suc k) (suc j) x other = put_elsewhere us k j x (λ e. other (ap suc e))

-- what is there already is put
put_same : {X : Type 0} (xs : List X) (k : ℕ) (x : X) → item_at xs k ≡ Some x → put_at xs k x ≡ xs
put_same [] k x here = refl
put_same (y ∷ xs) zero x here = ap (λ z. z ∷ xs) (sym (some_same y x here))
put_same (y ∷ xs) (suc k) x here = ap (λ rest. y ∷ rest) (put_same xs k x here)

-- f of each is as it was where f can't tell the new one from the old
pub map_same : {X Y : Type 0} (f : X → Y) (xs : List X) (k : ℕ) (old new : X) → item_at xs k ≡ Some old → f new ≡ f old → map f (put_at xs k new) ≡ map f xs
map_same f xs k old new here same = search (rules, arith, map-set, put_same, slice_get-map)

-- where f can't tell two lists apart, it can't after what it can't tell apart was put
pub map_alike : {X Y : Type 0} (f : X → Y) (us vs : List X) (k : ℕ) (x y : X) → map f us ≡ map f vs → f x ≡ f y → map f (put_at us k x) ≡ map f (put_at vs k y)
map_alike f us vs k x y all same = map-set f us k x ∙ ((λ i. put_at (all i) k (same i)) ∙ sym (map-set f vs k y))

-- nor can it tell apart what stands at one place
pub map_at : {X Y : Type 0} (f : X → Y) (us vs : List X) (k : ℕ) (x y : X) → map f us ≡ map f vs → item_at us k ≡ Some x → item_at vs k ≡ Some y → f x ≡ f y
map_at f us vs k x y all first second =
    some_same (f x) (f y) (sym (slice_get-map f us k ∙ ap (option_map f) first) ∙ (ap (λ l. item_at l k) all ∙ (slice_get-map f vs k ∙ ap (option_map f) second)))

-- what is true of both is true of the one that a test chooses
pub chosen : {X : Type 0} (P : X → Type 0) (b : Bool) (x y : X) → P x → P y → P (if b then x else y)
chosen P b x y first second = search (rules, arith)

pub drop_every : {X : Type 0} (P : X → Type 0) (xs : List X) → Every P xs → Every P (drop 1 xs)
drop_every P xs all = search (rules, arith)

-- what is true of each item is true of the one at a place
pub every_at : {X : Type 0} (P : X → Type 0) (xs : List X) (k : ℕ) (x : X) → item_at xs k ≡ Some x → Every P xs → P x
every_at P [] k x here all = absurd (some_none x (sym here))
every_at P (y ∷ xs) zero x here all = subst P (some_same y x here) all.0
every_at P (y ∷ xs) (suc k) x here all = every_at P xs k x here all.1

pub put_every : {X : Type 0} (P : X → Type 0) (xs : List X) (k : ℕ) (new : X) → P new → Every P xs → Every P (put_at xs k new)
put_every P [] k new fine all = tt
put_every P (x ∷ xs) zero new fine all = (fine, all.1)
put_every P (x ∷ xs) (suc k) new fine all = (all.0, put_every P xs k new fine all.1)

-- item k is the first of which the test is true
pub record IsFirst {X : Type 0} (p : X → Bool) (xs : List X) (k : ℕ) (x : X) : Type 0 where
  pub at : item_at xs k ≡ Some x
  pub passes : p x ≡ true
  pub before : (i : ℕ) (y : X) → i < k → item_at xs i ≡ Some y → p y ≡ false

-- where the list is numbered from n on
record FoundFrom {X : Type 0} (p : X → Bool) (n : ℕ) (xs : List X) (one : Picked X) : Type 0 where
  pub k : ℕ
  pub number : one.number ≡ n + k
  pub first : IsFirst p xs k one.item

found_later : {X : Type 0} (p : X → Bool) (n : ℕ) (x : X) (xs : List X) (one : Picked X) → p x ≡ false → FoundFrom p (n + 1) xs one → FoundFrom p n (x ∷ xs) one
found_later {X = X} p n x xs one fails h = record { k = suc h.k; number = omega (arith, h.number); first = record { at = h.first.at; passes = h.first.passes; before = before } }
  where
    before : (i : ℕ) (y : X) → i < suc h.k → item_at (x ∷ xs) i ≡ Some y → p y ≡ false
    before zero y below here = ap p (sym (some_same x y here)) ∙ fails
    before (suc i) y below here = h.first.before i y (omega (arith, below)) here

found_by : {X : Type 0} (p : X → Bool) (n : ℕ) (x : X) (xs : List X) (one : Picked X) (passes : Bool) → p x ≡ passes → ((other : Picked X) → first_where p (n + 1) xs ≡ Some other → FoundFrom p (n + 1) xs other)
    → (if passes then Some (record { number = n; item = x }) else first_where p (n + 1) xs) ≡ Some one → FoundFrom p n (x ∷ xs) one
found_by p n x xs one passes is later found = search (rules, arith, some_same, found_later)

found_from : {X : Type 0} (p : X → Bool) (n : ℕ) (xs : List X) (one : Picked X) → first_where p n xs ≡ Some one → FoundFrom p n xs one
found_from p n [] one found = absurd (some_none one (sym found))
found_from p n (x ∷ xs) one found = found_by p n x xs one (p x) refl (λ other later. found_from p (n + 1) xs other later) found

pub first_is : {X : Type 0} (p : X → Bool) (xs : List X) (one : Picked X) → first_where p 0 xs ≡ Some one → IsFirst p xs one.number one.item
first_is p xs one found =
    let h = found_from p 0 xs one found in
    let same : h.k ≡ one.number = omega (arith, h.number) in
    subst (λ k. IsFirst p xs k one.item) same h.first

none_before : {X : Type 0} (p : X → Bool) (us vs : List X) (a b : ℕ) (x y : X) → IsFirst p us a x → IsFirst p vs b y → item_at us a ≡ item_at vs a → b ≤ a
none_before p us vs a b x y one other same = search (rules, arith, false≢true)

-- two firsts are one, where the two lists have the same at both places
pub one_first : {X : Type 0} (p : X → Bool) (us vs : List X) (one other : Picked X) → first_where p 0 us ≡ Some one → first_where p 0 vs ≡ Some other → item_at us one.number ≡ item_at vs one.number → item_at us other.number ≡ item_at vs other.number
    → one ≡ other
one_first p us vs one other first second here there = search (rules, arith, first_is, none_before, some_same)
