-- Each item of a list has its share, and another item in its place another share.
use Rattle.std.proofs.Common.{◌≡◌, ◌≤◌, ℕ, zero, suc, ◌+◌, ◌-◌, Bool, true, false, if◌then◌else◌, List, [], ◌∷◌, Option, Some, None, IfSome, sym, subst, arith, refl}
use Rattle.machine.specs.State.{Picked, first_where, item_at, put_at}
use Rattle.ends_law.specs.Left.{EachWithin}

pub more_within : {X : Type 0} (P : ℕ → ℕ → X → Type 0) (k n m : ℕ) (xs : List X) → n ≤ m → EachWithin P k n xs → EachWithin P k m xs
more_within P k n m [] more all = tt
more_within P k n m (x ∷ xs) more all =
    let share : ℕ = all.0 in
    let inside : share ≤ n = all.2 in
    (share, all.1, omega (arith, inside, more), more_within P (k + 1) (n - share) (m - share) xs (omega (arith, more)) all.3)

-- The item at i, which has the number j, with its share of n; and the list with another item there.
pub record Hole {X : Type 0} (P : ℕ → ℕ → X → Type 0) (k n i j : ℕ) (xs : List X) (x : X) : Type 0 where
  pub share : ℕ
  pub known : P j share x
  pub inside : share ≤ n
  pub put : (new : X) (rest m : ℕ) → P j rest new → rest + n ≤ share + m → EachWithin P k m (put_at xs i new)

hole_here : {X : Type 0} (P : ℕ → ℕ → X → Type 0) (k n j : ℕ) (x : X) (xs : List X) → j ≡ k → EachWithin P k n (x ∷ xs) → Hole P k n 0 j (x ∷ xs) x
hole_here {X = X} P k n j x xs same all =
    let share : ℕ = all.0 in
    let inside : share ≤ n = all.2 in
    record {
      share = share;
      known = subst (λ number. P number share x) (sym same) all.1;
      inside = inside;
      put = λ new rest m known less.
          (rest, subst (λ number. P number rest new) same known, omega (arith, inside, less), more_within P (k + 1) (n - share) (m - rest) xs (omega (arith, less, inside)) all.3);
    }

hole_behind : {X : Type 0} (P : ℕ → ℕ → X → Type 0) (k n i j : ℕ) (x : X) (xs : List X) (found : X) (all : EachWithin P k n (x ∷ xs))
    → Hole P (k + 1) (n - all.0) i j xs found → Hole P k n (suc i) j (x ∷ xs) found
hole_behind {X = X} P k n i j x xs found all hole =
    let share : ℕ = all.0 in
    let inside : share ≤ n = all.2 in
    let later = hole.inside in
    record {
      share = hole.share;
      known = hole.known;
      inside = omega (arith, later);
      put = λ new rest m known less.
          (share, all.1, omega (arith, inside, less, later), hole.put new rest (m - share) known (omega (arith, inside, less, later)));
    }

behind_at : {X : Type 0} (P : ℕ → ℕ → X → Type 0) (k n i j : ℕ) (x : X) (xs : List X) (found : Option X) (all : EachWithin P k n (x ∷ xs))
    → IfSome found (Hole P (k + 1) (n - all.0) i j xs) → IfSome found (Hole P k n (suc i) j (x ∷ xs))
behind_at P k n i j x xs None all hole = tt
behind_at P k n i j x xs (Some one) all hole = hole_behind P k n i j x xs one all hole

pub hole_at : {X : Type 0} (P : ℕ → ℕ → X → Type 0) (k n i j : ℕ) (xs : List X) → j ≡ k + i → EachWithin P k n xs → IfSome (item_at xs i) (Hole P k n i j xs)
hole_at P k n i j [] same all = tt
hole_at P k n zero j (x ∷ xs) same all = hole_here P k n j x xs (omega (arith, same)) all
hole_at P k n (suc i) j (x ∷ xs) same all = behind_at P k n i j x xs (item_at xs i) all (hole_at P (k + 1) (n - all.0) i j xs (omega (arith, same)) all.3)

-- the one that a test chooses
pub record PickedHole {X : Type 0} (P : ℕ → ℕ → X → Type 0) (p : X → Bool) (k n : ℕ) (xs : List X) (one : Picked X) : Type 0 where
  pub at : ℕ
  pub is : one.number ≡ k + at
  pub on : p one.item ≡ true
  pub hole : Hole P k n at one.number xs one.item

picked_behind : {X : Type 0} (P : ℕ → ℕ → X → Type 0) (p : X → Bool) (k n : ℕ) (x : X) (xs : List X) (found : Option (Picked X)) (all : EachWithin P k n (x ∷ xs))
    → IfSome found (PickedHole P p (k + 1) (n - all.0) xs) → IfSome found (PickedHole P p k n (x ∷ xs))
picked_behind P p k n x xs None all picked = tt
picked_behind P p k n x xs (Some one) all picked =
    let is = picked.is in
    record { at = suc picked.at; is = omega (arith, is); on = picked.on; hole = hole_behind P k n picked.at one.number x xs one.item all picked.hole }

picked_by : {X : Type 0} (P : ℕ → ℕ → X → Type 0) (p : X → Bool) (k n : ℕ) (x : X) (xs : List X) (b : Bool) (later : Option (Picked X)) (all : EachWithin P k n (x ∷ xs)) → p x ≡ b
    → IfSome later (PickedHole P p (k + 1) (n - all.0) xs) → IfSome (if b then Some (record { number = k; item = x }) else later) (PickedHole P p k n (x ∷ xs))
picked_by P p k n x xs true later all on picked = record { at = 0; is = omega arith; on = on; hole = hole_here P k n k x xs refl all }
picked_by P p k n x xs false later all on picked = picked_behind P p k n x xs later all picked

pub picked_hole : {X : Type 0} (P : ℕ → ℕ → X → Type 0) (p : X → Bool) (k n : ℕ) (xs : List X) → EachWithin P k n xs → IfSome (first_where p k xs) (PickedHole P p k n xs)
picked_hole P p k n [] all = tt
picked_hole P p k n (x ∷ xs) all = picked_by P p k n x xs (p x) (first_where p (k + 1) xs) all refl (picked_hole P p (k + 1) (n - all.0) xs all.3)
