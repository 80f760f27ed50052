-- Tests over ranges of indexes.
use Rattle.std.specs.Prelude.{ℕ, zero, suc, ◌-◌, Bool, false, ◌&&◌, ◌||◌, List, [], ◌∷◌, ◌++◌, nat_le, Option, Some, None, if◌then◌else◌}

-- the test is true of some number below n
unfoldable pub some_below : ℕ → (ℕ → Bool) → Bool
some_below zero test = false
some_below (suc n) test = some_below n test || test n

-- the test is true of some number from `from` on and below `to`
unfoldable pub some_in : ℕ → ℕ → (ℕ → Bool) → Bool
some_in from to test = some_below to (λ k. nat_le from k && test k)

-- the test is true of the number that is `distance` less, where there is one
unfoldable pub is_back : ℕ → ℕ → (ℕ → Bool) → Bool
is_back i distance test = nat_le distance i && test (i - distance)

-- the numbers below n of which the test is true, upwards
unfoldable pub indexes : ℕ → (ℕ → Bool) → List ℕ
indexes zero test = []
indexes (suc n) test = indexes n test ++ (if test n then n ∷ [] else [])

-- the last number below n of which the test is true
unfoldable pub last_below : ℕ → (ℕ → Bool) → Option ℕ
last_below zero test = None
last_below (suc n) test = if test n then Some n else last_below n test
