-- Numbers from a place on, or below one, that pass a test.
use Rattle.std.specs.Prelude.{ℕ, zero, suc, ◌+◌, Bool, false, ◌||◌, Option, Some, None, if◌then◌else◌}

-- the first of the n numbers from a place on that passes
unfoldable pub first_where : (ℕ → Bool) → ℕ → ℕ → Option ℕ
first_where passes from zero = None
first_where passes from (suc n) = if passes from then Some from else first_where passes (from + 1) n

-- how many numbers below n pass
unfoldable pub count_where : (ℕ → Bool) → ℕ → ℕ
count_where passes zero = 0
count_where passes (suc n) = count_where passes n + (if passes n then 1 else 0)

-- one of the numbers below n passes
unfoldable pub any_where : (ℕ → Bool) → ℕ → Bool
any_where passes zero = false
any_where passes (suc n) = passes n || any_where passes n
