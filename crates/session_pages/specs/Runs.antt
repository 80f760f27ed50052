-- Runs of pages that pass a test, such as that they are free.
use Rattle.std.specs.Prelude.{ℕ, zero, suc, ◌+◌, Bool, true, ◌&&◌, nat_le, Option}
use Rattle.overflow_slots.specs.Search.{first_where}

-- how many pages there are
abbrev pub page_count : ℕ
page_count = 4096

-- the n numbers from a place on pass
unfoldable pub all_where : (ℕ → Bool) → ℕ → ℕ → Bool
all_where passes from zero = true
all_where passes from (suc n) = passes from && all_where passes (from + 1) n

-- n pages begin at this one, and all of them pass
unfoldable pub is_run : (ℕ → Bool) → ℕ → ℕ → Bool
is_run passes n first = nat_le (first + n) page_count && all_where passes first n

-- the lowest run of n pages that pass
unfoldable pub first_run : (ℕ → Bool) → ℕ → Option ℕ
first_run passes n = first_where (is_run passes n) 0 page_count
