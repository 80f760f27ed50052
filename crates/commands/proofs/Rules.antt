-- The rules of a family, one by one.
use Rattle.std.proofs.Common.{◌≡◌, ℕ, suc, ◌+◌, [], ◌++◌, refl, sym, subst, add-one}
use Rattle.rule_words.specs.declared.name.{Family.Family}
use Rattle.commands.specs.Topics.{rule_row, rows_upto}

pub rows_none : (family : Family) → rows_upto family 0 ≡ []
unfolding rows_upto
rows_none family = refl

-- the rules to the next number have its row behind those before
next_row : (family : Family) (n : ℕ) → rows_upto family (suc n) ≡ rows_upto family n ++ rule_row (record { family = family; number = suc n })
unfolding rows_upto
next_row family n = refl

pub rows_more : (family : Family) (n : ℕ) → rows_upto family (n + 1) ≡ rows_upto family n ++ rule_row (record { family = family; number = n + 1 })
rows_more family n =
    subst (λ m. rows_upto family m ≡ rows_upto family n ++ rule_row (record { family = family; number = m })) (sym (add-one n)) (next_row family n)
