-- The greatest index of vertices of a stride, by a product in place of a quotient.
use Rattle.std.proofs.Common.{◌≡◌, ℕ, zero, suc, ◌*◌, ◌/◌, not, nat_lt, ◌&&◌, ◌==◌, arith}
use Rattle.std.proofs.{Math.Nat.div-lt_iff_lt-mul, lemmas.Bool.Decides.nat_tests}

pub past_by_product : (rest stride most : ℕ) → nat_lt rest (most * stride) ≡ (not (stride == 0) && nat_lt (rest / stride) most)
past_by_product rest zero most = grind (arith, nat_tests)
past_by_product rest (suc n) most = let both = div-lt_iff_lt-mul {k = suc n} {x = rest} {y = most} (omega arith) in grind (arith, nat_tests, both)
