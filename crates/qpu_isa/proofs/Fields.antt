-- The fields of a word, joined, give the word again.
use Rattle.std.proofs.Common.{◌≡◌, ℕ, ◌+◌, ◌*◌, ◌/◌, ◌%◌, ◌^◌, List, [], ◌∷◌, sym, ◌∙◌, ap, arith}
use Rattle.std.proofs.{Math.Nat.div-one, Math.Nat.div-div-eq-div-mul, Math.Nat.div-add-mod, lemmas.Nat.pow-add}
use Rattle.qpu_isa.specs.Fields.{width_of, values_of, fields_joined}

-- a quotient is the quotient above it, and the field between them
pub quotient_split : (word high low : ℕ) → word / 2 ^ (high + low) * 2 ^ high + word / 2 ^ low % 2 ^ high ≡ word / 2 ^ low
quotient_split word high low =
    let q : ℕ = word / 2 ^ low in
    let above : word / 2 ^ (high + low) ≡ q / 2 ^ high =
    ap (λ n. word / n) (pow-add 2 high low) ∙ (ap (λ n. word / n) (omega arith) ∙ sym (div-div-eq-div-mul word (2 ^ low) (2 ^ high))) in
    rw above (omega (arith, div-add-mod q (2 ^ high)))

pub joined-values_of : (widths : List ℕ) (word : ℕ) → fields_joined (word / 2 ^ width_of widths) widths (values_of widths word) ≡ word
unfolding fields_joined values_of width_of
joined-values_of [] word = div-one word
joined-values_of (width ∷ widths) word =
    ap (λ n. fields_joined n widths (values_of widths word)) (quotient_split word width (width_of widths)) ∙ joined-values_of widths word
