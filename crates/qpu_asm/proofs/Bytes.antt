-- Equal bytes, and bytes without such a one.
use Rattle.std.proofs.Common.{◌≡◌, ℕ, ◌<◌, true, not, ◌==◌, List, [], ◌∷◌, ◌++◌, refl, ap, arith, bytes_eq, eqb-true, eq-eqb, ◌∙◌}
use Rattle.std.proofs.{lemmas.Bool.and_parts, lemmas.Bool.and_from, lemmas.Bool.not-true, lemmas.Bool.false≢true, lemmas.Bool.Decides.nat_tests, lemmas.List.Folds.list_all-append}
use Rattle.std.specs.{Char.is_ascii_digit, Str.all_ascii_digits}
use Rattle.script.specs.Lines.{before, behind}
use Rattle.qpu_asm.specs.Walk.{lacks}

pub bytes_same : (xs ys : List ℕ) → bytes_eq xs ys ≡ true → xs ≡ ys
bytes_same [] [] is = refl
bytes_same [] (y ∷ ys) is = absurd (false≢true is)
bytes_same (x ∷ xs) [] is = absurd (false≢true is)
bytes_same (x ∷ xs) (y ∷ ys) is =
    let parts = and_parts (x == y) (bytes_eq xs ys) is in
    let first : x ≡ y = eqb-true x y parts.0 in
    let rest : xs ≡ ys = bytes_same xs ys parts.1 in
    cc

pub bytes_itself : (xs : List ℕ) → bytes_eq xs xs ≡ true
bytes_itself [] = refl
bytes_itself (x ∷ xs) = rw (eq-eqb x x refl) (bytes_itself xs)

pub cut_name : (mark : ℕ) (name text : List ℕ) → lacks mark name ≡ true → (before mark (name ++ mark ∷ text) ≡ name) × (behind mark (name ++ mark ∷ text) ≡ text)
unfolding before behind lacks
cut_name mark [] text test = rw (eq-eqb mark mark refl) (refl, refl)
cut_name mark (byte ∷ bytes) text test =
    let parts = and_parts (not (byte == mark)) (lacks mark bytes) test in
    let rest = cut_name mark bytes text parts.1 in
    rw (not-true (byte == mark) parts.0) (ap (λ b. byte ∷ b) rest.0, rest.1)

pub lacks_append : (at : ℕ) (xs ys : List ℕ) → lacks at xs ≡ true → lacks at ys ≡ true → lacks at (xs ++ ys) ≡ true
unfolding lacks
lacks_append at xs ys a b = list_all-append (λ c. not (c == at)) xs ys ∙ and_from (lacks at xs) (lacks at ys) a b

digit_other : (at digit : ℕ) → at < 48 → is_ascii_digit digit ≡ true → not (digit == at) ≡ true
digit_other at digit low is = grind (arith, nat_tests)

pub digits_lack : (at : ℕ) (digits : List ℕ) → at < 48 → all_ascii_digits digits ≡ true → lacks at digits ≡ true
unfolding lacks
digits_lack at [] low all = refl
digits_lack at (digit ∷ digits) low all =
    let parts = and_parts (is_ascii_digit digit) (all_ascii_digits digits) all in
    and_from (not (digit == at)) (lacks at digits) (digit_other at digit low parts.0) (digits_lack at digits low parts.1)
