-- Words that are hex.
use Rattle.std.proofs.Common.{◌≡◌, ℕ, ◌*◌, ◌%◌, ◌≤◌, ◌<◌, ◌↔◌, ◌&&◌, Bool, true, false, nat_lt, nat_le, List, length, refl, sym, ◌∙◌, ap, arith, Result, Ok, Err, IsTrue}
use Rattle.std.proofs.{lemmas.Bool.false≢true, lemmas.Bool.and_parts, lemmas.Bool.Decides.nat_tests}
use Rattle.std.specs.List.{AllPass}
use Rattle.hex.specs.{Hex.decode_of, Hex.is_hex_digit, declared.error.FromHexError.FromHexError}
use Rattle.hex.proofs.HexLemmas.{decode_of-ok, decode_of-digits}
use Rattle.job_session.specs.Calls.{bytes_decoded, hex_bytes, is_hex, is_code}

pub record Means (word : List ℕ) : Type 0 where
  pub some : 0 < length word
  pub even : length word % 2 ≡ 0
  pub digits : AllPass is_hex_digit word
  pub size : length word ≡ 2 * length (hex_bytes word)

means_by : (word : List ℕ) (result : Result (List ℕ) FromHexError) → decode_of word ≡ result → nat_lt 0 (length (bytes_decoded result)) ≡ true → Means word
unfolding hex_bytes
means_by word (Ok bytes) is some =
    let known = decode_of-ok word bytes is in
    let size : length word ≡ 2 * length (bytes_decoded (decode_of word)) = known.2 ∙ ap (λ r. 2 * length (bytes_decoded r)) (sym is) in
    let long : 0 < length bytes = grind (arith, nat_tests) in
    record { some = omega (arith, known.2, long); even = known.0; digits = known.1; size = size }
means_by word (Err error) is some = absurd (false≢true some)

pub hex_means : (word : List ℕ) → is_hex word ≡ true → Means word
unfolding is_hex hex_bytes
hex_means word is = means_by word (decode_of word) refl is

pub hex_made : (word : List ℕ) → 0 < length word → length word % 2 ≡ 0 → AllPass is_hex_digit word → is_hex word ≡ true
unfolding is_hex hex_bytes
hex_made word some even digits =
    let known = decode_of-digits word even digits in
    let size = (decode_of-ok word known.0 known.1).2 in
    let long : nat_lt 0 (length known.0) ≡ true = let low : 0 < length known.0 = omega (arith, size, some) in grind (arith, nat_tests) in
    ap (λ r. nat_lt 0 (length (bytes_decoded r))) known.1 ∙ long

not_true : (b : Bool) → (b ≡ true → ⊥) → false ≡ b
not_true true never = absurd (never refl)
not_true false never = refl

same_truth : (a b : Bool) → (a ≡ true → b ≡ true) → (b ≡ true → a ≡ true) → a ≡ b
same_truth true b to from = sym (to refl)
same_truth false b to from = not_true b (λ is. false≢true (from is))

pub no_digits : (word : List ℕ) → length word ≡ 0 → false ≡ is_hex word
no_digits word none = not_true (is_hex word) (λ is. omega (arith, none, (hex_means word is).some))

pub odd_digits : (word : List ℕ) → (length word % 2 ≡ 0 → ⊥) → false ≡ is_hex word
odd_digits word odd = not_true (is_hex word) (λ is. odd (hex_means word is).even)

pub all_digits : (word : List ℕ) (are : Bool) → (length word ≡ 0 → ⊥) → length word % 2 ≡ 0 → (IsTrue are ↔ AllPass is_hex_digit word) → are ≡ is_hex word
all_digits word are some even means =
    same_truth are (is_hex word) (λ is. hex_made word (omega (arith, some)) even (means.0 is)) (λ is. means.1 (hex_means word is).digits)

code_by : (word : List ℕ) (hex : Bool) → is_hex word ≡ hex → length word ≤ 131072 → hex ≡ (hex && nat_le (length (hex_bytes word)) 65536)
code_by word true is short =
    let size = (hex_means word is).size in
    let few : length (hex_bytes word) ≤ 65536 = omega (arith, size, short) in
    let test : nat_le (length (hex_bytes word)) 65536 ≡ true = grind (arith, nat_tests) in
    sym test
code_by word false is short = refl

pub code_short : (word : List ℕ) (hex : Bool) → length word ≤ 131072 → hex ≡ is_hex word → hex ≡ is_code word
unfolding is_code
code_short word hex short is = is ∙ code_by word (is_hex word) refl short

long_by : (word : List ℕ) → 131072 < length word → is_code word ≡ true → ⊥
unfolding is_code
long_by word long is =
    let parts = and_parts (is_hex word) (nat_le (length (hex_bytes word)) 65536) is in
    let size = (hex_means word parts.0).size in
    let many : nat_le (length (hex_bytes word)) 65536 ≡ true = parts.1 in
    let few : length (hex_bytes word) ≤ 65536 = grind (arith, nat_tests) in
    omega (arith, size, few, long)

pub code_long : (word : List ℕ) → 131072 < length word → false ≡ is_code word
code_long word long = not_true (is_code word) (long_by word long)

pub code_fits : (word : List ℕ) → is_code word ≡ true → length (hex_bytes word) ≤ 65536
unfolding is_code
code_fits word is =
    let many : nat_le (length (hex_bytes word)) 65536 ≡ true = (and_parts (is_hex word) (nat_le (length (hex_bytes word)) 65536) is).1 in
    grind (arith, nat_tests)
