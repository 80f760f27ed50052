-- Numbers parted by commas.
use Rattle.std.proofs.Common.{◌≡◌, ℕ, suc, ◌≤◌, ◌<◌, ◌==◌, ◌&&◌, Bool, true, false, List, [], ◌∷◌, ◌++◌, length, refl, sym, ◌∙◌, ap, append_assoc, append-nil, arith, eq-eqb, Option, Some, None, is_some, if◌then◌else◌}
use Rattle.std.specs.Prelude.{option_to_list}
use Rattle.std.proofs.{lemmas.Bool.false≢true, lemmas.Bool.Decides.nat_tests}
use Rattle.script.specs.{Lines.before, Lines.behind, Lines.onto_line, Number.number_within, Number.is_number}
use Rattle.job_queue.specs.Calls.{parts_of, are_all_numbers, numbers_in, last_number}

whole_by : (byte : ℕ) (bytes : List ℕ) (b : Bool) → (byte == 44) ≡ b → (length (before 44 bytes) ≡ length bytes → (parts_of bytes ≡ before 44 bytes ∷ []) × (behind 44 bytes ≡ []))
    → length (before 44 (byte ∷ bytes)) ≡ length (byte ∷ bytes) → (parts_of (byte ∷ bytes) ≡ before 44 (byte ∷ bytes) ∷ []) × (behind 44 (byte ∷ bytes) ≡ [])
unfolding before behind parts_of
whole_by byte bytes true is later size = absurd (short byte bytes is size) where
  short : (byte : ℕ) (bytes : List ℕ) → (byte == 44) ≡ true → length (if byte == 44 then [] else byte ∷ before 44 bytes) ≡ suc (length bytes) → ⊥
  short byte bytes is size =
      let none : 0 ≡ suc (length bytes) = sym (ap (λ b. length (if b then [] else byte ∷ before 44 bytes)) is) ∙ size in
      omega (arith, none)
whole_by byte bytes false is later size =
    let inner : suc (length (before 44 bytes)) ≡ suc (length bytes) = sym (ap (λ b. length (if b then [] else byte ∷ before 44 bytes)) is) ∙ size in
    let known = later (omega (arith, inner)) in
    rw is (ap (onto_line byte) known.0, known.1)

-- a word without a comma is one part
pub whole : (bytes : List ℕ) → length (before 44 bytes) ≡ length bytes → (parts_of bytes ≡ before 44 bytes ∷ []) × (behind 44 bytes ≡ [])
unfolding before behind parts_of
whole [] size = (refl, refl)
whole (byte ∷ bytes) size = whole_by byte bytes (byte == 44) refl (whole bytes) size

more_by : (byte : ℕ) (bytes : List ℕ) (b : Bool) → (byte == 44) ≡ b → ((length (before 44 bytes) ≡ length bytes → ⊥) → parts_of bytes ≡ before 44 bytes ∷ parts_of (behind 44 bytes))
    → (length (before 44 (byte ∷ bytes)) ≡ length (byte ∷ bytes) → ⊥) → parts_of (byte ∷ bytes) ≡ before 44 (byte ∷ bytes) ∷ parts_of (behind 44 (byte ∷ bytes))
unfolding before behind parts_of
more_by byte bytes true is later size = rw is refl
more_by byte bytes false is later size =
    let inner : length (before 44 bytes) ≡ length bytes → ⊥ = λ e. size (ap (λ b. length (if b then [] else byte ∷ before 44 bytes)) is ∙ ap suc e) in
    rw is (ap (onto_line byte) (later inner))

pub more : (bytes : List ℕ) → (length (before 44 bytes) ≡ length bytes → ⊥) → parts_of bytes ≡ before 44 bytes ∷ parts_of (behind 44 bytes)
unfolding before behind parts_of
more [] size = absurd (size refl)
more (byte ∷ bytes) size = more_by byte bytes (byte == 44) refl (more bytes) size

-- a word with a comma isn't empty
pub some_bytes : (bytes : List ℕ) → (length (before 44 bytes) ≡ length bytes → ⊥) → 0 < length bytes
unfolding before
some_bytes [] size = absurd (size refl)
some_bytes (byte ∷ bytes) size = omega arith

-- whether the parts are numbers
first_part : (bytes : List ℕ) (later : List (List ℕ)) → parts_of bytes ≡ before 44 bytes ∷ later
    → are_all_numbers (parts_of bytes) ≡ (is_some (number_within last_number (before 44 bytes)) && are_all_numbers later)
unfolding are_all_numbers
first_part bytes later is = rw is refl

no_number_by : (bytes first : List ℕ) (all same : Bool) → (length (before 44 bytes) == length bytes) ≡ same → first ≡ before 44 bytes → is_some (number_within last_number first) ≡ false
    → are_all_numbers (parts_of bytes) ≡ all → false ≡ all
no_number_by bytes first all true same cut none report =
    let e : length (before 44 bytes) ≡ length bytes = grind (arith, nat_tests) in
    let here : is_some (number_within last_number (before 44 bytes)) ≡ false = ap (λ w. is_some (number_within last_number w)) (sym cut) ∙ none in
    sym (first_part bytes [] (whole bytes e).0 ∙ ap (λ b. b && are_all_numbers []) here) ∙ report
no_number_by bytes first all false same cut none report =
    let apart : length (before 44 bytes) ≡ length bytes → ⊥ = λ e. absurd (false≢true (sym same ∙ eq-eqb _ _ e)) in
    let here : is_some (number_within last_number (before 44 bytes)) ≡ false = ap (λ w. is_some (number_within last_number w)) (sym cut) ∙ none in
    sym (first_part bytes (parts_of (behind 44 bytes)) (more bytes apart) ∙ ap (λ b. b && are_all_numbers (parts_of (behind 44 bytes))) here) ∙ report

pub no_number : (bytes first : List ℕ) (all : Bool) → first ≡ before 44 bytes → is_some (number_within last_number first) ≡ false → are_all_numbers (parts_of bytes) ≡ all → false ≡ all
no_number bytes first all cut none report = no_number_by bytes first all (length (before 44 bytes) == length bytes) refl cut none report

pub one_number : (bytes first : List ℕ) (all : Bool) → first ≡ before 44 bytes → is_some (number_within last_number first) ≡ true → length first ≡ length bytes
    → are_all_numbers (parts_of bytes) ≡ all → true ≡ all
unfolding are_all_numbers
one_number bytes first all cut is size report =
    let known = whole bytes (ap length (sym cut) ∙ size) in
    let here : is_some (number_within last_number (before 44 bytes)) ≡ true = ap (λ w. is_some (number_within last_number w)) (sym cut) ∙ is in
    sym (first_part bytes [] known.0 ∙ ap (λ b. b && true) here) ∙ report

pub more_numbers : (bytes first rest : List ℕ) (all : Bool) → first ≡ before 44 bytes → rest ≡ behind 44 bytes → is_some (number_within last_number first) ≡ true
    → (length first ≡ length bytes → ⊥) → are_all_numbers (parts_of bytes) ≡ all → are_all_numbers (parts_of rest) ≡ all
more_numbers bytes first rest all cut after is size report =
    let known = more bytes (λ e. size (ap length cut ∙ e)) in
    let here : is_some (number_within last_number (before 44 bytes)) ≡ true = ap (λ w. is_some (number_within last_number w)) (sym cut) ∙ is in
    ap (λ r. are_all_numbers (parts_of r)) after
    ∙ sym (first_part bytes (parts_of (behind 44 bytes)) known ∙ ap (λ b. b && are_all_numbers (parts_of (behind 44 bytes))) here) ∙ report

pub more_inside : (bytes first : List ℕ) → first ≡ before 44 bytes → (length first ≡ length bytes → ⊥) → 0 < length bytes
more_inside bytes first cut size = some_bytes bytes (λ e. size (ap length cut ∙ e))

-- the numbers among the parts
no_parts : numbers_in (parts_of []) ≡ []
unfolding parts_of numbers_in number_within is_number
no_parts = refl

next_by : (bytes : List ℕ) (same : Bool) → (length (before 44 bytes) == length bytes) ≡ same
    → numbers_in (parts_of bytes) ≡ option_to_list (number_within last_number (before 44 bytes)) ++ numbers_in (parts_of (behind 44 bytes))
unfolding numbers_in
next_by bytes true same =
    let e : length (before 44 bytes) ≡ length bytes = grind (arith, nat_tests) in
    let known = whole bytes e in
    ap numbers_in known.0
    ∙ ap (λ ns. option_to_list (number_within last_number (before 44 bytes)) ++ ns) (sym no_parts)
    ∙ ap (λ r. option_to_list (number_within last_number (before 44 bytes)) ++ numbers_in (parts_of r)) (sym known.1)
next_by bytes false same =
    let apart : length (before 44 bytes) ≡ length bytes → ⊥ = λ e. absurd (false≢true (sym same ∙ eq-eqb _ _ e)) in
    ap numbers_in (more bytes apart)

next : (bytes first rest : List ℕ) (found : Option ℕ) → first ≡ before 44 bytes → rest ≡ behind 44 bytes → found ≡ number_within last_number first
    → numbers_in (parts_of bytes) ≡ option_to_list found ++ numbers_in (parts_of rest)
next bytes first rest found cut after is =
    rw (is, cut, after) (next_by bytes (length (before 44 bytes) == length bytes) refl)

pub put_one : (old all bytes first rest : List ℕ) (number : ℕ) (found : Option ℕ) → first ≡ before 44 bytes → rest ≡ behind 44 bytes → found ≡ number_within last_number first
    → found ≡ Some number → old ++ numbers_in (parts_of bytes) ≡ all → (old ++ number ∷ []) ++ numbers_in (parts_of rest) ≡ all
put_one old all bytes first rest number found cut after is here report =
    append_assoc old (number ∷ []) (numbers_in (parts_of rest))
    ∙ ap (λ o. old ++ (option_to_list o ++ numbers_in (parts_of rest))) (sym here)
    ∙ ap (λ ns. old ++ ns) (sym (next bytes first rest found cut after is)) ∙ report

pub put_none : (old all bytes first rest : List ℕ) (found : Option ℕ) → first ≡ before 44 bytes → rest ≡ behind 44 bytes → found ≡ number_within last_number first
    → found ≡ None → old ++ numbers_in (parts_of bytes) ≡ all → old ++ numbers_in (parts_of rest) ≡ all
put_none old all bytes first rest found cut after is here report =
    ap (λ o. old ++ (option_to_list o ++ numbers_in (parts_of rest))) (sym here)
    ∙ ap (λ ns. old ++ ns) (sym (next bytes first rest found cut after is)) ∙ report

pub put_all : (old all rest : List ℕ) → length rest ≤ 0 → old ++ numbers_in (parts_of rest) ≡ all → old ≡ all
put_all old all [] none report = sym (append-nil old) ∙ ap (λ ns. old ++ ns) (sym no_parts) ∙ report
put_all old all (byte ∷ bytes) none report = absurd (omega (arith, none))
