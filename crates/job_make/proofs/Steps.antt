-- One step of reading a line, and of printing pieces.
use Rattle.std.proofs.Common.{◌≡◌, ℕ, ◌+◌, ◌≤◌, Bool, List, [], ◌∷◌, ◌++◌, length, drop, Result, Ok, Err, Option, Some, None, refl, sym, ◌∙◌, ap, append_assoc, append-nil, arith}
use Rattle.hex.specs.Hex.{hex_digit_value}
use Rattle.script.specs.Lines.{lines_of}
use Rattle.field_words.specs.{declared.stop.Stop.Stop, declared.stop.Stop.TheVariants.Fault, declared.stop.Stop.TheVariants.NoMemory}
use Rattle.job_make.specs.Made.{byte_at, front_digit, both, words_of, digits_read, Sections, word_read, words_read, part_read, stays_inside, lines_read, IsFaultOf}
use Rattle.job_make.specs.declared.fault.MakeFault.{MakeFault}

pub both_both : (a b : List ℕ) (r : Result (List ℕ) MakeFault) → both (Ok a) (both (Ok b) r) ≡ both (Ok (a ++ b)) r
both_both a b (Err fault) = refl
both_both a b (Ok bytes) = ap (λ (l : List ℕ). Ok l) (sym (append_assoc a b bytes))

pub both_err : (a : List ℕ) (r : Result (List ℕ) MakeFault) (fault : MakeFault) → both (Ok a) r ≡ Err fault → r ≡ Err fault
both_err a (Err other) fault is = is
both_err a (Ok bytes) fault is = cc

pub both_none : (r : Result (List ℕ) MakeFault) → both (Ok []) r ≡ r
both_none (Err fault) = refl
both_none (Ok bytes) = refl

lone : (line column b : ℕ) (o : Option ℕ) → byte_at line column o None ≡ Ok b → ⊥
lone line column b None is = cc
lone line column b (Some high) is = cc

pub digits_byte : (line column c b : ℕ) (others : List ℕ) → byte_at line column (hex_digit_value c) (front_digit others) ≡ Ok b
    → digits_read line column (c ∷ others) ≡ both (Ok (b ∷ [])) (digits_read line (column + 2) (drop 1 others))
unfolding digits_read
digits_byte line column c b [] is = absurd (lone line column b (hex_digit_value c) is)
digits_byte line column c b (d ∷ rest) is = rw is refl

pub digits_fault : (line column c : ℕ) (others : List ℕ) (fault : MakeFault) → byte_at line column (hex_digit_value c) (front_digit others) ≡ Err fault
    → digits_read line column (c ∷ others) ≡ Err fault
unfolding digits_read
digits_fault line column c [] fault is = rw is refl
digits_fault line column c (d ∷ rest) fault is = rw is refl

pub byte_more : (line column c b : ℕ) (others : List ℕ) → byte_at line column (hex_digit_value c) (front_digit others) ≡ Ok b → 1 + length (drop 1 others) ≡ length others
byte_more line column c b [] is = absurd (lone line column b (hex_digit_value c) is)
byte_more line column c b (d ∷ rest) is = omega arith

-- at the end of a line nothing is left to read
pub digits_end : (line column : ℕ) (out rest : List ℕ) → length rest ≤ 0 → both (Ok out) (digits_read line column rest) ≡ Ok out
unfolding digits_read
digits_end line column out [] none = ap (λ (l : List ℕ). Ok l) (append-nil out)
digits_end line column out (c ∷ rest) none = absurd (omega (arith, none))

-- one reading more
both_line : (out new : List ℕ) (r s : Result (List ℕ) MakeFault) → both (Ok out) r ≡ Ok new → both (Ok new) s ≡ both (Ok out) (both r s)
both_line out new (Err fault) s is = cc
both_line out new (Ok bytes) s is = ap (λ x. both x s) (sym is) ∙ sym (both_both out bytes s)

-- one word more
pub word_step : (sections : Sections) (line column : ℕ) (out new first rest : List ℕ) (words : List (List ℕ)) → words_of rest ≡ first ∷ words → both (Ok out) (word_read sections line column first) ≡ Ok new
    → both (Ok new) (words_read sections line (column + (length first + 1)) words) ≡ both (Ok out) (words_read sections line column (words_of rest))
unfolding words_read
word_step sections line column out new first rest words cut is =
    both_line out new (word_read sections line column first) (words_read sections line (column + (length first + 1)) words) is
    ∙ ap (λ l. both (Ok out) (words_read sections line column l)) (sym cut)

-- the fault of a word behind words without one is the line's
pub word_fault : (sections : Sections) (line column : ℕ) (out old first rest : List ℕ) (all : Result (List ℕ) MakeFault) (words : List (List ℕ)) (stop : Stop MakeFault)
    → words_of rest ≡ first ∷ words → both (Ok out) (words_read sections line column (words_of rest)) ≡ both (Ok old) all
    → IsFaultOf (word_read sections line column first) stop → IsFaultOf all stop
unfolding words_read
word_fault sections line column out old first rest all words (Fault fault) cut same is =
    both_err old all fault
    (sym same ∙ ap (λ l. both (Ok out) (words_read sections line column l)) cut
    ∙ ap (λ r. both (Ok out) (both r (words_read sections line (column + (length first + 1)) words))) is)
word_fault sections line column out old first rest all words NoMemory cut same is = tt

pub words_end : (sections : Sections) (line column : ℕ) (out rest : List ℕ) → length rest ≤ 0 → both (Ok out) (words_read sections line column (words_of rest)) ≡ Ok out
unfolding words_read words_of
words_end sections line column out [] none = ap (λ (l : List ℕ). Ok l) (append-nil out)
words_end sections line column out (c ∷ rest) none = absurd (omega (arith, none))

-- one line more
pub line_step : (sections : Sections) (line : ℕ) (inside : Bool) (out new first rest : List ℕ) (lines : List (List ℕ)) → lines_of rest ≡ first ∷ lines
    → both (Ok out) (part_read sections line inside first lines) ≡ Ok new
    → both (Ok new) (lines_read sections (line + 1) (stays_inside inside first) lines) ≡ both (Ok out) (lines_read sections line inside (lines_of rest))
unfolding lines_read
line_step sections line inside out new first rest lines cut is =
    both_line out new (part_read sections line inside first lines) (lines_read sections (line + 1) (stays_inside inside first) lines) is
    ∙ ap (λ l. both (Ok out) (lines_read sections line inside l)) (sym cut)

-- the fault of a line behind lines without one is the text's
pub line_fault : (sections : Sections) (line : ℕ) (inside : Bool) (out first rest : List ℕ) (all : Result (List ℕ) MakeFault) (lines : List (List ℕ)) (stop : Stop MakeFault) → lines_of rest ≡ first ∷ lines
    → both (Ok out) (lines_read sections line inside (lines_of rest)) ≡ both (Ok []) all
    → IsFaultOf (part_read sections line inside first lines) stop → IsFaultOf all stop
unfolding lines_read
line_fault sections line inside out first rest all lines (Fault fault) cut same is =
    sym (both_none all) ∙ sym same ∙ ap (λ l. both (Ok out) (lines_read sections line inside l)) cut
    ∙ ap (λ r. both (Ok out) (both r (lines_read sections (line + 1) (stays_inside inside first) lines))) is
line_fault sections line inside out first rest all lines NoMemory cut same is = tt

pub lines_end : (sections : Sections) (line : ℕ) (inside : Bool) (out rest : List ℕ) → length rest ≤ 0 → both (Ok out) (lines_read sections line inside (lines_of rest)) ≡ Ok out
unfolding lines_read lines_of
lines_end sections line inside out [] none = ap (λ (l : List ℕ). Ok l) (append-nil out)
lines_end sections line inside out (c ∷ rest) none = absurd (omega (arith, none))
