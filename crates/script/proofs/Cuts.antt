-- A text that is cut at a byte, and its lines.
use Rattle.std.proofs.Common.{◌≡◌, ℕ, zero, suc, ◌+◌, ◌-◌, ◌<◌, Bool, true, false, ◌==◌, List, [], ◌∷◌, Some, None, length, take, drop, refl, ◌∙◌, ap, arith}
use Rattle.std.proofs.lemmas.Bool.{false_from_ne_true}
use Rattle.std.proofs.lemmas.List.{take_rest}
use Rattle.memchr.specs.Find.{IsFirstByte, is_byte}
use Rattle.script.specs.Lines.{before, behind, lines_of, onto_line}

-- a mark that isn't the first byte stands one place lower in the rest
later : (mark byte : ℕ) (bytes : List ℕ) (at : ℕ) → IsFirstByte (is_byte mark) (byte ∷ bytes) (Some (suc at)) → IsFirstByte (is_byte mark) bytes (Some at)
later mark byte bytes at (first, here) = (
  record {
    low = omega arith;
    high = omega (arith, first.high);
    before = λ k low high. first.before (suc k) (omega arith) (omega arith);
  },
  here,
)

none_later : (mark byte : ℕ) (bytes : List ℕ) → IsFirstByte (is_byte mark) (byte ∷ bytes) None → IsFirstByte (is_byte mark) bytes None
none_later mark byte bytes none = λ k low high. none (suc k) (omega arith) (omega arith)

pub before_at : (mark : ℕ) (bytes : List ℕ) (at : ℕ) → IsFirstByte (is_byte mark) bytes (Some at) → take at bytes ≡ before mark bytes
unfolding before
before_at mark [] at (first, here) = absurd (omega (arith, first.high))
before_at mark (byte ∷ bytes) zero (first, here) = rw here refl
before_at mark (byte ∷ bytes) (suc at) is =
    rw (false_from_ne_true _ (is.0.before zero (omega arith) (omega arith))) (ap (λ rest. byte ∷ rest) (before_at mark bytes at (later mark byte bytes at is)))

rest_at : (mark : ℕ) (bytes : List ℕ) (at : ℕ) → IsFirstByte (is_byte mark) bytes (Some at) → drop (suc at) bytes ≡ behind mark bytes
unfolding behind
rest_at mark [] at (first, here) = absurd (omega (arith, first.high))
rest_at mark (byte ∷ bytes) zero (first, here) = rw here refl
rest_at mark (byte ∷ bytes) (suc at) is =
    rw (false_from_ne_true _ (is.0.before zero (omega arith) (omega arith))) (rest_at mark bytes at (later mark byte bytes at is))

pub behind_at : (mark : ℕ) (bytes : List ℕ) (at : ℕ) → IsFirstByte (is_byte mark) bytes (Some at)
    → take (length bytes - (at + 1)) (drop (at + 1) bytes) ≡ behind mark bytes
behind_at mark bytes at is =
    let more : at + 1 ≡ suc at = omega arith in
    take_rest bytes (at + 1) ∙ ap (λ n. drop n bytes) more ∙ rest_at mark bytes at is

pub before_none : (mark : ℕ) (bytes : List ℕ) → IsFirstByte (is_byte mark) bytes None → bytes ≡ before mark bytes
unfolding before
before_none mark [] none = refl
before_none mark (byte ∷ bytes) none =
    rw (false_from_ne_true _ (none zero (omega arith) (omega arith))) (ap (λ rest. byte ∷ rest) (before_none mark bytes (none_later mark byte bytes none)))

pub behind_none : (mark : ℕ) (bytes : List ℕ) → IsFirstByte (is_byte mark) bytes None → [] ≡ behind mark bytes
unfolding behind
behind_none mark [] none = refl
behind_none mark (byte ∷ bytes) none =
    rw (false_from_ne_true _ (none zero (omega arith) (omega arith))) (behind_none mark bytes (none_later mark byte bytes none))

onto_first : (byte : ℕ) (bytes : List ℕ) → (0 < length bytes → lines_of bytes ≡ before 10 bytes ∷ lines_of (behind 10 bytes))
    → onto_line byte (lines_of bytes) ≡ (byte ∷ before 10 bytes) ∷ lines_of (behind 10 bytes)
unfolding lines_of before behind
onto_first byte [] known = refl
onto_first byte (next ∷ bytes) known = ap (onto_line byte) (known (omega arith))

first_by : (byte : ℕ) (bytes : List ℕ) (ends : Bool) → (byte == 10) ≡ ends
    → onto_line byte (lines_of bytes) ≡ (byte ∷ before 10 bytes) ∷ lines_of (behind 10 bytes)
    → lines_of (byte ∷ bytes) ≡ before 10 (byte ∷ bytes) ∷ lines_of (behind 10 (byte ∷ bytes))
unfolding lines_of before behind
first_by byte bytes true ends onto = rw ends refl
first_by byte bytes false ends onto = rw ends onto

pub lines_first : (bytes : List ℕ) → 0 < length bytes → lines_of bytes ≡ before 10 bytes ∷ lines_of (behind 10 bytes)
lines_first [] some = absurd (omega (arith, some))
lines_first (byte ∷ bytes) some = first_by byte bytes (byte == 10) refl (onto_first byte bytes (lines_first bytes))
