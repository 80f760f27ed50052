-- Fields that stand one after the other: from what is read to the text, and back.
use Rattle.std.proofs.Common.{◌≡◌, ℕ, ◌+◌, ◌<◌, ◌≤◌, ◌^◌, List, [], ◌∷◌, ◌++◌, length, take, drop, get_or, refl, sym, ap, subst, arith, ◌∙◌, add_assoc, add-zero, length-append, length-drop, get_or-drop}
use Rattle.std.specs.Int.{to_le_bytes, w16, w32}
use Rattle.field_words.specs.{Words.IsBytes, Words.u16_at, Words.u32_at, Pieces.IsPiece}
use Rattle.field_words.proofs.Pieces.{join_two, front_piece, rest_piece}
use Rattle.field_words.proofs.Numbers.{u16_piece, u32_piece, u16_of_piece, u32_of_piece}

-- a field of four, of two or of one byte, with its value
pub data Field : Type 0 where
  Word : ℕ → Field
  Half : ℕ → Field
  Byte : ℕ → Field

abbrev pub width : Field → ℕ
width (Word v) = 4
width (Half v) = 2
width (Byte v) = 1

abbrev pub text_of : Field → List ℕ
text_of (Word v) = to_le_bytes w32 v
text_of (Half v) = to_le_bytes w16 v
text_of (Byte v) = v ∷ []

-- the field's value is what is read at a place
abbrev pub IsRead : List ℕ → ℕ → Field → Type 0
IsRead bytes at (Word v) = u32_at bytes at ≡ v
IsRead bytes at (Half v) = u16_at bytes at ≡ v
IsRead bytes at (Byte v) = get_or bytes at 0 ≡ v

abbrev pub FieldFits : Field → Type 0
FieldFits (Word v) = v < 2 ^ 32
FieldFits (Half v) = v < 2 ^ 16
FieldFits (Byte v) = v < 256

abbrev pub widths : List Field → ℕ
widths [] = 0
widths (f ∷ fs) = width f + widths fs

abbrev pub text_of_all : List Field → List ℕ
text_of_all [] = []
text_of_all (f ∷ fs) = text_of f ++ text_of_all fs

-- the fields are read from offset k of an entry on
abbrev pub AreRead : List ℕ → ℕ → ℕ → List Field → Type 0
AreRead bytes at k [] = Unit {0}
AreRead bytes at k (f ∷ fs) = IsRead bytes (at + k) f × AreRead bytes at (k + width f) fs

abbrev pub AllFit : List Field → Type 0
AllFit [] = Unit {0}
AllFit (f ∷ fs) = FieldFits f × AllFit fs

one_of : (xs : List ℕ) → 1 ≤ length xs → take 1 xs ≡ get_or xs 0 0 ∷ []
one_of [] some = absurd (omega (arith, some))
one_of (x ∷ xs) some = refl

first_after : (bytes : List ℕ) (at : ℕ) → get_or (drop at bytes) 0 0 ≡ get_or bytes at 0
first_after bytes at = get_or-drop at bytes 0 0 ∙ ap (λ k. get_or bytes k 0) (add-zero at)

byte_piece : (bytes : List ℕ) (at : ℕ) → at + 1 ≤ length bytes → IsPiece bytes at 1 (get_or bytes at 0 ∷ [])
byte_piece bytes at inside = record {
  size = refl;
  inside = inside;
  same = one_of (drop at bytes) (rw length-drop (omega arith)) ∙ ap (λ v. v ∷ []) (first_after bytes at);
}

field_piece : (bytes : List ℕ) (at : ℕ) (f : Field) → IsBytes bytes → at + width f ≤ length bytes → IsRead bytes at f → IsPiece bytes at (width f) (text_of f)
field_piece bytes at (Word v) fits inside read = subst (λ n. IsPiece bytes at 4 (to_le_bytes w32 n)) read (u32_piece bytes at fits inside)
field_piece bytes at (Half v) fits inside read = subst (λ n. IsPiece bytes at 2 (to_le_bytes w16 n)) read (u16_piece bytes at fits inside)
field_piece bytes at (Byte v) fits inside read = subst (λ n. IsPiece bytes at 1 (n ∷ [])) read (byte_piece bytes at inside)

-- What is read is the text.
pub piece_of : (bytes : List ℕ) (at k : ℕ) (fs : List Field) → IsBytes bytes → at + k + widths fs ≤ length bytes → AreRead bytes at k fs
    → IsPiece bytes (at + k) (widths fs) (text_of_all fs)
piece_of bytes at k [] fits inside read = record { size = refl; inside = inside; same = refl }
piece_of bytes at k (f ∷ fs) fits inside read =
    let rest = piece_of bytes at (k + width f) fs fits (omega arith) read.1 in
    let here : IsPiece bytes (at + k) (width f) (text_of f) = field_piece bytes (at + k) f fits (omega arith) read.0 in
    join_two bytes (at + k) (width f) (widths fs) (text_of f) (text_of_all fs) here
    (subst (λ p. IsPiece bytes p (widths fs) (text_of_all fs)) (sym (add_assoc at k (width f))) rest)

width_is : (f : Field) → length (text_of f) ≡ width f
width_is (Word v) = refl
width_is (Half v) = refl
width_is (Byte v) = refl

read_of : (bytes : List ℕ) (at : ℕ) (f : Field) → FieldFits f → IsPiece bytes at (width f) (text_of f) → IsRead bytes at f
read_of bytes at (Word v) fits piece = u32_of_piece bytes at v fits piece
read_of bytes at (Half v) fits piece = u16_of_piece bytes at v fits piece
read_of bytes at (Byte v) fits piece =
    let same : take 1 (drop at bytes) ≡ v ∷ [] = piece.same in
    let inside : at + 1 ≤ length bytes = piece.inside in
    let some : 1 ≤ length (drop at bytes) = rw length-drop (omega arith) in
    sym (first_after bytes at) ∙ ap (λ xs. get_or xs 0 0) (sym (one_of (drop at bytes) some) ∙ same)

pub text_long : (fs : List Field) → length (text_of_all fs) ≡ widths fs
text_long [] = refl
text_long (f ∷ fs) = length-append (text_of f) (text_of_all fs) ∙ ap (λ n. n + length (text_of_all fs)) (width_is f) ∙ ap (λ n. width f + n) (text_long fs)

-- The text is what is read.
pub read_back : (bytes : List ℕ) (at k : ℕ) (fs : List Field) → AllFit fs → IsPiece bytes (at + k) (widths fs) (text_of_all fs) → AreRead bytes at k fs
read_back bytes at k [] fits piece = tt
read_back bytes at k (f ∷ fs) fits piece = (
  read_of bytes (at + k) f fits.0 (front_piece bytes (at + k) (width f) (widths fs) (text_of f) (text_of_all fs) (width_is f) piece),
  read_back bytes at (k + width f) fs fits.1
      (subst (λ p. IsPiece bytes p (widths fs) (text_of_all fs)) (add_assoc at k (width f))
      (rest_piece bytes (at + k) (width f) (widths fs) (text_of f) (text_of_all fs) (width_is f) piece)),
)
