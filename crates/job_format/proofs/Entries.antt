-- A buffer's entry and its text, in both directions.
use Rattle.std.proofs.Common.{◌≡◌, ℕ, zero, suc, ◌+◌, ◌<◌, ◌≤◌, ◌^◌, List, [], ◌∷◌, length, lit<, refl, sym, ap, subst, arith, ◌∙◌, add-zero}
use Rattle.field_words.specs.{Words.IsBytes, Words.u32_at, Pieces.IsPiece}
use Rattle.buffer_table.specs.{declared.buffer.Kind.Kind, declared.buffer.Kind.TheVariants.Plain, declared.buffer.Kind.TheVariants.Code}
use Rattle.buffer_table.specs.declared.buffer.Buffer.{Buffer}
use Rattle.job_format.specs.{Text.kind_number, Text.buffer_text, File.BufferFits, Reading.kind_of, Reading.entry_at}
use Rattle.job_format.proofs.Fields.{Field, Word, text_of_all, AllFit, piece_of, read_back}

abbrev buffer_fields : Buffer → List Field
buffer_fields b = Word b.place ∷ (Word b.size ∷ (Word b.client ∷ (Word (kind_number b.kind) ∷ (Word b.content ∷ []))))

buffer_text_is : (b : Buffer) → buffer_text b ≡ text_of_all (buffer_fields b)
unfolding buffer_text
buffer_text_is b = refl

kind_of_number : (k : Kind) → kind_of (kind_number k) ≡ k
kind_of_number Plain = refl
kind_of_number Code = refl

number_of_kind : (n : ℕ) → n ≤ 1 → n ≡ kind_number (kind_of n)
number_of_kind zero small = refl
number_of_kind (suc zero) small = refl
number_of_kind (suc (suc n)) small = absurd (omega (arith, small))

kind_fits : (k : Kind) → kind_number k < 2 ^ 32
kind_fits Plain = lit< tt
kind_fits Code = lit< tt

pub buffer_piece : (bytes : List ℕ) (at : ℕ) → IsBytes bytes → at + 20 ≤ length bytes → u32_at bytes (at + 12) ≤ 1 → IsPiece bytes at 20 (buffer_text (entry_at bytes at))
unfolding entry_at
buffer_piece bytes at fits inside kind =
    let first : u32_at bytes (at + 0) ≡ u32_at bytes at = ap (u32_at bytes) (add-zero at) in
    let piece : IsPiece bytes (at + 0) 20 (text_of_all (buffer_fields (entry_at bytes at))) =
    piece_of bytes at 0 (buffer_fields (entry_at bytes at)) fits (omega arith) (first, (refl, (refl, (number_of_kind (u32_at bytes (at + 12)) kind, (refl, tt))))) in
    subst (λ text. IsPiece bytes at 20 text) (sym (buffer_text_is (entry_at bytes at))) (subst (λ p. IsPiece bytes p 20 (text_of_all (buffer_fields (entry_at bytes at)))) (add-zero at) piece)

pub buffer_back : (bytes : List ℕ) (at : ℕ) (b : Buffer) → BufferFits b → IsPiece bytes at 20 (buffer_text b)
    → (entry_at bytes at ≡ b) × ((u32_at bytes (at + 12) ≡ kind_number b.kind) × (u32_at bytes (at + 16) ≡ b.content))
unfolding entry_at
buffer_back bytes at b fits piece =
    let fields_fit : AllFit (buffer_fields b) = (fits.place, (fits.size, (fits.client, (kind_fits b.kind, (fits.content, tt))))) in
    let moved : IsPiece bytes (at + 0) 20 (text_of_all (buffer_fields b)) =
    subst (λ p. IsPiece bytes p 20 (text_of_all (buffer_fields b))) (sym (add-zero at)) (subst (λ text. IsPiece bytes at 20 text) (buffer_text_is b) piece) in
    let r = read_back bytes at 0 (buffer_fields b) fields_fit moved in
    let first : u32_at bytes at ≡ b.place = ap (u32_at bytes) (sym (add-zero at)) ∙ r.0 in
    let kind : kind_of (u32_at bytes (at + 12)) ≡ b.kind = ap kind_of r.1.1.1.0 ∙ kind_of_number b.kind in
    (rw (first, r.1.0, r.1.1.0, kind, r.1.1.1.1.0) refl, (r.1.1.1.0, r.1.1.1.1.0))
