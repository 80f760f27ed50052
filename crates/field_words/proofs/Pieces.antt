-- A text made of pieces: from the pieces to the text, and back.
use Rattle.std.proofs.Common.{◌≡◌, ℕ, ◌+◌, ◌≤◌, List, ◌++◌, length, take, drop, sym, ap, arith, ◌∙◌, length-append, length-drop}
use Rattle.std.proofs.lemmas.List.{places, length-take-le}
use Rattle.std.proofs.Math.Seq.{drop-append_seam, take-append_seam, take-add}
use Rattle.field_words.specs.Pieces.{IsPiece}

-- Dropping twice is dropping the sum.
pub drop_drop : (m n : ℕ) (xs : List ℕ) → drop n (drop m xs) ≡ drop (m + n) xs
drop_drop m n xs = grind (arith, places)

-- Two pieces in a row are one piece.
pub join_two : (bytes : List ℕ) (at m n : ℕ) (one two : List ℕ) → IsPiece bytes at m one → IsPiece bytes (at + m) n two
    → IsPiece bytes at (m + n) (one ++ two)
join_two bytes at m n one two first second =
    record {
      size = rw length-append (ap (λ k. k + length two) first.size ∙ ap (λ k. m + k) second.size);
      inside = let i = second.inside in omega arith;
      same =
          take-add m n (drop at bytes)
          ∙ ap (λ front. front ++ take n (drop m (drop at bytes))) first.same
          ∙ ap (λ rest. one ++ take n rest) (drop_drop at m bytes)
          ∙ ap (λ rest. one ++ rest) second.same;
    }

-- The front and the rest of two lists that are joined.
pub front_of : (m : ℕ) (one two : List ℕ) → length one ≡ m → take m (one ++ two) ≡ one
front_of m one two long = ap (λ k. take k (one ++ two)) (sym long) ∙ take-append_seam one two

pub rest_of : (m : ℕ) (one two : List ℕ) → length one ≡ m → drop m (one ++ two) ≡ two
rest_of m one two long = ap (λ k. drop k (one ++ two)) (sym long) ∙ drop-append_seam one two

-- A piece that is made of two texts is two pieces.
pub front_piece : (bytes : List ℕ) (at m n : ℕ) (one two : List ℕ) → length one ≡ m → IsPiece bytes at (m + n) (one ++ two) → IsPiece bytes at m one
front_piece bytes at m n one two long piece =
    let inside = piece.inside in
    let room : m ≤ length (drop at bytes) = rw length-drop (omega arith) in
    let cut : take m (drop at bytes) ++ take n (drop m (drop at bytes)) ≡ one ++ two = sym (take-add m n (drop at bytes)) ∙ piece.same in
    record {
      size = long;
      inside = omega arith;
      same =
          sym (front_of m (take m (drop at bytes)) (take n (drop m (drop at bytes))) (length-take-le m (drop at bytes) room))
          ∙ ap (take m) cut ∙ front_of m one two long;
    }

pub rest_piece : (bytes : List ℕ) (at m n : ℕ) (one two : List ℕ) → length one ≡ m → IsPiece bytes at (m + n) (one ++ two) → IsPiece bytes (at + m) n two
rest_piece bytes at m n one two long piece =
    let inside = piece.inside in
    let room : m ≤ length (drop at bytes) = rw length-drop (omega arith) in
    let cut : take m (drop at bytes) ++ take n (drop m (drop at bytes)) ≡ one ++ two = sym (take-add m n (drop at bytes)) ∙ piece.same in
    let total : length one + length two ≡ m + n = sym (length-append one two) ∙ piece.size in
    record {
      size = omega (arith, total, long);
      inside = omega arith;
      same =
          ap (take n) (sym (drop_drop at m bytes))
          ∙ sym (rest_of m (take m (drop at bytes)) (take n (drop m (drop at bytes))) (length-take-le m (drop at bytes) room))
          ∙ ap (drop m) cut ∙ rest_of m one two long;
    }
