-- The rest of a file from a place on, as a text.
use Rattle.std.proofs.Common.{◌≡◌, ℕ, ◌+◌, ◌-◌, ◌≤◌, List, [], ◌++◌, length, take, drop, sym, ap, arith, ◌∙◌, append_assoc, length-append, length-drop}
use Rattle.std.proofs.{lemmas.List.take-append-drop, Math.Seq.drop-length}
use Rattle.field_words.specs.Pieces.{IsPiece}
use Rattle.field_words.proofs.Pieces.{drop_drop, front_of, rest_of}

pub record IsTail (bytes : List ℕ) (at : ℕ) (text : List ℕ) : Type 0 where
  pub inside : at ≤ length bytes
  pub same : drop at bytes ≡ text

-- Four texts and what follows them, the other way round.
pub four_joined : (one two three four rest : List ℕ) → (one ++ (two ++ (three ++ four))) ++ rest ≡ one ++ (two ++ (three ++ (four ++ rest)))
four_joined one two three four rest =
    append_assoc one (two ++ (three ++ four)) rest
    ∙ ap (λ t. one ++ t) (append_assoc two (three ++ four) rest ∙ ap (λ t. two ++ t) (append_assoc three four rest))

-- A piece, and what follows it.
pub tail_join : (bytes : List ℕ) (at n next : ℕ) (one two : List ℕ) → next ≡ at + n → IsPiece bytes at n one → IsTail bytes next two → IsTail bytes at (one ++ two)
tail_join bytes at n next one two follows piece tail =
    let inside = piece.inside in
    record {
      inside = omega arith;
      same =
          sym (take-append-drop n (drop at bytes))
          ∙ ap (λ front. front ++ drop n (drop at bytes)) piece.same
          ∙ ap (λ rest. one ++ rest) (drop_drop at n bytes ∙ ap (λ p. drop p bytes) (sym follows) ∙ tail.same);
    }

long_enough : (bytes : List ℕ) (at : ℕ) (text : List ℕ) → IsTail bytes at text → length bytes ≡ at + length text
long_enough bytes at text tail =
    let long : length bytes - at ≡ length text = sym (length-drop at bytes) ∙ ap length tail.same in
    let inside = tail.inside in
    omega arith

pub tail_front : (bytes : List ℕ) (at n : ℕ) (one two : List ℕ) → length one ≡ n → IsTail bytes at (one ++ two) → IsPiece bytes at n one
tail_front bytes at n one two long tail =
    let total = long_enough bytes at (one ++ two) tail in
    let sum = length-append one two in
    record { size = long; inside = omega arith; same = ap (take n) tail.same ∙ front_of n one two long }

pub tail_rest : (bytes : List ℕ) (at n next : ℕ) (one two : List ℕ) → length one ≡ n → next ≡ at + n → IsTail bytes at (one ++ two) → IsTail bytes next two
tail_rest bytes at n next one two long follows tail =
    let total = long_enough bytes at (one ++ two) tail in
    let sum = length-append one two in
    record {
      inside = omega arith;
      same = ap (λ p. drop p bytes) follows ∙ sym (drop_drop at n bytes) ∙ ap (drop n) tail.same ∙ rest_of n one two long;
    }

-- Nothing follows the file's end, and only it.
pub tail_end : (bytes : List ℕ) (at : ℕ) → at ≡ length bytes → IsTail bytes at []
tail_end bytes at end = record { inside = omega arith; same = ap (λ p. drop p bytes) end ∙ drop-length bytes }

pub end_of_tail : (bytes : List ℕ) (at : ℕ) → IsTail bytes at [] → at ≡ length bytes
end_of_tail bytes at tail = let total = long_enough bytes at [] tail in omega arith

-- The whole file.
pub whole_tail : (bytes text : List ℕ) → bytes ≡ text → IsTail bytes 0 text
whole_tail bytes text same = record { inside = omega arith; same = same }

pub tail_whole : (bytes text : List ℕ) → IsTail bytes 0 text → bytes ≡ text
tail_whole bytes text tail = tail.same
