-- What is read of the bytes of two files that differ in places alone.
use Rattle.std.proofs.Common.{◌≡◌, ℕ, zero, suc, ◌+◌, ◌-◌, ◌*◌, ◌<◌, ◌≤◌, List, [], ◌∷◌, ◌++◌, length, map, drop, slice_index, arith, refl, sym, ◌∙◌, ap, subst}
use Rattle.std.proofs.lemmas.List.{places, append_assoc, length-append, get_or-drop}
use Rattle.std.specs.{List.flat_map, Int.from_le_bytes, Int.w32}
use Rattle.field_words.specs.{Words.u32_at, WordBytes.word}
use Rattle.field_words.proofs.Pieces.{drop_drop, rest_of}
use Rattle.buffer_table.specs.declared.buffer.Buffer.{Buffer}
use Rattle.job_format.specs.Offsets.{header_size, entry_size, buffer_count, entry_offset}
use Rattle.job_format.specs.Text.{buffer_text, kind_number}
use Rattle.places_law.specs.Moved.{placeless, AreMoved}
use Rattle.places_law.proofs.Tables.{count_placeless}
use Rattle.job_format.proofs.Only.{buffer_long}

-- behind the first of two lists
pub drop_past : (m k : ℕ) (one two : List ℕ) → length one ≡ m → drop (m + k) (one ++ two) ≡ drop k two
drop_past m k one two long = sym (drop_drop m k (one ++ two)) ∙ ap (drop k) (rest_of m one two long)

pub read_past : (m k o : ℕ) (one two : List ℕ) → length one ≡ m → u32_at (one ++ two) (m + k + o) ≡ u32_at two (k + o)
unfolding u32_at
read_past m k o one two long =
    let e : m + k + o ≡ m + (k + o) = omega arith in
    ap (λ (at : ℕ). from_le_bytes w32 (drop at (one ++ two))) e ∙ ap (from_le_bytes w32) (drop_past m (k + o) one two long)

-- an entry's four words behind its place
pub record SameEntry (a b : List ℕ) (at : ℕ) : Type 0 where
  pub size : u32_at a (at + 4) ≡ u32_at b (at + 4)
  pub client : u32_at a (at + 8) ≡ u32_at b (at + 8)
  pub kind : u32_at a (at + 12) ≡ u32_at b (at + 12)
  pub content : u32_at a (at + 16) ≡ u32_at b (at + 16)

entry_past : (m k : ℕ) (one other a b : List ℕ) → length one ≡ m → length other ≡ m → SameEntry a b k → SameEntry (one ++ a) (other ++ b) (m + k)
entry_past m k one other a b long also same = record {
  size = read_past m k 4 one a long ∙ (same.size ∙ sym (read_past m k 4 other b also));
  client = read_past m k 8 one a long ∙ (same.client ∙ sym (read_past m k 8 other b also));
  kind = read_past m k 12 one a long ∙ (same.kind ∙ sym (read_past m k 12 other b also));
  content = read_past m k 16 one a long ∙ (same.content ∙ sym (read_past m k 16 other b also));
}

entry_first : (b c : Buffer) (x y : List ℕ) → placeless b ≡ placeless c → SameEntry (buffer_text b ++ x) (buffer_text c ++ y) 0
unfolding u32_at buffer_text
entry_first b c x y same = record {
  size = ap (λ (e : Buffer). from_le_bytes w32 (word e.size)) same;
  client = ap (λ (e : Buffer). from_le_bytes w32 (word e.client)) same;
  kind = ap (λ (e : Buffer). from_le_bytes w32 (word (kind_number e.kind))) same;
  content = ap (λ (e : Buffer). from_le_bytes w32 (word e.content)) same;
}

pub flat_long : (buffers : List Buffer) → length (flat_map buffer_text buffers) ≡ 20 * length buffers
flat_long [] = refl
flat_long (b ∷ buffers) =
    length-append (buffer_text b) (flat_map buffer_text buffers) ∙ omega (arith, buffer_long b, flat_long buffers)

head_same : (b c : Buffer) (bs cs : List Buffer) → (placeless c ∷ map placeless cs) ≡ (placeless b ∷ map placeless bs) → placeless c ≡ placeless b
head_same b c bs cs same = cc

tail_same : (b c : Buffer) (bs cs : List Buffer) → (placeless c ∷ map placeless cs) ≡ (placeless b ∷ map placeless bs) → map placeless cs ≡ map placeless bs
tail_same b c bs cs same = cc

entries_same : (bs cs : List Buffer) (tail : List ℕ) (i : ℕ) → i < length bs → map placeless cs ≡ map placeless bs
    → SameEntry (flat_map buffer_text bs ++ tail) (flat_map buffer_text cs ++ tail) (20 * i)
entries_same [] cs tail i below same = absurd (omega (arith, below))
entries_same (b ∷ bs) [] tail i below same = let clash : ⊥ = cc in absurd clash
entries_same (b ∷ bs) (c ∷ cs) tail zero below same =
    rw (append_assoc (buffer_text b) (flat_map buffer_text bs) tail, append_assoc (buffer_text c) (flat_map buffer_text cs) tail)
    (entry_first b c (flat_map buffer_text bs ++ tail) (flat_map buffer_text cs ++ tail) (sym (head_same b c bs cs same)))
entries_same (b ∷ bs) (c ∷ cs) tail (suc i) below same =
    let e : 20 + 20 * i ≡ 20 * suc i = omega arith in
    let later = entries_same bs cs tail i (omega (arith, below)) (tail_same b c bs cs same) in
    rw (append_assoc (buffer_text b) (flat_map buffer_text bs) tail, append_assoc (buffer_text c) (flat_map buffer_text cs) tail)
    (subst (λ (at : ℕ). SameEntry (buffer_text b ++ (flat_map buffer_text bs ++ tail)) (buffer_text c ++ (flat_map buffer_text cs ++ tail)) at) e
    (entry_past 20 (20 * i) (buffer_text b) (buffer_text c) (flat_map buffer_text bs ++ tail) (flat_map buffer_text cs ++ tail) (buffer_long b) (buffer_long c) later))

-- Two lists of bytes that are read alike: the header, each entry but for its place, and all that follows.
pub record ReadAlike (a b : List ℕ) (n : ℕ) : Type 0 where
  pub long : length a ≡ length b
  pub count : buffer_count a ≡ n
  pub header : (k : ℕ) → k + 4 ≤ header_size → u32_at a k ≡ u32_at b k
  pub entries : (i : ℕ) → i < n → SameEntry a b (entry_offset i)
  pub behind : (k : ℕ) → entry_offset n ≤ k → drop k a ≡ drop k b

from_four : (c d : List ℕ) → ((j : ℕ) → j < 4 → slice_index c j ≡ slice_index d j) → from_le_bytes w32 c ≡ from_le_bytes w32 d
from_four c d same =
    let one = same 0 (omega arith) in
    let two = same 1 (omega arith) in
    let three = same 2 (omega arith) in
    let four = same 3 (omega arith) in
    λ p. from_le_bytes w32 (one p ∷ (two p ∷ (three p ∷ (four p ∷ []))))

front_byte : (head rest : List ℕ) (k j : ℕ) → k + j < length head → slice_index (drop k (head ++ rest)) j ≡ slice_index head (k + j)
front_byte head rest k j inside = grind (arith, places)

front_word : (head one two : List ℕ) (k : ℕ) → k + 4 ≤ length head → u32_at (head ++ one) k ≡ u32_at (head ++ two) k
unfolding u32_at
front_word head one two k inside =
    from_four (drop k (head ++ one)) (drop k (head ++ two))
    (λ j small. front_byte head one k j (omega arith) ∙ sym (front_byte head two k j (omega arith)))

own_word : (head one : List ℕ) (k : ℕ) → k + 4 ≤ length head → u32_at (head ++ one) k ≡ u32_at head k
unfolding u32_at
own_word head one k inside =
    from_four (drop k (head ++ one)) (drop k head) (λ j small. front_byte head one k j (omega arith) ∙ sym (own_byte head k j))
  where
    own_byte : (head : List ℕ) (k j : ℕ) → slice_index (drop k head) j ≡ slice_index head (k + j)
    own_byte head k j = get_or-drop {A = ℕ} k head j 0

-- the front, and then n entries
behind_at : (head entries tail : List ℕ) (n r : ℕ) → length head ≡ header_size → length entries ≡ entry_size * n
    → drop (entry_offset n + r) (head ++ (entries ++ tail)) ≡ drop r tail
behind_at head entries tail n r header long =
    let e : entry_offset n + r ≡ header_size + (entry_size * n + r) = omega arith in
    ap (λ (k : ℕ). drop k (head ++ (entries ++ tail))) e
    ∙ (drop_past header_size (entry_size * n + r) head (entries ++ tail) header ∙ drop_past (entry_size * n) r entries tail long)

behind_same : (head one two tail : List ℕ) (n k : ℕ) → length head ≡ header_size → length one ≡ entry_size * n → length two ≡ entry_size * n
    → entry_offset n ≤ k → drop k (head ++ (one ++ tail)) ≡ drop k (head ++ (two ++ tail))
behind_same head one two tail n k header long also past =
    let e : entry_offset n + (k - entry_offset n) ≡ k = omega arith in
    subst (λ (at : ℕ). drop at (head ++ (one ++ tail)) ≡ drop at (head ++ (two ++ tail))) e
    (behind_at head one tail n (k - entry_offset n) header long ∙ sym (behind_at head two tail n (k - entry_offset n) header also))

texts_alike : (head tail : List ℕ) (bs cs : List Buffer) → length head ≡ header_size → buffer_count head ≡ length bs → map placeless cs ≡ map placeless bs
    → ReadAlike (head ++ (flat_map buffer_text bs ++ tail)) (head ++ (flat_map buffer_text cs ++ tail)) (length bs)
texts_alike head tail bs cs header count same =
    let counts : length cs ≡ length bs = sym (count_placeless cs) ∙ (ap length same ∙ count_placeless bs) in
    let also : length (flat_map buffer_text cs) ≡ entry_size * length bs = flat_long cs ∙ ap (λ (n : ℕ). 20 * n) counts in
    record {
      long =
          length-append head (flat_map buffer_text bs ++ tail)
          ∙ (ap (λ (n : ℕ). length head + n)
          (length-append (flat_map buffer_text bs) tail ∙ (ap (λ (n : ℕ). n + length tail) (flat_long bs ∙ sym also) ∙ sym (length-append (flat_map buffer_text cs) tail)))
          ∙ sym (length-append head (flat_map buffer_text cs ++ tail)));
      count = own_word head (flat_map buffer_text bs ++ tail) 28 (omega (arith, header)) ∙ count;
      header = λ k inside. front_word head (flat_map buffer_text bs ++ tail) (flat_map buffer_text cs ++ tail) k (omega (arith, header));
      entries = λ i below.
          entry_past header_size (entry_size * i) head head (flat_map buffer_text bs ++ tail) (flat_map buffer_text cs ++ tail) header header
          (entries_same bs cs tail i below same);
      behind = λ k past. behind_same head (flat_map buffer_text bs) (flat_map buffer_text cs) tail (length bs) k header (flat_long bs) also past;
    }

pub read_alike : (bytes other : List ℕ) (moved : AreMoved bytes other) → ReadAlike bytes other (length moved.buffers)
read_alike bytes other moved =
    rw (moved.one, moved.two) (texts_alike moved.head moved.tail moved.buffers moved.others moved.header moved.count moved.same)
