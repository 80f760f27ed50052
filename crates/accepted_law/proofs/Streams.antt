-- Texts and words that stand in memory, and the words of a stream as a list.
use Rattle.std.proofs.Common.{◌≡◌, ◌≤◌, ◌<◌, ℕ, zero, suc, ◌+◌, ◌*◌, ◌^◌, List, map, length, take, drop, slice_index, refl, sym, ap, arith, ◌∙◌, rules}
use Rattle.std.proofs.lemmas.List.{drop_more, get_or-drop, get_or_past, FromFn.length-map-range_with_len, FromFn.get_or-map-range_with_len}
use Rattle.std.proofs.lemmas.{Bool.cases_lt, Bool.Decides.nat_tests, Grind.common_steps}
use Rattle.std.specs.{Int.from_le_bytes, Int.w64, List.range_with_len}
use Rattle.field_words.specs.{Words.IsBytes, Words.u32_at, Words.u64_at, Pieces.IsPiece}
use Rattle.field_words.proofs.Numbers.{u32_fits}
use Rattle.machine_plan.specs.Memory.{bytes_at}
use Rattle.machine_plan.proofs.Words.{byte_read}

-- bytes inside a memory are a part of its list
bytes_are : (m : List ℕ) (p n : ℕ) → p + n ≤ length m → bytes_at m p n ≡ take n (drop p m)
unfolding bytes_at
bytes_are m p zero inside = refl
bytes_are m p (suc n) inside = search (rules, arith, drop_more, bytes_are m (suc p) n (omega (arith, inside)))

-- a text that stands in a memory
pub piece_at : (m : List ℕ) (p : ℕ) (text : List ℕ) → bytes_at m p (length text) ≡ text → p + length text ≤ length m → IsPiece m p (length text) text
piece_at m p text stands inside = record { size = refl; inside = inside; same = sym (bytes_are m p (length text) inside) ∙ stands }

-- numbers of the same eight bytes
same_number : (xs ys : List ℕ) → ((i : ℕ) → i < 8 → slice_index xs i ≡ slice_index ys i) → from_le_bytes w64 xs ≡ from_le_bytes w64 ys
same_number xs ys same = search (rules, arith)

-- a word of eight bytes of a text that stands in a memory
pub number_at : (m text : List ℕ) (p i : ℕ) → bytes_at m p (length text) ≡ text → 8 * i + 8 ≤ length text → from_le_bytes w64 (bytes_at m (p + 8 * i) 8) ≡ u64_at text (8 * i)
unfolding u64_at
number_at m text p i stands inside =
    same_number (bytes_at m (p + 8 * i) 8) (drop (8 * i) text) (λ j below.
    byte_read m (p + 8 * i) 8 j below
    ∙ ap (λ q. slice_index m q) (omega arith)
    ∙ sym (byte_read m p (length text) (8 * i + j) (omega (arith, below, inside)))
    ∙ ap (λ l. slice_index l (8 * i + j)) stands
    ∙ sym (get_or-drop (8 * i) text j 0))

-- the n words of a memory from a place on
unfoldable pub words_from : List ℕ → ℕ → ℕ → List ℕ
words_from m p n = map (λ k. u32_at m (p + 4 * k)) (range_with_len 0 n)

pub word_from : (m : List ℕ) (p n k : ℕ) → k < n → slice_index (words_from m p n) k ≡ u32_at m (p + 4 * k)
unfolding words_from
word_from m p n k below = get_or-map-range_with_len (λ k. u32_at m (p + 4 * k)) 0 n k k 0 below (omega arith)

none_from : (m : List ℕ) (p n k : ℕ) → n ≤ k → slice_index (words_from m p n) k ≡ 0
unfolding words_from
none_from m p n k past = grind (arith, common_steps, nat_tests, length-map-range_with_len, get_or_past)

-- each is a word
pub words_fit : (m : List ℕ) (p n k : ℕ) → IsBytes m → slice_index (words_from m p n) k < 2 ^ 32
words_fit m p n k bytes = grind (arith, common_steps, nat_tests, cases_lt, word_from, u32_fits, none_from)
