-- What a write changes and what it leaves alone.
use Rattle.std.proofs.Common.{◌≡◌, ℕ, ◌+◌, ◌<◌, ◌≤◌, List, [], ◌++◌, length, get_or, arith}
use Rattle.std.proofs.{lemmas.List.places, lemmas.List.length-replicate, lemmas.Grind.same_number_lists}
use Rattle.field_words.specs.Writes.{with_bytes, zeros}

pub length_zeros : (n : ℕ) → length (zeros n) ≡ n
unfolding zeros
length_zeros n = length-replicate n 0

-- The length stays.
pub length-with_bytes : (old : List ℕ) (at : ℕ) (bytes : List ℕ) → at + length bytes ≤ length old → length (with_bytes old at bytes) ≡ length old
length-with_bytes old at bytes fits = grind (arith, places)

-- Bytes before and behind stay.
pub with_bytes-before : (old : List ℕ) (at : ℕ) (bytes : List ℕ) (i : ℕ) → at + length bytes ≤ length old → i < at → get_or (with_bytes old at bytes) i 0 ≡ get_or old i 0
with_bytes-before old at bytes i fits before = grind (arith, places)

pub with_bytes-behind : (old : List ℕ) (at : ℕ) (bytes : List ℕ) (i : ℕ) → at + length bytes ≤ length old → at + length bytes ≤ i → get_or (with_bytes old at bytes) i 0 ≡ get_or old i 0
with_bytes-behind old at bytes i fits behind = grind (arith, places)

-- The bytes themselves stand there.
pub with_bytes-inside : (old : List ℕ) (at : ℕ) (bytes : List ℕ) (i : ℕ) → at + length bytes ≤ length old → i < length bytes → get_or (with_bytes old at bytes) (at + i) 0 ≡ get_or bytes i 0
with_bytes-inside old at bytes i fits inside = grind (arith, places)

-- No text changes nothing.
pub with_nothing : (window : List ℕ) (at : ℕ) → at ≤ length window → with_bytes window at [] ≡ window
with_nothing window at fits = grind (arith, places)

-- Two texts in a row are one text.
pub with_two : (window : List ℕ) (at : ℕ) (front rest : List ℕ) → at + length (front ++ rest) ≤ length window
    → with_bytes window at (front ++ rest) ≡ with_bytes (with_bytes window at front) (at + length front) rest
with_two window at front rest fits = same_number_lists _ _ (grind (arith, places)) (λ k below. grind (arith, places))

-- A text inside one that was written is written into that text.
pub with_inner : (window : List ℕ) (at : ℕ) (text : List ℕ) (i : ℕ) (part : List ℕ) → at + length text ≤ length window → i + length part ≤ length text
    → with_bytes (with_bytes window at text) (at + i) part ≡ with_bytes window at (with_bytes text i part)
with_inner window at text i part fits inside = same_number_lists _ _ (grind (arith, places)) (λ k below. grind (arith, places))
