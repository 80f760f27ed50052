-- Bytes of pages, and what writes leave of them.
use Rattle.std.proofs.Common.{◌≡◌, ℕ, ◌+◌, ◌-◌, ◌<◌, ◌≤◌, ◌&&◌, nat_le, nat_lt, Bool, true, false, List, length, slice_index, replicate, take, drop, arith, refl, sym, ◌∙◌, subst}
use Rattle.std.proofs.lemmas.List.{places, drop-take, take-take, drop-drop, get_or-replicate}
use Rattle.std.proofs.{lemmas.Bool.Decides.nat_tests, lemmas.Grind.same_number_lists}
use Rattle.field_words.specs.Writes.{with_bytes, zeros}
use Rattle.field_words.proofs.Writes.{with_bytes-before, with_bytes-behind}
use Rattle.phys_mem.specs.Window.{window_of}
use Rattle.session_pages.specs.Map.{held_by}

-- so many pages from one on have this one among them
abbrev pub is_within : ℕ → ℕ → ℕ → Bool
is_within first pages page = nat_le first page && nat_lt page (first + pages)

pub is_inside : (first pages page : ℕ) → is_within first pages page ≡ true → (first ≤ page) × (page < first + pages)
is_inside first pages page is = grind (arith, nat_tests)

pub is_outside : (first pages page : ℕ) → is_within first pages page ≡ false → first ≤ page → page < first + pages → ⊥
is_outside first pages page is low high = grind (arith, nat_tests)

pub within_yes : (first pages page : ℕ) → first ≤ page → page < first + pages → is_within first pages page ≡ true
within_yes first pages page low high = grind (arith, nat_tests)

pub within_none : (first page : ℕ) → is_within first 0 page ≡ false
within_none first page = grind (arith, nat_tests)

pub held_inside : (owners : List ℕ) (first pages owner page : ℕ) → first + pages ≤ length owners → is_within first pages page ≡ true
    → slice_index (held_by owners first pages owner) page ≡ owner
held_inside owners first pages owner page fits is =
    let in_run = is_inside first pages page is in
    let low : first ≤ page = in_run.0 in
    let high : page < first + pages = in_run.1 in
    grind (arith, places)

pub held_outside : (owners : List ℕ) (first pages owner page : ℕ) → first + pages ≤ length owners → is_within first pages page ≡ false
    → slice_index (held_by owners first pages owner) page ≡ slice_index owners page
held_outside owners first pages owner page fits is = grind (arith, places, nat_tests)

pub length_held : (owners : List ℕ) (first pages owner : ℕ) → first + pages ≤ length owners → length (held_by owners first pages owner) ≡ length owners
length_held owners first pages owner fits = grind (arith, places)

pub window_length : (memory : List ℕ) (place n : ℕ) → place + n ≤ length memory → length (window_of memory place n) ≡ n
window_length memory place n fits = grind (arith, places)

pub window_at : (memory : List ℕ) (place n k : ℕ) → place + n ≤ length memory → k < n → slice_index (window_of memory place n) k ≡ slice_index memory (place + k)
window_at memory place n k fits below = grind (arith, places)

-- a list is a window's bytes
pub window_is : (memory : List ℕ) (place n : ℕ) (bytes : List ℕ) → place + n ≤ length memory → length bytes ≡ n
    → ((k : ℕ) → k < n → slice_index memory (place + k) ≡ slice_index bytes k) → window_of memory place n ≡ bytes
window_is memory place n bytes fits long each =
    same_number_lists (window_of memory place n) bytes (window_length memory place n fits ∙ sym long)
    (λ k below. let inside : k < n = omega (arith, window_length memory place n fits) in window_at memory place n k fits inside ∙ each k inside)

pub window_same : (memory left : List ℕ) (place n : ℕ) → place + n ≤ length memory → length left ≡ length memory
    → ((k : ℕ) → k < n → slice_index left (place + k) ≡ slice_index memory (place + k)) → window_of left place n ≡ window_of memory place n
window_same memory left place n fits long each =
    window_is left place n (window_of memory place n) (omega arith) (window_length memory place n fits)
    (λ k below. each k below ∙ sym (window_at memory place n k fits below))

-- bytes inside a window are written into it
pub window_written : (memory : List ℕ) (place n at : ℕ) (part : List ℕ) → place + n ≤ length memory → at + length part ≤ n
    → window_of (with_bytes memory (place + at) part) place n ≡ with_bytes (window_of memory place n) at part
window_written memory place n at part fits inside =
    same_number_lists _ _ (grind (arith, places)) (λ k below. grind (arith, places))

apart_by : (memory : List ℕ) (place : ℕ) (part : List ℕ) (i : ℕ) → place + length part ≤ length memory → (place ≤ i → i < place + length part → ⊥)
    → (b : Bool) → nat_le place i ≡ b → slice_index (with_bytes memory place part) i ≡ slice_index memory i
apart_by memory place part i fits apart true is =
    let low : place ≤ i = grind (arith, nat_tests) in
    with_bytes-behind memory place part i fits (behind_by (λ high. apart low high) (nat_lt i (place + length part)) refl)
  where
    behind_by : {i n : ℕ} → (i < n → ⊥) → (b : Bool) → nat_lt i n ≡ b → n ≤ i
    behind_by out true is = absurd (out (grind (arith, nat_tests)))
    behind_by out false is = grind (arith, nat_tests)
apart_by memory place part i fits apart false is = with_bytes-before memory place part i fits (grind (arith, nat_tests))

pub written_apart : (memory : List ℕ) (place : ℕ) (part : List ℕ) (i : ℕ) → place + length part ≤ length memory → (place ≤ i → i < place + length part → ⊥)
    → slice_index (with_bytes memory place part) i ≡ slice_index memory i
written_apart memory place part i fits apart = apart_by memory place part i fits apart (nat_le place i) refl

read_window_at : (memory : List ℕ) (place at more len : ℕ) → len ≤ more
    → window_of memory (place + at) len ≡ take len (drop at (window_of memory place (at + more)))
read_window_at memory place at more len inside =
    rw (drop-take at more (drop place memory), take-take len more (drop at (drop place memory)) inside, drop-drop at place memory) refl

pub read_window : (memory : List ℕ) (place n at len : ℕ) → at + len ≤ n → window_of memory (place + at) len ≡ take len (drop at (window_of memory place n))
read_window memory place n at len inside =
    let e : at + (n - at) ≡ n = omega arith in
    subst (λ (k : ℕ). window_of memory (place + at) len ≡ take len (drop at (window_of memory place k))) e
    (read_window_at memory place at (n - at) len (omega arith))

pub zero_at : (n k : ℕ) → slice_index (zeros n) k ≡ 0
unfolding zeros
zero_at n k = zero_by n k (nat_lt k n) refl
  where
    zero_by : (n k : ℕ) (b : Bool) → nat_lt k n ≡ b → slice_index (replicate n 0) k ≡ 0
    zero_by n k true is = get_or-replicate {A = ℕ} n k 0 0 (grind (arith, nat_tests))
    zero_by n k false is = grind (arith, places, nat_tests)
