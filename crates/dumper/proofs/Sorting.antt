-- Parts that lie apart may be put in any order; in order of place they ascend.
use Rattle.std.proofs.Common.{◌≡◌, ℕ, ◌+◌, ◌/◌, ◌%◌, ◌<◌, ◌≤◌, ◌⊎◌, inl, inr, List, [], ◌∷◌, length, refl, sym, ap, subst, ◌∙◌, arith}
use Rattle.std.proofs.{lemmas.List.places, lemmas.Bool.cases_lt, lemmas.Bool.lt-ltb, lemmas.Bool.le-ltb, lemmas.Grind.same_number_lists}
use Rattle.std.specs.Prelude.{if◌then◌else◌}
use Rattle.field_words.specs.Writes.{Part, parts_placed, with_bytes, zeros, memory_emitted}
use Rattle.field_words.proofs.Writes.{length-with_bytes, length_zeros}
use Rattle.dumper.specs.Parts.{part_end, parts_text, Ascend, part_inserted, parts_sorted, RowsApart, ApartFrom, AllApart}
use Rattle.dumper.specs.Text.{rows_text}
use Rattle.dumper.proofs.Stretches.{part_fits, zero_at, length_placed, rows_of_parts}

pub put_before : (part next : Part) (parts : List Part) → part.place < next.place → part_inserted part (next ∷ parts) ≡ part ∷ (next ∷ parts)
unfolding part_inserted
put_before part next parts less = ap (λ t. if t then part ∷ (next ∷ parts) else next ∷ part_inserted part parts) (lt-ltb part.place next.place less)

pub put_behind : (part next : Part) (parts : List Part) → next.place ≤ part.place → part_inserted part (next ∷ parts) ≡ next ∷ part_inserted part parts
unfolding part_inserted
put_behind part next parts from = ap (λ t. if t then part ∷ (next ∷ parts) else next ∷ part_inserted part parts) (le-ltb part.place next.place from)

-- Writes that lie apart swap.
swapped : (m : List ℕ) (a b : ℕ) (x y : List ℕ) → a + length x ≤ length m → b + length y ≤ length m → ((a + length x ≤ b) ⊎ (b + length y ≤ a))
    → with_bytes (with_bytes m a x) b y ≡ with_bytes (with_bytes m b y) a x
swapped m a b x y fits fits2 (inl before) = same_number_lists _ _ (grind (arith, places)) (λ k below. grind (arith, places))
swapped m a b x y fits fits2 (inr behind) = same_number_lists _ _ (grind (arith, places)) (λ k below. grind (arith, places))

bytes_apart : (p q : Part) → RowsApart p q → ((p.place + length p.bytes ≤ q.place) ⊎ (q.place + length q.bytes ≤ p.place))
bytes_apart p q (inl before) = inl (omega (arith, before.1))
bytes_apart p q (inr behind) = inr (omega (arith, behind.1))

pub placed_inserted : (m : List ℕ) (from size : ℕ) (part : Part) (parts : List Part) → length m ≡ size → part_end part ≤ size → Ascend from size parts
    → ApartFrom part parts → parts_placed m (part_inserted part parts) ≡ parts_placed (with_bytes m part.place part.bytes) parts
unfolding part_inserted
placed_inserted m from size part [] long fits ascend apart = refl
placed_inserted m from size part (next ∷ parts) long fits ascend apart =
    let behind : part.place + length part.bytes ≤ length m = omega (arith, fits, long) in
    let h = part_fits from size next parts ascend in
    let next_fits : next.place + length next.bytes ≤ length m = omega (arith, h, long) in
    elim (cases_lt part.place next.place) [
      | inl less ↦ ap (parts_placed m) (put_before part next parts less)
      | inr order ↦ ap (parts_placed m) (put_behind part next parts order)
          ∙ placed_inserted (with_bytes m next.place next.bytes) (part_end next) size part parts (length-with_bytes m next.place next.bytes next_fits ∙ long) fits ascend.2 apart.1
          ∙ ap (λ x. parts_placed x parts) (sym (swapped m part.place next.place part.bytes next.bytes behind next_fits (bytes_apart part next apart.0)))
    ]

apart_inserted : (part other : Part) (parts : List Part) → RowsApart part other → ApartFrom part parts → ApartFrom part (part_inserted other parts)
unfolding part_inserted
apart_inserted part other [] one all = (one, tt)
apart_inserted part other (next ∷ parts) one all = elim (cases_lt other.place next.place) [
  | inl less ↦ subst (ApartFrom part) (sym (put_before other next parts less)) (one, all)
  | inr order ↦ subst (ApartFrom part) (sym (put_behind other next parts order)) (all.0, apart_inserted part other parts one all.1)
]

apart_sorted : (part : Part) (parts : List Part) → ApartFrom part parts → ApartFrom part (parts_sorted parts)
unfolding parts_sorted
apart_sorted part [] all = tt
apart_sorted part (next ∷ parts) all = apart_inserted part next (parts_sorted parts) all.0 (apart_sorted part parts all.1)

ends_before : (p q : Part) → RowsApart p q → p.place < q.place → part_end p ≤ q.place
ends_before p q (inl before) less = before.1
ends_before p q (inr behind) less = absurd (omega (arith, behind.0, less))

ends_behind : (p q : Part) → RowsApart p q → q.place ≤ p.place → part_end q ≤ p.place
ends_behind p q (inl before) order = absurd (omega (arith, before.0, order))
ends_behind p q (inr behind) order = behind.1

pub ascend_inserted : (from size : ℕ) (part : Part) (parts : List Part) → Ascend from size parts → from ≤ part.place → part.place % 16 ≡ 0 → part_end part ≤ size
    → ApartFrom part parts → Ascend from size (part_inserted part parts)
unfolding part_inserted
ascend_inserted from size part [] ascend order row fits apart = (order, row, fits)
ascend_inserted from size part (next ∷ parts) ascend order row fits apart = elim (cases_lt part.place next.place) [
  | inl less ↦ subst (Ascend from size) (sym (put_before part next parts less)) (order, row, (ends_before part next apart.0 less, ascend.1, ascend.2))
  | inr behind ↦ subst (Ascend from size) (sym (put_behind part next parts behind))
      (ascend.0, ascend.1, ascend_inserted (part_end next) size part parts ascend.2 (ends_behind part next apart.0 behind) row fits apart.1)
]

pub ascend_sorted : (size : ℕ) (parts : List Part) → AllApart size parts → Ascend 0 size (parts_sorted parts)
unfolding parts_sorted
ascend_sorted size [] apart = omega arith
ascend_sorted size (part ∷ parts) apart =
    ascend_inserted 0 size part (parts_sorted parts) (ascend_sorted size parts apart.3) (omega arith) apart.0 apart.1 (apart_sorted part parts apart.2)

placed_sorted : (m : List ℕ) (size : ℕ) (parts : List Part) → length m ≡ size → AllApart size parts → parts_placed m (parts_sorted parts) ≡ parts_placed m parts
unfolding parts_sorted
placed_sorted m size [] long apart = refl
placed_sorted m size (part ∷ parts) long apart =
    let fits : part.place + length part.bytes ≤ length m = omega (arith, apart.1, long) in
    placed_inserted m 0 size part (parts_sorted parts) long apart.1 (ascend_sorted size parts apart.3) (apart_sorted part parts apart.2)
    ∙ placed_sorted (with_bytes m part.place part.bytes) size parts (length-with_bytes m part.place part.bytes fits ∙ long) apart.3

-- The rows of a memory that is zero but for parts that lie apart are its parts' rows, by ascending place.
pub rows_of_sorted : (size : ℕ) (parts : List Part) → size % 16 ≡ 0 → AllApart size parts → rows_text (memory_emitted size parts) 0 (size / 16) ≡ parts_text (parts_sorted parts)
rows_of_sorted size parts row apart =
    let long = length_zeros size in
    ap (λ m. rows_text m 0 (size / 16)) (sym (placed_sorted (zeros size) size parts long apart))
    ∙ rows_of_parts (zeros size) 0 size (size / 16) (parts_sorted parts) long refl (omega (arith, row)) (λ k at. zero_at size k) (ascend_sorted size parts apart)

pub emitted_long : (size : ℕ) (parts : List Part) → AllApart size parts → length (memory_emitted size parts) ≡ size
emitted_long size parts apart =
    let long = length_zeros size in
    ap length (sym (placed_sorted (zeros size) size parts long apart)) ∙ length_placed (zeros size) 0 size (parts_sorted parts) long (ascend_sorted size parts apart)

-- Ascending parts end inside a greater size.
pub ascend_more : (from size more : ℕ) (parts : List Part) → size ≤ more → Ascend from size parts → Ascend from more parts
ascend_more from size more [] order upto = omega (arith, order, upto)
ascend_more from size more (part ∷ parts) order ascend = (ascend.0, ascend.1, ascend_more (part_end part) size more parts order ascend.2)
