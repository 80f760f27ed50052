-- Of items in order only the first that ends behind another's place can have a byte of it.
use Rattle.std.proofs.Common.{◌≡◌, ◌⊎◌, inl, inr, ℕ, ◌+◌, ◌≤◌, ◌<◌, max, min, true, false, List, ◌∷◌, length, get_or, insert, None, nat_lt, slice_index, leb-true, leb-false, subst, sym, ◌∙◌, arith}
use Rattle.std.proofs.lemmas.Bool.{cases_Bool, cases_lt, ltb-true, ltb-false, Decides.nat_tests}
use Rattle.std.proofs.lemmas.List.Folds.{list_any_at, list_any_more, list_any_none}
use Rattle.std.proofs.lemmas.List.Sorted.{IsNonDecreasingBy-insert, IsPermutation-insert, All-permutation, list_any-IsPermutation}
use Rattle.std.proofs.lemmas.List.{get_or_default, Edits.length-insert, Elements.All-cons}
use Rattle.buffer_table.specs.{declared.item.Item.Item, Order.IsOrder, Order.IsSplit, Order.place_in, Order.end_in}
use Rattle.buffer_table.specs.Table.{shares, shares_with_first, item_questions, item_at, no_item}
use Rattle.buffer_table.proofs.Sounds.{sound_item, apart_item}
use Rattle.field_words.specs.Questions.{first_of}

lies_apart : (x y : Item) → (y.place + y.size ≤ x.place) ⊎ (x.place + x.size ≤ y.place) → shares x y ≡ false
unfolding shares
lies_apart x y (inl before) = grind (arith, nat_tests, before)
lies_apart x y (inr behind) = grind (arith, nat_tests, behind)

meet : (x y : Item) → 0 < x.size → 0 < y.size → x.place < y.place + y.size → y.place < x.place + x.size → shares x y ≡ true
unfolding shares
meet x y some_x some_y behind before =
    let below : max x.place y.place < min (x.place + x.size) (y.place + y.size) = omega (arith, some_x, some_y, behind, before) in
    grind (arith, nat_tests, below)

-- where that one begins behind it, none has
pub none_shares : (items : List Item) (numbers : List ℕ) (at : ℕ) (x : Item) → IsOrder items numbers → IsSplit items numbers x.place at
    → ((d : ℕ) → at < length numbers → x.place + x.size ≤ place_in items (get_or numbers at d)) → shares_with_first x items (length numbers) ≡ false
none_shares items numbers at x is split behind =
    is.same (shares x) ∙ list_any_none (λ k. shares x (item_at items k)) numbers (λ i d inside. elim (cases_lt i at) [
      | inl before ↦ lies_apart x (item_at items (get_or numbers i d)) (inl (leb-true _ _ (split.1.0 i d (omega arith) before)))
      | inr from ↦ lies_apart x (item_at items (get_or numbers i d)) (inr (omega (arith, from, behind d (omega (arith, from, inside)), is.places at i d (omega (arith, from)) inside)))
    ])

-- one that ends behind its place, and begins before its end, has
one_shares : (items : List Item) (numbers : List ℕ) (at i d : ℕ) (x : Item) → IsOrder items numbers → IsSplit items numbers x.place at → 0 < x.size
    → at ≤ i → i < length numbers → place_in items (get_or numbers i d) < x.place + x.size → shares_with_first x items (length numbers) ≡ true
one_shares items numbers at i d x is split some from inside begins =
    is.same (shares x) ∙ list_any_at (λ k. shares x (item_at items k)) numbers i d inside
    (meet x (item_at items (get_or numbers i d)) some (is.some i d inside) (leb-false _ _ (split.1.1 i d from inside)) begins)

-- the next item, which has no fault, goes before those that end behind its place
pub ordered_more : (memory : ℕ) (items : List Item) (numbers : List ℕ) (at : ℕ) → IsOrder items numbers → length numbers < length items
    → IsSplit items numbers (place_in items (length numbers)) at → first_of (item_questions memory items (length numbers)) ≡ None
    → IsOrder items (insert numbers at (length numbers))
ordered_more memory items numbers at is inside split none =
    let some = (sound_item memory items (length numbers) none).not_empty in
    let apart = apart_item memory items (length numbers) none in
    let k : ℕ = length numbers in
    let x : Item = item_at items k in
    let moved = IsPermutation-insert numbers at k in
    let longer : length (insert numbers at k) ≡ k + 1 = length-insert numbers at k split.0 in
    let before : (i d : ℕ) → i < at → end_in items (get_or numbers i d) ≤ x.place = λ i d below. leb-true _ _ (split.1.0 i d (omega arith) below) in
    let behind : (i d : ℕ) → at ≤ i → i < k → x.place + x.size ≤ place_in items (get_or numbers i d) =
    λ i d from below. elim (cases_lt (place_in items (get_or numbers i d)) (x.place + x.size)) [
      | inl begins ↦ absurd (let wrong : true ≡ false = sym (one_shares items numbers at i d x is split some from below begins) ∙ apart in cc)
      | inr not ↦ omega (arith, not)
    ] in
    record {
      inside = omega (arith, longer, inside);
      same = λ p.
          let more = list_any_more p items k no_item inside in
          let known = is.same p in
          let all = list_any-IsPermutation (λ i. p (item_at items i)) (k ∷ numbers) (insert numbers at k) moved in
          rw longer (grind (arith, more, known, all));
      places = IsNonDecreasingBy-insert (place_in items) numbers at k is.places split.0 (λ i d below. omega (arith, before i d below)) (λ i d from below. omega (arith, behind i d from below));
      ends = IsNonDecreasingBy-insert (end_in items) numbers at k is.ends split.0 (λ i d below. omega (arith, before i d below)) (λ i d from below. omega (arith, behind i d from below));
      some = All-permutation (λ i. 0 < (item_at items i).size) (k ∷ numbers) (insert numbers at k) moved (All-cons (λ i. 0 < (item_at items i).size) k numbers some is.some);
    }

-- the first that ends behind its place decides
pub decides : (items : List Item) (numbers : List ℕ) (at : ℕ) (x : Item) → IsOrder items numbers → IsSplit items numbers x.place at → 0 < x.size → at < length numbers
    → nat_lt (place_in items (slice_index numbers at)) (x.place + x.size) ≡ shares_with_first x items (length numbers)
decides items numbers at x is split some inside = elim (cases_Bool (nat_lt (place_in items (slice_index numbers at)) (x.place + x.size))) [
  | inl is_so ↦ is_so ∙ sym (one_shares items numbers at at 0 x is split some (omega arith) inside (ltb-true _ _ is_so))
  | inr not_so ↦ not_so ∙ sym (none_shares items numbers at x is split (λ d _. subst (λ n. x.place + x.size ≤ place_in items n) (sym (get_or_default numbers at d 0 inside)) (ltb-false _ _ not_so)))
]
