-- A memory table without faults is sound.
use Rattle.std.proofs.Common.{◌≡◌, ℕ, suc, ◌+◌, ◌-◌, ◌<◌, ◌≤◌, map, min, max, false, List, length, take, get_or, None, sym, ap, subst, arith, ◌∙◌}
use Rattle.std.proofs.lemmas.List.{get_or-take, get_or-map, get_or_default, length-map}
use Rattle.std.proofs.{lemmas.Bool.ltb-false, lemmas.Bool.Decides.nat_tests, lemmas.List.Folds.list_any_at, lemmas.Grind.common_steps}
use Rattle.field_words.specs.Questions.{first_of, each}
use Rattle.field_words.proofs.{Questions.none_broken, Nones.front_none, Nones.rest_none, Nones.each_none}
use Rattle.buffer_table.specs.Table.{TableModel, items_of, item_at, no_item, buffer_at, past_end, buffer_item, shares, shares_with_first, is_off_page, most_place, memory_within, item_questions, all_within, table_within}
use Rattle.buffer_table.specs.{declared.buffer.Buffer.Buffer, declared.buffer.Regions.Regions, declared.item.Item.Item}
use Rattle.buffer_table.specs.Sound.{IsSoundItem, IsSound, IsSoundBuffer, AreApart}

-- An item that passes M2 to M5.
pub sound_item : (memory : ℕ) (items : List Item) (k : ℕ) → first_of (item_questions memory items k) ≡ None → IsSoundItem memory (item_at items k)
unfolding item_questions is_off_page
sound_item memory items k none =
    let asked = none_broken (item_questions memory items k) none in
    record { place = grind (arith, asked.0); size = grind (arith, asked.0); not_empty = grind (arith, asked.0); inside = grind (arith, asked.1.0); content = grind (arith, asked.1.1.1.0) }

-- one that passes M2 has a byte
pub some_byte : (x : Item) → is_off_page x ≡ false → 0 < x.size
unfolding is_off_page
some_byte x on = grind (arith, nat_tests, on)

-- Two items of which the test for a common byte fails.
apart_of : (memory : ℕ) (x y : Item) → shares y x ≡ false → IsSoundItem memory x → IsSoundItem memory y → AreApart x y
unfolding shares
apart_of memory x y none sound_x sound_y =
    let past = ltb-false (max y.place x.place) (min (y.place + y.size) (x.place + x.size)) none in
    let some_x = sound_x.not_empty in
    let some_y = sound_y.not_empty in
    grind (arith, past, some_x, some_y)

-- An item that passes M4 has no byte of an earlier one.
pub apart_item : (memory : ℕ) (items : List Item) (k : ℕ) → first_of (item_questions memory items k) ≡ None → shares_with_first (item_at items k) items k ≡ false
unfolding item_questions
apart_item memory items k none = let asked = none_broken (item_questions memory items k) none in grind (arith, asked.1.1.0)

-- Of an item that passes M4, every earlier one is apart.
apart_items : (memory : ℕ) (items : List Item) (j k : ℕ) → first_of (item_questions memory items k) ≡ None → j < k → k < length items
    → shares (item_at items k) (item_at items j) ≡ false
unfolding item_questions
apart_items memory items j k none before inside =
    let asked = none_broken (item_questions memory items k) none in
    grind (arith, common_steps, asked.1.1.0, list_any_at (shares (item_at items k)) (take k items) j no_item, get_or-take k items j no_item)

-- A memory that passes M1.
pub memory_limit : (limit memory : ℕ) (r : Regions) (buffers : List Buffer) → first_of (table_within limit memory r buffers) ≡ None → memory ≤ limit
unfolding all_within memory_within
memory_limit limit memory r buffers none =
    let items : List Item = items_of r buffers in
    let first = none_broken (memory_within limit memory) (front_none (memory_within limit memory) (each (item_questions memory items) 0 (length items)) none) in
    grind (arith, first.0)

pub sound_within : (limit memory : ℕ) (r : Regions) (buffers : List Buffer) → limit ≤ most_place → first_of (table_within limit memory r buffers) ≡ None → IsSound memory r buffers
unfolding all_within memory_within
sound_within limit memory r buffers low none =
    let items : List Item = items_of r buffers in
    let first = none_broken (memory_within limit memory) (front_none (memory_within limit memory) (each (item_questions memory items) 0 (length items)) none) in
    let rest = rest_none (memory_within limit memory) (each (item_questions memory items) 0 (length items)) none in
    let at : (k : ℕ) → k < length items → first_of (item_questions memory items k) ≡ None = λ k below. each_none (item_questions memory items) 0 (length items) k rest (omega arith) (omega (arith, below)) in
    let good : (k : ℕ) → k < length items → IsSoundItem memory (item_at items k) = λ k below. sound_item memory items k (at k below) in
    record {
      pages = grind (arith, first.0);
      not_empty = grind (arith, first.0);
      limit = (let inside : memory ≤ limit = grind (arith, first.0) in omega (arith, inside, low));
      each_item = good;
      apart = λ j k before below.
          apart_of memory (item_at items j) (item_at items k) (apart_items memory items j k (at k below) before below) (good j (omega arith)) (good k below);
    }

-- A sound table, where the buffers have another name.
pub sound_copy : (limit memory : ℕ) (r : Regions) (buffers copy : List Buffer) → limit ≤ most_place → first_of (table_within limit memory r buffers) ≡ None → copy ≡ buffers → IsSound memory r copy
sound_copy limit memory r buffers copy low none same = subst (IsSound memory r) (sym same) (sound_within limit memory r buffers low none)

-- The item of buffer number is two after the regions.
pub item_of_buffer : (r : Regions) (buffers : List Buffer) (number : ℕ) → number < length buffers → item_at (items_of r buffers) (number + 2) ≡ buffer_item (buffer_at buffers number)
unfolding buffer_at
item_of_buffer r buffers number inside =
    ap (λ k. item_at (items_of r buffers) k) (let e : number + 2 ≡ suc (suc number) = omega arith in e)
    ∙ get_or-map buffer_item buffers number past_end no_item inside

-- The entry of a buffer in a sound table.
pub sound_buffer : (t : TableModel) (number : ℕ) (b : Buffer) → IsSound t.memory t.regions t.buffers → number < length t.buffers → b ≡ buffer_at t.buffers number
    → IsSoundBuffer t.memory b
sound_buffer t number b is_sound inside entry =
    let good : IsSoundItem t.memory (item_at (items_of t.regions t.buffers) (number + 2)) = is_sound.each_item (number + 2) (rw length-map (omega arith)) in
    (is_sound.limit, subst (IsSoundItem t.memory) (item_of_buffer t.regions t.buffers number inside ∙ ap buffer_item (sym entry)) good)

-- The item of a buffer, as its entry is read two before it.
pub entry_item : (r : Regions) (buffers : List Buffer) (number : ℕ) (d : Buffer) → number < length buffers
    → item_at (items_of r buffers) (number + 2) ≡ buffer_item (get_or buffers number d)
unfolding buffer_at
entry_item r buffers number d below = item_of_buffer r buffers number below ∙ ap buffer_item (get_or_default buffers number past_end d below)

pub item_of_entry : (r : Regions) (buffers : List Buffer) (k : ℕ) (d : Buffer) → 2 ≤ k → k < length buffers + 2
    → item_at (items_of r buffers) k ≡ buffer_item (get_or buffers (k - 2) d)
item_of_entry r buffers k d behind inside =
    let below : k - 2 < length buffers = omega arith in
    let same : k ≡ (k - 2) + 2 = omega arith in
    ap (item_at (items_of r buffers)) same ∙ entry_item r buffers (k - 2) d below

-- how many items there are
pub length_items : (r : Regions) (buffers : List Buffer) → length (items_of r buffers) ≡ length buffers + 2
length_items r buffers = let long : length (map buffer_item buffers) ≡ length buffers = length-map buffers buffer_item in omega arith
