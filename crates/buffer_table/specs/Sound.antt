-- What a memory table without faults promises.
use Rattle.std.specs.Prelude.{◌≡◌, ◌⊎◌, ℕ, ◌+◌, ◌%◌, ◌≤◌, ◌<◌, List, length}
use Rattle.field_words.specs.Sizes.{page_size}
use Rattle.buffer_table.specs.{declared.buffer.Buffer.Buffer, declared.buffer.Regions.Regions, declared.item.Item.Item}
use Rattle.buffer_table.specs.Table.{most_place, items_of, item_at, buffer_item}

-- whole pages inside the memory, at least one, with room for the content
pub record IsSoundItem (memory : ℕ) (x : Item) : Type 0 where
  pub place : x.place % page_size ≡ 0
  pub size : x.size % page_size ≡ 0
  pub not_empty : 0 < x.size
  pub inside : x.place + x.size ≤ memory
  pub content : x.content ≤ x.size

abbrev pub IsSoundBuffer : ℕ → Buffer → Type 0
IsSoundBuffer memory b = (memory ≤ most_place) × IsSoundItem memory (buffer_item b)

-- one ends before the other begins
abbrev pub AreApart : Item → Item → Type 0
AreApart x y = (x.place + x.size ≤ y.place) ⊎ (y.place + y.size ≤ x.place)

pub record IsSound (memory : ℕ) (r : Regions) (buffers : List Buffer) : Type 0 where
  pub pages : memory % page_size ≡ 0
  pub not_empty : 0 < memory
  pub limit : memory ≤ most_place
  pub each_item : (k : ℕ) → k < length (items_of r buffers) → IsSoundItem memory (item_at (items_of r buffers) k)
  pub apart : (j k : ℕ) → j < k → k < length (items_of r buffers) → AreApart (item_at (items_of r buffers) j) (item_at (items_of r buffers) k)
