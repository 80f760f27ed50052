-- The rules of a memory table, and what they promise.
use Rattle.std.specs.Prelude.{◌≡◌, ◌↔◌, ℕ, true, ◌+◌, ◌*◌, ◌%◌, ◌≤◌, ◌<◌, min, max, Bool, not, ◌||◌, nat_lt, ◌==◌, List, [], ◌∷◌, ◌++◌, length, map, take, slice_index_or, Some}
use Rattle.std.specs.List.{list_any}
use Rattle.field_words.specs.{Questions.Question, Questions.Ask, Questions.first_of, Questions.each, Least.IsLeast, Least.NotAfter}
use Rattle.field_words.specs.Sizes.{page_size, slot_size, most_memory}
use Rattle.buffer_table.specs.declared.buffer.TableRule.TheVariants.{MemorySize, OffPage, OutsideMemory, SharedByte, TooMuchContent}
use Rattle.buffer_table.specs.{declared.buffer.Kind.TheVariants.Plain, declared.buffer.Kind.TheVariants.Code, declared.buffer.Buffer.Buffer}
use Rattle.buffer_table.specs.{declared.buffer.Regions.Regions, declared.buffer.TableFault.TableFault, declared.buffer.TableRule.TableRule}
use Rattle.buffer_table.specs.{declared.item.Item.Item, Rules.rule_number}

-- 0xFF000000: the greatest limit of a memory. All that is added to a place below it stays below 2^32.
abbrev pub most_place : ℕ
most_place = 4278190080

-- what contracts see of a Table
pub record TableModel : Type 0 where
  pub memory : ℕ
  pub regions : Regions
  pub buffers : List Buffer

-- a fault by a rule at an item
abbrev pub fault : TableRule → ℕ → TableFault
fault rule item = record { number = rule_number rule; item = item }

-- The items after the memory: the lists' region, the tile region, the buffers in order.
abbrev pub lists_item : Regions → Item
lists_item r = record { place = r.lists_place; size = r.lists_size; content = 0 }

abbrev pub tile_item : Regions → Item
tile_item r = record { place = r.tile_place; size = slot_size * r.tile_slots; content = 0 }

abbrev pub buffer_item : Buffer → Item
buffer_item b = record { place = b.place; size = b.size; content = b.content }

abbrev pub items_of : Regions → List Buffer → List Item
items_of r buffers = lists_item r ∷ (tile_item r ∷ map buffer_item buffers)

abbrev pub no_item : Item
no_item = record { place = 0; size = 0; content = 0 }

abbrev pub item_at : List Item → ℕ → Item
item_at items k = slice_index_or items k no_item

-- a byte of the memory lies in an item; a byte lies in both
pub record IsIn (byte : ℕ) (x : Item) : Type 0 where
  pub from : x.place ≤ byte
  pub before : byte < x.place + x.size

abbrev pub ShareByte : Item → Item → Type 0
ShareByte x y = (byte : ℕ) × IsIn byte x × IsIn byte y

unfoldable pub shares : Item → Item → Bool
shares x y = nat_lt (max x.place y.place) (min (x.place + x.size) (y.place + y.size))

-- The test on ends is that of a byte.
abbrev pub SharingMeansByte : Type 0
SharingMeansByte = (x y : Item) → (shares x y ≡ true) ↔ ShareByte x y

-- one of the first items has a byte of it
abbrev pub shares_with_first : Item → List Item → ℕ → Bool
shares_with_first x items count = list_any (shares x) (take count items)

unfoldable pub is_off_page : Item → Bool
is_off_page x = not (x.place % page_size == 0) || (not (x.size % page_size == 0) || x.size == 0)

-- M1: the memory's size is 0, no multiple of a page or over the limit
unfoldable pub memory_within : (limit memory : ℕ) → List (Question TableFault)
memory_within limit memory = Ask (memory == 0 || (not (memory % page_size == 0) || nat_lt limit memory)) (fault MemorySize 0) ∷ []

-- M2: a place or size is no multiple of a page, or the size is 0
-- M3: the end is past the memory
-- M4: an earlier item other than the memory has a byte of it
-- M5: more content than bytes
-- Item k of the list is item k + 1 of a fault, since the memory is item 0.
unfoldable pub item_questions : ℕ → List Item → ℕ → List (Question TableFault)
item_questions memory items k =
    Ask (is_off_page (item_at items k)) (fault OffPage (k + 1))
    ∷ (Ask (nat_lt memory ((item_at items k).place + (item_at items k).size)) (fault OutsideMemory (k + 1))
    ∷ (Ask (shares_with_first (item_at items k) items k) (fault SharedByte (k + 1))
    ∷ (Ask (nat_lt (item_at items k).size (item_at items k).content) (fault TooMuchContent (k + 1)) ∷ [])))

-- all rules, in the order of refusal
abbrev pub items_questions : ℕ → List Item → List (Question TableFault)
items_questions memory items = each (item_questions memory items) 0 (length items)

unfoldable pub all_within : (limit memory : ℕ) → List Item → List (Question TableFault)
all_within limit memory items = memory_within limit memory ++ items_questions memory items

-- all rules of a memory table
abbrev pub table_within : (limit memory : ℕ) → Regions → List Buffer → List (Question TableFault)
table_within limit memory r buffers = all_within limit memory (items_of r buffers)

-- those of a job file
abbrev pub table_questions : ℕ → Regions → List Buffer → List (Question TableFault)
table_questions = table_within most_memory

-- faults in the order of refusal: by item, and at an item by number
abbrev pub IsUpTo : TableFault → TableFault → Type 0
IsUpTo one other = NotAfter (one.item, one.number) (other.item, other.number)

-- The first broken rule of a table is the least of all that are.
abbrev pub FirstIsLeast : Type 0
FirstIsLeast = (limit memory : ℕ) (r : Regions) (buffers : List Buffer) (fault : TableFault) → first_of (table_within limit memory r buffers) ≡ Some fault
    → IsLeast IsUpTo (table_within limit memory r buffers) fault

-- the entry of a buffer; past the end an entry of no bytes that is no data buffer
abbrev pub past_end : Buffer
past_end = record { place = 0; size = 0; client = 0; kind = Code; content = 0 }

unfoldable pub buffer_at : List Buffer → ℕ → Buffer
buffer_at buffers number = slice_index_or buffers number past_end

-- An entry of zeros, with which proofs read a list at an index inside it. No rule speaks of it.
abbrev pub no_buffer : Buffer
no_buffer = record { place = 0; size = 0; client = 0; kind = Plain; content = 0 }
