-- The rules of a memory table are asked by item, and at an item by number.
use Rattle.std.proofs.Common.{◌≡◌, ℕ, ◌+◌, List, length, Some, inl, inr, refl, arith}
use Rattle.field_words.specs.{Questions.first_of, Questions.each, Least.IsLeast}
use Rattle.field_words.proofs.Least.{IsOrder, Rises, pairs, least, rises_append, rises_each}
use Rattle.buffer_table.specs.Table.{items_of, fault, IsUpTo, memory_within, item_questions, all_within, table_within}
use Rattle.buffer_table.specs.{declared.buffer.Buffer.Buffer, declared.buffer.Regions.Regions, declared.buffer.TableFault.TableFault}
use Rattle.buffer_table.specs.{declared.buffer.TableRule.TheVariants.MemorySize, declared.item.Item.Item}

order : IsOrder IsUpTo
order = pairs (λ (f : TableFault). (f.item, f.number))

-- the rules of item k of the list, before those of the next
item_rises : (memory : ℕ) (items : List Item) (k : ℕ) → Rises IsUpTo (fault MemorySize (k + 1)) (item_questions memory items k) (fault MemorySize (k + 1 + 1))
unfolding item_questions
item_rises memory items k = (inr (refl, omega arith), (inr (refl, omega arith), (inr (refl, omega arith), (inr (refl, omega arith), inl (omega arith)))))

memory_rises : (limit memory : ℕ) → Rises IsUpTo (fault MemorySize 0) (memory_within limit memory) (fault MemorySize 1)
unfolding memory_within
memory_rises limit memory = (inr (refl, omega arith), inl (omega arith))

all_rise : (limit memory : ℕ) (items : List Item) → Rises IsUpTo (fault MemorySize 0) (all_within limit memory items) (fault MemorySize (0 + length items + 1))
unfolding all_within
all_rise limit memory items =
    rises_append IsUpTo (fault MemorySize 0) (fault MemorySize 1) _ (memory_within limit memory) (each (item_questions memory items) 0 (length items)) order (memory_rises limit memory)
    (rises_each IsUpTo (item_questions memory items) (λ k. fault MemorySize (k + 1)) order (item_rises memory items) 0 (length items))

pub least_fault : (limit memory : ℕ) (r : Regions) (buffers : List Buffer) (f : TableFault) → first_of (table_within limit memory r buffers) ≡ Some f
    → IsLeast IsUpTo (table_within limit memory r buffers) f
least_fault limit memory r buffers f some = least IsUpTo (fault MemorySize 0) _ (table_within limit memory r buffers) f order (all_rise limit memory (items_of r buffers)) some
