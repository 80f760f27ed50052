-- What is left decides as the whole does, and the items so far are in order.
use Rattle.std.proofs.Common.{◌≡◌, ◌-◌, length}
use Rattle.field_words.specs.Questions.{first_of, each}
use Rattle.buffer_table.specs.{Order.IsOrder, Table.item_questions, Table.items_of}
use Rattle.buffer_table.proofs.item.items_fault.Given as goal

abbrev pub invariant-loop-k : goal.invariant-loop-k
invariant-loop-k l = record {
  long : length l.order.items ≡ l.k;
  ordered : IsOrder (items_of l.regions l.buffers) l.order.items;
  same : first_of (each (item_questions l.mem_size (items_of l.regions l.buffers)) l.k (length (items_of l.regions l.buffers) - l.k))
      ≡ first_of (each (item_questions l.mem_size (items_of l.regions l.buffers)) 0 (length (items_of l.regions l.buffers)));
}
