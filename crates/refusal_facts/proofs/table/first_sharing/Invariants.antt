-- What is left decides as the whole does.
use Rattle.std.proofs.Common.{◌≡◌, ◌-◌}
use Rattle.field_words.specs.Questions.{first_of, each}
use Rattle.buffer_table.specs.Table.{items_of}
use Rattle.refusal_facts.specs.Items.{sharing_question}
use Rattle.refusal_facts.proofs.table.first_sharing.Given as goal

abbrev pub invariant-loop-i : goal.invariant-loop-i
invariant-loop-i l = first_of (each (sharing_question (items_of l.regions l.buffers) l.k) l.i (l.k - l.i))
    ≡ first_of (each (sharing_question (items_of l.regions l.buffers) l.k) 0 l.k)
