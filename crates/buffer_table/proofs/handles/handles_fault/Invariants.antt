-- What is left decides as the whole does.
use Rattle.std.proofs.Common.{◌≡◌, ◌-◌, length}
use Rattle.field_words.specs.Questions.{first_of, each}
use Rattle.buffer_table.specs.Handles.{handle_questions}
use Rattle.buffer_table.proofs.handles.handles_fault.Given as goal

abbrev pub invariant-loop-index : goal.invariant-loop-index
invariant-loop-index l =
    first_of (each (handle_questions l.table l.client l.numbers) l.index (length l.numbers - l.index))
    ≡ first_of (each (handle_questions l.table l.client l.numbers) 0 (length l.numbers))
