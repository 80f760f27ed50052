-- No handle has a fault, so each is a buffer's number.
use Rattle.std.proofs.Common.{sym}
use Rattle.field_words.proofs.Questions.{first_is}
use Rattle.buffer_table.specs.Handles.{handles_questions}
use Rattle.buffer_table.proofs.Named.{are_numbers}
use Rattle.buffer_table.proofs.handles.Handles.make.Goals as goal

pub returns-clause-numbers : goal.returns-clause-numbers
returns-clause-numbers c = are_numbers c.args.table.now c.args.client c.args.numbers.now (sym c.in_default.ensures)

pub returns-in-Some-clause-first : goal.returns-in-Some-clause-first
returns-in-Some-clause-first c = first_is (handles_questions c.args.table.now c.args.client c.args.numbers.now) c.in-Some.fault (sym c.in-Some.ensures)
