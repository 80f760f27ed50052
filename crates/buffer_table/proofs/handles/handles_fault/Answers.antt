-- A handle without a fault leaves the decision to those after it; the first fault ends it.
use Rattle.std.proofs.Common.{sym, ◌∙◌, length}
use Rattle.field_words.proofs.Questions.{each_on, each_stop, each_end}
use Rattle.buffer_table.specs.Handles.{handle_questions, handles_questions}
use Rattle.buffer_table.proofs.handles.handles_fault.Goals as goal

pub returns-in-Some : goal.returns-in-Some
unfolding handles_questions
returns-in-Some c =
    sym (each_stop (handle_questions c.args.table.now c.args.client c.args.numbers.now) c.loop-index.index (length c.args.numbers.now) c.in-Some.fault c.loop-index-test.true (sym c.in-Some.ensures))
    ∙ c.loop-index.invariant

pub loop-index-preserved : goal.loop-index-preserved
loop-index-preserved c =
    each_on (handle_questions c.args.table.now c.args.client c.args.numbers.now) c.loop-index.index (length c.args.numbers.now) c.loop-index-test.true (sym c.in_default.ensures)
    ∙ c.loop-index.invariant

pub returns : goal.returns
unfolding handles_questions
returns c =
    sym (each_end (handle_questions c.args.table.now c.args.client c.args.numbers.now) c.loop-index.index (length c.args.numbers.now) c.loop-index-test.false)
    ∙ c.loop-index.invariant
