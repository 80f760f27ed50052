-- The program starts in the slot that was found.
use Rattle.std.proofs.Common.{◌∙◌, sym, slice_index_or}
use Rattle.qpu_machine.proofs.Starts.{inside_any, found_in, started_none, started_at, started_bounded}
use Rattle.qpu_machine.proofs.starting.start_in.Goals as goal

pub bounds-qpus-slot : goal.bounds-qpus-slot
bounds-qpus-slot c = (found_in c.args.launch.threaded c.args.qpus.now c.in-Some.slot (sym c.slot_for.ensures ∙ c.in-Some.is)).below

pub returns-in-Some-clause-value : goal.returns-in-Some-clause-value
returns-in-Some-clause-value c =
    started_at c.args.job c.args.launch c.args.qpus.now c.in-Some.slot (slice_index_or c.args.qpus.now c.in-Some.slot.qpu c.index-qpus-slot.result) c.start_at.new.qpu c.start_thread.result (sym c.slot_for.ensures ∙ c.in-Some.is)
    (inside_any c.args.qpus.now c.in-Some.slot.qpu c.index-qpus-slot.result (found_in c.args.launch.threaded c.args.qpus.now c.in-Some.slot (sym c.slot_for.ensures ∙ c.in-Some.is)).below) c.start_thread.ensures.value c.start_at.ensures

pub returns-in-Some-clause-bounded : goal.returns-in-Some-clause-bounded
returns-in-Some-clause-bounded c =
    started_bounded c.args.job c.args.launch c.args.qpus.now c.in-Some.slot (slice_index_or c.args.qpus.now c.in-Some.slot.qpu c.index-qpus-slot.result) c.start_at.new.qpu c.start_thread.result (sym c.slot_for.ensures ∙ c.in-Some.is)
    (inside_any c.args.qpus.now c.in-Some.slot.qpu c.index-qpus-slot.result (found_in c.args.launch.threaded c.args.qpus.now c.in-Some.slot (sym c.slot_for.ensures ∙ c.in-Some.is)).below) c.start_thread.ensures.value c.start_thread.ensures.near c.start_at.ensures c.requires.bounded

pub returns-in_default-clause-value : goal.returns-in_default-clause-value
returns-in_default-clause-value c = started_none c.args.job c.args.launch c.args.qpus.now (sym c.slot_for.ensures ∙ c.in_default.is)
