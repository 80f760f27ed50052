use Rattle.std.proofs.Common.{◌≡◌, ◌+◌, ◌++◌, length, Some, None, sym, ◌∙◌, ap, subst, arith}
use Rattle.std.proofs.lemmas.List.{with_items_is}
use Rattle.std.specs.Prelude.{IfNone}
use Rattle.job_queue.specs.Past as past
use Rattle.job_queue.specs.{Past.first_unknown, declared.queue.QueueFault.TheVariants.Unknown, declared.queue.QueueFault.TheVariants.Full}
use Rattle.job_queue.specs.Desk.{greatest, writers_after}
use Rattle.job_queue.proofs.{Writers.written_size, Desks.submit_is, Desks.submit_refused, Desks.submit_full, Desks.submit_done}
use Rattle.job_queue.proofs.queue.Queue.submit.Goals as goal

pub returns-in-Some-clause-answers : goal.returns-in-Some-clause-answers
returns-in-Some-clause-answers c = rw (← c.self.view_is) (λ p agrees.
    let is : first_unknown (length c.self.inside.writers.items) (c.args.reads.now ++ c.args.writes.now) ≡ Some c.in-Some.buffer =
    ap (λ w. first_unknown (length w) (c.args.reads.now ++ c.args.writes.now)) (sym c.deref.ensures.value) ∙ sym c.unknown_buffer.ensures.first ∙ c.in-Some.is in
    submit_refused p _ c.args.reads.now c.args.writes.now (Unknown c.in-Some.buffer) (submit_is p _ c.args.reads.now c.args.writes.now agrees ∙ ap (past.submit_by p) is) agrees)

pub returns-then-self-ge-MOST_WAITING-clause-answers : goal.returns-then-self-ge-MOST_WAITING-clause-answers
returns-then-self-ge-MOST_WAITING-clause-answers c = rw (← c.self.view_is) (λ p agrees.
    let none : first_unknown (length c.self.inside.writers.items) (c.args.reads.now ++ c.args.writes.now) ≡ None =
    ap (λ w. first_unknown (length w) (c.args.reads.now ++ c.args.writes.now)) (sym c.deref.ensures.value) ∙ sym c.unknown_buffer.ensures.first ∙ c.in_default.is in
    submit_refused p _ c.args.reads.now c.args.writes.now Full
    (submit_is p _ c.args.reads.now c.args.writes.now agrees ∙ ap (past.submit_by p) none ∙ submit_full p _ (omega (arith, c.if-self-ge-MOST_WAITING.true)) agrees) agrees)

pub returns-clause-answers : goal.returns-clause-answers
returns-clause-answers c =
    let none : first_unknown (length c.self.inside.writers.items) (c.args.reads.now ++ c.args.writes.now) ≡ None =
    ap (λ w. first_unknown (length w) (c.args.reads.now ++ c.args.writes.now)) (sym c.deref.ensures.value) ∙ sym c.unknown_buffer.ensures.first ∙ c.in_default.is in
    let reads : first_unknown (length c.self.inside.writers.items) c.args.reads.now ≡ None =
    ap (λ w. first_unknown (length w) c.args.reads.now) (sym c.deref.ensures.value)
    ∙ subst (λ r. IfNone r (first_unknown (length c.deref.result.now) c.args.reads.now ≡ None)) c.in_default.is c.unknown_buffer.ensures.reads in
    let kept : c.set_writer.new.writers ≡ writers_after c.self.inside.writers.items c.args.writes.now (c.self.inside.submitted + 1) =
    c.set_writer.ensures ∙ ap (λ w. writers_after w c.args.writes.now (c.self.inside.submitted + 1)) c.deref_mut.ensures.value in
    let size : length c.set_writer.new.writers ≡ c.self.inside.writers.len =
    ap length kept ∙ written_size c.self.inside.writers.items c.args.writes.now (c.self.inside.submitted + 1) ∙ sym c.self.inside.writers.ok.0 in
    rw (← c.self.view_is) (λ p agrees.
    submit_done p _ c.args.reads.now c.args.writes.now _ c.last_writer-last.result
    (with_items_is c.self.inside.writers c.set_writer.new.writers size ∙ kept)
    (c.last_writer-last.ensures ∙ ap (λ w. greatest w 0 c.args.reads.now) c.deref-2.ensures.value)
    c.self.invariant.size reads none
    (omega (arith, c.if-self-ge-MOST_WAITING.false, c.self.invariant.few, c.self.invariant.rendered_first, c.self.invariant.binned_first, c.self.invariant.started_first)) agrees)
