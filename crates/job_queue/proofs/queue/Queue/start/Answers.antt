use Rattle.std.proofs.Common.{◌≡◌, ◌+◌, ◌%◌, arith, refl, ◌∙◌, eq-eqb, ne_eqb}
use Rattle.std.proofs.lemmas.Bool.{lt-ltb, le-ltb}
use Rattle.job_queue.specs.declared.queue.QueueFault.TheVariants.{Binning, NoJob, Waits}
use Rattle.job_queue.specs.Past.{last_writer}
use Rattle.job_queue.proofs.Desks.{inside_same, start_is, kept, start_refused, start_done}
use Rattle.job_queue.proofs.queue.Queue.start.Goals as goal

pub returns-then-self-clause-answers : goal.returns-then-self-clause-answers
returns-then-self-clause-answers c = rw (← c.self.view_is) (λ p agrees.
    start_refused p _ (Binning c.self.inside.started) (start_is p _ agrees ∙ rw (lt-ltb _ _ c.if-self.true) refl) agrees)

pub returns-then-self-2-clause-answers : goal.returns-then-self-2-clause-answers
returns-then-self-2-clause-answers c = rw (← c.self.view_is) (λ p agrees.
    start_refused p _ NoJob (start_is p _ agrees ∙ rw (le-ltb _ _ c.if-self.false, eq-eqb _ _ c.if-self-2.true) refl) agrees)

pub returns-then-writer-self-clause-answers : goal.returns-then-writer-self-clause-answers
returns-then-writer-self-clause-answers c =
    let writer = inside_same c.self.inside.waits.items (c.self.inside.started % 4096) _ c.index-writer.result.now (omega (arith, c.self.invariant.size)) c.index-writer.ensures in
    rw (← c.self.view_is) (λ p agrees.
    let waits : last_writer p.jobs (c.self.inside.started + 1) ≡ c.index-writer.result.now =
    kept p _ _ (omega (arith, c.self.invariant.rendered_first, c.self.invariant.binned_first)) (omega (arith, c.self.invariant.started_first, c.if-self-2.false)) writer agrees in
    start_refused p _ (Waits c.index-writer.result.now)
    (start_is p _ agrees ∙ rw (le-ltb _ _ c.if-self.false, ne_eqb _ _ c.if-self-2.false, waits, lt-ltb _ _ c.if-writer-self.true) refl) agrees)

pub returns-clause-answers : goal.returns-clause-answers
returns-clause-answers c =
    let writer = inside_same c.self.inside.waits.items (c.self.inside.started % 4096) _ c.index-writer.result.now (omega (arith, c.self.invariant.size)) c.index-writer.ensures in
    rw (← c.self.view_is) (λ p agrees.
    let waits : last_writer p.jobs (c.self.inside.started + 1) ≡ c.index-writer.result.now =
    kept p _ _ (omega (arith, c.self.invariant.rendered_first, c.self.invariant.binned_first)) (omega (arith, c.self.invariant.started_first, c.if-self-2.false)) writer agrees in
    start_done p _ (start_is p _ agrees ∙ rw (le-ltb _ _ c.if-self.false, ne_eqb _ _ c.if-self-2.false, waits, le-ltb _ _ c.if-writer-self.false) refl) agrees)
