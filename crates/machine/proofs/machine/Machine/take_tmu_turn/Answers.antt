-- The TMU's step is its turn.
use Rattle.std.proofs.Common.{◌∙◌, sym, subst, ap}
use Rattle.qpu_machine.specs.{Qpu.queue_of, Qpu.oldest, Qpu.job_of_request, Bounds.IsBounded}
use Rattle.machine.specs.State.{State}
use Rattle.machine.proofs.Turns.{tmu_below, tmu_here, whole_with, tmu_done}
use Rattle.machine.proofs.machine.Machine.take_tmu_turn.Goals as goal

pub step_tmu-requires-clause-bounded : goal.step_tmu-requires-clause-bounded
step_tmu-requires-clause-bounded g c =
    let s : State = record { memory = c.self.inside.memory; units = record { jobs = c.self.inside.jobs.items; qpus = c.self.inside.qpus.items } } in
    subst IsBounded (sym (tmu_here s c.args.self.now c.args.k c.args.n c.index_mut.result.now c.self.view_is c.requires.may c.index_mut.ensures.value)) (c.self.invariant.bounded c.args.k (tmu_below s c.args.self.now c.args.k c.args.n c.self.view_is c.requires.may))

pub invariant_of-self : goal.invariant_of-self
invariant_of-self g c = whole_with c.self.inside.jobs.items c.self.inside.qpus.items c.args.k c.step_tmu.new.qpu c.self.invariant c.step_tmu.ensures.bounded

pub returns : goal.returns
returns g c =
    let s : State = record { memory = c.self.inside.memory; units = record { jobs = c.self.inside.jobs.items; qpus = c.self.inside.qpus.items } } in
    let first = tmu_here s c.args.self.now c.args.k c.args.n c.index.result.now c.self.view_is c.requires.may c.index.ensures in
    let second = tmu_here s c.args.self.now c.args.k c.args.n c.index_mut.result.now c.self.view_is c.requires.may c.index_mut.ensures.value in
    tmu_done s c.args.self.now c.self.view_is c.args.k c.args.n c.tmu_job.result (g.C.Choices.listed c.args.words.now) c.index_mut.result.now c.step_tmu.new.qpu c.step_tmu.result c.args.accesses.now.items c.step_tmu.new.accesses.items c.requires.empty
    (tmu_below s c.args.self.now c.args.k c.args.n c.self.view_is c.requires.may) c.index_mut.ensures.value (c.tmu_job.ensures ∙ ap (λ q. job_of_request (oldest (queue_of q c.args.n))) (first ∙ sym second)) c.step_tmu.ensures.shows c.step_tmu.ensures.wild
