-- The processor's step is its turn.
use Rattle.std.proofs.Common.{◌∙◌, sym, subst, ap}
use Rattle.qpu_machine.specs.{Qpu.active_of, Qpu.job_of_thread, Bounds.IsBounded}
use Rattle.machine.specs.State.{State}
use Rattle.machine.proofs.Turns.{qpu_below, qpu_here, whole_with, qpu_done}
use Rattle.machine.proofs.machine.Machine.take_qpu_turn.Goals as goal

pub step_qpu-requires-clause-bounded : goal.step_qpu-requires-clause-bounded
step_qpu-requires-clause-bounded g c =
    let s : State = record { memory = c.self.inside.memory; units = record { jobs = c.self.inside.jobs.items; qpus = c.self.inside.qpus.items } } in
    subst IsBounded (sym (qpu_here s c.args.self.now c.args.k c.index_mut.result.now c.self.view_is c.requires.may c.index_mut.ensures.value)) (c.self.invariant.bounded c.args.k (qpu_below s c.args.self.now c.args.k c.self.view_is c.requires.may))

pub invariant_of-self : goal.invariant_of-self
invariant_of-self g c = whole_with c.self.inside.jobs.items c.self.inside.qpus.items c.args.k c.step_qpu.new.qpu c.self.invariant c.step_qpu.ensures.bounded

pub returns : goal.returns
returns g c =
    let s : State = record { memory = c.self.inside.memory; units = record { jobs = c.self.inside.jobs.items; qpus = c.self.inside.qpus.items } } in
    let first = qpu_here s c.args.self.now c.args.k c.index.result.now c.self.view_is c.requires.may c.index.ensures in
    let second = qpu_here s c.args.self.now c.args.k c.index_mut.result.now c.self.view_is c.requires.may c.index_mut.ensures.value in
    qpu_done s c.args.self.now c.self.view_is c.args.k c.qpu_job.result (g.C.Choices.listed c.args.words.now) c.index_mut.result.now c.step_qpu.new.qpu c.step_qpu.result c.args.accesses.now.items c.step_qpu.new.accesses.items c.requires.empty
    (qpu_below s c.args.self.now c.args.k c.self.view_is c.requires.may) c.index_mut.ensures.value (c.qpu_job.ensures ∙ ap (λ q. job_of_thread (active_of q)) (first ∙ sym second)) c.step_qpu.ensures.shows c.step_qpu.ensures.wild
