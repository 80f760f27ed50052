-- The binner's step is its turn.
use Rattle.std.proofs.Common.{refl, ◌<◌, ◌∙◌, sym, subst, ap, IsTrue, length}
use Rattle.machine_plan.specs.Glance.{glance_result}
use Rattle.list_machine.specs.{Lists.binner_of, Lists.binner_ended, Binner.binner_ready, Binner.binner_plan}
use Rattle.qpu_machine.specs.Qpu.{free_in}
use Rattle.machine.specs.State.{State, job_at}
use Rattle.machine.proofs.Turns.{binner_now, job_here, lists_done, with_qpus}
use Rattle.machine.proofs.machine.Machine.bin.Goals as goal

pub step_binner-started-requires-clause-ready : goal.step_binner-started-requires-clause-ready
step_binner-started-requires-clause-ready g c =
    let s : State = record { memory = c.self.inside.memory; units = record { jobs = c.self.inside.jobs.items; qpus = c.self.inside.qpus.items } } in
    let below : c.args.job < length s.units.jobs = subst (λ (w : State). c.args.job < length w.units.jobs) (sym c.self.view_is) c.requires.within in
    let here = job_here s.units.jobs c.args.job c.index_mut.result.now below c.index_mut.ensures.value in
    let free = c.free_in-free.ensures ∙ ap free_in c.as_slice.ensures.value in
    let ready : IsTrue (glance_result (binner_ready (job_at s.units.jobs c.args.job) (free_in s.units.qpus)) s.memory) =
    subst (λ (w : State). IsTrue (glance_result (binner_ready (job_at w.units.jobs c.args.job) (free_in w.units.qpus)) w.memory)) (sym c.self.view_is) c.requires.ready in
    binner_now c.index_mut.result.now c.free_in-free.result s.memory
    (subst (λ f. IsTrue (glance_result (binner_ready c.index_mut.result.now f) s.memory)) (sym free) (subst (λ l. IsTrue (glance_result (binner_ready l (free_in s.units.qpus)) s.memory)) (sym here) ready))

pub returns : goal.returns
returns g c =
    let s : State = record { memory = c.self.inside.memory; units = record { jobs = c.self.inside.jobs.items; qpus = c.self.inside.qpus.items } } in
    let below : c.args.job < length s.units.jobs = subst (λ (w : State). c.args.job < length w.units.jobs) (sym c.self.view_is) c.requires.within in
    let here = job_here s.units.jobs c.args.job c.index_mut.result.now below c.index_mut.ensures.value in
    let free = c.free_in-free.ensures ∙ ap free_in c.as_slice.ensures.value in
    with_qpus s c.args.job c.step_binner-started.new.self c.step_binner-started.result c.unwrap_or.result c.step_binner-started.new.memory c.self.inside.qpus.items c.begin.new.qpus.items _ c.step_binner-started.new.accesses.items
    c.begin.ensures.value refl c.unwrap_or.ensures
    (lists_done (binner_of c.args.job) binner_plan binner_ended s c.args.self.now c.self.view_is c.args.job (g.C.Choices.listed c.args.words.now) c.index_mut.result.now c.step_binner-started.new.self c.free_in-free.result c.step_binner-started.result c.args.accesses.now.items c.step_binner-started.new.accesses.items c.step_binner-started.new.memory
    c.requires.empty here free c.step_binner-started.ensures.shows c.step_binner-started.ensures.wild)
