-- The renderer's step is its turn.
use Rattle.std.proofs.Common.{refl, ◌<◌, ◌∙◌, sym, subst, ap, length}
use Rattle.list_machine.specs.{Lists.renderer_of, Lists.renderer_ended, Renderer.renderer_plan}
use Rattle.qpu_machine.specs.Qpu.{free_in}
use Rattle.machine.specs.State.{State}
use Rattle.machine.proofs.Turns.{job_here, lists_done, with_qpus}
use Rattle.machine.proofs.machine.Machine.render.Goals as goal

pub returns : goal.returns
returns g c =
    let s : State = record { memory = c.self.inside.memory; units = record { jobs = c.self.inside.jobs.items; qpus = c.self.inside.qpus.items } } in
    let below : c.args.job < length s.units.jobs = subst (λ (w : State). c.args.job < length w.units.jobs) (sym c.self.view_is) c.requires.within in
    let here = job_here s.units.jobs c.args.job c.index_mut.result.now below c.index_mut.ensures.value in
    let free = c.free_in-free.ensures ∙ ap free_in c.as_slice.ensures.value in
    with_qpus s c.args.job c.step_renderer-started.new.self c.step_renderer-started.result c.unwrap_or.result c.step_renderer-started.new.memory c.self.inside.qpus.items c.begin.new.qpus.items _ c.step_renderer-started.new.accesses.items
    c.begin.ensures.value refl c.unwrap_or.ensures
    (lists_done (renderer_of c.args.job) renderer_plan renderer_ended s c.args.self.now c.self.view_is c.args.job (g.C.Choices.listed c.args.words.now) c.index_mut.result.now c.step_renderer-started.new.self c.free_in-free.result c.step_renderer-started.result c.args.accesses.now.items c.step_renderer-started.new.accesses.items c.step_renderer-started.new.memory
    c.requires.empty here free c.step_renderer-started.ensures.shows c.step_renderer-started.ensures.wild)
