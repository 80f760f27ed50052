use Rattle.std.proofs.Common.{ap, subst, arith, ◌∙◌}
use Rattle.field_words.specs.Writes.{with_bytes}
use Rattle.render_list.specs.Text.{render_text}
use Rattle.job_format.specs.Parts.{job_parts_view}
use Rattle.shader_records.specs.Inputs.{shaders_view}
use Rattle.job_check.specs.{Context.InView, Context.IsContext, Jobs.layout_of}
use Rattle.job_check.proofs.{Layouts.kept_low, Views.render_ends, Views.list_is, Views.list_length}
use Rattle.job_check.proofs.context.Context.render.Goals as goal

pub build-requires-clause-slot : goal.build-requires-clause-slot
build-requires-clause-slot c =
    let x = c.self.inside in
    let low = kept_low _ (job_parts_view x.job.now) x.table.now (shaders_view x.shaders.now.items) x.handles x.layout c.self.invariant in
    λ some. omega (arith, low.slot)

pub build-requires-clause-room : goal.build-requires-clause-room
build-requires-clause-room c =
    let v = c.args.self.now in
    let x = c.self.inside in
    let h = subst (λ (w : InView). IsContext w (job_parts_view x.job.now) x.table.now (shaders_view x.shaders.now.items) x.handles x.layout) c.self.view_is c.self.invariant in
    let ends = render_ends v (job_parts_view x.job.now) x.table.now (shaders_view x.shaders.now.items) x.handles x.layout c.args.tiles h c.requires.tiles_are c.requires.setup.tiles in
    omega (arith, ends.0, ends.1, c.requires.room)

pub overflow_sub-result : goal.overflow_sub-result
overflow_sub-result c =
    let v = c.args.self.now in
    let x = c.self.inside in
    let h = subst (λ (w : InView). IsContext w (job_parts_view x.job.now) x.table.now (shaders_view x.shaders.now.items) x.handles x.layout) c.self.view_is c.self.invariant in
    let ends = render_ends v (job_parts_view x.job.now) x.table.now (shaders_view x.shaders.now.items) x.handles x.layout c.args.tiles h c.requires.tiles_are c.requires.setup.tiles in
    omega (arith, ends.0)

pub returns : goal.returns
returns c =
    let v = c.args.self.now in
    let x = c.self.inside in
    let h = subst (λ (w : InView). IsContext w (job_parts_view x.job.now) x.table.now (shaders_view x.shaders.now.items) x.handles x.layout) c.self.view_is c.self.invariant in
    let same = list_is v (job_parts_view x.job.now) x.table.now (shaders_view x.shaders.now.items) x.handles x.layout c.args.setup.now.places c.args.tiles h c.requires.places c.requires.tiles_are in
    let long = list_length v.file v.number c.args.setup.now.places c.requires.places c.requires.setup in
    let render = ap (λ l. l.render) h.layout_is in
    let end = ap (λ l. l.end) h.layout_is in
    record {
      value = omega (arith, long, render, end);
      written =
          c.build.ensures
          ∙ ap (λ at. with_bytes c.args.out.now at (render_text x.job.now.frame c.args.setup.now.places c.args.tiles x.layout.slot)) render
          ∙ ap (with_bytes c.args.out.now (layout_of v.file v.number).render) same;
      fits = omega (arith, long, render, end);
    }
