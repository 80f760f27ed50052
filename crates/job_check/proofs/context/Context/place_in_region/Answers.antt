use Rattle.std.proofs.Common.{ap, subst, arith}
use Rattle.job_format.specs.Parts.{job_parts_view}
use Rattle.relocation.specs.declared.layout.Layout.{Layout}
use Rattle.shader_records.specs.Inputs.{shaders_view}
use Rattle.job_check.specs.Context.{InView, IsContext}
use Rattle.job_check.proofs.Regions.{from_is}
use Rattle.job_check.proofs.context.Context.place_in_region.Goals as goal

pub overflow_sub-result : goal.overflow_sub-result
overflow_sub-result c =
    let v = c.args.self.now in
    let x = c.self.inside in
    let h = subst (λ (w : InView). IsContext w (job_parts_view x.job.now) x.table.now (shaders_view x.shaders.now.items) x.handles x.layout) c.self.view_is c.self.invariant in
    omega (arith, from_is v.file v.number, ap (λ (l : Layout). l.place) h.layout_is, ap (λ (w : InView). w.file.regions.lists_place) c.self.view_is)
