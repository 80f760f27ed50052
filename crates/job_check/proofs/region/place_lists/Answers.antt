use Rattle.std.proofs.Common.{◌++◌, Some, refl, subst, sym, ap, arith, ◌∙◌}
use Rattle.field_words.proofs.Questions.{refuses_front, passes}
use Rattle.job_format.specs.Parts.{job_parts_view}
use Rattle.shader_records.specs.Inputs.{shaders_view}
use Rattle.job_check.specs.{Context.InView, Context.IsContext, Faults.lists_stages, Faults.layout_stage, Emit.ArePlaced}
use Rattle.job_check.proofs.Order.{exits, layout_fits, layout_over, is_past}
use Rattle.job_check.proofs.region.place_lists.Goals as goal

pub returns-clause-answers : goal.returns-clause-answers
returns-clause-answers c = λ report.
    let v = c.args.job.now in
    let x = c.job.inside in
    let h = subst (λ (w : InView). IsContext w (job_parts_view x.job.now) x.table.now (shaders_view x.shaders.now.items) x.handles x.layout) c.job.view_is c.job.invariant in (
      passes (lists_stages v.file v.number) (layout_stage v.file v.number) (c.in_ok-lengths.ensures.answers report).0 ∙ layout_fits v.file v.number (c.if-not-fits.ensures.0 refl),
      record { layout_is = h.layout_is; lengths_are = (c.in_ok-lengths.ensures.answers report).1 },
    )

pub returns-clause-fits : goal.returns-clause-fits
returns-clause-fits c =
    let v = c.args.job.now in
    let x = c.job.inside in
    let h = subst (λ (w : InView). IsContext w (job_parts_view x.job.now) x.table.now (shaders_view x.shaders.now.items) x.handles x.layout) c.job.view_is c.job.invariant in
    omega (arith, ap (λ l. l.place) h.layout_is, ap (λ l. l.end) h.layout_is, (c.if-not-fits.ensures.0 refl))

pub returns-in_err-lengths-clause-answers : goal.returns-in_err-lengths-clause-answers
returns-in_err-lengths-clause-answers c = λ report.
    let v = c.args.job.now in
    exits (lists_stages v.file v.number ++ layout_stage v.file v.number) (ArePlaced v.file v.number) c.from_residual.result c.in_err-lengths.field-0.0 c.from_residual.ensures.1
    (refuses_front (lists_stages v.file v.number) (layout_stage v.file v.number) c.in_err-lengths.field-0.0 (c.in_err-lengths.ensures.answers report))

pub returns-then-not-fits-clause-answers : goal.returns-then-not-fits-clause-answers
returns-then-not-fits-clause-answers c = λ report.
    let v = c.args.job.now in
    passes (lists_stages v.file v.number) (layout_stage v.file v.number) (c.in_ok-lengths.ensures.answers report).0
    ∙ layout_over v.file v.number (is_past v.file v.number c.if-not-fits.ensures.1) ∙ ap Some (sym c.layout_refusal.ensures)

pub returns-clause-layout : goal.returns-clause-layout
returns-clause-layout c =
    let x = c.job.inside in
    let h = subst (λ (w : InView). IsContext w (job_parts_view x.job.now) x.table.now (shaders_view x.shaders.now.items) x.handles x.layout) c.job.view_is c.job.invariant in
    h.layout_is
