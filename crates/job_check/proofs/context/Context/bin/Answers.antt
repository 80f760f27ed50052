use Rattle.std.proofs.Common.{◌≡◌, length, None, ap, subst, arith, ◌∙◌}
use Rattle.field_words.specs.{Writes.with_bytes, Questions.first_of}
use Rattle.job_format.specs.Parts.{job_parts_view}
use Rattle.shader_records.specs.Inputs.{shaders_view}
use Rattle.job_check.specs.{Context.InView, Context.IsContext, Jobs.layout_of}
use Rattle.bin_list.specs.{Emitted.bin_text, Rules.bin_questions}
use Rattle.job_check.proofs.{Layouts.kept_low, Layouts.layout_apart, Views.bin_none, Views.bin_text_is, Views.bin_reported}
use Rattle.job_check.proofs.context.Context.bin.Goals as goal

pub check_bin-requires-clause-place_limit : goal.check_bin-requires-clause-place_limit
check_bin-requires-clause-place_limit c =
    let x = c.self.inside in
    let low = kept_low _ (job_parts_view x.job.now) x.table.now (shaders_view x.shaders.now.items) x.handles x.layout c.self.invariant in
    omega (arith, low.place)

pub check_bin-requires-clause-records_limit : goal.check_bin-requires-clause-records_limit
check_bin-requires-clause-records_limit c =
    let x = c.self.inside in
    let low = kept_low _ (job_parts_view x.job.now) x.table.now (shaders_view x.shaders.now.items) x.handles x.layout c.self.invariant in
    omega (arith, low.records)

pub check_bin-requires-clause-slot_limit : goal.check_bin-requires-clause-slot_limit
check_bin-requires-clause-slot_limit c =
    let x = c.self.inside in
    let low = kept_low _ (job_parts_view x.job.now) x.table.now (shaders_view x.shaders.now.items) x.handles x.layout c.self.invariant in
    omega (arith, low.slot)

pub check_bin-requires-clause-few : goal.check_bin-requires-clause-few
check_bin-requires-clause-few c =
    let x = c.self.inside in
    let h = subst (λ (w : InView). IsContext w (job_parts_view x.job.now) x.table.now (shaders_view x.shaders.now.items) x.handles x.layout) c.self.view_is c.self.invariant in
    omega (arith, h.limits.declared)

pub check_bin-requires-clause-room : goal.check_bin-requires-clause-room
check_bin-requires-clause-room c =
    let v = c.args.self.now in
    let x = c.self.inside in
    let h = subst (λ (w : InView). IsContext w (job_parts_view x.job.now) x.table.now (shaders_view x.shaders.now.items) x.handles x.layout) c.self.view_is c.self.invariant in
    let apart = layout_apart v.file v.number in
    omega (arith, apart.first, apart.second, apart.third, apart.last, ap (λ l. l.bin) h.layout_is, ap (λ j. length j.bin) h.job_is, c.requires.room)

pub returns-in-Ok-clause-answers : goal.returns-in-Ok-clause-answers
returns-in-Ok-clause-answers c =
    let v = c.args.self.now in
    let x = c.self.inside in
    let h = subst (λ (w : InView). IsContext w (job_parts_view x.job.now) x.table.now (shaders_view x.shaders.now.items) x.handles x.layout) c.self.view_is c.self.invariant in
    let none : first_of (bin_questions (job_parts_view x.job.now).bin x.job.now.declared x.table.now x.handles) ≡ None = c.in-Ok.ensures.answers.0 in (
      bin_none v (job_parts_view x.job.now) x.table.now (shaders_view x.shaders.now.items) x.handles x.layout h c.requires.some none,
      bin_reported v (job_parts_view x.job.now) x.table.now (shaders_view x.shaders.now.items) x.handles x.layout c.in-Ok.info h c.requires.some c.in-Ok.ensures.answers.1,
    )

pub returns-in-Ok-clause-written : goal.returns-in-Ok-clause-written
returns-in-Ok-clause-written c =
    let v = c.args.self.now in
    let x = c.self.inside in
    let h = subst (λ (w : InView). IsContext w (job_parts_view x.job.now) x.table.now (shaders_view x.shaders.now.items) x.handles x.layout) c.self.view_is c.self.invariant in
    let same = bin_text_is v (job_parts_view x.job.now) x.table.now (shaders_view x.shaders.now.items) x.handles x.layout h c.requires.some in
    c.in-Ok.ensures.put ∙ ap (λ at. with_bytes c.args.out.now at (bin_text x.job.now.bin.now x.job.now.declared x.table.now x.handles x.layout)) (ap (λ l. l.bin) h.layout_is) ∙ ap (with_bytes c.args.out.now (layout_of v.file v.number).bin) same

pub returns-in-Ok-clause-fits : goal.returns-in-Ok-clause-fits
returns-in-Ok-clause-fits c =
    let v = c.args.self.now in
    let x = c.self.inside in
    let h = subst (λ (w : InView). IsContext w (job_parts_view x.job.now) x.table.now (shaders_view x.shaders.now.items) x.handles x.layout) c.self.view_is c.self.invariant in
    let same = bin_text_is v (job_parts_view x.job.now) x.table.now (shaders_view x.shaders.now.items) x.handles x.layout h c.requires.some in
    omega (arith, c.in-Ok.ensures.fits, ap length same, ap (λ j. length j.bin) h.job_is)
