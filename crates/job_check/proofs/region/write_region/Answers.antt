use Rattle.std.proofs.Common.{◌≡◌, ◌+◌, ◌-◌, ◌++◌, length, take, drop, ap, subst, arith, ◌∙◌}
use Rattle.field_words.specs.Writes.{parts_placed, zeros}
use Rattle.job_format.specs.Parts.{job_parts_view}
use Rattle.relocation.specs.declared.layout.Layout.{Layout}
use Rattle.shader_records.specs.Inputs.{shaders_view}
use Rattle.job_check.specs.{Context.InView, Context.IsContext, Jobs.layout_of, Emit.list_parts, Emit.parts_moved}
use Rattle.job_check.specs.Region.{region_size, region_from, region_parts}
use Rattle.job_check.proofs.{Order.if_ok, Order.if_always, Regions.size_before, Regions.size_next, Regions.grown_long, Regions.kept}
use Rattle.job_check.proofs.region.write_region.Goals as goal

pub extend_region-requires : goal.extend_region-requires
extend_region-requires c = omega (arith, c.requires, size_before c.args.job.now.file c.args.job.now.number, c.place_in_region-from.ensures)

pub write_at-requires : goal.write_at-requires
write_at-requires c =
    let v = c.args.job.now in
    let x = c.job.inside in
    let h = subst (λ (w : InView). IsContext w (job_parts_view x.job.now) x.table.now (shaders_view x.shaders.now.items) x.handles x.layout) c.job.view_is c.job.invariant in
    let old = c.args.region.now.items in
    let same : c.place_in_region-from.result + x.layout.end ≡ region_from v.file v.number + (layout_of v.file v.number).end =
    omega (arith, c.place_in_region-from.ensures, ap (λ (l : Layout). l.end) h.layout_is) in
    let grown = c.in_ok-extend_region.ensures ∙ ap (λ n. old ++ zeros (n - length old)) same in
    omega (arith, grown_long v.file v.number old c.extend_region.new.region.items c.requires grown, c.place_in_region-from.ensures, ap length c.deref_mut.ensures.value)

pub returns-clause-written : goal.returns-clause-written
unfolding region_parts
returns-clause-written c = λ report.
    let v = c.args.job.now in
    let x = c.job.inside in
    let h = subst (λ (w : InView). IsContext w (job_parts_view x.job.now) x.table.now (shaders_view x.shaders.now.items) x.handles x.layout) c.job.view_is c.job.invariant in
    let old = c.args.region.now.items in
    let grown = c.extend_region.new.region in
    let from = c.place_in_region-from.result in
    let parts = list_parts v.file v.number in
    let size = region_size v.file (v.number + 1) in
    let same : from + x.layout.end ≡ size = omega (arith, c.place_in_region-from.ensures, ap (λ (l : Layout). l.end) h.layout_is, size_next v.file v.number) in
    let is : grown.items ≡ old ++ zeros (size - length old) = c.in_ok-extend_region.ensures ∙ ap (λ n. old ++ zeros (n - length old)) same in
    let long : length c.write_at.new.region ≡ length grown.items = omega (arith, c.write_at.auto.region, ap length c.deref_mut.ensures.value) in
    let step : c.write_at.new.region ≡ parts_placed c.deref_mut.result.now (parts_moved from parts)
    → take grown.len (c.write_at.new.region ++ drop (length c.write_at.new.region) grown.items) ≡ parts_placed (old ++ zeros (size - length old)) (parts_moved (region_from v.file v.number) parts) =
    λ put.
    kept grown.len c.write_at.new.region grown.items (omega (arith, c.deref_mut.ensures.len, ap length c.deref_mut.ensures.value)) long
    ∙ put
    ∙ ap (λ m. parts_placed m (parts_moved from parts)) (c.deref_mut.ensures.value ∙ is)
    ∙ ap (λ k. parts_placed (old ++ zeros (size - length old)) (parts_moved k parts)) c.place_in_region-from.ensures in
    if_ok c.write_at.result step (c.write_at.ensures.written report)

pub returns-clause-size : goal.returns-clause-size
returns-clause-size c =
    let v = c.args.job.now in
    let x = c.job.inside in
    let h = subst (λ (w : InView). IsContext w (job_parts_view x.job.now) x.table.now (shaders_view x.shaders.now.items) x.handles x.layout) c.job.view_is c.job.invariant in
    let old = c.args.region.now.items in
    let grown = c.extend_region.new.region in
    let same : c.place_in_region-from.result + x.layout.end ≡ region_from v.file v.number + (layout_of v.file v.number).end =
    omega (arith, c.place_in_region-from.ensures, ap (λ (l : Layout). l.end) h.layout_is) in
    let size = grown_long v.file v.number old grown.items c.requires (c.in_ok-extend_region.ensures ∙ ap (λ n. old ++ zeros (n - length old)) same) in
    let long : length c.write_at.new.region ≡ length grown.items = omega (arith, c.write_at.auto.region, ap length c.deref_mut.ensures.value) in
    let all = ap length (kept grown.len c.write_at.new.region grown.items (omega (arith, c.deref_mut.ensures.len, ap length c.deref_mut.ensures.value)) long) in
    if_always c.write_at.result (omega (arith, all, long, size, size_next v.file v.number))
