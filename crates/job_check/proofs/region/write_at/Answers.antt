use Rattle.std.proofs.Common.{◌≡◌, ◌+◌, ◌-◌, ◌++◌, length, take, drop, sym, ap, subst, arith, ◌∙◌}
use Rattle.field_words.specs.Writes.{parts_placed}
use Rattle.job_check.specs.{Jobs.layout_of, Emit.PartsFit, Emit.list_parts, Emit.parts_moved}
use Rattle.job_check.proofs.{Order.if_both, Regions.rest_placed}
use Rattle.job_check.proofs.region.write_at.Goals as goal

pub returns-clause-written : goal.returns-clause-written
returns-clause-written c = λ report.
    let v = c.args.job.now in
    let m = c.args.region.now in
    let from = c.args.from in
    let rest = length m - from in
    let parts = list_parts v.file v.number in
    let same : rest ≡ (layout_of v.file v.number).end = omega (arith, c.requires) in
    let whole : from + rest ≡ length m = omega (arith, c.requires) in
    let step : c.write_lists.new.out ≡ parts_placed (take rest (drop from m)) parts → PartsFit (layout_of v.file v.number).end parts
    → take from m ++ (c.write_lists.new.out ++ drop rest (drop from m)) ≡ parts_placed m (parts_moved from parts) =
    λ put fit. ap (λ out. take from m ++ (out ++ drop rest (drop from m))) put ∙ rest_placed m from rest parts whole (subst (λ n. PartsFit n parts) (sym same) fit) in
    if_both c.write_lists.result step (c.write_lists.ensures.written report) (c.write_lists.ensures.fit report)
