use Rattle.std.proofs.Common.{take, drop, min, length, ap, ◌∙◌}
use Rattle.job_text.proofs.FieldSteps.{field_step, fields_end}
use Rattle.job_text.proofs.rows.put_fields.Goals as goal

pub loop-field-preserved : goal.loop-field-preserved
loop-field-preserved c =
    let size = c.min.ensures ∙ ap (λ n. min n (length c.loop-field.rest.now)) c.field_size.ensures in
    field_step c.loop-field.out.items c.loop-field.rest.now c.split_at.result.0.now c.split_at.result.1.now c.extend_from_slice.new.self.items
    c.put_valued.new.out.items c.loop-field.field-index c.args.fields.now _ c.loop-field-test.true
    (c.split_at.ensures.front ∙ ap (λ n. take n c.loop-field.rest.now) size)
    (c.split_at.ensures.back ∙ ap (λ n. drop n c.loop-field.rest.now) size)
    c.in_ok-extend_from_slice.ensures.items c.in_ok-put_valued.ensures
    ∙ c.loop-field.invariant

pub returns : goal.returns
returns c =
    fields_end c.loop-field.out.items c.loop-field.rest.now c.loop-field.field-index c.args.fields.now c.loop-field-test.false
    ∙ c.loop-field.invariant
