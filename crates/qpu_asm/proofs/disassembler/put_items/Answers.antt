use Rattle.std.proofs.Common.{◌≡◌, ◌-◌, ◌++◌, arith, sym, ◌∙◌, ap, append_assoc, append-nil}
use Rattle.qpu_isa.specs.Fields.{width_of}
use Rattle.qpu_asm.specs.{Table.widths_of, Seen.rows_seen, Seen.row_seen, Printed.rows_text, Walk.field_text}
use Rattle.qpu_asm.proofs.Rows.{width_first, ready_first, text_first, text_none}
use Rattle.qpu_asm.proofs.disassembler.put_items.Goals as goal

pub overflow_sub-low : goal.overflow_sub-low
overflow_sub-low c = omega (arith, width_first _ _ _ c.in-Some.ensures.cases.0)

pub field_at-requires : goal.field_at-requires
field_at-requires c =
    let width = width_first _ _ _ c.in-Some.ensures.cases.0 in
    let facts = (ready_first _ _ _ c.in-Some.ensures.cases.0 c.loop-row.invariant.ready).0 in
    record { inside = omega (arith, facts.low); narrow = omega (arith, facts.high) }

pub loop-row-preserved : goal.loop-row-preserved
loop-row-preserved c =
    let rest = c.loop-row.rest.now in
    let later = c.in-Some.later.now in
    let row = c.in-Some.row.now in
    let first = c.in-Some.ensures.cases.0 in
    let width = width_first rest later row first in
    let at : c.loop-row.low - row.width ≡ width_of (widths_of (rows_seen later)) = omega arith in
    record {
      ready = (ready_first rest later row first c.loop-row.invariant.ready).1;
      low = at;
      wide = omega arith;
      text =
          ap (λ out. out ++ rows_text (rows_seen later) c.args.word) c.in_ok-put_field.ensures
          ∙ (append_assoc c.loop-row.out.items (field_text (row_seen row) c.field_at.result) (rows_text (rows_seen later) c.args.word)
          ∙ (ap (λ text. c.loop-row.out.items ++ text) (sym (text_first rest later row c.args.word (c.loop-row.low - row.width) c.field_at.result first at c.field_at.ensures))
          ∙ c.loop-row.invariant.text));
    }

pub returns : goal.returns
returns c =
    sym (append-nil c.loop-row.out.items)
    ∙ (ap (λ text. c.loop-row.out.items ++ text) (sym (text_none c.loop-row.rest.now c.args.word c.in_default.ensures.cases)) ∙ c.loop-row.invariant.text)
