use Rattle.std.proofs.Common.{sym, ◌∙◌}
use Rattle.qpu_asm.specs.Seen.{row_seen, spots_in}
use Rattle.qpu_asm.proofs.Reading.{default_facts, default_room, default_small, default_open, open_first, skip_reaches, skip_passes, skip_ends, value_small}
use Rattle.qpu_asm.proofs.Rows.{row_below}
use Rattle.qpu_asm.proofs.item.skip_to.Goals as goal

pub read_value-requires : goal.read_value-requires
read_value-requires c = row_below (row_seen c.in-Some.row.now) (default_facts _ _ _ _ c.in-Some.ensures.cases.0 c.loop-row.invariant.still)

pub with_value-requires-clause-still : goal.with_value-requires-clause-still
with_value-requires-clause-still c = open_first _ _ _ _ c.in-Some.ensures.cases.0 c.loop-row.invariant.still

pub with_value-requires-clause-small : goal.with_value-requires-clause-small
with_value-requires-clause-small c =
    rw c.read_value.ensures (value_small (spots_in c.args.labels.now) c.args.index c.args.cut.first.now c.args.cut.rest.now (row_seen c.in-Some.row.now)
    (default_facts _ _ _ _ c.in-Some.ensures.cases.0 c.loop-row.invariant.still) (sym c.is_row.ensures ∙ c.if-is_row.true))

pub returns-then-is_row : goal.returns-then-is_row
returns-then-is_row c =
    rw (c.with_value.ensures, c.read_value.ensures)
    (skip_reaches _ _ _ _ _ _ _ c.in-Some.ensures.cases.0 (sym c.is_row.ensures ∙ c.if-is_row.true) ∙ c.loop-row.invariant.same)

pub append-word-requires-clause-room : goal.append-word-requires-clause-room
append-word-requires-clause-room c = default_room _ _ _ _ c.in-Some.ensures.cases.0 c.loop-row.invariant.still

pub append-word-requires-clause-small : goal.append-word-requires-clause-small
append-word-requires-clause-small c = default_small _ _ _ _ c.in-Some.ensures.cases.0 c.loop-row.invariant.still

pub loop-row-preserved : goal.loop-row-preserved
loop-row-preserved c =
    let first = c.in-Some.ensures.cases.0 in
    rw c.append-word.ensures (record {
      still = default_open _ _ _ _ first c.loop-row.invariant.still;
      same = skip_passes _ _ _ _ _ _ _ first (sym c.is_row.ensures ∙ c.if-is_row.false) ∙ c.loop-row.invariant.same;
    })

pub returns : goal.returns
returns c = skip_ends _ _ _ _ _ c.in_default.ensures.cases ∙ c.loop-row.invariant.same
