use Rattle.std.proofs.Common.{sym, ◌∙◌}
use Rattle.qpu_asm.proofs.Reading.{default_room, default_small, default_open, defaults_first, defaults_none}
use Rattle.qpu_asm.proofs.item.with_defaults.Goals as goal

pub append-word-requires-clause-room : goal.append-word-requires-clause-room
append-word-requires-clause-room c = default_room c.loop-row.word c.loop-row.rest.now c.in-Some.later.now c.in-Some.row.now c.in-Some.ensures.cases.0 c.loop-row.invariant.still

pub append-word-requires-clause-small : goal.append-word-requires-clause-small
append-word-requires-clause-small c = default_small c.loop-row.word c.loop-row.rest.now c.in-Some.later.now c.in-Some.row.now c.in-Some.ensures.cases.0 c.loop-row.invariant.still

pub loop-row-preserved : goal.loop-row-preserved
loop-row-preserved c =
    let first = c.in-Some.ensures.cases.0 in
    rw c.append-word.ensures (record {
      still = default_open c.loop-row.word c.loop-row.rest.now c.in-Some.later.now c.in-Some.row.now first c.loop-row.invariant.still;
      same = defaults_first c.loop-row.word c.loop-row.rest.now c.in-Some.later.now c.in-Some.row.now first ∙ c.loop-row.invariant.same;
    })

pub returns : goal.returns
returns c = sym (defaults_none c.loop-row.word c.loop-row.rest.now c.in_default.ensures.cases) ∙ c.loop-row.invariant.same
