use Rattle.std.proofs.Common.{sym, ◌∙◌, ap, arith}
use Rattle.qpu_asm.specs.{Seen.rows_seen, Seen.spots_in, Walk.read_item}
use Rattle.qpu_asm.proofs.{Placing.place_here, Placing.place_later, Placing.place_none, Faults.item_reported}
use Rattle.qpu_asm.proofs.place.item_place.Goals as goal

pub next_placed-requires : goal.next_placed-requires
next_placed-requires c = omega (arith, c.loop-placed.invariant.room, c.requires.room)

pub returns-then-is_of : goal.returns-then-is_of
returns-then-is_of c =
    let read = read_item (spots_in c.args.labels.now) 0 (rows_seen c.args.of.rows.now) in
    let report = item_reported _ _ _ _ _ _ _ (c.put_item-partial.ensures ∙ ap (λ p. read p c.in-Some.placed.cut.first.now) c.without_fault.ensures) in
    rw (c.new.ensures, c.wanted_item-wanted.ensures, c.rows_left-rows.ensures)
    (sym (sym c.loop-placed.invariant.same
    ∙ place_here (spots_in c.args.labels.now) c.args.kind c.args.opcode (rows_seen c.args.of.rows.now) c.loop-placed.partial.rows _ _ _ _ c.in-Some.ensures.words report.1
    (sym c.is_of.ensures ∙ c.if-is_of.true)))

pub loop-placed-preserved : goal.loop-placed-preserved
loop-placed-preserved c =
    let read = read_item (spots_in c.args.labels.now) 0 (rows_seen c.args.of.rows.now) in
    let report = item_reported _ _ _ _ _ _ _ (c.put_item-partial.ensures ∙ ap (λ p. read p c.in-Some.placed.cut.first.now) c.without_fault.ensures) in
    record {
      room = omega (arith, c.loop-placed.invariant.room, c.in-Some.ensures.inside);
      same =
          rw report.0
          (place_later (spots_in c.args.labels.now) c.args.kind c.args.opcode (rows_seen c.args.of.rows.now) c.loop-placed.partial.rows _ _ _ _ c.in-Some.ensures.words report.1
          (sym c.is_of.ensures ∙ c.if-is_of.false) ∙ c.loop-placed.invariant.same);
    }

pub returns : goal.returns
returns c =
    sym (sym c.loop-placed.invariant.same
    ∙ place_none (spots_in c.args.labels.now) c.args.kind c.args.opcode (rows_seen c.args.of.rows.now) c.loop-placed.partial.rows _ c.in_default.ensures.words)
