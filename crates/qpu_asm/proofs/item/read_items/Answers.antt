use Rattle.std.proofs.Common.{sym, ◌∙◌, ap}
use Rattle.qpu_asm.specs.{Walk.read_items, Walk.closed_word, Walk.kind_code, Seen.rows_seen, Seen.spots_in}
use Rattle.qpu_asm.proofs.item.read_items.Goals as goal

pub loop-cut-preserved : goal.loop-cut-preserved
unfolding read_items
loop-cut-preserved c =
    rw c.put_item-partial.ensures
    (sym (ap (read_items (spots_in c.args.labels.now) c.args.index (rows_seen c.args.kind.rows.now) c.loop-cut.partial) c.in-Some.ensures.words) ∙ c.loop-cut.invariant)

pub returns : goal.returns
unfolding read_items kind_code
returns c =
    c.closed_word.ensures
    ∙ ap closed_word (sym (ap (read_items (spots_in c.args.labels.now) c.args.index (rows_seen c.args.kind.rows.now) c.loop-cut.partial) c.in_default.ensures.words) ∙ c.loop-cut.invariant)
