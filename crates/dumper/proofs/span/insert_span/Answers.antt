use Rattle.std.proofs.Common.{◌∙◌, ap, sym}
use Rattle.std.specs.Cow.{cow_slice_items}
use Rattle.dumper.specs.Spans.{parts_of}
use Rattle.dumper.proofs.Inserting.{parts_insert}
use Rattle.dumper.proofs.span.insert_span.Goals as goal

pub returns : goal.returns
returns c =
    ap parts_of c.in_ok-insert.ensures.items
    ∙ parts_insert c.args.spans.now.items c.place_among-at.result c.args.span
    ∙ sym (c.place_among-at.ensures.place (cow_slice_items c.args.span.bytes))
