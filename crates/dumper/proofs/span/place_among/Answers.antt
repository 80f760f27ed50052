use Rattle.std.proofs.Common.{◌++◌, sym, ap, ◌∙◌, arith, add-one, take, drop}
use Rattle.dumper.specs.{Parts.part_at, Parts.part_inserted, Spans.parts_of}
use Rattle.dumper.proofs.Inserting.{passed_on, found_at, found_last}
use Rattle.dumper.proofs.span.place_among.Goals as goal

pub loop-at-preserved : goal.loop-at-preserved
loop-at-preserved c =
    let spans = c.args.spans.now.items in
    let at = c.loop-at.at in record {
      upto = omega (arith, c.loop-at-test.true, c.len.ensures);
      place = λ bytes.
          let part = part_at c.args.place bytes in
          c.loop-at.invariant.place bytes
          ∙ passed_on spans at c.index.result.now part (omega (arith, c.loop-at-test.true, c.len.ensures)) c.index.ensures c.if-index-place.true
          ∙ ap (λ n. take n (parts_of spans) ++ part_inserted part (drop n (parts_of spans))) (sym (add-one at));
    }

pub returns-else-index-place-clause-place : goal.returns-else-index-place-clause-place
returns-else-index-place-clause-place c = λ bytes.
    let spans = c.args.spans.now.items in
    c.loop-at.invariant.place bytes
    ∙ found_at spans c.loop-at.at c.index.result.now (part_at c.args.place bytes) (omega (arith, c.loop-at-test.true, c.len.ensures)) c.index.ensures c.if-index-place.false

pub returns-after-loop-at-clause-place : goal.returns-after-loop-at-clause-place
returns-after-loop-at-clause-place c = λ bytes.
    c.loop-at.invariant.place bytes
    ∙ found_last c.args.spans.now.items c.loop-at.at (part_at c.args.place bytes) (omega (arith, c.loop-at-test.false, c.len.ensures))
