-- One more attribute is fetched.
use Rattle.std.proofs.Common.{◌<◌, arith}
use Rattle.packets.specs.StateWord.{attribute_count}
use Rattle.list_machine.proofs.Fetching.{attributes_more}
use Rattle.list_machine.proofs.fetch.fetch_attributes.Goals as goal

pub loop-t-preserved : goal.loop-t-preserved
loop-t-preserved c =
    let below : c.loop-t.t < attribute_count c.args.vertex.word = omega (arith, c.attribute_count-t-end.ensures.value, c.loop-t-test.true) in
    record {
      left = attributes_more c.args.reader.now.who c.args.vertex.word c.args.vertex.index c.args.reader.now.memory.now c.args.accesses.now.items c.loop-t.accesses.items _ c.loop-t.t below c.fetch_attribute.ensures.shows c.loop-t.invariant.left;
      long = omega arith;
    }
