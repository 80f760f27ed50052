-- Each read goes one element on.
use Rattle.std.proofs.{Common.◌∙◌, Common.arith, lemmas.List.length-set}
use Rattle.qpu_machine.proofs.Asking.{direct_more, direct_end}
use Rattle.qpu_machine.proofs.request.read_words.Goals as goal

pub loop-e-preserved : goal.loop-e-preserved
loop-e-preserved c = record {
  left = direct_more c.args.reader.now.who c.args.row.now c.loop-e.found c.args.reader.now.memory.now c.args.accesses.now.items c.loop-e.accesses.items c.read_word.new.accesses.items c.loop-e.e c.read_word.result
      c.loop-e-test.true c.told-row c.loop-e.invariant.size c.read_word.ensures.value c.read_word.ensures.items c.loop-e.invariant.left;
  size = length-set c.loop-e.found c.loop-e.e c.read_word.result ∙ c.loop-e.invariant.size;
  long = omega (arith, c.read_word.ensures.len, c.loop-e.invariant.long);
}

pub returns : goal.returns
returns c = direct_end c.args.reader.now.who c.args.row.now c.loop-e.found c.args.reader.now.memory.now c.args.accesses.now.items c.loop-e.accesses.items c.loop-e.e c.loop-e-test.false c.told-row c.loop-e.invariant.size c.loop-e.invariant.left
