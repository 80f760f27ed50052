use Rattle.std.proofs.Common.{◌<◌, ◌^◌, length, refl, arith}
use Rattle.job_text.proofs.Taking.{taking_none, noted_none, noted_more}
use Rattle.job_text.proofs.noted.disassemble_noted.Goals as goal

pub loop-index-init : goal.loop-index-init
loop-index-init c =
    let now = c.default-now.result in
    let is = c.default-now.ensures in
    record {
      text = noted_none c.args.words.now c.new-text.result.items c.new-text.ensures.items;
      taking = taking_none c.args.words.now now is.0 is.1.1.1 is.1.0 is.1.1.0;
    }

pub loop-index-preserved : goal.loop-index-preserved
loop-index-preserved c =
    let words = c.args.words.now in
    let i = c.loop-index.index in
    let below : i < length words = c.loop-index-test.true in
    let few : length words < 2 ^ 64 = omega arith in
    record {
      text = noted_more words i _ _ c.loop-index.text.items c.put_noted.new.out.items refl
          (c.uniform_of.ensures words i below refl c.loop-index.invariant.taking) c.loop-index.invariant.text c.in_ok-put_noted.ensures;
      taking = c.next-now.ensures words i few below refl c.loop-index.invariant.taking;
    }
