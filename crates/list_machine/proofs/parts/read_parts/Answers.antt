-- Each part that is read goes one on.
use Rattle.std.proofs.Common.{◌+◌, ◌-◌, arith}
use Rattle.list_machine.specs.Cover.{part_count}
use Rattle.list_machine.proofs.Left.{reads_more, reads_end}
use Rattle.list_machine.proofs.parts.read_parts.Goals as goal

pub loop-i-preserved : goal.loop-i-preserved
loop-i-preserved c =
    let n = part_count c.args.cover.now in
    let i = c.loop-i.i in
    record {
      left = λ m r.
          rw (c.list_access.ensures.items, c.part_place.ensures.value)
          (reads_more c.args.who c.args.cover.now r m c.args.accesses.now.items c.loop-i.accesses.items n
          i (n - i) (i + 1) (n - (i + 1)) (omega arith) (omega arith) (c.loop-i.invariant.left m r));
      long = omega (arith, c.list_access.ensures.len, c.loop-i.invariant.long);
    }

pub returns : goal.returns
returns c =
    let n = part_count c.args.cover.now in
    λ r m. reads_end c.args.who c.args.cover.now r m c.args.accesses.now.items c.loop-i.accesses.items n c.loop-i.i (n - c.loop-i.i) (omega arith) (c.loop-i.invariant.left m r)
