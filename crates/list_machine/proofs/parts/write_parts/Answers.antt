-- Each part that is written goes one on.
use Rattle.std.proofs.Common.{◌+◌, ◌-◌, arith}
use Rattle.list_machine.specs.Cover.{part_count}
use Rattle.list_machine.proofs.Left.{writes_more, writes_end}
use Rattle.list_machine.proofs.parts.write_parts.Goals as goal

pub loop-i-preserved : goal.loop-i-preserved
loop-i-preserved g c =
    let n = part_count c.args.cover.now in
    let i = c.loop-i.i in
    record {
      left = λ r.
          rw (c.list_access.ensures.items, c.store_chosen.ensures, c.part_place-place.ensures.value, c.bytes_before.ensures.value)
          (writes_more c.args.turn.now.who c.args.cover.now (g.C.Choices.listed c.args.turn.now.words.now) r c.args.memory.now c.loop-i.memory c.args.accesses.now.items c.loop-i.accesses.items n
          i (n - i) (i + 1) (n - (i + 1)) (omega arith) (omega arith) (c.loop-i.invariant.left r));
      long = omega (arith, c.list_access.ensures.len, c.loop-i.invariant.long);
    }

pub returns : goal.returns
returns g c =
    let n = part_count c.args.cover.now in
    λ r. writes_end c.args.turn.now.who c.args.cover.now (g.C.Choices.listed c.args.turn.now.words.now) r c.args.memory.now c.loop-i.memory c.args.accesses.now.items c.loop-i.accesses.items n c.loop-i.i (n - c.loop-i.i) (omega arith) (c.loop-i.invariant.left r)
