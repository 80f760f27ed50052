use Rattle.std.proofs.Common.{length, ap, arith}
use Rattle.bin_list.proofs.Packets.{front_some, front_behind}
use Rattle.bin_list.proofs.cut.split_front.Goals as goal

pub returns-clause-some : goal.returns-clause-some
returns-clause-some c = omega (arith, front_some c.args.bytes.now c.requires, ap length c.cut_front.ensures.packet)

pub returns-clause-fits : goal.returns-clause-fits
returns-clause-fits c =
    omega (arith, front_behind c.args.bytes.now, ap length c.cut_front.ensures.packet, ap length c.cut_front.ensures.rest)
