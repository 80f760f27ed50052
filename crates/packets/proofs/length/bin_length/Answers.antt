use Rattle.std.proofs.Common.{arith}
use Rattle.packets.proofs.Lengths.{length_limit}
use Rattle.packets.proofs.length.bin_length.Goals as goal

pub returns-clause-limit : goal.returns-clause-limit
returns-clause-limit c = length_limit c.args.opcode (omega arith)
