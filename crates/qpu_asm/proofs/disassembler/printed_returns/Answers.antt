use Rattle.qpu_asm.proofs.Law.{each_returns}
use Rattle.qpu_asm.proofs.disassembler.printed_returns.Goals as goal

pub returns : goal.returns
returns c = each_returns
