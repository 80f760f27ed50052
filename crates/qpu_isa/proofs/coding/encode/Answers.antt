-- What decode gave is put together again.
use Rattle.std.proofs.Common.{◌∙◌, ap, sym}
use Rattle.qpu_isa.specs.Inst.{word_of}
use Rattle.qpu_isa.proofs.Words.{each_returns}
use Rattle.qpu_isa.proofs.coding.encode.Goals as goal

pub returns-in-Alu-clause-back : goal.returns-in-Alu-clause-back
returns-in-Alu-clause-back c word small is = c.put_alu.ensures ∙ (ap word_of (sym c.in-Alu.is ∙ is) ∙ each_returns word small)

pub returns-in-LoadImm-clause-back : goal.returns-in-LoadImm-clause-back
returns-in-LoadImm-clause-back c word small is = c.put_load_imm.ensures ∙ (ap word_of (sym c.in-LoadImm.is ∙ is) ∙ each_returns word small)

pub returns-in-Branch-clause-back : goal.returns-in-Branch-clause-back
returns-in-Branch-clause-back c word small is = c.put_branch.ensures ∙ (ap word_of (sym c.in-Branch.is ∙ is) ∙ each_returns word small)
