use Rattle.accepted_law.proofs.Joining.{bin_texts_begin_law}
use Rattle.accepted_law.proofs.memory.bin_texts_begin.Goals as goal

pub returns : goal.returns
returns c = bin_texts_begin_law
