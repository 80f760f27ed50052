use Rattle.std.proofs.Common.{IsTrue}
use Rattle.list_law.proofs.Emitted.{emitted_programs}
use Rattle.list_law.proofs.emitted_programs.Goals as goal

pub returns : goal.returns
returns c = λ region may m word stands fragment vertex coordinate. emitted_programs region (λ launch. IsTrue (may launch)) m word stands fragment vertex coordinate
