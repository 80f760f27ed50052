use Rattle.std.proofs.Common.{IsTrue}
use Rattle.list_law.proofs.Fetching.{start_fine}
use Rattle.list_law.proofs.start_fine.Goals as goal

pub returns : goal.returns
returns c = λ who r may m program free word programs. start_fine who r (λ launch. IsTrue (may launch)) m program free word programs
