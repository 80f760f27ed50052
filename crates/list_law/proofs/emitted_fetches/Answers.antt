use Rattle.std.proofs.Common.{IsTrue}
use Rattle.list_law.proofs.Emitted.{emitted_fetches}
use Rattle.list_law.proofs.emitted_fetches.Goals as goal

pub returns : goal.returns
returns c = λ named region m state word most packet names stands is attributes kinds primitive. emitted_fetches (λ place size. IsTrue (named place size)) region m state word most packet names stands is attributes kinds primitive
