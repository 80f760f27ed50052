-- What `show` wrote is made again.
use Rattle.std.proofs.Common.{inl, inr, arith}
use Rattle.commands.specs.Show.{MakesAgain}

pub makes_again : MakesAgain
makes_again showing refusal bytes text shown_status whole all shows out status made =
    let read = shows.1 whole all in
    elim made [
      | inl same ↦ grind (arith, read, same.1, same.2, same.3)
      | inr fault ↦ grind (arith, read, fault.1)
    ]
