use Rattle.std.proofs.Common.{arith}
use Rattle.clamp_facts.proofs.Carriers.{stays_last}
use Rattle.clamp_facts.proofs.search.stays.Goals as goal

pub returns-then-not-has_target : goal.returns-then-not-has_target
returns-then-not-has_target c =
    let last = stays_last c.args.code.now c.args.j c.args.at c.args.reg c.requires.last in
    grind (arith, last)

pub returns-else-not-has_target : goal.returns-else-not-has_target
returns-else-not-has_target c =
    let last = stays_last c.args.code.now c.args.j c.args.at c.args.reg c.requires.last in
    grind (arith, last)
