use Rattle.std.proofs.Common.{arith}
use Rattle.texture_layouts.proofs.Powers.{power_found, power_above-limit}
use Rattle.texture_layouts.proofs.level.power_above.Goals as goal

pub returns-clause-limit : goal.returns-clause-limit
returns-clause-limit c =
    let found = c.next_power_of_two in
    let is = power_found c.args.side found.result c.requires found.ensures.power found.ensures.lower_bound found.ensures.upper_bound in
    let limit = power_above-limit c.args.side c.requires in
    omega arith
