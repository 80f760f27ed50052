use Rattle.std.proofs.Common.{refl}
use Rattle.commands.proofs.check.accept_parts.Goals as goal

pub returns : goal.returns
returns c = (
  c.in_ok-region.ensures.answers.0,
  record { file_is = refl; region_is = c.in_ok-region.ensures.answers.1; sound = c.in_ok-region.ensures.sound refl; small = c.in_ok-region.ensures.small refl },
)
