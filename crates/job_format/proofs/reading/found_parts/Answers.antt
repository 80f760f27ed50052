-- Where no rule of the format is broken, the parts lie in the file.
use Rattle.std.proofs.Common.{sym}
use Rattle.job_format.proofs.Passing.{has_parts}
use Rattle.job_format.proofs.reading.found_parts.Goals as goal

pub parts_of-requires : goal.parts_of-requires
parts_of-requires c = record { whole = has_parts c.args.bytes.now (sym c.in-None.ensures) }
