use Rattle.std.proofs.Common.{arith}
use Rattle.job_io.proofs.Growth.{given_front}
use Rattle.job_io.proofs.give.give.Goals as goal

pub returns-clause-given : goal.returns-clause-given
returns-clause-given c = given_front c.args.bytes.now _ _ c.args.at _ (omega arith) c.copy_from_slice.ensures.after
