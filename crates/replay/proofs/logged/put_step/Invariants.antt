use Rattle.std.proofs.Common.{◌≡◌, ◌++◌, take}
use Rattle.replay.specs.Run.{accesses_numbered}
use Rattle.replay.proofs.logged.put_step.Given as goal

abbrev pub invariant-loop-access : goal.invariant-loop-access
invariant-loop-access l = l.kept.items ≡ l.fn.kept.items ++ accesses_numbered l.step (take l.access-index l.accesses)
