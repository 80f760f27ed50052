use Rattle.std.proofs.Common.{◌≡◌}
use Rattle.replay.proofs.Going.{Noted}
use Rattle.replay.proofs.follow.follow.Given as goal

abbrev pub invariant-loop-i : goal.invariant-loop-i
invariant-loop-i g l = record {
  logs : l.kept.logs ≡ l.fn.kept.logs;
  noted : Noted (g.S.Script.picks l.script) (g.S.Script.gives l.script) l.favoured l.fn.machine l.machine l.i l.kept;
}
