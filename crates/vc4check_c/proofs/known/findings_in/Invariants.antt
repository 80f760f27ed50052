-- Those so far.
use Rattle.std.proofs.Common.{◌≡◌, map, take}
use Rattle.vc4check_c.specs.Telling.{findings_by_block}
use Rattle.vc4check_c.proofs.known.findings_in.Given as goal

abbrev pub invariant-loop-given : goal.invariant-loop-given
invariant-loop-given l = l.findings.items ≡ map findings_by_block (take l.given-index l.buffers)
