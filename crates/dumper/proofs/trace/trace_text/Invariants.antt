use Rattle.std.proofs.Common.{◌≡◌, take}
use Rattle.std.specs.List.{flat_map}
use Rattle.dumper.specs.Trace.{step_text}
use Rattle.dumper.proofs.trace.trace_text.Given as goal

abbrev pub invariant-loop-line : goal.invariant-loop-line
invariant-loop-line l = l.out.items ≡ flat_map (step_text l.version) (take l.line-index l.trace.lines.items)
