-- What was put so far.
use Rattle.std.proofs.Common.{◌≡◌, ◌++◌, take}
use Rattle.std.specs.List.{flat_map}
use Rattle.commands.specs.ShaderReport.{address_line}
use Rattle.commands.proofs.shader.put_addresses.Given as goal

abbrev pub invariant-loop-position : goal.invariant-loop-position
invariant-loop-position l = l.out.items ≡ l.fn.out.items ++ flat_map address_line (take l.position-index l.positions)
