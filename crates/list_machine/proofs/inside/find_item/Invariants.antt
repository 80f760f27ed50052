use Rattle.std.proofs.Common.{◌≡◌, drop}
use Rattle.list_machine.specs.Renderer.{first_of_tile, item_at}
use Rattle.list_machine.proofs.inside.find_item.Given as goal

abbrev pub invariant-loop-i : goal.invariant-loop-i
invariant-loop-i l = first_of_tile l.sub.tile l.i (drop l.i l.items) ≡ item_at l.sub l.items
