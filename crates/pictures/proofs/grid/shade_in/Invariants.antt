use Rattle.std.proofs.Common.{◌≡◌, take}
use Rattle.std.specs.List.{fold}
use Rattle.pictures.specs.Grid.{with_buffer, with_regions}
use Rattle.pictures.proofs.grid.shade_in.Given as goal

abbrev pub invariant-loop-buffer : goal.invariant-loop-buffer
invariant-loop-buffer l = l.here ≡ fold (with_buffer l.from l.to) (with_regions l.from l.to l.file.regions) (take l.buffer-index l.file.buffers.items)
