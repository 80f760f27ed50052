-- What the blocks of those so far tell, and that they can be read.
use Rattle.std.proofs.Common.{◌≡◌, map, take}
use Rattle.shader_records.specs.Inputs.{shaders_view}
use Rattle.vc4check_c.specs.Telling.{read_in, AreReadable}
use Rattle.vc4check_c.proofs.known.shaders_in.Given as goal

abbrev pub invariant-loop-b : goal.invariant-loop-b
invariant-loop-b l = (shaders_view l.shaders.items ≡ take l.b (map read_in l.buffers)) × AreReadable l.buffers l.b
