-- The text so far, and that the numbers in it fit.
use Rattle.std.proofs.Common.{◌≡◌, ◌++◌, take}
use Rattle.std.specs.List.{flat_map, AllByRecursion}
use Rattle.job_format.specs.{Text.buffer_text, File.BufferFits}
use Rattle.job_format.proofs.writing.put_buffers.Given as goal

abbrev pub invariant-loop-buffer : goal.invariant-loop-buffer
invariant-loop-buffer l = (l.out.items ≡ l.fn.out.items ++ flat_map buffer_text (take l.buffer-index l.buffers)) × AllByRecursion BufferFits (take l.buffer-index l.buffers)
