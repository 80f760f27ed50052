-- The entries so far.
use Rattle.std.proofs.Common.{◌≡◌, ◌++◌, take}
use Rattle.std.specs.List.{flat_map}
use Rattle.job_format.specs.Text.{buffer_text}
use Rattle.job_session.proofs.job_file.put_buffers.Given as goal

abbrev pub invariant-loop-buffer : goal.invariant-loop-buffer
invariant-loop-buffer l = l.file.items ≡ l.fn.file.items ++ flat_map buffer_text (take l.buffer-index l.buffers)
