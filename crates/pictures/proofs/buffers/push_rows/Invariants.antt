use Rattle.std.proofs.Common.{◌≡◌, ◌++◌}
use Rattle.job_format.specs.Parts.{parts_view}
use Rattle.pictures.specs.Forest.{forest_text}
use Rattle.pictures.specs.{Parts.each, Buffers.row_part}
use Rattle.pictures.proofs.buffers.push_rows.Given as goal

abbrev pub invariant-loop-n : goal.invariant-loop-n
invariant-loop-n l = l.out.items ≡ l.fn.out.items ++ forest_text (each (row_part (parts_view l.file)) l.n)
