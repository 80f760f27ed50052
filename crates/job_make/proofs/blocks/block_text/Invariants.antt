-- What is read so far and what is left is the block's text.
use Rattle.std.proofs.Common.{◌≡◌, length, Ok, []}
use Rattle.script.specs.Lines.{lines_of}
use Rattle.job_make.specs.Made.{both, block_text}
use Rattle.job_make.proofs.blocks.block_text.Given as goal

abbrev pub invariant-loop-rest : goal.invariant-loop-rest
invariant-loop-rest l = both (Ok l.text.items) (block_text l.line (lines_of l.rest)) ≡ both (Ok []) (block_text l.line (lines_of l.lines))

abbrev pub decreases-loop-rest : goal.decreases-loop-rest
decreases-loop-rest l = length l.rest
