use Rattle.std.proofs.Common.{◌≡◌, ◌≤◌, ◌*◌, map, sum, take}
use Rattle.job_check.proofs.offsets.content_before.Given as goal

-- the sum of the contents so far, each of them below 2^32
abbrev pub invariant-loop-buffer : goal.invariant-loop-buffer
invariant-loop-buffer l =
    (l.size ≡ sum (map (λ b. b.content) (take l.buffer-index l.buffers))) × (l.size ≤ 4294967295 * l.buffer-index)
