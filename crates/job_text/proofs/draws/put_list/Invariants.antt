-- The text so far and that of the packets that are left is that of all.
use Rattle.std.proofs.Common.{ℕ, ◌≤◌, ◌+◌, List, length}
use Rattle.bin_list.specs.Packets.{packets}
use Rattle.job_text.specs.{Draws.stretch_of, Draws.AreDraws, Shown.look_of}
use Rattle.job_text.proofs.draws.put_list.Given as goal

abbrev pub invariant-loop-now : goal.invariant-loop-now
invariant-loop-now l = record {
  list : l.at + length l.rest ≤ l.list.at + length l.list.bytes.now;
  text : (new : List ℕ)
      → AreDraws (look_of l.view) l.at (packets l.rest) (stretch_of l.now.records) (stretch_of l.now.uniforms) l.out.items new
      → AreDraws (look_of l.view) l.list.at (packets l.list.bytes.now) (stretch_of l.walk.records) (stretch_of l.walk.uniforms) l.fn.out.items new;
}

abbrev pub decreases-loop-now : goal.decreases-loop-now
decreases-loop-now l = length l.rest
