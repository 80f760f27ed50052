-- The words so far are answers.
use Rattle.std.proofs.Common.{◌≡◌, ℕ, ◌<◌, length, slice_index}
use Rattle.replay.proofs.oracle.OracleScript.words.Given as goal

abbrev pub invariant-loop-k : goal.invariant-loop-k
invariant-loop-k g l = record {
  given : (j : ℕ) → j < l.k → g.F.Fn.post l.self.answer (l.step, (j, tt)) (slice_index l.words.items j);
  long : length l.words.items ≡ l.k;
}
