-- The numbers before this one are counted.
use Rattle.std.proofs.Common.{◌≡◌, ◌+◌, ◌<◌, ℕ, length, slice_index_or, if◌then◌else◌}
use Rattle.std.specs.Prelude.{◌&&◌, nat_le, nat_lt}
use Rattle.pictures.proofs.counts.add_each.Given as goal

abbrev pub invariant-loop-n : goal.invariant-loop-n
invariant-loop-n l = record {
  long : length l.counts ≡ length l.fn.counts;
  each : (k : ℕ) → k < length l.counts → slice_index_or l.counts k 0 ≡ (if nat_le l.first k && nat_lt k l.n then slice_index_or l.fn.counts k 0 + 1 else slice_index_or l.fn.counts k 0);
}
