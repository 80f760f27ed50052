-- The accesses so far are counted.
use Rattle.std.proofs.Common.{◌≡◌, ◌<◌, ℕ, length, slice_index_or, take}
use Rattle.std.specs.List.{count_by}
use Rattle.replay.specs.declared.logged.Logged.{Logged}
use Rattle.pictures.specs.Counts.{touches}
use Rattle.pictures.proofs.counts.box_counts.Given as goal

abbrev pub invariant-loop-logged : goal.invariant-loop-logged
invariant-loop-logged l = record {
  long : length l.counts.items ≡ l.count;
  each : (k : ℕ) → k < l.count → slice_index_or l.counts.items k 0 ≡ count_by (λ (logged : Logged). touches l.way l.size k logged.access) (take l.logged-index l.accesses);
}
