-- The accesses so far are counted.
use Rattle.std.proofs.Common.{◌≡◌, ◌<◌, ℕ, length, slice_index_or, take}
use Rattle.std.specs.List.{count_by}
use Rattle.replay.specs.declared.logged.Logged.{Logged}
use Rattle.pictures.specs.Counts.{is_in_cell}
use Rattle.pictures.proofs.counts.cell_counts.Given as goal

abbrev pub invariant-loop-logged : goal.invariant-loop-logged
invariant-loop-logged l = record {
  long : length l.counts.items ≡ 20;
  each : (k : ℕ) → k < 20 → slice_index_or l.counts.items k 0 ≡ count_by (λ (logged : Logged). is_in_cell l.file l.layouts l.way k logged.access) (take l.logged-index l.accesses);
}
