use Rattle.std.proofs.Common.{◌≡◌, ◌<◌, ℕ, false, length, slice_index_or}
use Rattle.shader_flow.specs.{Bounded.some_below, Flow.makes_target}
use Rattle.shader_flow.proofs.marks.mark_all.Given as goal

abbrev pub invariant-loop-at : goal.invariant-loop-at
invariant-loop-at l = record {
  size : length l.targets ≡ length l.fn.targets;
  marks : (i : ℕ) → i < length l.fn.targets → slice_index_or l.targets i false ≡ some_below l.at (λ b. makes_target l.code b i);
}
