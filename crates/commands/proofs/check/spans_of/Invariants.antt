-- The spans so far are those of the later buffers, and the lists.
use Rattle.std.proofs.Common.{◌≡◌, ◌≤◌, ◌∷◌, [], ◌++◌, length, take, drop, map}
use Rattle.job_check.specs.Emit.{content_parts}
use Rattle.dumper.specs.{Parts.part_at, Parts.parts_sorted, Spans.parts_of}
use Rattle.commands.proofs.check.spans_of.Given as goal

abbrev pub invariant-loop-content : goal.invariant-loop-content
invariant-loop-content l = record {
  few : length l.contents.items ≤ length l.buffers;
  rest : l.contents.items ≡ take (length l.contents.items) l.fn.contents.items;
  spans : parts_of l.spans.items ≡ parts_sorted (content_parts (drop (length l.contents.items) l.buffers)
      (map (λ c. c.now) (drop (length l.contents.items) l.fn.contents.items)) ++ part_at l.fn.place l.fn.lists.items ∷ []);
}

abbrev pub decreases-loop-content : goal.decreases-loop-content
decreases-loop-content l = length l.contents.items
