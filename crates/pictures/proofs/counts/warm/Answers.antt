use Rattle.std.proofs.Common.{◌+◌, ◌*◌, slice_index_or, if◌then◌else◌, ap, ◌∙◌, arith}
use Rattle.pictures.specs.Grid.{overlaps}
use Rattle.pictures.proofs.Counting.{box_range}
use Rattle.pictures.proofs.counts.warm.Goals as goal

pub returns-clause-each : goal.returns-clause-each
returns-clause-each c = λ k inside.
    c.add_each.ensures.each k inside
    ∙ (ap (λ b. if b then slice_index_or c.args.counts.now k 0 + 1 else slice_index_or c.args.counts.now k 0) (box_range c.args.place c.from.result c.args.size k (omega (arith, c.requires.some)))
    ∙ ap (λ len. if overlaps c.args.place len (k * c.args.size) (k * c.args.size + c.args.size) then slice_index_or c.args.counts.now k 0 + 1 else slice_index_or c.args.counts.now k 0) c.from.ensures)
