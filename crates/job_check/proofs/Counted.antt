-- There is one layout and one record of lengths for each job.
use Rattle.std.proofs.Common.{◌≡◌, ◌≤◌, length, get_or, zero-add, arith}
use Rattle.std.proofs.lemmas.List.FromFn.{length-map-range_with_len, get_or-map-range_with_len}
use Rattle.job_format.specs.Model.{FileModel}
use Rattle.relocation.specs.{declared.layout.Layout.Layout, declared.layout.Lengths.Lengths}
use Rattle.job_check.specs.{Emit.lengths_of, Emit.all_lengths_of, Jobs.layout_of, Jobs.layouts_of}

pub as_many_layouts : (f : FileModel) → length (layouts_of f) ≡ length f.jobs
unfolding layouts_of
as_many_layouts f = length-map-range_with_len (layout_of f) 0 (length f.jobs)

pub as_many_lengths : (f : FileModel) → length (all_lengths_of f) ≡ length f.jobs
unfolding all_lengths_of
as_many_lengths f = length-map-range_with_len (lengths_of f) 0 (length f.jobs)

-- the first are those of job 0
pub first_layout : (f : FileModel) (none : Layout) → 1 ≤ length f.jobs → get_or (layouts_of f) 0 none ≡ layout_of f 0
unfolding layouts_of
first_layout f none some = get_or-map-range_with_len (layout_of f) 0 (length f.jobs) 0 0 none (omega (arith, some)) (zero-add 0)

pub first_lengths : (f : FileModel) (none : Lengths) → 1 ≤ length f.jobs → get_or (all_lengths_of f) 0 none ≡ lengths_of f 0
unfolding all_lengths_of
first_lengths f none some = get_or-map-range_with_len (lengths_of f) 0 (length f.jobs) 0 0 none (omega (arith, some)) (zero-add 0)
