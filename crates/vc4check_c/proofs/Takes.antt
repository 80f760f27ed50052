-- What is reported of a submission in which no rule is broken.
use Rattle.std.proofs.Common.{◌≡◌, ℕ, ◌+◌, ◌≤◌, List, [], ◌∷◌, length, get_or, drop, zero-add, None, refl, ap, subst, arith, ◌∙◌}
use Rattle.std.specs.List.{AllByRecursion}
use Rattle.field_words.specs.{Questions.first_of, Writes.with_bytes}
use Rattle.field_words.proofs.Pieces.{rest_of}
use Rattle.relocation.specs.{declared.layout.Layout.Layout, Layout.region_end}
use Rattle.job_check.specs.{declared.region.Region.Region, Emit.IsInside, Jobs.layout_of, Region.region_of, Region.IsLaid, Region.IsRegion}
use Rattle.job_check.proofs.Counted.{as_many_layouts, first_layout, first_lengths}
use Rattle.vc4check_c.specs.{declared.submission.Submission.Submission, declared.submit.Verdict.Verdict}
use Rattle.vc4check_c.specs.{Submission.file_of, Submission.hardware_questions, Submit.accepted_verdict, Submit.IsTaken, Jobs.no_layout, Jobs.no_lengths}

some_job : (s : Submission) → 1 ≤ length (file_of s).jobs
unfolding file_of
some_job s = omega arith

inside : (s : Submission) (region : Region) → IsRegion (file_of s) region → length (region_of (file_of s)) ≤ s.lists_size
unfolding file_of
inside s region is = let fits = is.fits in omega (arith, fits)

-- Whatever is reported of the shaders: the lists take no more than they may, there is a layout, and there are lengths.
pub size_inside : (s : Submission) (region : Region) → IsLaid (file_of s) region → length region.bytes.items ≤ s.lists_size
unfolding file_of
size_inside s region laid = let fits = laid.fits in omega (arith, laid.size, fits)

pub some_lists : (s : Submission) (region : Region) → IsLaid (file_of s) region → (1 ≤ length region.layouts.items) × (1 ≤ length region.lengths.items)
some_lists s region laid = (omega (arith, ap length laid.layouts_are, as_many_layouts (file_of s), some_job s), omega (arith, laid.count, some_job s))

first_inside : (size : ℕ) (layouts : List Layout) (none : Layout) → 1 ≤ length layouts → AllByRecursion (IsInside size) layouts → IsInside size (get_or layouts 0 none)
first_inside size [] none some all = absurd (omega (arith, some))
first_inside size (layout ∷ layouts) none some all = all.0

pub is_taken : (s : Submission) (region : Region) (verdict : Verdict) → first_of (hardware_questions s) ≡ None → IsRegion (file_of s) region
    → verdict ≡ accepted_verdict (length region.bytes.items) (get_or region.layouts.items 0 no_layout) (get_or region.lengths.items 0 no_lengths) → IsTaken s verdict
is_taken s region verdict broken is report =
    let f = file_of s in
    let layout_is = ap (λ ls. get_or ls 0 no_layout) is.layouts_are ∙ first_layout f no_layout (some_job s) in
    let lengths_are = ap (λ ls. get_or ls 0 no_lengths) is.lengths_are ∙ first_lengths f no_lengths (some_job s) in
    let some : 1 ≤ length region.layouts.items = omega (arith, ap length is.layouts_are, as_many_layouts f, some_job s) in
    let one = first_inside (region_end f.regions) region.layouts.items no_layout some is.each_job in
    record {
      none_broken = broken;
      inside = inside s region is;
      placed = subst (IsInside (region_end f.regions)) layout_is one;
      report =
          report
          ∙ ap (λ b. accepted_verdict (length b) (get_or region.layouts.items 0 no_layout) (get_or region.lengths.items 0 no_lengths)) is.bytes_are
          ∙ ap (λ l. accepted_verdict (length (region_of f)) l (get_or region.lengths.items 0 no_lengths)) layout_is
          ∙ ap (accepted_verdict (length (region_of f)) (layout_of f 0)) lengths_are;
    }

pub behind_stays : (old bytes new : List ℕ) → new ≡ with_bytes old 0 bytes → drop (length bytes) new ≡ drop (length bytes) old
behind_stays old bytes new is = ap (drop (length bytes)) is ∙ rest_of (length bytes) bytes (drop (0 + length bytes) old) refl ∙ ap (λ n. drop n old) (zero-add (length bytes))
