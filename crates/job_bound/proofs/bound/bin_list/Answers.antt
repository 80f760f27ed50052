-- The list is a part of the region.
use Rattle.std.proofs.Common.{◌≡◌, ◌<◌, ◌+◌, ◌-◌, length, take, drop, arith, ap, ◌∙◌}
use Rattle.std.proofs.lemmas.List.{length-map}
use Rattle.job_format.specs.Parts.{parts_view, job_parts_view}
use Rattle.job_check.specs.{Jobs.layout_of, Jobs.bin_list_of, Region.region_from}
use Rattle.job_bound.proofs.Lists.{bin_there, list_short}
use Rattle.job_bound.proofs.bound.bin_list.Goals as goal

pub overflow_add-result : goal.overflow_add-result
overflow_add-result c =
    let f = parts_view c.args.file.now in
    let inside : c.args.number < length f.jobs = omega (arith, c.requires.inside, length-map c.args.file.now.jobs.items job_parts_view) in
    let there = bin_there f c.args.number c.requires.faultless inside c.requires.region.fits c.requires.region.parts_fit in
    omega (arith, there.inside, c.requires.region.fits, c.requires.faultless.fits.regions.lists_size, c.bin_place-from.ensures, c.bin_length.ensures)

pub slice_bounds-result-end : goal.slice_bounds-result-end
slice_bounds-result-end c =
    let f = parts_view c.args.file.now in
    let inside : c.args.number < length f.jobs = omega (arith, c.requires.inside, length-map c.args.file.now.jobs.items job_parts_view) in
    let there = bin_there f c.args.number c.requires.faultless inside c.requires.region.fits c.requires.region.parts_fit in
    omega (arith, there.inside, c.bin_place-from.ensures, c.bin_length.ensures, ap length (c.deref.ensures.value ∙ c.requires.region.bytes_are))

pub returns-clause-value : goal.returns-clause-value
returns-clause-value c =
    let f = parts_view c.args.file.now in
    let inside : c.args.number < length f.jobs = omega (arith, c.requires.inside, length-map c.args.file.now.jobs.items job_parts_view) in
    let there = bin_there f c.args.number c.requires.faultless inside c.requires.region.fits c.requires.region.parts_fit in
    let many : c.bin_place-from.result + c.bin_length.result - c.bin_place-from.result ≡ length (bin_list_of f c.args.number) = omega (arith, c.bin_length.ensures) in
    ap (λ n. take n (drop c.bin_place-from.result c.deref.result.now)) many
    ∙ ap (λ p. take (length (bin_list_of f c.args.number)) (drop p c.deref.result.now)) c.bin_place-from.ensures
    ∙ ap (λ bytes. take (length (bin_list_of f c.args.number)) (drop (region_from f c.args.number + (layout_of f c.args.number).bin) bytes)) (c.deref.ensures.value ∙ c.requires.region.bytes_are)
    ∙ there.is

pub returns-clause-short : goal.returns-clause-short
returns-clause-short c =
    let f = parts_view c.args.file.now in
    let inside : c.args.number < length f.jobs = omega (arith, c.requires.inside, length-map c.args.file.now.jobs.items job_parts_view) in
    omega (arith, ap length (returns-clause-value c), list_short f c.args.number c.requires.faultless inside)
