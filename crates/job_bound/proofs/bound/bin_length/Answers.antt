-- the lengths that are reported are the job's
use Rattle.std.proofs.{Common.◌<◌, Common.length, Common.arith, Common.ap, Common.◌∙◌, lemmas.List.length-map}
use Rattle.job_format.specs.Parts.{parts_view, job_parts_view}
use Rattle.job_check.proofs.Counted.{as_many_lengths}
use Rattle.job_bound.proofs.Lists.{lengths_is}
use Rattle.job_bound.proofs.bound.bin_length.Goals as goal

pub bounds-as_slice-number : goal.bounds-as_slice-number
bounds-as_slice-number c =
    let f = parts_view c.args.file.now in
    omega (arith, c.requires.inside, length-map c.args.file.now.jobs.items job_parts_view, ap length c.as_slice.ensures.value, ap length c.requires.region.lengths_are, as_many_lengths f)

pub offset_bounds-as_slice-number : goal.offset_bounds-as_slice-number
offset_bounds-as_slice-number c =
    let f = parts_view c.args.file.now in
    omega (arith, c.requires.inside, length-map c.args.file.now.jobs.items job_parts_view, ap length c.as_slice.ensures.value, ap length c.requires.region.lengths_are, as_many_lengths f, c.as_slice.ensures.fits)

pub returns : goal.returns
returns c =
    let f = parts_view c.args.file.now in
    let inside : c.args.number < length f.jobs = omega (arith, c.requires.inside, length-map c.args.file.now.jobs.items job_parts_view) in
    lengths_is f c.args.number c.as_slice.result.now (record { bin = 0; records = 0; uniforms = 0; render = 0 }) (c.as_slice.ensures.value ∙ c.requires.region.lengths_are) inside
