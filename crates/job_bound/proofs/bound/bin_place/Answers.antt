-- the layout that is reported is the job's
use Rattle.std.proofs.{Common.◌<◌, Common.length, Common.arith, Common.ap, Common.◌∙◌, lemmas.List.length-map}
use Rattle.job_format.specs.Parts.{parts_view, job_parts_view}
use Rattle.job_check.proofs.{Counted.as_many_layouts, Regions.from_is}
use Rattle.job_bound.proofs.Lists.{layout_is}
use Rattle.relocation.specs.declared.layout.Layout.{Layout}
use Rattle.job_bound.proofs.bound.bin_place.Goals as goal

abbrev no_layout : Layout
no_layout = record { place = 0; bin = 0; records = 0; uniforms = 0; render = 0; end = 0; slot = 0 }

pub bounds-as_slice-number : goal.bounds-as_slice-number
bounds-as_slice-number c =
    let f = parts_view c.args.file.now in
    omega (arith, c.requires.inside, length-map c.args.file.now.jobs.items job_parts_view, ap length c.as_slice.ensures.value, ap length c.requires.region.layouts_are, as_many_layouts f)

pub offset_bounds-as_slice-number : goal.offset_bounds-as_slice-number
offset_bounds-as_slice-number c =
    let f = parts_view c.args.file.now in
    omega (arith, c.requires.inside, length-map c.args.file.now.jobs.items job_parts_view, ap length c.as_slice.ensures.value, ap length c.requires.region.layouts_are, as_many_layouts f, c.as_slice.ensures.fits)

pub overflow_sub-result : goal.overflow_sub-result
overflow_sub-result c =
    let f = parts_view c.args.file.now in
    let inside : c.args.number < length f.jobs = omega (arith, c.requires.inside, length-map c.args.file.now.jobs.items job_parts_view) in
    let same = layout_is f c.args.number c.as_slice.result.now no_layout (c.as_slice.ensures.value ∙ c.requires.region.layouts_are) inside in
    omega (arith, from_is f c.args.number, ap (λ l. l.place) same)

pub returns : goal.returns
returns c =
    let f = parts_view c.args.file.now in
    let inside : c.args.number < length f.jobs = omega (arith, c.requires.inside, length-map c.args.file.now.jobs.items job_parts_view) in
    let same = layout_is f c.args.number c.as_slice.result.now no_layout (c.as_slice.ensures.value ∙ c.requires.region.layouts_are) inside in
    omega (arith, from_is f c.args.number, ap (λ l. l.place) same, ap (λ l. l.bin) same)
