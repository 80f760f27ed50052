use Rattle.std.proofs.{Common.refl, Common.arith, Common.◌∙◌, lemmas.List.length-map}
use Rattle.job_format.specs.Parts.{parts_view, job_parts_view}
use Rattle.job_check.proofs.Layouts.{enough_slots}
use Rattle.job_check.proofs.context.Context.open.Goals as goal

pub job_layout-requires-clause-slot : goal.job_layout-requires-clause-slot
job_layout-requires-clause-slot c =
    let tiles = c.requires.sound.each_item 1 (omega arith) in
    let slots = enough_slots (parts_view c.args.file.now) c.requires.well_formed c.requires.sound in
    omega (arith, tiles.inside, c.requires.sound.limit, slots, c.requires.inside, length-map c.args.file.now.jobs.items job_parts_view)

pub invariant_of-result : goal.invariant_of-result
invariant_of-result c = record {
  well_formed = c.requires.well_formed;
  inside = omega (arith, c.requires.inside, length-map c.args.file.now.jobs.items job_parts_view);
  job_is = c.job_at-job.ensures.value;
  limits = c.job_at-job.ensures.limits;
  table_is = c.requires.table_is;
  shaders_are = refl;
  shaped = c.requires.shaped;
  sound = c.requires.sound;
  handles_are = c.in-Ok.ensures.made.1 ∙ c.as_slice.ensures;
  numbers = c.in-Ok.ensures.numbers;
  begins = omega (arith, c.requires.place_is, c.requires.begins);
  layout_is = c.job_layout.ensures;
}
