-- There is a layout for each job, and the first slot that crosses decides.
use Rattle.std.proofs.Common.{◌≡◌, ◌<◌, ℕ, length, ap, sym, arith, zero-add, ◌∙◌}
use Rattle.std.proofs.lemmas.{List.length-map, List.FromFn.get_or-map-range_with_len}
use Rattle.std.specs.Prelude.{slice_index_or}
use Rattle.job_format.specs.{Model.FileModel, Parts.parts_view, Parts.job_parts_view}
use Rattle.relocation.specs.declared.layout.Layout.{Layout}
use Rattle.job_check.specs.Jobs.{layout_of, layouts_of}
use Rattle.vc4check_c.specs.{Jobs.no_layout, Hardware.slot_stage, Hardware.slots_stage}
use Rattle.field_words.specs.Questions.{first_of, each}
use Rattle.field_words.proofs.Questions.{each_stop, each_end}
use Rattle.job_check.proofs.Counted.{as_many_layouts}
use Rattle.vc4check_c.proofs.hardware.slots_stage.Goals as goal

layout_at : (f : FileModel) (j : ℕ) (none : Layout) → j < length f.jobs → slice_index_or (layouts_of f) j none ≡ layout_of f j
unfolding layouts_of
layout_at f j none inside = get_or-map-range_with_len (layout_of f) 0 (length f.jobs) j j none inside (zero-add j)

pub slot_stage-requires-clause-layout_is : goal.slot_stage-requires-clause-layout_is
slot_stage-requires-clause-layout_is c =
    let jobs = c.args.file.now.jobs.items in
    ap (λ ls. slice_index_or ls c.loop-number.number no_layout) c.requires.layouts_are ∙ layout_at (parts_view c.args.file.now) c.loop-number.number no_layout
    (omega (arith, length-map jobs job_parts_view, c.loop-number-test.true, c.len-number-end.ensures))

pub returns-in-Err : goal.returns-in-Err
unfolding slots_stage
returns-in-Err c =
    let f = parts_view c.args.file.now in
    let jobs = c.args.file.now.jobs.items in
    ap (λ n. first_of (each (slot_stage f) 0 n)) (length-map jobs job_parts_view)
    ∙ sym c.loop-number.invariant
    ∙ each_stop (slot_stage f) c.loop-number.number (length jobs) c.in-Err.refusal (omega (arith, c.loop-number-test.true, c.len-number-end.ensures)) c.in-Err.ensures

pub returns : goal.returns
unfolding slots_stage
returns c =
    let f = parts_view c.args.file.now in
    let jobs = c.args.file.now.jobs.items in (
      ap (λ n. first_of (each (slot_stage f) 0 n)) (length-map jobs job_parts_view)
          ∙ sym c.loop-number.invariant
          ∙ each_end (slot_stage f) c.loop-number.number (length jobs) (omega (arith, c.loop-number-test.false, c.len-number-end.ensures)),
      tt,
    )

pub bounds-layouts-number : goal.bounds-layouts-number
bounds-layouts-number c =
    let jobs = c.args.file.now.jobs.items in
    omega (
      arith,
      ap length c.requires.layouts_are,
      as_many_layouts (parts_view c.args.file.now),
      length-map jobs job_parts_view,
      c.loop-number-test.true,
      c.len-number-end.ensures,
    )
