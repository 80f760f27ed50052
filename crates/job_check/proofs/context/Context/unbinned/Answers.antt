use Rattle.std.proofs.Common.{length, sym, ap, arith, ◌∙◌}
use Rattle.job_check.proofs.Views.{no_grid, render_alone, parts_fit, lengths_are, no_bin_list, no_records, no_streams, unbinned_none}
use Rattle.job_check.proofs.context.Context.unbinned.Goals as goal

pub draw-requires-clause-tiles_are : goal.draw-requires-clause-tiles_are
draw-requires-clause-tiles_are c = no_grid c.args.self.now.file c.args.self.now.number c.requires.none

pub returns-clause-answers : goal.returns-clause-answers
returns-clause-answers c =
    let f = c.args.self.now.file in
    let j = c.args.self.now.number in
    let bin = ap length (no_bin_list f j c.requires.none) in
    let records = ap length (no_records f j c.requires.none) in
    let streams = ap length (no_streams f j c.requires.none) in (
      unbinned_none f j c.requires.none c.in_ok-render.ensures.answers.0,
      lengths_are f j 0 0 0 c.in_ok-render.render (sym bin) (sym records) (sym streams) c.in_ok-render.ensures.answers.1,
    )

pub returns-clause-written : goal.returns-clause-written
returns-clause-written c =
    let f = c.args.self.now.file in
    let j = c.args.self.now.number in
    c.in_ok-render.ensures.written ∙ render_alone f j c.args.out.now c.requires.none

pub returns-clause-fit : goal.returns-clause-fit
returns-clause-fit c =
    let f = c.args.self.now.file in
    let j = c.args.self.now.number in
    let bin = ap length (no_bin_list f j c.requires.none) in
    let records = ap length (no_records f j c.requires.none) in
    let streams = ap length (no_streams f j c.requires.none) in
    parts_fit f j (omega (arith, bin)) (omega (arith, records)) (omega (arith, streams)) (omega (arith, c.in_ok-render.ensures.answers.1, c.in_ok-render.ensures.fits))
