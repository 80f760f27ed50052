-- One more is appended; at the end all are there.
use Rattle.std.proofs.{Common.◌≡◌, Common.get_or, Common.subst, lemmas.List.get_or_default}
use Rattle.job_format.specs.{declared.file.Surface.Surface, Text.surface_text, File.SurfaceFits}
use Rattle.std.specs.List.{AllByRecursion}
use Rattle.job_format.proofs.Items.{more, all_taken}
use Rattle.job_format.proofs.writing.put_surfaces.Goals as goal

pub loop-surface-preserved : goal.loop-surface-preserved
loop-surface-preserved c =
    let x : Surface = get_or c.args.surfaces.now c.loop-surface.surface-index (record { hindex = 0; offset = 0; bits = 0; flags = 0 }) in
    let met : x ≡ get_or c.args.surfaces.now c.loop-surface.surface-index x = get_or_default c.args.surfaces.now c.loop-surface.surface-index (record { hindex = 0; offset = 0; bits = 0; flags = 0 }) x c.loop-surface-test.true in
    more surface_text SurfaceFits c.args.surfaces.now c.loop-surface.surface-index x c.args.out.now.items c.loop-surface.out.items c.put_surface.new.out.items c.loop-surface-test.true met c.loop-surface.invariant
    c.in_ok-put_surface.ensures.text c.in_ok-put_surface.ensures.fits

pub returns-clause-fits : goal.returns-clause-fits
returns-clause-fits c = subst (AllByRecursion SurfaceFits) (all_taken c.args.surfaces.now c.loop-surface.surface-index c.loop-surface-test.false) c.loop-surface.invariant.1
