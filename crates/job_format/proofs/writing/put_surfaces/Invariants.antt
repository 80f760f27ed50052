-- The text so far, and that the numbers in it fit.
use Rattle.std.proofs.Common.{◌≡◌, ◌++◌, take}
use Rattle.std.specs.List.{flat_map, AllByRecursion}
use Rattle.job_format.specs.{Text.surface_text, File.SurfaceFits}
use Rattle.job_format.proofs.writing.put_surfaces.Given as goal

abbrev pub invariant-loop-surface : goal.invariant-loop-surface
invariant-loop-surface l = (l.out.items ≡ l.fn.out.items ++ flat_map surface_text (take l.surface-index l.surfaces)) × AllByRecursion SurfaceFits (take l.surface-index l.surfaces)
