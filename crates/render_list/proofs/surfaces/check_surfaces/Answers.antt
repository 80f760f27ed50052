-- What holds where no rule is broken.
use Rattle.field_words.proofs.Questions.{first_is}
use Rattle.render_list.specs.Surfaces.{surface_faults}
use Rattle.render_list.proofs.Checked.{set_of, none_at}
use Rattle.render_list.proofs.surfaces.check_surfaces.Goals as goal

pub places-requires-clause-tiles : goal.places-requires-clause-tiles
places-requires-clause-tiles c = set_of c.args.frame.now c.args.tiles c.args.table.now c.args.handles.now c.in-Ok.ensures.0

pub places-requires-clause-sound : goal.places-requires-clause-sound
places-requires-clause-sound c = none_at c.args.frame.now c.args.tiles c.args.table.now c.args.handles.now c.in-Ok.ensures.0

pub returns-in-Err-clause-first : goal.returns-in-Err-clause-first
returns-in-Err-clause-first c =
    first_is (surface_faults c.args.frame.now c.args.tiles c.args.table.now c.args.handles.now) c.in-Err.fault c.in-Err.ensures
