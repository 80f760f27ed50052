-- Each surface has a place where it is present, and its tiles fit.
use Rattle.render_list.proofs.Checked.{is_setup}
use Rattle.render_list.proofs.surfaces.places.Goals as goal

pub returns-clause-setup : goal.returns-clause-setup
returns-clause-setup c =
    is_setup c.args.frame.now c.args.table.now c.args.handles.now
    c.place-color_read.result c.place-color_write.result c.place-zs_read.result c.place-zs_write.result c.place-multisample_color.result c.place-multisample_zs.result
    c.place-color_read.ensures.value c.place-color_write.ensures.value c.place-zs_read.ensures.value c.place-zs_write.ensures.value
    c.place-multisample_color.ensures.value c.place-multisample_zs.ensures.value
    c.requires.tiles c.requires.sound
    c.place-color_read.ensures.fits c.place-color_write.ensures.fits c.place-zs_read.ensures.fits c.place-zs_write.ensures.fits
    c.place-multisample_color.ensures.fits c.place-multisample_zs.ensures.fits
