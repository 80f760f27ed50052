use Rattle.std.proofs.Common.{sym, subst}
use Rattle.texture_layouts.specs.Place.{IsPixelInside, IsPixelApart}
use Rattle.texture_layouts.proofs.Places.{pixel_inside, pixel_apart}
use Rattle.texture_layouts.proofs.place.pixel_place.Goals as goal

pub returns-clause-inside : goal.returns-clause-inside
returns-clause-inside c =
    let a = c.args in
    subst (IsPixelInside a.tiling a.width a.cpp a.x a.y) (sym c.place_of_pixel.ensures.value) (pixel_inside a.tiling a.width a.cpp a.x a.y c.requires.pixel)

pub returns-clause-apart : goal.returns-clause-apart
returns-clause-apart c =
    let a = c.args in
    subst (IsPixelApart a.tiling a.width a.cpp a.x a.y) (sym c.place_of_pixel.ensures.value) (pixel_apart a.tiling a.width a.cpp a.x a.y c.requires.pixel)
