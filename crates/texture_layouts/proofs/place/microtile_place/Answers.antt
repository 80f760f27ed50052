use Rattle.std.proofs.Common.{◌≡◌, ◌*◌, sym, subst, arith}
use Rattle.texture_layouts.specs.Place.{microtile_place_of, IsMicrotileInside, IsMicrotileApart}
use Rattle.texture_layouts.proofs.Places.{microtile_inside, microtile_apart}
use Rattle.texture_layouts.proofs.place.microtile_place.Goals as goal

pub returns-clause-inside : goal.returns-clause-inside
unfolding microtile_place_of
returns-clause-inside c =
    let a = c.args in
    let is : 64 * c.microtile_number.result ≡ microtile_place_of a.tiling a.width a.cpp a.mx a.my = grind arith in
    subst (IsMicrotileInside a.tiling a.width a.cpp a.mx a.my) (sym is) (microtile_inside a.tiling a.width a.cpp a.mx a.my c.requires.pixel)

pub returns-clause-apart : goal.returns-clause-apart
unfolding microtile_place_of
returns-clause-apart c =
    let a = c.args in
    let is : 64 * c.microtile_number.result ≡ microtile_place_of a.tiling a.width a.cpp a.mx a.my = grind arith in
    subst (IsMicrotileApart a.tiling a.width a.cpp a.mx a.my) (sym is) (microtile_apart a.tiling a.width a.cpp a.mx a.my)
