use Rattle.std.proofs.Common.{◌≡◌, ◌+◌, ◌≤◌, sym, subst, arith, ◌∙◌}
use Rattle.tile_convert.specs.Picture.{place_in}
use Rattle.tile_convert.specs.Steps.{IsCopied}
use Rattle.tile_convert.proofs.Places.{pixel_fits}
use Rattle.tile_convert.proofs.copy.copy_rows.Goals as goal

pub copy_row-requires-clause-source : goal.copy_row-requires-clause-source
copy_row-requires-clause-source c x x_in =
    subst (λ n. place_in c.args.r.from c.args.r.width c.args.r.cpp x c.loop-y.y + c.args.r.cpp ≤ n) (sym c.requires.source)
    (pixel_fits c.args.r.from c.args.r.width c.args.r.height c.args.r.cpp x c.loop-y.y c.requires.within.0 x_in c.loop-y-test.true)

pub copy_row-requires-clause-target : goal.copy_row-requires-clause-target
copy_row-requires-clause-target c x x_in =
    subst (λ n. place_in c.args.r.to c.args.r.width c.args.r.cpp x c.loop-y.y + c.args.r.cpp ≤ n) (sym (c.loop-y.invariant.size ∙ c.requires.target))
    (pixel_fits c.args.r.to c.args.r.width c.args.r.height c.args.r.cpp x c.loop-y.y c.requires.within.0 x_in c.loop-y-test.true)

pub returns : goal.returns
returns c =
    let end : c.loop-y.y ≡ c.args.r.height = omega arith in
    subst (IsCopied c.args.r.from c.args.r.to c.args.r.width c.args.r.cpp c.args.source.now c.args.target.now c.loop-y.target 0) end c.loop-y.invariant
