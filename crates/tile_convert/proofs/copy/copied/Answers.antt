use Rattle.std.proofs.Common.{◌≡◌, length, drop, subst, sym, ◌∙◌, arith}
use Rattle.std.proofs.lemmas.List.{take_at}
use Rattle.tile_convert.specs.{Picture.IsCopy, Steps.IsCopied}
use Rattle.tile_convert.proofs.Whole.{copied_whole}
use Rattle.tile_convert.proofs.copy.copied.Goals as goal

pub returns : goal.returns
returns c =
    let a = c.args in
    let made = c.in_ok-target.target in
    let new = c.copy_rows.new.target in
    let blank = c.deref_mut.ensures.value ∙ c.in_ok-target.ensures.items_if_clones_equal (λ y same. same) in
    let long : length new ≡ made.len = omega (arith, c.copy_rows.ensures.size, c.deref_mut.ensures.len) in
    subst (IsCopy a.r.from a.r.to a.r.width a.r.height a.r.cpp a.source.now) (sym (take_at new (drop (length new) made.items) made.len long))
    (copied_whole a.r.from a.r.to a.r.width a.r.height a.r.cpp c.picture_size.result a.source.now new c.picture_size.ensures.value
    (subst (λ before. IsCopied a.r.from a.r.to a.r.width a.r.cpp a.source.now before new 0 a.r.height) blank c.copy_rows.ensures))
