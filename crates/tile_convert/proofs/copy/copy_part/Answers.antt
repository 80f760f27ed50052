use Rattle.std.proofs.Common.{◌≡◌, ℕ, ◌+◌, ◌-◌, List, take, drop, sym, ap, subst, arith, ◌∙◌}
use Rattle.field_words.specs.Writes.{with_bytes}
use Rattle.tile_convert.specs.Steps.{IsPartCopied}
use Rattle.tile_convert.proofs.Parts.{part_copied}
use Rattle.tile_convert.proofs.copy.copy_part.Goals as goal

same_count : (from count : ℕ) → count ≡ from + count - from
same_count from count = omega arith

pub returns : goal.returns
returns c =
    let old : List ℕ = c.args.target.now in
    let rest : List ℕ = drop c.args.from c.args.source.now in
    let is : with_bytes old c.args.to (take c.args.count rest) ≡ c.put.new.target =
    ap (λ n. with_bytes old c.args.to (take n rest)) (same_count c.args.from c.args.count) ∙ sym c.put.ensures in
    subst (λ new. IsPartCopied c.args.source.now c.args.from old c.args.to c.args.count new) is
    (part_copied c.args.source.now c.args.from old c.args.to c.args.count c.requires.source c.requires.target)
