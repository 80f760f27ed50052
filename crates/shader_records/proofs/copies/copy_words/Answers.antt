-- The bytes of the source are those of its words.
use Rattle.std.proofs.Common.{◌≡◌, ◌+◌, ◌-◌, ◌*◌, take, drop, ap, ◌∙◌, arith}
use Rattle.field_words.specs.Writes.{with_bytes}
use Rattle.shader_records.proofs.Spelled.{words_are}
use Rattle.shader_records.proofs.copies.copy_words.Goals as goal

pub returns : goal.returns
returns c =
    let source = c.args.source.now in
    let from = c.args.from in
    let size : (from + 4 * c.args.count) - from ≡ 4 * c.args.count = omega arith in
    c.put_bytes.ensures
    ∙ ap (λ n. with_bytes c.args.out.now c.args.at (take n (drop from source))) size
    ∙ ap (λ t. with_bytes c.args.out.now c.args.at t) (words_are source from c.args.count (λ i. omega (arith, c.type_inv.source i)) c.requires.inside)
