use Rattle.std.proofs.Common.{◌≡◌, ◌∙◌, ◌+◌, ◌-◌, ◌++◌, ap, take, drop, arith}
use Rattle.field_words.specs.Writes.{zeros}
use Rattle.dumper.proofs.Alone.{filled_is}
use Rattle.dumper.proofs.lines.row_in.Goals as goal

pub returns : goal.returns
unfolding zeros
returns c =
    let from = c.args.from in
    let bytes = c.args.bytes.now in
    let len = c.min-len.result in
    let many : from + len - from ≡ len = omega arith in
    ap (λ front. front ++ drop len (zeros 16)) (c.copy_from_slice.ensures.after ∙ ap (λ n. take n (drop from bytes)) many)
    ∙ filled_is 16 from len bytes c.requires c.min-len.ensures
