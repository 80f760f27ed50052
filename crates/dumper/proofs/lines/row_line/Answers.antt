use Rattle.std.proofs.Common.{◌∙◌, ap, arith}
use Rattle.field_words.specs.Writes.{with_bytes}
use Rattle.hex.specs.Hex.{encode_lower}
use Rattle.dumper.proofs.Rows.{empty_line, line_is}
use Rattle.dumper.proofs.lines.row_line.Goals as goal

pub returns : goal.returns
returns c =
    let row = c.args.row.now in
    c.put_digits-2.ensures
    ∙ ap (λ line. with_bytes line 9 (encode_lower row)) (c.put_digits.ensures ∙ ap (λ bytes. with_bytes empty_line 0 (encode_lower bytes)) c.to_be_bytes.ensures)
    ∙ line_is c.args.place row (omega (arith, c.ranges.place.fits)) c.told-row
