use Rattle.std.proofs.Common.{◌≡◌, ◌<◌, ◌+◌, ◌*◌, ◌-◌, ◌++◌, [], take, inl, inr, refl, sym, ap, ◌∙◌, arith}
use Rattle.std.specs.Prelude.{if◌then◌else◌}
use Rattle.dumper.specs.{Text.is_blank, Text.row_line, Text.row_text, Text.rows_text, Parts.part_at, Parts.part_rows, Parts.alone}
use Rattle.dumper.proofs.{Rows.rows_on, Rows.row_alone, Rows.no_rows, Alone.row_text_alone}
use Rattle.dumper.proofs.lines.put_part.Goals as goal

pub loop-next-init : goal.loop-next-init
loop-next-init c =
    let memory = alone (part_at c.args.place c.args.bytes.now) in
    let from = c.args.place + 16 * c.args.row in
    let none : c.args.row - c.args.row ≡ 0 = omega arith in record {
      text = sym (ap (rows_text memory from) none ∙ no_rows memory from);
      from = omega arith;
      upto = c.requires.from;
      rows = omega (arith, c.div_ceil-rows.ensures);
      some = inr refl;
      within = omega arith;
      long = refl;
    }

pub loop-next-preserved : goal.loop-next-preserved
loop-next-preserved c =
    let bytes = c.args.bytes.now in
    let place = c.args.place in
    let memory = alone (part_at place bytes) in
    let from = place + 16 * c.args.row in
    let next = c.loop-next.next in
    let done = next - c.args.row in
    let before = c.loop-next.invariant.from in
    let below : next < part_rows (part_at place bytes) = omega (arith, c.loop-next-test.true, c.loop-next.invariant.rows) in
    let one_more : next + 1 - c.args.row ≡ done + 1 = omega (arith, before) in
    let at : from + 16 * done ≡ place + 16 * next = omega (arith, before) in record {
      text =
          c.put_row-at.ensures.text
          ∙ ap (λ row. take c.loop-next.at c.loop-next.piece ++ (if is_blank row then [] else row_line (place + 16 * next) row)) c.row_in.ensures
          ∙ ap (λ text. take c.loop-next.at c.loop-next.piece ++ text) (row_text_alone place next bytes below)
          ∙ ap (λ text. text ++ row_text memory (place + 16 * next)) c.loop-next.invariant.text
          ∙ ap (λ at. rows_text memory from done ++ row_text memory at) (sym at)
          ∙ ap (λ text. rows_text memory from done ++ text) (sym (row_alone memory (from + 16 * done)))
          ∙ sym (rows_on memory from done 1)
          ∙ ap (rows_text memory from) (sym one_more);
      from = omega (arith, before);
      upto = omega (arith, below);
      rows = c.loop-next.invariant.rows;
      some = inl (omega (arith, before));
      within = omega (arith, c.put_row-at.ensures.end, c.put_row-at.ensures.long, c.if-at-piece.true);
      long = c.put_row-at.ensures.long ∙ c.loop-next.invariant.long;
    }
