use Rattle.std.proofs.Common.{◌<◌, ◌+◌, ◌*◌, ◌-◌, refl, sym, subst, ◌∙◌, arith}
use Rattle.std.specs.Io.KnownBytes.{Appends}
use Rattle.job_io.specs.Traffic.{AppendsFront}
use Rattle.dumper.specs.{Text.rows_text, Parts.part_at, Parts.part_rows, Parts.part_text, Parts.alone}
use Rattle.dumper.proofs.Rows.{no_rows, rows_upto}
use Rattle.commands.proofs.Appending.{none_appended, both_appended, front_of_first, front_of_second, on_err}
use Rattle.commands.proofs.reply.write_part.Goals as goal

pub loop-row-init : goal.loop-row-init
loop-row-init g c = record {
  written = subst (Appends (g.K.Sink.held c.args.sink.now) (g.K.Sink.held c.args.sink.now)) (sym (no_rows (alone (part_at c.args.place c.args.bytes.now)) c.args.place)) (none_appended (g.K.Sink.held c.args.sink.now));
  steady = refl;
  upto = omega arith;
  rows = omega (arith, c.div_ceil-rows.ensures);
  room = c.requires.room;
  long = refl;
}

pub returns-in_err-write_all-clause-cut : goal.returns-in_err-write_all-clause-cut
unfolding part_text
returns-in_err-write_all-clause-cut g c =
    let memory = alone (part_at c.args.place c.args.bytes.now) in
    let place = c.args.place in
    let rows = part_rows (part_at c.args.place c.args.bytes.now) in
    let next = c.put_part-filled.result.row in
    let less : c.loop-row.row < next = c.put_part-filled.ensures.more (omega (arith, c.loop-row-test.true, c.loop-row.invariant.rows)) in
    let inside = c.put_part-filled.ensures.inside in
    let before = g.K.Sink.held c.args.sink.now in
    let now = g.K.Sink.held c.write_all.new.sink in
    let piece = subst (AppendsFront (g.K.Sink.held c.loop-row.sink) now) c.put_part-filled.ensures.text c.in_err-write_all.ensures.front in
    let both = front_of_second before (g.K.Sink.held c.loop-row.sink) now _ _ c.loop-row.invariant.written piece in
    let upto = subst (AppendsFront before now) (rows_upto memory place c.loop-row.row next (omega (arith, less))) both in
    let all = front_of_first before now (rows_text memory place next) (rows_text memory (place + 16 * next) (rows - next)) upto in
    on_err c.from_residual.result (subst (AppendsFront before now) (rows_upto memory place next rows inside) all)

pub loop-row-preserved : goal.loop-row-preserved
loop-row-preserved g c =
    let memory = alone (part_at c.args.place c.args.bytes.now) in
    let place = c.args.place in
    let next = c.put_part-filled.result.row in
    let less : c.loop-row.row < next = c.put_part-filled.ensures.more (omega (arith, c.loop-row-test.true, c.loop-row.invariant.rows)) in
    let before = g.K.Sink.held c.args.sink.now in
    let now = g.K.Sink.held c.write_all.new.sink in
    let piece = subst (Appends (g.K.Sink.held c.loop-row.sink) now) c.put_part-filled.ensures.text c.in_ok-write_all.ensures.ok in
    let both = both_appended before (g.K.Sink.held c.loop-row.sink) now _ _ c.loop-row.invariant.written piece in record {
      written = subst (Appends before now) (rows_upto memory place c.loop-row.row next (omega (arith, less))) both;
      steady = c.in_ok-write_all.ensures.steady ∙ c.loop-row.invariant.steady;
      upto = c.put_part-filled.ensures.inside;
      rows = c.loop-row.invariant.rows;
      room = omega (arith, c.put_part-filled.ensures.long, c.loop-row.invariant.room);
      long = c.put_part-filled.ensures.long ∙ c.loop-row.invariant.long;
    }
