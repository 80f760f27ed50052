use Rattle.std.proofs.{Common.sym, Common.◌∙◌, Common.arith, lemmas.Bool.Decides.nat_tests, lemmas.Result.err_from_is_err_and}
use Rattle.script.specs.Lines.{lines_of}
use Rattle.job_make.specs.Made.{text_bytes}
use Rattle.job_make.proofs.Steps.{both_none, line_step, line_fault, lines_end}
use Rattle.job_make.proofs.reading.make.Goals as goal

pub returns-in_err-put_part-clause-fault : goal.returns-in_err-put_part-clause-fault
returns-in_err-put_part-clause-fault c =
    let answer = err_from_is_err_and c.from_residual-in_err-put_part.result c.from_residual-in_err-put_part.ensures.1 in
    rw (answer.1, answer.2)
    (line_fault _ c.loop-rest.line c.loop-rest.inside c.loop-rest.out.items c.next_line-cut.result.first.now c.loop-rest.rest.now
    (text_bytes c.args.text.now) (lines_of c.next_line-cut.result.rest.now) c.in_err-put_part.field-0.0 c.next_line-cut.ensures.lines c.loop-rest.invariant.read
    c.in_err-put_part.ensures.fault)

pub loop-rest-preserved : goal.loop-rest-preserved
loop-rest-preserved c = record {
  line = omega (arith, c.loop-rest.invariant.line, c.next_line-cut.ensures.shorter);
  read = rw c.stays_inside-inside.ensures
      (line_step _ c.loop-rest.line c.loop-rest.inside c.loop-rest.out.items c.put_part.new.out.items c.next_line-cut.result.first.now
      c.loop-rest.rest.now (lines_of c.next_line-cut.result.rest.now) c.next_line-cut.ensures.lines c.in_ok-put_part.ensures.bytes
      ∙ c.loop-rest.invariant.read);
}

pub returns-clause-bytes : goal.returns-clause-bytes
returns-clause-bytes c =
    sym (both_none (text_bytes c.args.text.now)) ∙ sym c.loop-rest.invariant.read
    ∙ lines_end _ c.loop-rest.line c.loop-rest.inside c.loop-rest.out.items c.loop-rest.rest.now
    (grind (arith, nat_tests, c.is_empty.ensures, c.loop-rest-test.false))
