use Rattle.std.proofs.{Common.true, Common.false, Common.sym, Common.◌∙◌, Common.arith, lemmas.Bool.Decides.nat_tests}
use Rattle.script.specs.Lines.{lines_of}
use Rattle.job_make.specs.Made.{name_on}
use Rattle.job_make.proofs.SectionSteps.{found, size_step, size_at_name, size_fault, size_end}
use Rattle.job_make.proofs.reading.size_from.Goals as goal

pub returns-then-is_some : goal.returns-then-is_some
returns-then-is_some c =
    let named = found c.name_on.result (name_on c.loop-rest.inside c.next_line-cut.result.first.now) true c.name_on.ensures
    (sym c.is_some.ensures ∙ c.if-is_some.true) in
    let none = size_at_name c.loop-rest.line c.loop-rest.inside c.next_line-cut.result.first.now c.loop-rest.rest.now
    (lines_of c.next_line-cut.result.rest.now) c.next_line-cut.ensures.lines named in
    omega (arith, c.len-size.ensures, c.loop-rest.out.ok, c.loop-rest.invariant.count, none)

pub returns-in-Err-Fault : goal.returns-in-Err-Fault
returns-in-Err-Fault c =
    let plain = found c.name_on.result (name_on c.loop-rest.inside c.next_line-cut.result.first.now) false c.name_on.ensures
    (sym c.is_some.ensures ∙ c.if-is_some.false) in
    let none = size_fault c.loop-rest.line c.loop-rest.inside c.next_line-cut.result.first.now c.loop-rest.rest.now
    (lines_of c.next_line-cut.result.rest.now) c.in-Err-Fault.field-0 c.in-Err-Fault.field-0-0 c.next_line-cut.ensures.lines plain
    c.in-Err-Fault.field-0-is c.in-Err-Fault.ensures.fault in
    omega (arith, c.len-size.ensures, c.loop-rest.out.ok, c.loop-rest.invariant.count, none)

pub loop-rest-preserved : goal.loop-rest-preserved
loop-rest-preserved c =
    let plain = found c.name_on.result (name_on c.loop-rest.inside c.next_line-cut.result.first.now) false c.name_on.ensures
    (sym c.is_some.ensures ∙ c.if-is_some.false) in
    record {
      line = omega (arith, c.loop-rest.invariant.line, c.next_line-cut.ensures.shorter);
      count = rw c.stays_inside-inside.ensures
          (size_step c.loop-rest.line c.loop-rest.inside c.loop-rest.out.items c.put_part.new.out.items c.next_line-cut.result.first.now
          c.loop-rest.rest.now (lines_of c.next_line-cut.result.rest.now) c.next_line-cut.ensures.lines plain c.in-Ok.ensures.bytes
          ∙ c.loop-rest.invariant.count);
    }

pub returns : goal.returns
returns c =
    let none = size_end c.loop-rest.line c.loop-rest.inside c.loop-rest.rest.now (grind (arith, nat_tests, c.is_empty.ensures, c.loop-rest-test.false)) in
    omega (arith, c.len.ensures, c.loop-rest.out.ok, c.loop-rest.invariant.count, none)
