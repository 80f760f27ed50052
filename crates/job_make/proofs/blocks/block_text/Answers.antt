use Rattle.std.proofs.{Common.ap, Common.Err, Common.sym, Common.◌∙◌, Common.arith, lemmas.Bool.Decides.nat_tests}
use Rattle.script.specs.Lines.{lines_of}
use Rattle.job_make.specs.Made.{block_text}
use Rattle.job_make.proofs.BlockSteps.{block_ends, block_step, block_open}
use Rattle.job_make.proofs.blocks.block_text.Goals as goal

pub returns-then-says-clause-text : goal.returns-then-says-clause-text
returns-then-says-clause-text c =
    block_ends c.args.line c.loop-rest.text.items c.loop-rest.rest.now c.next_line-cut.result.first.now (lines_of c.next_line-cut.result.rest.now)
    (block_text c.args.line (lines_of c.args.lines.now)) c.next_line-cut.ensures.lines (sym c.says.ensures ∙ c.if-says.true) c.loop-rest.invariant

pub loop-rest-preserved : goal.loop-rest-preserved
loop-rest-preserved c =
    block_step c.args.line c.loop-rest.text.items c.put_asm_line.new.out.items c.loop-rest.rest.now c.next_line-cut.result.first.now
    (lines_of c.next_line-cut.result.rest.now) c.next_line-cut.ensures.lines (sym c.says.ensures ∙ c.if-says.false) c.in_ok-put_asm_line.ensures
    ∙ c.loop-rest.invariant

pub returns-clause-fault : goal.returns-clause-fault
returns-clause-fault c =
    block_open c.args.line c.loop-rest.text.items c.loop-rest.rest.now (block_text c.args.line (lines_of c.args.lines.now))
    (grind (arith, nat_tests, c.is_empty.ensures, c.loop-rest-test.false)) c.loop-rest.invariant
    ∙ ap Err (sym c.new.ensures)
