use Rattle.std.proofs.{Common.sym, Common.◌∙◌, Common.arith, lemmas.Bool.Decides.nat_tests, lemmas.Result.err_from_is_err_and}
use Rattle.job_make.specs.{Made.words_of, Made.line_read, Seen.sections_in}
use Rattle.job_make.proofs.Steps.{word_step, word_fault, words_end}
use Rattle.job_make.proofs.sections.Sections.put_line.Goals as goal

pub returns-in_err-put_word-clause-fault : goal.returns-in_err-put_word-clause-fault
returns-in_err-put_word-clause-fault c =
    let answer = err_from_is_err_and c.from_residual.result c.from_residual.ensures.1 in
    rw (answer.1, answer.2)
    (word_fault (sections_in c.args.self.now) c.args.line c.loop-rest.column c.loop-rest.out.items c.args.out.now.items c.next_word-cut.result.first.now c.loop-rest.rest.now
    (line_read (sections_in c.args.self.now) c.args.line c.args.text.now) (words_of c.next_word-cut.result.rest.now) c.in_err-put_word.field-0.0 c.next_word-cut.ensures.words
    c.loop-rest.invariant.read c.in_err-put_word.ensures.fault)

pub loop-rest-preserved : goal.loop-rest-preserved
loop-rest-preserved c = record {
  column = omega (arith, c.loop-rest.invariant.column, c.next_word-cut.ensures.inside, c.next_word-cut.ensures.shorter);
  read = word_step (sections_in c.args.self.now) c.args.line c.loop-rest.column c.loop-rest.out.items c.put_word.new.out.items c.next_word-cut.result.first.now c.loop-rest.rest.now
      (words_of c.next_word-cut.result.rest.now) c.next_word-cut.ensures.words c.in_ok-put_word.ensures.bytes
      ∙ c.loop-rest.invariant.read;
}

pub returns-clause-bytes : goal.returns-clause-bytes
returns-clause-bytes c =
    sym c.loop-rest.invariant.read
    ∙ words_end (sections_in c.args.self.now) c.args.line c.loop-rest.column c.loop-rest.out.items c.loop-rest.rest.now (grind (arith, nat_tests, c.is_empty.ensures, c.loop-rest-test.false))
