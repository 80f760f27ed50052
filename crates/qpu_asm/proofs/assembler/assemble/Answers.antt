use Rattle.std.proofs.{Common.sym, Common.subst, Common.◌∙◌, Common.arith, lemmas.Bool.Decides.nat_tests, lemmas.Result.err_from_is_err_and}
use Rattle.qpu_asm.specs.{Assembly.IsFaultOf}
use Rattle.qpu_asm.proofs.Assembling.{lines_first, words_begin, words_step, fault_step, words_end}
use Rattle.qpu_asm.proofs.Faults.{answers_words, answers_least}
use Rattle.qpu_asm.proofs.assembler.assemble.Goals as goal

pub loop-rest-init : goal.loop-rest-init
loop-rest-init c = record {
  lines = omega arith;
  indexes = omega arith;
  same = words_begin _ c.args.text.now c.new-words.result.items c.in_ok-labels.ensures c.new-words.ensures.items;
}

pub returns-in_err-put_line-clause-fault : goal.returns-in_err-put_line-clause-fault
returns-in_err-put_line-clause-fault c =
    let answer = err_from_is_err_and c.from_residual-in_err-put_line.result c.from_residual-in_err-put_line.ensures.1 in
    rw (answer.1, answer.2) (subst (λ all. IsFaultOf all c.in_err-put_line.field-0.0) c.loop-rest.invariant.same
    (fault_step _ _ _ _ _ _ c.in_err-put_line.field-0.0
    (lines_first c.loop-rest.rest.now _ _ _ c.next_line-cut.ensures.lines c.read_line.ensures) c.in_err-put_line.ensures.fault))

pub returns-in_err-put_line-clause-least : goal.returns-in_err-put_line-clause-least
returns-in_err-put_line-clause-least c =
    let answer = err_from_is_err_and c.from_residual-in_err-put_line.result c.from_residual-in_err-put_line.ensures.1 in
    answers_least _ _ (returns-in_err-put_line-clause-fault c) (λ made is. cc)

pub loop-rest-preserved : goal.loop-rest-preserved
loop-rest-preserved c =
    let lines = lines_first c.loop-rest.rest.now _ _ _ c.next_line-cut.ensures.lines c.read_line.ensures in
    record {
      lines = omega (arith, c.next_line-cut.ensures.shorter);
      indexes = omega (arith, c.in_ok-put_line.ensures.more);
      same = words_step _ _ _ _ _ _ _ lines c.in_ok-put_line.ensures.words ∙ c.loop-rest.invariant.same;
    }

pub returns-clause-words : goal.returns-clause-words
returns-clause-words c =
    sym c.loop-rest.invariant.same ∙ words_end _ c.loop-rest.rest.now _ _ (grind (arith, nat_tests, c.is_empty.ensures, c.loop-rest-test.false))

pub returns-clause-least : goal.returns-clause-least
returns-clause-least c = answers_words _ _ (returns-clause-words c)
