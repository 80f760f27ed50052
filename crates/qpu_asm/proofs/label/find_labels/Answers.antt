use Rattle.std.proofs.{Common.arith, lemmas.Bool.Decides.nat_tests}
use Rattle.qpu_asm.specs.Seen.{line_seen}
use Rattle.qpu_asm.proofs.Assembling.{lines_first, labels_begin, labels_step, labels_end, size_low}
use Rattle.qpu_asm.proofs.label.find_labels.Goals as goal

pub loop-rest-init : goal.loop-rest-init
loop-rest-init c = record { lines = omega arith; indexes = omega arith; same = labels_begin (record { spots = c.new.result }) c.args.text.now c.new.ensures.empty }

pub loop-rest-preserved : goal.loop-rest-preserved
loop-rest-preserved c =
    let first = line_seen c.read_line-first.result in
    record {
      lines = omega (arith, c.next_line-cut.ensures.shorter);
      indexes = omega (arith, size_low first, c.size-index.ensures);
      same =
          labels_step _ _ _ _ _ first _ _ _ (lines_first _ _ _ _ c.next_line-cut.ensures.lines c.read_line-first.ensures) c.size-index.ensures c.in_ok-add_line.ensures
          c.loop-rest.invariant.same;
    }

pub returns : goal.returns
returns c = labels_end _ _ c.loop-rest.rest.now _ _ (grind (arith, nat_tests, c.is_empty.ensures, c.loop-rest-test.false)) c.loop-rest.invariant.same
