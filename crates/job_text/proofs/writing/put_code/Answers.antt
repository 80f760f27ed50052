use Rattle.std.proofs.Common.{◌≡◌, ◌≢◌, ℕ, ◌+◌, ◌-◌, ◌≤◌, min, length, sym, subst, arith}
use Rattle.std.proofs.lemmas.Bool.{eqb-true, eqb-false}
use Rattle.job_text.specs.Cuts.{AreLines}
use Rattle.job_text.specs.Shown.{look_of}
use Rattle.job_text.proofs.Pieces.{line_lines, lines_step, no_lines}
use Rattle.job_text.proofs.writing.put_code.Goals as goal

-- where the next line begins
next_at : (at all rest front back : ℕ) → back + front ≡ rest → rest ≤ all → at + (all - rest) + front ≡ at + (all - back)
next_at at all rest front back sum few = omega (arith, sum, few)

pub loop-rest-preserved : goal.loop-rest-preserved
loop-rest-preserved c =
    let front = c.split_at.result.0.now in
    let back = c.split_at.result.1.now in
    let rest = c.loop-rest.rest.now in
    let code = c.args.code.bytes.now in
    let at = c.args.code.at + (length code - length rest) in
    let some : length rest ≢ 0 = eqb-false (length rest) 0 (sym c.loop-rest-test.ensures) in
    let size : c.min.result ≡ min (length rest) 8 = c.min.ensures in
    let here = line_lines (look_of c.args.view) c.loop-rest.out.items c.put_line.new.out.items front at _ c.in_ok-put_line.ensures in
    let sum : length back + length front ≡ length rest = omega (arith, c.split_at.ensures.front_len, c.split_at.ensures.back_len) in
    let few : length rest ≤ length code = omega (arith, c.loop-rest.invariant.few) in
    record {
      few = omega (arith, c.loop-rest.invariant.few, c.split_at.ensures.back_len, size, some);
      lines = λ new more.
          lines_step (look_of c.args.view) c.args.out.now.items c.loop-rest.out.items c.put_line.new.out.items code rest front back c.args.code.at at (sym c.split_at.ensures.by_index.0) here
          c.loop-rest.invariant.lines new
          (subst (λ n. AreLines (look_of c.args.view) c.put_line.new.out.items new n back) (sym (next_at c.args.code.at (length code) (length rest) (length front) (length back) sum few)) more);
    }

pub returns : goal.returns
returns c =
    let none : length c.loop-rest.rest.now ≡ 0 = eqb-true (length c.loop-rest.rest.now) 0 (sym c.loop-rest-test.ensures) in
    c.loop-rest.invariant.lines c.loop-rest.out.items (no_lines (look_of c.args.view) c.loop-rest.out.items c.loop-rest.rest.now (c.args.code.at + (length c.args.code.bytes.now - length c.loop-rest.rest.now)) none)
