use Rattle.std.proofs.Common.{◌+◌, ◌∷◌, [], length, drop, Ok, sym, ap, ◌∙◌, arith}
use Rattle.std.proofs.lemmas.List.{take_rest}
use Rattle.job_make.specs.Made.{both, digits_read}
use Rattle.job_make.proofs.Steps.{both_both, both_err, digits_byte, digits_fault, digits_end, byte_more}
use Rattle.job_make.proofs.reading.put_digits.Goals as goal

pub returns-in-Err-clause-fault : goal.returns-in-Err-clause-fault
returns-in-Err-clause-fault c =
    let cut = c.in-Some.ensures.cases in
    let fault = sym c.byte_at.ensures ∙ c.in-Err.is in
    both_err c.args.out.now.items (digits_read c.args.line c.args.column c.args.word.now) c.in-Err.fault
    (sym c.loop-first.invariant.read
    ∙ ap (λ r. both (Ok c.loop-first.out.items) (digits_read c.args.line c.loop-first.at r)) cut.0
    ∙ ap (both (Ok c.loop-first.out.items)) (digits_fault c.args.line c.loop-first.at c.in-Some.first.now c.in-Some.others.now c.in-Err.fault fault))

pub loop-first-preserved : goal.loop-first-preserved
loop-first-preserved c =
    let out = c.loop-first.out.items in
    let line = c.args.line in
    let at = c.loop-first.at in
    let others = c.in-Some.others.now in
    let byte = c.in-Ok.byte in
    let cut = c.in-Some.ensures.cases in
    let is = sym c.byte_at.ensures ∙ c.in-Ok.is in
    let rest = take_rest others 1 in
    record {
      column = omega (arith, c.loop-first.invariant.column, cut.1, byte_more line at c.in-Some.first.now byte others is, ap length rest);
      read = rw (c.in_ok-push-in-Ok.ensures.items, rest)
          (sym (both_both out (byte ∷ []) (digits_read line (at + 2) (drop 1 others)))
          ∙ ap (both (Ok out)) (sym (digits_byte line at c.in-Some.first.now byte others is))
          ∙ ap (λ r. both (Ok out) (digits_read line at r)) (sym cut.0)
          ∙ c.loop-first.invariant.read);
    }

pub returns-clause-bytes : goal.returns-clause-bytes
returns-clause-bytes c =
    sym c.loop-first.invariant.read
    ∙ digits_end c.args.line c.loop-first.at c.loop-first.out.items c.loop-first.rest.now (omega (arith, c.in_default.ensures.cases))
