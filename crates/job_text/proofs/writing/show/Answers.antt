use Rattle.std.proofs.Common.{◌≡◌, refl, arith}
use Rattle.job_text.specs.Shown.{look_of, text_shown}
use Rattle.job_text.proofs.Again.{shown_again}
use Rattle.job_text.proofs.writing.show.Goals as goal

pub returns-clause-again : goal.returns-clause-again
unfolding text_shown
returns-clause-again c = λ all.
    let lines = c.in_ok-put_lines.ensures in
    let is : c.put_reason.new.out.items ≡ text_shown (look_of c.args.view) c.args.bytes.now lines.0 =
    rw (c.in_ok-put_reason.ensures, lines.1, c.new-out.ensures.items, c.is_refused_past.ensures) refl in
    shown_again (look_of c.args.view) c.args.bytes.now c.put_reason.new.out.items lines.0 all (λ i. omega (arith, c.type_inv.bytes i)) is
