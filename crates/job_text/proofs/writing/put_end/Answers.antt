use Rattle.std.proofs.Common.{true, codes, not}
use Rattle.job_text.specs.{Shown.reason_text, Shown.below_text, Shown.end_text}
use Rattle.job_text.proofs.Texts.{four_parts}
use Rattle.job_text.proofs.writing.put_end.Goals as goal
use Rattle.qpu_text.specs.Pieces.{if_so}

pub returns-in_ok-put_reason : goal.returns-in_ok-put_reason
unfolding end_text below_text
returns-in_ok-put_reason c =
    let view = c.args.view in
    rw (
      c.if-is.true,
      ← four_parts c.args.out.now.items (if_so (not view.behind) (codes " <== refused here")) (codes "\n") (reason_text view.behind (codes "<== refused here")) (reason_text true view.why.now),
      ← c.in_ok-put_if.ensures,
      ← c.in_ok-extend_from_slice.ensures.items,
      ← c.in_ok-put_reason.ensures,
    )
    c.put_reason-then-is.ensures

pub returns-in_ok-extend_from_slice-2 : goal.returns-in_ok-extend_from_slice-2
unfolding end_text below_text reason_text
returns-in_ok-extend_from_slice-2 c = rw c.if-is.false c.in_ok-extend_from_slice-2.ensures.items
