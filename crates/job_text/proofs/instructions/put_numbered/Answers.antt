use Rattle.std.proofs.Common.{codes, decimal}
use Rattle.job_text.specs.Notes.{numbered_text}
use Rattle.job_text.proofs.Texts.{five_parts}
use Rattle.job_text.proofs.instructions.put_numbered.Goals as goal

pub returns : goal.returns
unfolding numbered_text
returns c =
    rw (
      c.in_ok-extend_from_slice-3.ensures.items,
      c.in_ok-put_number-2.ensures,
      c.in_ok-extend_from_slice-2.ensures.items,
      c.in_ok-put_number.ensures,
      c.in_ok-extend_from_slice.ensures.items,
    ) (five_parts c.args.out.now.items (codes "buffer ") (decimal c.args.buffer) (codes " instruction ") (decimal c.args.index) (codes ": "))
