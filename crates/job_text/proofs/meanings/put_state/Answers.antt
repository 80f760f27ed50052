use Rattle.std.proofs.Common.{codes, decimal}
use Rattle.packets.specs.StateWord.{attribute_count}
use Rattle.job_text.specs.Meanings.{extended_text, state_text}
use Rattle.job_text.proofs.Texts.{three_parts}
use Rattle.job_text.proofs.meanings.put_state.Goals as goal

pub returns : goal.returns
unfolding state_text
returns c =
    rw (
      c.in_ok-extend_from_slice-2.ensures.items,
      c.as_bytes.ensures.value,
      c.extended_text.ensures,
      c.in_ok-put_number.ensures,
      c.attribute_count.ensures.value,
      c.in_ok-extend_from_slice.ensures.items,
    ) (three_parts c.args.out.now.items (codes " (attributes: ") (decimal (attribute_count c.args.number)) (extended_text c.args.number))
