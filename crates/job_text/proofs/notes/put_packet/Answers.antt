use Rattle.std.proofs.Common.{codes, drop}
use Rattle.std.specs.Prelude.{slice_index}
use Rattle.job_text.specs.{Names.named_text, Rows.packet_text, Notes.listed_text}
use Rattle.job_text.proofs.Texts.{of_job_more}
use Rattle.job_text.proofs.notes.put_packet.Goals as goal

pub returns : goal.returns
unfolding listed_text
returns c =
    rw (c.in_ok-put_named.ensures, c.in_ok-put_packet_row.ensures, c.byte_at.ensures, c.behind_opcode.ensures, c.in_ok-put_of_job.ensures)
    (of_job_more c.args.out.now.items c.args.job (codes "binner list: ") (packet_text (slice_index c.args.packet.now 0) (drop 1 c.args.packet.now)) (named_text c.args.buffer))
