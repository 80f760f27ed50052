-- One more is put.
use Rattle.std.proofs.{Common.◌≡◌, Common.get_or, lemmas.List.get_or_default}
use Rattle.buffer_table.specs.{Table.no_buffer, declared.buffer.Buffer.Buffer}
use Rattle.job_format.specs.Text.{buffer_text}
use Rattle.job_session.proofs.Texts.{text_more}
use Rattle.job_session.proofs.job_file.put_buffers.Goals as goal

pub loop-buffer-preserved : goal.loop-buffer-preserved
loop-buffer-preserved c =
    let x : Buffer = get_or c.args.buffers.now c.loop-buffer.buffer-index no_buffer in
    let met : x ≡ get_or c.args.buffers.now c.loop-buffer.buffer-index x = get_or_default c.args.buffers.now c.loop-buffer.buffer-index no_buffer x c.loop-buffer-test.true in
    text_more buffer_text c.args.buffers.now c.loop-buffer.buffer-index x c.args.file.now.items c.loop-buffer.file.items c.put_buffer.new.file.items c.loop-buffer-test.true met c.loop-buffer.invariant
    c.in_ok-put_buffer.ensures
