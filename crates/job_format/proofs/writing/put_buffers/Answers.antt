-- One more is appended; at the end all are there.
use Rattle.std.proofs.{Common.◌≡◌, Common.get_or, Common.subst, lemmas.List.get_or_default}
use Rattle.buffer_table.specs.{Table.no_buffer, declared.buffer.Buffer.Buffer}
use Rattle.std.specs.List.{AllByRecursion}
use Rattle.job_format.specs.{Text.buffer_text, File.BufferFits}
use Rattle.job_format.proofs.Items.{more, all_taken}
use Rattle.job_format.proofs.writing.put_buffers.Goals as goal

pub loop-buffer-preserved : goal.loop-buffer-preserved
loop-buffer-preserved c =
    let x : Buffer = get_or c.args.buffers.now c.loop-buffer.buffer-index no_buffer in
    let met : x ≡ get_or c.args.buffers.now c.loop-buffer.buffer-index x = get_or_default c.args.buffers.now c.loop-buffer.buffer-index no_buffer x c.loop-buffer-test.true in
    more buffer_text BufferFits c.args.buffers.now c.loop-buffer.buffer-index x c.args.out.now.items c.loop-buffer.out.items c.put_buffer.new.out.items c.loop-buffer-test.true met c.loop-buffer.invariant
    c.in_ok-put_buffer.ensures.text c.in_ok-put_buffer.ensures.fits

pub returns-clause-fits : goal.returns-clause-fits
returns-clause-fits c = subst (AllByRecursion BufferFits) (all_taken c.args.buffers.now c.loop-buffer.buffer-index c.loop-buffer-test.false) c.loop-buffer.invariant.1
