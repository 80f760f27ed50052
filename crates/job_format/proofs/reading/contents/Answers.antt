-- The contents of a buffer end before those of the last do, and so inside the file.
use Rattle.std.proofs.Common.{◌≡◌, ◌+◌, ap, sym, ◌∙◌, arith}
use Rattle.job_format.specs.{Offsets.content_offset, Offsets.content_size, Reading.bytes_cut, Reading.contents_at}
use Rattle.job_format.proofs.Standing.{content_ends, content_offset_step, contents_inside}
use Rattle.job_format.proofs.Listed.{contents_more, one_more_seen}
use Rattle.job_format.proofs.reading.contents.Goals as goal

pub bytes_at-requires : goal.bytes_at-requires
bytes_at-requires c = record {
  inside = let ends = content_ends c.args.bytes.now c.loop-b.b c.args.buffers c.loop-b-test.true in
      let inside = contents_inside c.args.bytes.now c.args.buffers c.args.jobs c.requires.whole in
      omega (arith, ends, c.loop-b.invariant.0, c.content_size-size.ensures, inside);
}

pub overflow_add-at : goal.overflow_add-at
overflow_add-at c =
    let ends = content_ends c.args.bytes.now c.loop-b.b c.args.buffers c.loop-b-test.true in
    let inside = contents_inside c.args.bytes.now c.args.buffers c.args.jobs c.requires.whole in
    grind (arith, ends, c.loop-b.invariant.0, c.content_size-size.ensures, inside)

pub loop-b-preserved : goal.loop-b-preserved
loop-b-preserved c =
    let at : c.loop-b.at + c.content_size-size.result ≡ content_offset c.args.bytes.now (c.loop-b.b + 1) =
    ap (λ p. p + c.content_size-size.result) c.loop-b.invariant.0 ∙ ap (λ s. content_offset c.args.bytes.now c.loop-b.b + s) c.content_size-size.ensures ∙ sym (content_offset_step c.args.bytes.now c.loop-b.b) in
    let one : c.bytes_at.result.now ≡ bytes_cut c.args.bytes.now (content_offset c.args.bytes.now c.loop-b.b) (content_size c.args.bytes.now c.loop-b.b) =
    c.bytes_at.ensures ∙ ap (λ p. bytes_cut c.args.bytes.now p c.content_size-size.result) c.loop-b.invariant.0 ∙ ap (bytes_cut c.args.bytes.now (content_offset c.args.bytes.now c.loop-b.b)) c.content_size-size.ensures in (
      at,
      one_more_seen (λ v. v.now) c.loop-b.contents.items c.push.new.self.items c.bytes_at.result (contents_at c.args.bytes.now c.loop-b.b)
          (bytes_cut c.args.bytes.now (content_offset c.args.bytes.now c.loop-b.b) (content_size c.args.bytes.now c.loop-b.b))
          c.in_ok-push.ensures.items c.loop-b.invariant.1 one
          ∙ sym (contents_more c.args.bytes.now c.loop-b.b),
    )
