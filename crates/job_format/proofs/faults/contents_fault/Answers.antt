-- Contents without a fault leave the decision to those after them; the first fault ends it.
use Rattle.std.proofs.Common.{◌≡◌, sym, ◌∙◌, ap, arith}
use Rattle.field_words.proofs.Questions.{each_on, each_stop, each_end}
use Rattle.field_words.specs.Questions.{each, first_of}
use Rattle.job_format.specs.{Faults.content_questions, Offsets.job_count, Offsets.job_offset, Offsets.content_offset}
use Rattle.job_format.proofs.Standing.{content_offset_first, handles_offset_first}
use Rattle.job_format.proofs.faults.contents_fault.Goals as goal

pub loop-b-init : goal.loop-b-init
loop-b-init c =
    let at : c.job_offset-at.result ≡ job_offset c.args.bytes.now (job_count c.args.bytes.now) = omega (arith, c.job_offset-at.ensures, c.requires.header.buffers_named, c.requires.header.jobs_named) in (
      ap (λ n. first_of (each (content_questions c.args.bytes.now) 0 n)) (omega arith),
      (at ∙ sym (content_offset_first c.args.bytes.now), omega (arith, at, c.requires.header.jobs_named, c.requires.before)),
    )

pub loop-b-preserved : goal.loop-b-preserved
loop-b-preserved c =
    (each_on (content_questions c.args.bytes.now) c.loop-b.b c.args.buffers c.loop-b-test.true c.in-Ok.ensures.0 ∙ c.loop-b.invariant.0, c.in-Ok.ensures.1)

pub returns-in-Err : goal.returns-in-Err
returns-in-Err c =
    sym c.loop-b.invariant.0 ∙ each_stop (content_questions c.args.bytes.now) c.loop-b.b c.args.buffers c.in-Err.fault c.loop-b-test.true c.in-Err.ensures

pub returns : goal.returns
returns c =
    let last : c.loop-b.b ≡ c.args.buffers = omega (arith, c.loop-b-test.false, c.loop-b.auto.b-end) in (
      sym c.loop-b.invariant.0 ∙ each_end (content_questions c.args.bytes.now) c.loop-b.b c.args.buffers c.loop-b-test.false,
      (
        c.loop-b.invariant.1.0 ∙ ap (content_offset c.args.bytes.now) (last ∙ c.requires.header.buffers_named) ∙ sym (handles_offset_first c.args.bytes.now),
        c.loop-b.invariant.1.1,
      ),
    )
