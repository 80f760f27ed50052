-- Parts without a fault leave the decision to those after them; the first fault ends it.
use Rattle.std.proofs.Common.{◌≡◌, sym, ◌∙◌, ap, arith}
use Rattle.field_words.proofs.Questions.{each_on, each_stop, each_end}
use Rattle.field_words.specs.Questions.{each, first_of}
use Rattle.job_format.specs.{Faults.parts_questions, Offsets.handles_offset}
use Rattle.job_format.proofs.faults.all_parts_fault.Goals as goal

pub loop-j-init : goal.loop-j-init
loop-j-init c = (ap (λ n. first_of (each (parts_questions c.args.bytes.now) 0 n)) (omega arith), (c.requires.here, c.requires.before))

pub loop-j-preserved : goal.loop-j-preserved
loop-j-preserved c =
    (each_on (parts_questions c.args.bytes.now) c.loop-j.j c.args.jobs c.loop-j-test.true c.in-Ok.ensures.0 ∙ c.loop-j.invariant.0, c.in-Ok.ensures.1)

pub returns-in-Err : goal.returns-in-Err
returns-in-Err c =
    sym c.loop-j.invariant.0 ∙ each_stop (parts_questions c.args.bytes.now) c.loop-j.j c.args.jobs c.in-Err.fault c.loop-j-test.true c.in-Err.ensures

pub returns : goal.returns
returns c =
    let last : c.loop-j.j ≡ c.args.jobs = omega (arith, c.loop-j-test.false, c.loop-j.auto.j-end) in (
      sym c.loop-j.invariant.0 ∙ each_end (parts_questions c.args.bytes.now) c.loop-j.j c.args.jobs c.loop-j-test.false,
      (c.loop-j.invariant.1.0 ∙ ap (handles_offset c.args.bytes.now) last, c.loop-j.invariant.1.1),
    )
