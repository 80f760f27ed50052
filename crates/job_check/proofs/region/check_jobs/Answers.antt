use Rattle.std.proofs.{Common.◌≡◌, Common.◌<◌, Common.length, Common.ap, Common.arith, lemmas.List.length-map, lemmas.List.FromFn.length-map-range_with_len}
use Rattle.job_format.specs.Parts.{parts_view, job_parts_view}
use Rattle.field_words.specs.Questions.{each}
use Rattle.job_check.specs.{Faults.job_stages, Jobs.layout_of}
use Rattle.job_check.proofs.{Layouts.lists_inside, Order.exits, Progress.none_laid, Progress.none, Progress.next_laid, Progress.next, Progress.refused, Progress.all_laid, Progress.all}
use Rattle.job_check.proofs.region.check_jobs.Goals as goal

pub loop-number-init : goal.loop-number-init
loop-number-init c = rw c.requires.no_bytes (rw c.requires.no_layouts (rw c.requires.no_lengths (none_laid (parts_view c.args.file.now), λ report. none (parts_view c.args.file.now))))

pub check_one-requires-clause-size : goal.check_one-requires-clause-size
check_one-requires-clause-size c = c.loop-number.invariant.0.size

pub returns-in_err-lists-clause-answers : goal.returns-in_err-lists-clause-answers
returns-in_err-lists-clause-answers c = λ report.
    let f = parts_view c.args.file.now in
    let l = c.loop-number in
    let below : l.number < length f.jobs = omega (arith, c.loop-number-test.true, c.len-number-end.ensures, length-map c.args.file.now.jobs.items job_parts_view) in
    exits (each (job_stages f) 0 (length f.jobs)) _
    c.from_residual.result c.in_err-lists.field-0.0 c.from_residual.ensures.1
    (refused f l.number l.region.bytes.items l.region.lengths.items c.in_err-lists.field-0.0 (l.invariant.1 report) below (c.in_err-lists.ensures.answers report))

pub next_place-place-requires : goal.next_place-place-requires
next_place-place-requires c = omega (arith, c.in_ok-lists.ensures.fits, lists_inside (parts_view c.args.file.now) c.requires.sound, c.requires.sound.limit)

-- There are fewer than eight so far.
pub push-requires : goal.push-requires
push-requires c =
    let f = parts_view c.args.file.now in
    let l = c.loop-number in
    omega (arith, ap length l.invariant.0.layouts_are, length-map-range_with_len (layout_of f) 0 l.number, c.loop-number-test.true, c.len-number-end.ensures, length-map c.args.file.now.jobs.items job_parts_view, c.requires.well_formed.few_jobs)

pub push-requires-in-loop-number : goal.push-requires-in-loop-number
push-requires-in-loop-number c =
    let f = parts_view c.args.file.now in
    let l = c.loop-number in
    omega (arith, l.invariant.0.count, c.loop-number-test.true, c.len-number-end.ensures, length-map c.args.file.now.jobs.items job_parts_view, c.requires.well_formed.few_jobs)

pub loop-number-preserved : goal.loop-number-preserved
loop-number-preserved c =
    let f = parts_view c.args.file.now in
    let l = c.loop-number in
    let lists = c.in_ok-lists.lists in
    let below : l.number < length f.jobs = omega (arith, c.loop-number-test.true, c.len-number-end.ensures, length-map c.args.file.now.jobs.items job_parts_view) in
    rw c.push.ensures.items (rw c.push-in-loop-number.ensures.items (
      next_laid f l.number l.region.bytes.items c.check_one.new.region.items l.region.layouts.items l.region.lengths.items l.place c.next_place-place.result lists.layout lists.lengths
          l.invariant.0 c.requires.sound c.in_ok-lists.ensures.layout c.in_ok-lists.ensures.size c.in_ok-lists.ensures.fits c.next_place-place.ensures,
      λ report.
          let answers = c.in_ok-lists.ensures.answers report in
          next f l.number l.region.bytes.items c.check_one.new.region.items l.region.lengths.items lists.lengths (l.invariant.1 report) l.invariant.0.size below
          answers.0 answers.1.lengths_are (c.in_ok-lists.ensures.written report) (c.in_ok-lists.ensures.fit report),
    ))

pub returns-clause-laid : goal.returns-clause-laid
returns-clause-laid c =
    let f = parts_view c.args.file.now in
    let l = c.loop-number in
    let end : l.number ≡ length f.jobs = omega (arith, c.loop-number-test.false, l.auto.number-end, c.len-number-end.ensures, length-map c.args.file.now.jobs.items job_parts_view) in
    all_laid f l.number l.place l.region l.invariant.0 end

pub returns-clause-answers : goal.returns-clause-answers
returns-clause-answers c = λ report.
    let f = parts_view c.args.file.now in
    let l = c.loop-number in
    let end : l.number ≡ length f.jobs = omega (arith, c.loop-number-test.false, l.auto.number-end, c.len-number-end.ensures, length-map c.args.file.now.jobs.items job_parts_view) in
    all f l.number l.place l.region l.invariant.0 (l.invariant.1 report) end
