-- A handle without such a place leaves the answer to those after it; the first with one is the answer.
use Rattle.std.proofs.Common.{◌≡◌, length, Some, None, sym, ap, arith, ◌∙◌}
use Rattle.field_words.specs.Questions.{first_of}
use Rattle.field_words.proofs.Questions.{each_on, each_stop, each_end}
use Rattle.job_format.specs.Parts.{parts_view}
use Rattle.job_check.specs.Jobs.{job_of}
use Rattle.job_bound.specs.Back.{handle_places, job_places}
use Rattle.job_bound.proofs.named.job_place.Goals as goal

pub returns-in-Some : goal.returns-in-Some
unfolding job_places
returns-in-Some c =
    let f = parts_view c.args.file.now in
    let j = c.args.number in
    let n = length (job_of f j).handles in
    let count : length c.as_slice-i-end.result.now ≡ n = ap length c.as_slice-i-end.ensures ∙ ap (λ job. length job.handles) c.job_at.ensures.value in
    let here : first_of (handle_places c.args.sought f j c.loop-i.i) ≡ Some c.in-Some.offset = sym c.place_named.ensures ∙ c.in-Some.is in
    sym (each_stop (handle_places c.args.sought f j) c.loop-i.i n c.in-Some.offset (omega (arith, count, c.loop-i-test.true)) here) ∙ c.loop-i.invariant

pub loop-i-preserved : goal.loop-i-preserved
loop-i-preserved c =
    let f = parts_view c.args.file.now in
    let j = c.args.number in
    let n = length (job_of f j).handles in
    let count : length c.as_slice-i-end.result.now ≡ n = ap length c.as_slice-i-end.ensures ∙ ap (λ job. length job.handles) c.job_at.ensures.value in
    let here : first_of (handle_places c.args.sought f j c.loop-i.i) ≡ None = sym c.place_named.ensures ∙ c.in_default.is in
    each_on (handle_places c.args.sought f j) c.loop-i.i n (omega (arith, count, c.loop-i-test.true)) here ∙ c.loop-i.invariant

pub returns : goal.returns
unfolding job_places
returns c =
    let f = parts_view c.args.file.now in
    let j = c.args.number in
    let n = length (job_of f j).handles in
    let count : length c.as_slice-i-end.result.now ≡ n = ap length c.as_slice-i-end.ensures ∙ ap (λ job. length job.handles) c.job_at.ensures.value in
    sym (each_end (handle_places c.args.sought f j) c.loop-i.i n (omega (arith, count, c.loop-i-test.false))) ∙ c.loop-i.invariant
