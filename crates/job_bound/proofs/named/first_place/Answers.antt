-- A job without such a place leaves the answer to those after it; the first with one is the answer.
use Rattle.std.proofs.{Common.◌≡◌, Common.length, Common.Some, Common.None, Common.sym, Common.arith, Common.◌∙◌, lemmas.List.length-map}
use Rattle.field_words.specs.Questions.{first_of}
use Rattle.field_words.proofs.Questions.{each_on, each_stop, each_end}
use Rattle.job_format.specs.Parts.{parts_view, job_parts_view}
use Rattle.job_bound.specs.Back.{job_places, file_places}
use Rattle.job_bound.proofs.named.first_place.Goals as goal

pub returns-in-Some : goal.returns-in-Some
unfolding file_places
returns-in-Some c =
    let f = parts_view c.args.file.now in
    let count : c.len-number-end.result ≡ length f.jobs = omega (arith, c.len-number-end.ensures, length-map c.args.file.now.jobs.items job_parts_view) in
    let here : first_of (job_places c.args.sought f c.loop-number.number) ≡ Some c.in-Some.offset = sym c.job_place.ensures ∙ c.in-Some.is in
    sym (each_stop (job_places c.args.sought f) c.loop-number.number (length f.jobs) c.in-Some.offset (omega (arith, count, c.loop-number-test.true)) here) ∙ c.loop-number.invariant

pub loop-number-preserved : goal.loop-number-preserved
loop-number-preserved c =
    let f = parts_view c.args.file.now in
    let count : c.len-number-end.result ≡ length f.jobs = omega (arith, c.len-number-end.ensures, length-map c.args.file.now.jobs.items job_parts_view) in
    let here : first_of (job_places c.args.sought f c.loop-number.number) ≡ None = sym c.job_place.ensures ∙ c.in_default.is in
    each_on (job_places c.args.sought f) c.loop-number.number (length f.jobs) (omega (arith, count, c.loop-number-test.true)) here ∙ c.loop-number.invariant

pub returns : goal.returns
unfolding file_places
returns c =
    let f = parts_view c.args.file.now in
    let count : c.len-number-end.result ≡ length f.jobs = omega (arith, c.len-number-end.ensures, length-map c.args.file.now.jobs.items job_parts_view) in
    sym (each_end (job_places c.args.sought f) c.loop-number.number (length f.jobs) (omega (arith, count, c.loop-number-test.false))) ∙ c.loop-number.invariant
