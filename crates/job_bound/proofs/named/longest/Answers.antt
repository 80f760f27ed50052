-- the greatest so far, and one more
use Rattle.std.proofs.{Common.◌≡◌, Common.length, Common.max, Common.sym, Common.ap, Common.arith, Common.◌∙◌, lemmas.List.length-map}
use Rattle.std.proofs.lemmas.Grind.{common_steps}
use Rattle.job_format.specs.Parts.{parts_view, job_parts_view}
use Rattle.promises.specs.Bounded.{greatest_below, job_longest, longest_of}
use Rattle.job_bound.specs.Bound.{most_program}
use Rattle.job_bound.proofs.Naming.{greatest_none, greatest_on}
use Rattle.job_bound.proofs.named.longest.Goals as goal

pub loop-number-init : goal.loop-number-init
loop-number-init c = record { most = sym (greatest_none (λ j. job_longest (parts_view c.args.file.now) j)); few = omega arith }

pub loop-number-preserved : goal.loop-number-preserved
loop-number-preserved c =
    let f = parts_view c.args.file.now in
    let l = c.loop-number in
    let greater : c.max-longest.result ≡ max l.longest c.job_longest.result = grind (arith, common_steps, c.max-longest.ensures) in
    let on = greatest_on l.number l.longest c.job_longest.result most_program (λ j. job_longest f j) l.invariant.most c.job_longest.ensures.value l.invariant.few c.job_longest.ensures.few in
    record { most = greater ∙ on.0; few = omega (arith, greater, on.1) }

pub returns-clause-value : goal.returns-clause-value
unfolding longest_of
returns-clause-value c =
    let f = parts_view c.args.file.now in
    let l = c.loop-number in
    let end : l.number ≡ length f.jobs = omega (arith, c.len-number-end.ensures, length-map c.args.file.now.jobs.items job_parts_view, c.loop-number-test.false, l.auto.number-end) in
    l.invariant.most ∙ ap (λ n. greatest_below n (λ j. job_longest f j)) end
