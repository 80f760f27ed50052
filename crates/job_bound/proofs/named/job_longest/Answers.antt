-- the greatest so far, and one more
use Rattle.std.proofs.{Common.◌≡◌, Common.length, Common.max, Common.sym, Common.ap, Common.arith, Common.◌∙◌, lemmas.Grind.common_steps}
use Rattle.job_format.specs.Parts.{parts_view}
use Rattle.job_check.specs.Jobs.{job_of}
use Rattle.promises.specs.Bounded.{steps, shader_named, greatest_below, job_longest}
use Rattle.job_bound.specs.Bound.{most_program}
use Rattle.job_bound.proofs.Naming.{greatest_none, greatest_on}
use Rattle.job_bound.proofs.named.job_longest.Goals as goal

pub loop-i-init : goal.loop-i-init
loop-i-init c = record { most = sym (greatest_none (λ i. steps (shader_named (parts_view c.args.file.now) c.args.number i))); few = omega arith }

pub loop-i-preserved : goal.loop-i-preserved
loop-i-preserved c =
    let f = parts_view c.args.file.now in
    let l = c.loop-i in
    let greater : c.max-longest.result ≡ max l.longest c.program_named.result.steps = grind (arith, common_steps, c.max-longest.ensures) in
    let on = greatest_on l.i l.longest c.program_named.result.steps most_program (λ i. steps (shader_named f c.args.number i)) l.invariant.most c.program_named.ensures.steps_is l.invariant.few c.program_named.ensures.few in
    record { most = greater ∙ on.0; few = omega (arith, greater, on.1) }

pub returns-clause-value : goal.returns-clause-value
unfolding job_longest
returns-clause-value c =
    let f = parts_view c.args.file.now in
    let l = c.loop-i in
    let end : l.i ≡ length (job_of f c.args.number).handles = omega (arith, ap length c.as_slice-i-end.ensures, ap (λ job. length job.handles) c.job_at.ensures.value, c.loop-i-test.false, l.auto.i-end) in
    l.invariant.most ∙ ap (λ n. greatest_below n (λ i. steps (shader_named f c.args.number i))) end
