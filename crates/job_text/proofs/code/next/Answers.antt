use Rattle.std.proofs.Common.{◌≡◌, ◌+◌, suc, subst, arith}
use Rattle.job_text.specs.{Taken.IsTaking, declared.code.Taking.Taking}
use Rattle.job_text.proofs.Taking.{taking_more}
use Rattle.job_text.proofs.code.next.Goals as goal

pub returns : goal.returns
returns c = λ code i few below here taking.
    let after : Taking = record { count = c.count_next.result; keeps0 = c.keeps_next.result; keeps1 = c.keeps_next-2.result; behind = c.behind_next.result } in
    let e : suc i ≡ i + 1 = omega arith in
    subst (λ n. IsTaking code n after) e
    (taking_more code i c.args.word c.args.now after c.count_next.ensures c.behind_next.ensures c.keeps_next.ensures c.keeps_next-2.ensures few below here taking)
