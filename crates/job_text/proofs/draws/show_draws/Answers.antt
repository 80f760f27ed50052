use Rattle.std.proofs.Common.{◌≡◌, ◌+◌, ℕ, suc, subst, arith}
use Rattle.job_text.specs.{Draws.IsDrawsText, Shown.look_of}
use Rattle.job_text.proofs.draws.show_draws.Goals as goal

pub loop-number-preserved : goal.loop-number-preserved
loop-number-preserved c =
    let next : suc c.loop-number.number ≡ c.loop-number.number + 1 = omega arith in
    subst (λ (n : ℕ). IsDrawsText (look_of c.args.view) c.args.bytes.now n c.put_job.new.out.items) next
    (c.loop-number.out.items, c.loop-number.invariant, c.in_ok-put_job.ensures)
