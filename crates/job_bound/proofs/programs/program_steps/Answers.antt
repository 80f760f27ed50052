-- One instruction more.
use Rattle.std.proofs.Common.{◌≡◌, ℕ, suc, ◌+◌, List, refl, ap, arith}
use Rattle.shader_flow.specs.Flow.{word}
use Rattle.promises.specs.Steps.{instruction_steps, steps_before}
use Rattle.job_bound.proofs.programs.program_steps.Goals as goal

pub loop-at-init : goal.loop-at-init
unfolding steps_before
loop-at-init c = record { sum = refl; few = omega arith }

one_more : (code : List ℕ) (at : ℕ) → steps_before code (at + 1) ≡ steps_before code at + instruction_steps (word code at)
unfolding steps_before
one_more code at = let e : at + 1 ≡ suc at = omega arith in ap (steps_before code) e

pub loop-at-preserved : goal.loop-at-preserved
loop-at-preserved c =
    let code = c.args.code.now in
    let at = c.loop-at.at in
    let more = one_more code at in
    let own : c.instruction_steps-steps.result ≡ instruction_steps (word code at) = c.instruction_steps-steps.ensures.value in
    record {
      sum = omega (arith, c.loop-at.invariant.sum, more, own);
      few = omega (arith, c.loop-at.invariant.few, c.instruction_steps-steps.ensures.few);
    }
