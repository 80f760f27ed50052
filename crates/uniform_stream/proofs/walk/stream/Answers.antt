use Rattle.std.proofs.Common.{sym, arith}
use Rattle.shader_flow.proofs.Counts.{count_zero, pending_zero}
use Rattle.uniform_stream.proofs.walk.stream.Goals as goal

pub loop-at-init : goal.loop-at-init
loop-at-init c = record {
  running = record {
    count_is = sym (count_zero c.args.code.now);
    count_bound = omega arith;
    pending0_is = sym (pending_zero c.args.code.now 0);
    pending0_bound = omega arith;
    pending1_is = sym (pending_zero c.args.code.now 1);
    pending1_bound = omega arith;
    known_is = λ some. let no : ⊥ = omega (arith, some) in absurd no;
  };
  filled = c.in_ok-made.ensures c.args.code.now;
}
