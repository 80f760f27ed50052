use Rattle.std.proofs.Common.{◌+◌, ◌&&◌, nat_le, sym, arith, ◌∙◌}
use Rattle.qpu_isa.specs.Terms.{is_switch}
use Rattle.shader_flow.specs.Flow.{word}
use Rattle.shader_flow.proofs.Bounded.{some_below_here, some_below_none}
use Rattle.clamp_facts.specs.Facts.{switches_between}
use Rattle.clamp_facts.proofs.search.has_switch.Goals as goal

pub returns-then-acts_between : goal.returns-then-acts_between
unfolding switches_between
returns-then-acts_between c =
    sym (some_below_here c.args.i c.loop-s.s (λ s. is_switch (word c.args.code.now s) && (nat_le c.args.j (s + 2) && nat_le (s + 3) c.args.i))
    c.loop-s-test.true (sym c.acts_between.ensures ∙ c.if-acts_between.true))

pub returns : goal.returns
unfolding switches_between
returns c =
    sym (some_below_none c.args.i (λ s. is_switch (word c.args.code.now s) && (nat_le c.args.j (s + 2) && nat_le (s + 3) c.args.i))
    (λ k below. c.loop-s.invariant k (omega (arith, below, c.loop-s-test.false))))
