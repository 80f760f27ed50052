use Rattle.std.proofs.Common.{length, ap, arith}
use Rattle.shader_flow.specs.Bounded.{indexes}
use Rattle.uniform_stream.proofs.walk.blank.Goals as goal

pub returns : goal.returns
unfolding indexes
returns c = λ code. record {
  counts_size = ap length c.in_ok-with_capacity.ensures.items;
  counts_are = λ i below. let no : ⊥ = omega (arith, below) in absurd no;
  pending0_size = ap length c.in_ok-with_capacity-2.ensures.items;
  pending0_are = λ i below. let no : ⊥ = omega (arith, below) in absurd no;
  pending1_size = ap length c.in_ok-with_capacity-3.ensures.items;
  pending1_are = λ i below. let no : ⊥ = omega (arith, below) in absurd no;
  address_words_are = c.new.ensures.items;
  known_size = ap length c.in_ok-with_capacity-4.ensures.items;
  known_are = λ i below. let no : ⊥ = omega (arith, below) in absurd no;
}
