use Rattle.std.proofs.Common.{arith}
use Rattle.overflow_slots.proofs.pool.Pool.give.Goals as goal

pub bounds-self-inside-slot : goal.bounds-self-inside-slot
bounds-self-inside-slot c = omega (arith, c.in-Some.ensures.inside, c.self.invariant)

pub overflow_cast-self-in-Some : goal.overflow_cast-self-in-Some
overflow_cast-self-in-Some c = omega (arith, c.in-Some.ensures.inside, c.self.invariant)

pub overflow_add-self-in-Some : goal.overflow_add-self-in-Some
overflow_add-self-in-Some c = omega (arith, c.in-Some.ensures.inside, c.self.invariant)
