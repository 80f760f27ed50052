-- One packet more is cut off the front of the bytes that are left.
use Rattle.std.proofs.Common.{◌≡◌, List, length, ℕ, sym, ap, subst, arith, ◌∙◌}
use Rattle.bin_list.specs.Packets.{packets}
use Rattle.bin_list.proofs.Walk.{some_left, none_left}
use Rattle.ends_law.specs.Left.{IsWhole, AllWhole}
use Rattle.promises.specs.Steps.{packet_steps, bin_steps}
use Rattle.job_bound.proofs.Packets.{whole_more, steps_more, steps_none, fewer_left}
use Rattle.job_bound.proofs.binner.bin_steps.Goals as goal

pub packet_steps-steps-requires-clause-whole : goal.packet_steps-steps-requires-clause-whole
packet_steps-steps-requires-clause-whole c =
    let some = some_left c.loop-rest.rest.now (sym c.is_empty.ensures ∙ c.loop-rest-test.true) in
    subst IsWhole (sym c.split_front.ensures.packet) (whole_more c.loop-rest.rest.now some c.loop-rest.invariant.whole).0

pub loop-rest-smaller : goal.loop-rest-smaller
loop-rest-smaller c =
    let some = some_left c.loop-rest.rest.now (sym c.is_empty.ensures ∙ c.loop-rest-test.true) in
    omega (arith, fewer_left c.loop-rest.rest.now some, ap length c.split_front.ensures.rest)

pub loop-rest-preserved : goal.loop-rest-preserved
loop-rest-preserved c =
    let w : ℕ = c.args.longest in
    let rest : List ℕ = c.loop-rest.rest.now in
    let some = some_left rest (sym c.is_empty.ensures ∙ c.loop-rest-test.true) in
    let more = steps_more w rest some in
    let fewer = fewer_left rest some in
    let here = c.packet_steps-steps.ensures.value ∙ ap (packet_steps w) c.split_front.ensures.packet in
    let later : bin_steps w (packets c.split_front.result.1.now) ≡ bin_steps w (packets _) = ap (λ bytes. bin_steps w (packets bytes)) c.split_front.ensures.rest in
    record {
      sum = omega (arith, c.loop-rest.invariant.sum, more, here, later);
      few = omega (arith, c.loop-rest.invariant.few, c.packet_steps-steps.ensures.few, fewer, ap length c.split_front.ensures.rest);
      whole = subst (λ bytes. AllWhole (packets bytes)) (sym c.split_front.ensures.rest) (whole_more rest some c.loop-rest.invariant.whole).1;
    }

pub returns-clause-value : goal.returns-clause-value
returns-clause-value c =
    let none = steps_none c.args.longest c.loop-rest.rest.now (none_left c.loop-rest.rest.now (sym c.is_empty.ensures ∙ c.loop-rest-test.false)) in
    omega (arith, c.loop-rest.invariant.sum, none)
