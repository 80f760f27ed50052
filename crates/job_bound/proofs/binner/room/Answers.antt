-- One packet more is cut off the front of the bytes that are left.
use Rattle.std.proofs.Common.{◌≡◌, List, length, ℕ, sym, ap, subst, arith, ◌∙◌}
use Rattle.std.proofs.lemmas.Grind.{common_steps}
use Rattle.std.specs.Prelude.{max}
use Rattle.bin_list.specs.Packets.{packets}
use Rattle.bin_list.proofs.Walk.{some_left, none_left}
use Rattle.ends_law.specs.Left.{IsWhole, AllWhole}
use Rattle.promises.specs.Steps.{room_in, room_of}
use Rattle.job_bound.proofs.Packets.{whole_more, room_more, room_none, fewer_left}
use Rattle.job_bound.proofs.binner.room.Goals as goal

pub packet_room-requires : goal.packet_room-requires
packet_room-requires c =
    let some = some_left c.loop-rest.rest.now (sym c.is_empty.ensures ∙ c.loop-rest-test.true) in
    subst IsWhole (sym c.split_front.ensures.packet) (whole_more c.loop-rest.rest.now some c.loop-rest.invariant.whole).0

pub loop-rest-smaller : goal.loop-rest-smaller
loop-rest-smaller c =
    let some = some_left c.loop-rest.rest.now (sym c.is_empty.ensures ∙ c.loop-rest-test.true) in
    omega (arith, fewer_left c.loop-rest.rest.now some, ap length c.split_front.ensures.rest)

pub loop-rest-preserved : goal.loop-rest-preserved
loop-rest-preserved c =
    let rest : List ℕ = c.loop-rest.rest.now in
    let some = some_left rest (sym c.is_empty.ensures ∙ c.loop-rest-test.true) in
    let more = room_more rest some in
    let here = c.packet_room.ensures.value ∙ ap room_in c.split_front.ensures.packet in
    let later : room_of (packets c.split_front.result.1.now) ≡ room_of (packets _) = ap (λ bytes. room_of (packets bytes)) c.split_front.ensures.rest in
    let greater : c.max-most.result ≡ max c.loop-rest.most c.packet_room.result = grind (arith, common_steps, c.max-most.ensures) in
    record {
      most = omega (arith, c.loop-rest.invariant.most, greater, more, here, later);
      few = omega (arith, c.loop-rest.invariant.few, greater, c.packet_room.ensures.few);
      whole = subst (λ bytes. AllWhole (packets bytes)) (sym c.split_front.ensures.rest) (whole_more rest some c.loop-rest.invariant.whole).1;
    }

pub returns-clause-value : goal.returns-clause-value
returns-clause-value c =
    let none = room_none c.loop-rest.rest.now (none_left c.loop-rest.rest.now (sym c.is_empty.ensures ∙ c.loop-rest-test.false)) in
    omega (arith, c.loop-rest.invariant.most, none)
