use Rattle.std.proofs.{Common.◌+◌, Common.drop, Common.[], Common.◌∷◌, Common.get_or, Common.None, lemmas.List.at_drop_all}
use Rattle.packets.specs.Packet.{slots_text}
use Rattle.packets.proofs.{Slots.slots_step, Underway.goes_on, Underway.ends}
use Rattle.packets.proofs.list.put_present.Goals as goal

pub loop-slot-preserved : goal.loop-slot-preserved
loop-slot-preserved c =
    let slots = c.args.slots.now in
    let i = c.loop-slot.slot-index in
    goes_on c.args.out.now c.args.at (slots_text slots) c.loop-slot.out c.loop-slot.here
    (slots_text (drop i slots)) (slots_text (get_or slots i None ∷ [])) (slots_text (drop (i + 1) slots))
    c.put_slot-here.new.out c.put_slot-here.result c.loop-slot.invariant (slots_step slots i c.loop-slot-test.true)
    c.put_slot-here.ensures.text c.put_slot-here.ensures.end

-- after the last slot
pub returns : goal.returns
returns c =
    let slots = c.args.slots.now in
    let done =
    ends c.args.out.now c.args.at (slots_text slots) c.loop-slot.out c.loop-slot.here (slots_text (drop c.loop-slot.slot-index slots))
    c.loop-slot.invariant (at_drop_all slots_text slots c.loop-slot.slot-index c.loop-slot-test.false) in
    record { text = done.0; end = done.1 }
