-- What the packet does, behind the read of the packet.
use Rattle.std.proofs.Common.{◌∙◌, ap}
use Rattle.packets.specs.Length.{render_taken}
use Rattle.list_machine.proofs.Steps.{packet_long, packet_read}
use Rattle.list_machine.proofs.job_lists.JobLists.take_packet.Goals as goal

pub act_on-requires-clause-length : goal.act_on-requires-clause-length
act_on-requires-clause-length g c =
    packet_long c.args.memory.now c.deref.result.now c.renderer-place.result.place c.render_taken-len.result
    (c.render_taken-len.ensures.value ∙ ap render_taken c.byte_at.ensures) c.render_taken-len.ensures.some (c.deref.ensures.0 ∙ c.read_listed-bytes.ensures.value)

pub returns-then-act_on-clause-shows : goal.returns-then-act_on-clause-shows
returns-then-act_on-clause-shows g c =
    packet_read c.args.turn.now.who c.args.self.now c.go_past.new.self c.act_on.new.self (g.C.Choices.listed c.args.turn.now.words.now) c.args.memory.now c.deref.result.now c.renderer-place.result.place c.render_taken-len.result
    c.args.accesses.now.items _ _ _ c.act_on.result _
    (ap (λ r. r.place) c.renderer-place.ensures.value) (c.render_taken-len.ensures.value ∙ ap render_taken c.byte_at.ensures) (c.deref.ensures.0 ∙ c.read_listed-bytes.ensures.value)
    c.read_listed-bytes.ensures.items c.go_past.ensures c.if-act_on.true c.act_on.ensures.shows

pub returns-clause-shows : goal.returns-clause-shows
returns-clause-shows g c =
    packet_read c.args.turn.now.who c.args.self.now c.go_past.new.self c.act_on.new.self (g.C.Choices.listed c.args.turn.now.words.now) c.args.memory.now c.deref.result.now c.renderer-place.result.place c.render_taken-len.result
    c.args.accesses.now.items _ _ _ c.act_on.result _
    (ap (λ r. r.place) c.renderer-place.ensures.value) (c.render_taken-len.ensures.value ∙ ap render_taken c.byte_at.ensures) (c.deref.ensures.0 ∙ c.read_listed-bytes.ensures.value)
    c.read_listed-bytes.ensures.items c.go_past.ensures c.if-act_on.false c.act_on.ensures.shows
