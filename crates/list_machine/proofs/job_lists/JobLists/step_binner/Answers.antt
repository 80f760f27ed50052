-- A packet, with no primitive in work.
use Rattle.std.proofs.Common.{◌∙◌, ap, sym}
use Rattle.machine_plan.specs.Turn.{if_tame}
use Rattle.list_machine.specs.Lists.{quiet}
use Rattle.list_machine.proofs.Binning.{packet_shows}
use Rattle.list_machine.proofs.job_lists.JobLists.step_binner.Goals as goal

pub returns-then-step_packet-clause-shows : goal.returns-then-step_packet-clause-shows
returns-then-step_packet-clause-shows g c =
    packet_shows c.args.turn.now.who c.args.self.now c.step_packet.new.self c.args.turn.now.free (g.C.Choices.listed c.args.turn.now.words.now) c.args.memory.now c.args.accesses.now.items _ _ c.step_packet.result _
    (sym (ap (λ b. b.work) c.binner.ensures.value) ∙ c.in-None.is) c.step_packet.ensures.shows (sym (ap (λ t. if_tame t (quiet c.step_packet.new.self)) c.if-step_packet.true))

pub returns-else-step_packet-clause-shows : goal.returns-else-step_packet-clause-shows
returns-else-step_packet-clause-shows g c =
    packet_shows c.args.turn.now.who c.args.self.now c.step_packet.new.self c.args.turn.now.free (g.C.Choices.listed c.args.turn.now.words.now) c.args.memory.now c.args.accesses.now.items _ _ c.step_packet.result _
    (sym (ap (λ b. b.work) c.binner.ensures.value) ∙ c.in-None.is) c.step_packet.ensures.shows (sym (ap (λ t. if_tame t (quiet c.step_packet.new.self)) c.if-step_packet.false))
