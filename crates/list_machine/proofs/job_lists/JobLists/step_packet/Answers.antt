-- What the packet does, behind the read of the packet.
use Rattle.std.proofs.Common.{◌≡◌, ◌∙◌, ap, slice_index, true, false}
use Rattle.packets.specs.Length.{bin_taken}
use Rattle.list_machine.proofs.Binning.{packet_whole, read_shows}
use Rattle.list_machine.proofs.job_lists.JobLists.step_packet.Goals as goal

pub bin_packet-requires-clause-length : goal.bin_packet-requires-clause-length
bin_packet-requires-clause-length c =
    let len : c.bin_taken-len.result ≡ bin_taken (slice_index c.args.memory.now c.binner-place.result.place) = c.bin_taken-len.ensures.value ∙ ap bin_taken c.byte_at.ensures in
    packet_whole c.args.memory.now c.deref.result.now c.binner-place.result.place c.bin_taken-len.result c.bin_taken-len.ensures.some (c.deref.ensures.0 ∙ c.read_listed-packet.ensures.value) len

pub returns-then-bin_packet-clause-shows : goal.returns-then-bin_packet-clause-shows
returns-then-bin_packet-clause-shows c =
    let len : c.bin_taken-len.result ≡ bin_taken (slice_index c.args.memory.now c.binner-place.result.place) = c.bin_taken-len.ensures.value ∙ ap bin_taken c.byte_at.ensures in
    read_shows c.args.who c.args.self.now c.pass.new.self c.bin_packet.new.self c.args.memory.now c.deref.result.now c.binner-place.result.place c.bin_taken-len.result c.args.accesses.now.items _ _ _ c.bin_packet.result true
    (ap (λ b. b.place) c.binner-place.ensures.value) len (c.deref.ensures.0 ∙ c.read_listed-packet.ensures.value) c.read_listed-packet.ensures.items c.pass.ensures.value c.if-bin_packet.true c.bin_packet.ensures.shows

pub returns-clause-shows : goal.returns-clause-shows
returns-clause-shows c =
    let len : c.bin_taken-len.result ≡ bin_taken (slice_index c.args.memory.now c.binner-place.result.place) = c.bin_taken-len.ensures.value ∙ ap bin_taken c.byte_at.ensures in
    read_shows c.args.who c.args.self.now c.pass.new.self c.bin_packet.new.self c.args.memory.now c.deref.result.now c.binner-place.result.place c.bin_taken-len.result c.args.accesses.now.items _ _ _ c.bin_packet.result false
    (ap (λ b. b.place) c.binner-place.ensures.value) len (c.deref.ensures.0 ∙ c.read_listed-packet.ensures.value) c.read_listed-packet.ensures.items c.pass.ensures.value c.if-bin_packet.false c.bin_packet.ensures.shows
