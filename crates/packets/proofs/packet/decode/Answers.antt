use Rattle.std.proofs.Common.{◌∙◌, ap}
use Rattle.packets.specs.Packet.{packet_decoded}
use Rattle.packets.proofs.Laws.{decoded_text}
use Rattle.packets.proofs.packet.decode.Goals as goal

pub returns-clause-again : goal.returns-clause-again
returns-clause-again c = λ packet fits same. c.packet_of.ensures ∙ ap packet_decoded same ∙ decoded_text packet fits
