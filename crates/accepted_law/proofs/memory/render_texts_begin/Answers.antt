use Rattle.accepted_law.proofs.Joining.{render_texts_begin_law}
use Rattle.accepted_law.proofs.memory.render_texts_begin.Goals as goal

pub returns : goal.returns
returns c = render_texts_begin_law
