use Rattle.script.proofs.Cuts.{lines_first}
use Rattle.script.proofs.lines.next_line.Goals as goal

pub returns-clause-lines : goal.returns-clause-lines
returns-clause-lines c = rw (c.cut_there.ensures.first, c.cut_there.ensures.rest) (lines_first c.args.text.now c.requires)
