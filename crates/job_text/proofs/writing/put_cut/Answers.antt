use Rattle.job_text.specs.Shown.{look_of}
use Rattle.job_text.proofs.Pieces.{line_lines}
use Rattle.job_text.proofs.writing.put_cut.Goals as goal

pub returns-in_ok-put_line-in-Line : goal.returns-in_ok-put_line-in-Line
returns-in_ok-put_line-in-Line c =
    line_lines (look_of c.args.view) c.args.out.now.items c.put_line.new.out.items c.args.span.bytes.now c.args.span.at _ c.in_ok-put_line-in-Line.ensures
