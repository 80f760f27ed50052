use Rattle.std.proofs.Common.{take, ap, ◌++◌, ◌∙◌, arith}
use Rattle.std.proofs.lemmas.List.{take-append-drop}
use Rattle.job_text.specs.Shown.{look_of}
use Rattle.job_text.proofs.Pieces.{line_lines, lines_step, whole_lines}
use Rattle.job_text.proofs.writing.put_lines.Goals as goal

pub loop-cut-preserved : goal.loop-cut-preserved
loop-cut-preserved c =
    let front = c.split_at.result.0.now in
    let rest = c.loop-cut.rest.now in
    record {
      at = omega (arith, c.loop-cut.invariant.at, c.split_at.ensures.front_len, c.split_at.ensures.back_len);
      lines =
          lines_step (look_of c.args.view) c.args.out.now.items c.loop-cut.out.items c.put_cut.new.out.items c.args.span.bytes.now rest front c.split_at.result.1.now c.args.span.at c.loop-cut.at
          (ap (λ l. l ++ c.split_at.result.1.now) c.split_at.ensures.front ∙ (ap (λ l. take c.min.result rest ++ l) c.split_at.ensures.back ∙ take-append-drop c.min.result rest))
          c.in_ok-put_cut.ensures c.loop-cut.invariant.lines;
    }

pub returns : goal.returns
returns c =
    whole_lines (look_of c.args.view) c.args.out.now.items c.put_line.new.out.items c.args.span.bytes.now c.args.span.at
    (c.loop-cut.invariant.lines c.put_line.new.out.items (line_lines (look_of c.args.view) c.loop-cut.out.items c.put_line.new.out.items c.loop-cut.rest.now c.loop-cut.at _ c.in_ok-put_line.ensures))
