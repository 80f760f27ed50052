use Rattle.std.proofs.Common.{◌++◌, codes, ap, subst, ◌∙◌}
use Rattle.job_text.specs.{Draws.stretch_of, Draws.front, Draws.behind, Draws.AreLinesOf, Shown.look_of}
use Rattle.job_text.proofs.Pieces.{line_lines, whole_lines}
use Rattle.job_text.proofs.draws.Walk.put_packet.Goals as goal
use Rattle.qpu_text.specs.Pieces.{if_so}

pub returns : goal.returns
returns c =
    let look = look_of c.args.view in
    let old = c.args.out.now.items in
    let first = c.put_line.new.out.items in
    let second = c.put_lines.new.out.items in
    let third = c.put_lines-2.new.out.items in
    let packet = c.args.packet.bytes.now in
    let at = c.args.packet.at in
    let records = stretch_of c.args.self.now.records in
    let uniforms = stretch_of c.args.self.now.uniforms in (
      c.saturating_sub-size.result,
      (
        first,
        second,
        third,
        whole_lines look old first packet at (line_lines look old first packet at _ c.in_ok-put_line.ensures),
        subst (λ s. AreLinesOf look s first second) (c.split.ensures.front ∙ ap (λ n. front n records) c.record_taken.ensures) c.in_ok-put_lines.ensures,
        subst (λ s. AreLinesOf look s second third) (c.split-2.ensures.front ∙ ap (λ n. front n uniforms) c.by_state.ensures) c.in_ok-put_lines-2.ensures,
        c.in_ok-put_if.ensures ∙ ap (λ b. third ++ if_so b (codes "\n")) c.draws.ensures,
      ),
      c.split.ensures.rest ∙ ap (λ n. behind n records) c.record_taken.ensures,
      c.split-2.ensures.rest ∙ ap (λ n. behind n uniforms) c.by_state.ensures,
    )
