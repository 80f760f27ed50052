-- An entry without a fault leaves the decision to those after it; the first fault ends it.
use Rattle.std.proofs.Common.{◌≤◌, ◌++◌, [], ◌∷◌, length, map, sym, ap, subst, arith, ◌∙◌}
use Rattle.std.proofs.lemmas.List.{take_all, length-map}
use Rattle.field_words.proofs.Questions.{each_on, each_end}
use Rattle.vc4check_c.specs.Submission.{entry_in, buffer_questions}
use Rattle.vc4check_c.proofs.Submissions.{refused_at, taken_more}
use Rattle.vc4check_c.proofs.submission.entries.Goals as goal

pub returns-in-Err : goal.returns-in-Err
returns-in-Err c = refused_at (buffer_questions c.args.buffers.now) c.loop-b.b (length c.args.buffers.now) c.in-Err.stop (omega (arith, c.loop-b-test.true)) c.loop-b.invariant.0 c.in-Err.ensures

pub loop-b-preserved : goal.loop-b-preserved
loop-b-preserved c =
    let buffers = c.args.buffers.now in
    let b = c.loop-b.b in (
      each_on (buffer_questions buffers) b (length buffers) (omega (arith, c.loop-b-test.true)) c.in-Ok.ensures.0 ∙ c.loop-b.invariant.0,
      c.in_ok-push-in-Ok.ensures.items
          ∙ ap (λ l. l ++ (c.in-Ok.entry ∷ [])) c.loop-b.invariant.1
          ∙ sym (taken_more (map entry_in buffers) b c.in-Ok.entry c.in-Ok.ensures.1),
    )

pub returns : goal.returns
returns c =
    let buffers = c.args.buffers.now in
    let b = c.loop-b.b in (
      sym c.loop-b.invariant.0 ∙ each_end (buffer_questions buffers) b (length buffers) (omega (arith, c.loop-b-test.false)),
      c.loop-b.invariant.1 ∙ take_all b (map entry_in buffers) (subst (λ n. n ≤ b) (sym (length-map buffers entry_in)) (omega (arith, c.loop-b-test.false))),
    )
